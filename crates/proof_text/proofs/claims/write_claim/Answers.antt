use Rattle.proof_text.proofs.claims.write_claim.Goals as goal

pub returns-in-Exactly : goal.returns-in-Exactly
returns-in-Exactly c = rw c.in-Exactly.is c.write.ensures.bytes

pub returns-in-AtLeast : goal.returns-in-AtLeast
returns-in-AtLeast c = rw c.in-AtLeast.is c.write-in-AtLeast.ensures.bytes

pub returns-in-AtMost : goal.returns-in-AtMost
returns-in-AtMost c = rw c.in-AtMost.is c.write-in-AtMost.ensures.bytes
