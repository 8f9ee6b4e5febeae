use Rattle.std.proofs.Common.{rules}
use Rattle.proof_text.proofs.claims.read_claim.Goals as goal

pub returns-then-begins_with : goal.returns-then-begins_with
returns-then-begins_with c = (c.in_ok-number_line.ensures.0.1, c.in_ok-number_line.ensures.1)

pub returns-then-begins_with-2 : goal.returns-then-begins_with-2
returns-then-begins_with-2 c = (c.in_ok-number_line-2.ensures.0.1, c.in_ok-number_line-2.ensures.1)

pub returns-then-begins_with-3 : goal.returns-then-begins_with-3
returns-then-begins_with-3 c = (c.in_ok-number_line-3.ensures.0.1, c.in_ok-number_line-3.ensures.1)

pub returns : goal.returns
returns c = (search rules, c.in_ok-take.ensures.taken)
