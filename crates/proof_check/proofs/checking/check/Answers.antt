use Rattle.std.proofs.Common.{refl}
use Rattle.proof_text.specs.Proof.{plain_proof}
use Rattle.proof_check.proofs.ShownClaims.{shows}
use Rattle.proof_check.proofs.RankFaults.{only_memory, names_ranks}
use Rattle.proof_check.proofs.checking.check.Goals as goal

pub returns-in-Some-clause-accepts : goal.returns-in-Some-clause-accepts
returns-in-Some-clause-accepts g c =
    λ rules. only_memory c.args.board.now (plain_proof c.args.board.now c.args.proof.now) c.in-Some.fault rules
    (rw (c.in-Ok.ensures.board, c.in-Ok.ensures.proof) at c.in-Some.ensures)

pub returns-in-Some-clause-named : goal.returns-in-Some-clause-named
returns-in-Some-clause-named g c =
    names_ranks c.args.board.now
    (plain_proof c.args.board.now c.args.proof.now) c.in-Some.fault c.requires.document.is_proof
    (rw (c.in-Ok.ensures.board, c.in-Ok.ensures.proof) at c.in-Some.ensures)

pub returns-clause-shows : goal.returns-clause-shows
returns-clause-shows g c = shows c.args.board.now
    (plain_proof c.args.board.now c.args.proof.now) c.requires.document.is_proof
    (rw (c.in-Ok.ensures.board, c.in-Ok.ensures.proof) at c.in-None.ensures)

pub returns-in-Some-clause-fault : goal.returns-in-Some-clause-fault
returns-in-Some-clause-fault g c = rw (c.in-Ok.ensures.board, c.in-Ok.ensures.proof) at c.in-Some.ensures

pub returns-clause-claim : goal.returns-clause-claim
returns-clause-claim g c = refl

pub returns-clause-accepts : goal.returns-clause-accepts
returns-clause-accepts g c = λ rules. tt

pub returns-clause-fault : goal.returns-clause-fault
returns-clause-fault g c = tt
