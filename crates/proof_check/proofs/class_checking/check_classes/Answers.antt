use Rattle.proof_text.specs.Arranged.{arranged}
use Rattle.proof_text.specs.ClassProof.{plain_class_proof}
use Rattle.proof_check.proofs.ClassClaims.{claim_holds, start_claim_holds}
use Rattle.proof_check.proofs.ClassDocumentFaults.{no_fault, names_class}
use Rattle.proof_check.proofs.class_checking.check_classes.Goals as goal

pub returns-in-Some-clause-accepts : goal.returns-in-Some-clause-accepts
returns-in-Some-clause-accepts g c =
    λ rules. absurd (no_fault (arranged c.args.board.now.labels) c.args.board.now
    (plain_class_proof c.args.board.now c.args.proof.now) c.in-Some.fault rules
    (rw c.by_classes-alike.ensures at c.in-Some.ensures.fault))

pub returns-in-Some-clause-named : goal.returns-in-Some-clause-named
returns-in-Some-clause-named g c =
    names_class (arranged c.args.board.now.labels) c.args.board.now
    (plain_class_proof c.args.board.now c.args.proof.now) c.in-Some.fault c.requires.document.is_proof
    (rw c.by_classes-alike.ensures at c.in-Some.ensures.fault)

pub returns-clause-holds : goal.returns-clause-holds
returns-clause-holds g c =
    start_claim_holds c.args.board.now (plain_class_proof c.args.board.now c.args.proof.now) c.in-None.ensures.start
    (rw c.by_classes-alike.ensures at c.in-None.ensures.fault)

pub returns-clause-each : goal.returns-clause-each
returns-clause-each g c = λ configuration is same.
    claim_holds c.args.board.now (plain_class_proof c.args.board.now c.args.proof.now) configuration
    c.in-None.ensures.start is same (rw c.by_classes-alike.ensures at c.in-None.ensures.fault)

pub returns-in-Some-clause-fault : goal.returns-in-Some-clause-fault
returns-in-Some-clause-fault g c = rw c.by_classes-alike.ensures at c.in-Some.ensures.fault

pub returns-clause-rules : goal.returns-clause-rules
returns-clause-rules g c = rw c.by_classes-alike.ensures at c.in-None.ensures.fault
