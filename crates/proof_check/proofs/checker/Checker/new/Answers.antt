use Rattle.std.proofs.Common.{length, ap, arith}
use Rattle.proof_check.proofs.ShownClaims.{are_answering, are_requesting, checker_of}
use Rattle.proof_check.proofs.checker.Checker.new.Goals as goal

pub new-requires : goal.new-requires
new-requires c =
    let board = c.args.board.now in
    let ready = are_answering board
    (rw c.new-space.ensures.same_board at c.configurations-size.ensures.is_board) c.args.proof.now.claim
    c.args.proof.now.labeller.items c.requires.document.is_proof.labeller in
    rw (c.configurations-size.ensures.value, c.new-space.ensures.same_board, c.deref.ensures.value) ready.ranked

pub new-requires-2 : goal.new-requires-2
new-requires-2 c =
    let board = c.args.board.now in
    let ready = are_requesting board
    (rw c.new-space.ensures.same_board at c.configurations-size.ensures.is_board) c.args.proof.now.claim
    c.args.proof.now.adversary.items c.requires.document.is_proof.adversary in
    rw (c.configurations-size.ensures.value, c.new-space.ensures.same_board, c.deref-2.ensures.value) ready.ranked

pub invariant_of-checker : goal.invariant_of-checker
invariant_of-checker c =
    let is_board = rw c.new-space.ensures.same_board at c.configurations-size.ensures.is_board in
    rw (c.in_ok-new.ensures, c.in_ok-new-2.ensures, c.deref.ensures.value, c.deref-2.ensures.value)
    (checker_of c.args.board.now is_board c.args.proof.now.claim c.new-space.result c.args.proof.now.labeller.items
    c.args.proof.now.adversary.items c.new-3.result.items c.new-space.ensures.same_board
    c.requires.document.is_proof.labeller c.requires.document.is_proof.adversary
    (λ gap inside. absurd (omega (arith, inside, ap length c.new-3.ensures.items))))

pub invariant_of-checker-2 : goal.invariant_of-checker-2
invariant_of-checker-2 c =
    let is_board = rw c.new-space.ensures.same_board at c.configurations-size.ensures.is_board in
    rw (c.in_ok-new.ensures, c.in_ok-new-2.ensures, c.deref.ensures.value, c.deref-2.ensures.value)
    (checker_of c.args.board.now is_board c.args.proof.now.claim c.new-space.result c.args.proof.now.labeller.items
    c.args.proof.now.adversary.items c.in_ok-checker-inside.field-0.items c.new-space.ensures.same_board
    c.requires.document.is_proof.labeller c.requires.document.is_proof.adversary
    (rw (c.in_ok-new-2.ensures, c.deref-2.ensures.value) at c.in_ok-checker-inside.ensures))
