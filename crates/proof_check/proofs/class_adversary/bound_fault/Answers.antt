use Rattle.std.proofs.Common.{rules, ◌≡◌, ◌⊎◌}
use Rattle.positions.specs.declared.claim.Claim.TheVariants.{Exactly, AtMost}
use Rattle.proof_text.specs.ClassProof.{plain_class_proof}
use Rattle.proof_text.proofs.Cited.{placed}
use Rattle.symmetries.specs.Elements.{least_by}
use Rattle.proof_check.proofs.CheckedRows.{bound_meant}
use Rattle.proof_check.proofs.class_adversary.bound_fault.Goals as goal
use Rattle.proof_check.proofs.class_adversary.bound_fault.Goals.{in-Exactly, in-Exactly-2}

pub order-start-requires-clause-places : goal.order-start-requires-clause-places
order-start-requires-clause-places c =
    rw c.start.ensures.value
    (placed c.args.checker.now.board.now c.args.checker.now.board.now.start c.start.ensures.is_board.start)

pub returns : goal.returns
returns c =
    let board = c.args.checker.now.board.now in
    let proof = c.args.checker.now.proof.now in
    let most = c.match-checker.most in
    let wanted = least_by board.labels c.args.checker.now.alike.now.group board.start in
    let is = rw c.start.ensures.value at c.order-start.ensures in
    let claim : (proof.claim ≡ Exactly most) ⊎ (proof.claim ≡ AtMost most) =
    elim c.match-checker.branch [ in-Exactly w ↦ search rules | in-Exactly-2 w ↦ search rules ] in
    bound_meant board c.args.checker.now.alike.now.group (plain_class_proof board proof) most
    c.number_fault.result claim (c.number_fault.ensures wanted
    (is.configuration c.start.ensures.is_board.start) is.number)
