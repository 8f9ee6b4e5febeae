use Rattle.std.proofs.lemmas.Result.{IfErr-weaker, IfOk-weaker, err_from_is_err_and}
use Rattle.runs.specs.Verdicts.{CannotAnswer}
use Rattle.runs.specs.Texts.{HasNoProof}
use Rattle.runs.proofs.WrongTexts.{begins_with, no_board, no_proof, two_parts}
use Rattle.runs.proofs.verdicts.check_joined_text.Goals as goal

pub returns-in_err-board-clause-fault : goal.returns-in_err-board-clause-fault
returns-in_err-board-clause-fault g c =
    let p = err_from_is_err_and c.from_residual.result c.from_residual.ensures.1 in
    let whole = two_parts c.args.text.now _ _ c.board_length.result c.split_at.ensures.front c.split_at.ensures.back in
    rw (p.1, p.2) (no_board c.args.text.now c.split_at.result.0.now c.split_at.result.1.now c.board_length.result
    c.in_err-board.field-0.0
    c.board_length.ensures.first c.split_at.ensures.front whole c.in_err-board.ensures.fault)

pub returns-clause-answered : goal.returns-clause-answered
returns-clause-answered g c =
    let whole = two_parts c.args.text.now _ _ c.board_length.result c.split_at.ensures.front c.split_at.ensures.back in
    let found = c.in_ok-board.ensures.found in
    IfOk-weaker c.check_text.result _ _ (λ answer is. (
      c.in_ok-board.board,
      c.split_at.result.1.now,
      begins_with c.args.text.now _ _ c.in_ok-board.board found.is_board whole found.spelled,
      is,
    )) c.check_text.ensures.checked

pub returns-clause-fault : goal.returns-clause-fault
returns-clause-fault g c =
    let whole = two_parts c.args.text.now _ _ c.board_length.result c.split_at.ensures.front c.split_at.ensures.back in
    IfErr-weaker c.check_text.result (HasNoProof c.in_ok-board.board c.split_at.result.1.now)
    (CannotAnswer c.args.text.now)
    (λ fault none. no_proof c.args.text.now _ _ c.in_ok-board.board fault c.in_ok-board.ensures.found whole none)
    c.check_text.ensures.fault
