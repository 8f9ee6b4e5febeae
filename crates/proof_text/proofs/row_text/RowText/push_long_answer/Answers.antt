use Rattle.std.proofs.Common.{◌≡◌, ◌++◌, ◌∷◌, ℕ, List, Result, Ok, Err, subst}
use Rattle.std.specs.Prelude.{codes, OnOk}
use Rattle.board_text.specs.LineForms.{with_line_feed}
use Rattle.board_text.specs.PlaceForms.{spaced_places}
use Rattle.board_text.specs.PlainBoard.{PlainBoard}
use Rattle.positions.specs.declared.turns.Turns.{Turns}
use Rattle.proof_text.specs.ProofText.{answer_line, turns_text}
use Rattle.proof_text.proofs.RowLemmas.{line_written}
use Rattle.proof_text.proofs.row_text.RowText.push_long_answer.Goals as goal
use Rattle.proof_text.proofs.row_text.RowText.push_long_answer.Goals.{in-Count+in_ok-push_number-in-Count}
use Rattle.proof_text.proofs.row_text.RowText.push_long_answer.Goals.{in-Always+in_ok-push_str-in-Always}

abbrev line_of : ℕ → List ℕ → Turns → List ℕ → List ℕ
line_of labels at turns taken =
    with_line_feed (codes "at" ++ (spaced_places labels at
    ++ (codes " for" ++ ((32 ∷ turns_text turns) ++ (codes " take" ++ spaced_places labels taken)))))

of_each : {T E : Type 0} (r : Result T E) (labels : ℕ) (at taken old new : List ℕ) (turns : Turns)
    → OnOk r (new ≡ old ++ line_of labels at turns taken)
    → OnOk r ((board : PlainBoard) → labels ≡ board.labels
    → new ≡ old ++ answer_line board (record { at = at; turns = turns; answers = taken }))
of_each (Ok x) labels at taken old new turns e =
    λ board same. subst (λ (l : ℕ). new ≡ old ++ line_of l at turns taken) same e
of_each (Err x) labels at taken old new turns e = tt

pub returns : goal.returns
returns c =
    let labels = c.args.words.now in
    let turns : c.match-turns.self.bytes ≡ c.push_str-2.new.self.bytes ++ 32 ∷ turns_text c.args.turns =
    elim c.match-turns.branch [
      | in-Count+in_ok-push_number-in-Count w ↦
          rw (w.self-is, w.in-Count.is) w.in_ok-push_number-in-Count.ensures
      | in-Always+in_ok-push_str-in-Always w ↦
          rw (w.self-is, w.in-Always.is) w.in_ok-push_str-in-Always.ensures
    ] in
    of_each c.push_str-4.result labels c.args.at.now c.args.take.now c.args.self.now.bytes
    c.push_str-4.new.self.bytes c.args.turns
    (line_written c.push_str-4.result (codes "at") (spaced_places labels c.args.at.now) (codes " for")
    (32 ∷ turns_text c.args.turns)
    (codes " take") (spaced_places labels c.args.take.now) _ _ _ _ _ _ _ _
    c.in_ok-push_str.ensures c.in_ok-push_places.ensures c.in_ok-push_str-2.ensures turns
    c.in_ok-push_str-3.ensures c.in_ok-push_places-2.ensures c.push_str-4.ensures)
