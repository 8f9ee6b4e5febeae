use Rattle.std.proofs.Common.{◌≡◌, ◌++◌, ◌∷◌, ℕ, List, Result, Ok, Err, subst}
use Rattle.std.specs.Prelude.{codes, OnOk}
use Rattle.std.specs.Fmt.{decimal}
use Rattle.board_text.specs.LineForms.{with_line_feed}
use Rattle.board_text.specs.PlaceForms.{spaced_places}
use Rattle.board_text.specs.PlainBoard.{PlainBoard}
use Rattle.proof_text.specs.ProofText.{request_line}
use Rattle.proof_text.proofs.RowLemmas.{line_written}
use Rattle.proof_text.proofs.row_text.RowText.push_long_request.Goals as goal

abbrev line_of : ℕ → List ℕ → ℕ → ℕ → List ℕ
line_of labels at left asked =
    with_line_feed (codes "at" ++ (spaced_places labels at
    ++ (codes " for" ++ ((32 ∷ decimal left) ++ (codes " ask" ++ (32 ∷ decimal asked))))))

of_each : {T E : Type 0} (r : Result T E) (labels : ℕ) (at old new : List ℕ) (left asked : ℕ)
    → OnOk r (new ≡ old ++ line_of labels at left asked)
    → OnOk r ((board : PlainBoard) → labels ≡ board.labels
    → new ≡ old ++ request_line board (record { at = at; left = left; request = asked }))
of_each (Ok x) labels at old new left asked e =
    λ board same. subst (λ (l : ℕ). new ≡ old ++ line_of l at left asked) same e
of_each (Err x) labels at old new left asked e = tt

pub returns : goal.returns
returns c =
    let labels = c.args.words.now in
    of_each c.push_str-4.result labels c.args.at.now c.args.self.now.bytes c.push_str-4.new.self.bytes c.args.left
    c.args.ask
    (line_written c.push_str-4.result (codes "at") (spaced_places labels c.args.at.now) (codes " for")
    (32 ∷ decimal c.args.left) (codes " ask") (32 ∷ decimal c.args.ask) _ _ _ _ _ _ _ _
    c.in_ok-push_str.ensures c.in_ok-push_places.ensures c.in_ok-push_str-2.ensures c.in_ok-push_number.ensures
    c.in_ok-push_str-3.ensures (rw c.from.ensures at c.in_ok-push_number-2.ensures) c.push_str-4.ensures)
