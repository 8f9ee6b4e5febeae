-- The text of a board's starts, line by line, and that a board's text has one of them.
use Rattle.std.proofs.Common.{◌≡◌, ℕ, suc, ◌+◌, ◌<◌, List, [], ◌∷◌, ◌++◌, length, take, replicate}
use Rattle.std.proofs.Common.{sym, ◌∙◌, ap, arith, length-take-le, codes}
use Rattle.std.specs.Prelude.{slice_index_or}
use Rattle.std.proofs.lemmas.List.{append_assoc, append-nil, ext_get_or}
use Rattle.std.proofs.Math.Seq.{take-suc}
use Rattle.board_text.specs.LineForms.{with_line_feed}
use Rattle.board_text.specs.PlainBoard.{PlainBoard}
use Rattle.positions.specs.declared.value.Value.{Value}
use Rattle.positions.specs.declared.value.Value.TheVariants.{Forever}
use Rattle.positions.proofs.Cited.{same_value}
use Rattle.runs.specs.Report.{size_line}
use Rattle.runs.specs.StartText.{AreStartValues, AreStartsOf, place_value_line, place_value_lines, starts_text}
use Rattle.runs.proofs.ReportCounts.{four_parts}

-- ---- lines

lines_push : (labels place : ℕ) (values : List Value) (value : Value)
    → place_value_lines labels place (values ++ value ∷ [])
    ≡ place_value_lines labels place values ++ place_value_line labels (place + length values) value
lines_push labels place [] value =
    let same : place + 0 ≡ place = omega arith in
    append-nil (place_value_line labels place value) ∙ ap (λ (n : ℕ). place_value_line labels n value) (sym same)
lines_push labels place (first ∷ values) value =
    let same : suc place + length values ≡ place + suc (length values) = omega arith in
    ap (λ (rest : List ℕ). place_value_line labels place first ++ rest)
    (lines_push labels (suc place) values value
    ∙ ap (λ (n : ℕ). place_value_lines labels (suc place) values ++ place_value_line labels n value) same)
    ∙ sym (append_assoc (place_value_line labels place first) (place_value_lines labels (suc place) values)
    (place_value_line labels (place + suc (length values)) value))

-- one more line
pub starts_more : (labels : ℕ) (values : List Value) (place : ℕ) (default : Value) (before text more : List ℕ)
    → place < length values → text ≡ before ++ place_value_lines labels 0 (take place values)
    → more ≡ text ++ place_value_line labels place (slice_index_or values place default)
    → more ≡ before ++ place_value_lines labels 0 (take (place + 1) values)
starts_more labels values place default before text more inside written more_is =
    let value : Value = slice_index_or values place default in
    let size : length (take place values) ≡ place = length-take-le place values (omega arith) in
    let level : 0 + length (take place values) ≡ place = omega (arith, size) in
    let one_more : suc place ≡ place + 1 = omega arith in
    more_is ∙ ap (λ (t : List ℕ). t ++ place_value_line labels place value) written
    ∙ append_assoc before (place_value_lines labels 0 (take place values)) (place_value_line labels place value)
    ∙ ap (λ (lines : List ℕ). before ++ lines)
    (ap (λ (n : ℕ). place_value_lines labels 0 (take place values) ++ place_value_line labels n value) (sym level)
    ∙ sym (lines_push labels 0 (take place values) value)
    ∙ ap (place_value_lines labels 0) (sym (take-suc values place default inside))
    ∙ ap (λ (n : ℕ). place_value_lines labels 0 (take n values)) one_more)

-- the parts of the text, one after the other
pub whole_starts : (board : PlainBoard) (values : List Value) (empty head labels pebbles lines whole : List ℕ)
    → empty ≡ [] → head ≡ empty ++ with_line_feed (codes "starts 1")
    → labels ≡ head ++ size_line (codes "labels") board.labels
    → pebbles ≡ labels ++ size_line (codes "pebbles") board.pebbles
    → lines ≡ pebbles ++ place_value_lines board.labels 0 values → whole ≡ lines ++ with_line_feed (codes "end")
    → whole ≡ starts_text board values
whole_starts board values empty head labels pebbles lines whole none first second third fourth fifth =
    fifth ∙ ap (λ (t : List ℕ). t ++ with_line_feed (codes "end"))
    (four_parts empty (with_line_feed (codes "starts 1")) (size_line (codes "labels") board.labels)
    (size_line (codes "pebbles") board.pebbles) (place_value_lines board.labels 0 values) head labels pebbles lines
    first second third fourth
    ∙ ap (λ (t : List ℕ). t ++ (with_line_feed (codes "starts 1") ++ size_line (codes "labels") board.labels
    ++ size_line (codes "pebbles") board.pebbles ++ place_value_lines board.labels 0 values)) none)

-- ---- values

same_values : (board : PlainBoard) (first second : List Value) → AreStartValues board first
    → AreStartValues board second → first ≡ second
same_values board first second one other =
    let size : length first ≡ length second = one.long ∙ sym other.long in
    ext_get_or Forever first second size
    (λ place inside. same_value board (replicate board.pebbles place) (slice_index_or first place Forever)
    (slice_index_or second place Forever) (one.each place inside) (other.each place (omega (arith, inside, size))))

-- a board has one text of its starts
pub one_starts_of : (board : PlainBoard) (first second : List ℕ) → AreStartsOf board first → AreStartsOf board second
    → first ≡ second
one_starts_of board first second one other =
    one.text_is ∙ ap (starts_text board) (same_values board one.values other.values one.are other.are)
    ∙ sym other.text_is
