-- The counts of a report, value by value.
use Rattle.std.proofs.Common.{◌≡◌, ℕ, suc, ◌+◌, ◌<◌, List, [], ◌∷◌, ◌++◌, length, slice_index, take, sym, ap, ◌∙◌}
use Rattle.std.proofs.Common.{arith, length-take-le}
use Rattle.std.proofs.lemmas.List.{append_assoc, append-nil}
use Rattle.std.proofs.Math.Seq.{take-suc}
use Rattle.board_text.specs.PlainBoard.{PlainBoard}
use Rattle.runs.specs.Report.{IsReport, IsReportOf, Report, head_lines, start_value_line, count_line, count_lines}
use Rattle.runs.specs.Report.{end_lines}

lines_push : (value : ℕ) (counts : List ℕ) (count : ℕ)
    → count_lines value (counts ++ count ∷ []) ≡ count_lines value counts ++ count_line (value + length counts) count
lines_push value [] count =
    let same : value + 0 ≡ value = omega arith in
    append-nil (count_line value count) ∙ ap (λ (v : ℕ). count_line v count) (sym same)
lines_push value (first ∷ counts) count =
    let same : suc value + length counts ≡ value + suc (length counts) = omega arith in
    ap (λ (rest : List ℕ). count_line value first ++ rest)
    (lines_push (suc value) counts count
    ∙ ap (λ (v : ℕ). count_lines (suc value) counts ++ count_line v count) same)
    ∙ sym (append_assoc (count_line value first) (count_lines (suc value) counts)
    (count_line (value + suc (length counts)) count))

-- one more line
pub lines_more : (counts : List ℕ) (value : ℕ) (before text more : List ℕ) → value < length counts
    → text ≡ before ++ count_lines 0 (take value counts) → more ≡ text ++ count_line value (slice_index counts value)
    → more ≡ before ++ count_lines 0 (take (value + 1) counts)
lines_more counts value before text more inside written more_is =
    let size : length (take value counts) ≡ value = length-take-le value counts (omega arith) in
    let level : 0 + length (take value counts) ≡ value = omega arith in
    let one_more : suc value ≡ value + 1 = omega arith in
    more_is ∙ ap (λ (t : List ℕ). t ++ count_line value (slice_index counts value)) written
    ∙ append_assoc before (count_lines 0 (take value counts)) (count_line value (slice_index counts value))
    ∙ ap (λ (lines : List ℕ). before ++ lines)
    (ap (λ (v : ℕ). count_lines 0 (take value counts) ++ count_line v (slice_index counts value)) (sym level)
    ∙ sym (lines_push 0 (take value counts) (slice_index counts value))
    ∙ ap (count_lines 0) (sym (take-suc counts value 0 inside))
    ∙ ap (λ (n : ℕ). count_lines 0 (take n counts)) one_more)

-- the parts of a report, one after the other
pub whole_report : (board : PlainBoard) (report : Report) (empty head begun lines whole : List ℕ)
    → empty ≡ [] → head ≡ empty ++ head_lines board → begun ≡ head ++ start_value_line report.start
    → lines ≡ begun ++ count_lines 0 report.counts → whole ≡ lines ++ end_lines report.forever
    → IsReport board report → IsReportOf board whole
whole_report board report empty head begun lines whole none first second third last is = record {
  report = report;
  is_report = is;
  text_is = last ∙ ap (λ (t : List ℕ). t ++ end_lines report.forever)
      (third ∙ ap (λ (t : List ℕ). t ++ count_lines 0 report.counts)
      (second ∙ ap (λ (t : List ℕ). t ++ start_value_line report.start)
      (first ∙ ap (λ (t : List ℕ). t ++ head_lines board) none)));
}

-- four texts, one after the other
pub four_parts : (old first second third fourth one two three four : List ℕ) → one ≡ old ++ first → two ≡ one ++ second
    → three ≡ two ++ third → four ≡ three ++ fourth
    → four ≡ old ++ (first ++ second ++ third ++ fourth)
four_parts old first second third fourth one two three four is_one is_two is_three is_four =
    is_four ∙ ap (λ (t : List ℕ). t ++ fourth)
    (is_three ∙ ap (λ (t : List ℕ). t ++ third)
    (is_two ∙ ap (λ (t : List ℕ). t ++ second) is_one ∙ append_assoc old first second)
    ∙ append_assoc old (first ++ second) third)
    ∙ append_assoc old (first ++ second ++ third) fourth
