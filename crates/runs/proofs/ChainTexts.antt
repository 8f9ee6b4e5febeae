-- The text of a board's chains, line by line, and that a board's text has one of them or one fault.
use Rattle.std.proofs.Common.{◌≡◌, ℕ, suc, ◌+◌, ◌<◌, List, [], ◌∷◌, ◌++◌, ◌⊎◌, Option, length, slice_index, take}
use Rattle.std.proofs.Common.{refl, sym, ◌∙◌, ap, subst, arith, inl, inr, length-take-le, codes}
use Rattle.std.proofs.lemmas.List.{append_assoc, append-nil}
use Rattle.std.proofs.Math.Seq.{take-suc}
use Rattle.board_text.specs.LineForms.{with_line_feed}
use Rattle.board_text.specs.PlainBoard.{PlainBoard}
use Rattle.board_text.proofs.Cited.{one_board}
use Rattle.chains.specs.ChainCounts.{HasTooManyChains}
use Rattle.chains.proofs.Cited.{counts_or_many, one_answer}
use Rattle.runs.specs.ChainText.{AreChainsOf, CannotCountChains, HasNoChains, SaysChains, chains_text, last_lines}
use Rattle.runs.specs.ChainText.{length_line, length_lines}
use Rattle.runs.specs.Report.{size_line}
use Rattle.runs.specs.Texts.{IsBoardAmong, IsWrongAmong, OfAnySize}
use Rattle.runs.specs.declared.fault.RunFault.{RunFault}
use Rattle.runs.specs.declared.fault.RunFault.TheVariants.{Memory, Worker, TooManyChains}
use Rattle.runs.proofs.AcceptedDocuments.{not_wrong_among}
use Rattle.runs.proofs.OneOutcome.{one_wrong_among}
use Rattle.runs.proofs.ReportCounts.{four_parts}

-- ---- lines

lines_push : (size : ℕ) (counts : List ℕ) (count : ℕ)
    → length_lines size (counts ++ count ∷ []) ≡ length_lines size counts ++ length_line (size + length counts) count
lines_push size [] count =
    let same : size + 0 ≡ size = omega arith in
    append-nil (length_line size count) ∙ ap (λ (n : ℕ). length_line n count) (sym same)
lines_push size (first ∷ counts) count =
    let same : suc size + length counts ≡ size + suc (length counts) = omega arith in
    ap (λ (rest : List ℕ). length_line size first ++ rest)
    (lines_push (suc size) counts count
    ∙ ap (λ (n : ℕ). length_lines (suc size) counts ++ length_line n count) same)
    ∙ sym (append_assoc (length_line size first) (length_lines (suc size) counts)
    (length_line (size + suc (length counts)) count))

-- one more line
pub lengths_more : (counts : List ℕ) (index : ℕ) (before text more : List ℕ) → index < length counts
    → text ≡ before ++ length_lines 1 (take index counts)
    → more ≡ text ++ length_line (index + 1) (slice_index counts index)
    → more ≡ before ++ length_lines 1 (take (index + 1) counts)
lengths_more counts index before text more inside written more_is =
    let size : length (take index counts) ≡ index = length-take-le index counts (omega arith) in
    let level : 1 + length (take index counts) ≡ index + 1 = omega (arith, size) in
    let one_more : suc index ≡ index + 1 = omega arith in
    more_is ∙ ap (λ (t : List ℕ). t ++ length_line (index + 1) (slice_index counts index)) written
    ∙ append_assoc before (length_lines 1 (take index counts)) (length_line (index + 1) (slice_index counts index))
    ∙ ap (λ (lines : List ℕ). before ++ lines)
    (ap (λ (n : ℕ). length_lines 1 (take index counts) ++ length_line n (slice_index counts index)) (sym level)
    ∙ sym (lines_push 1 (take index counts) (slice_index counts index))
    ∙ ap (length_lines 1) (sym (take-suc counts index 0 inside))
    ∙ ap (λ (n : ℕ). length_lines 1 (take n counts)) one_more)

-- the parts of the text, one after the other
pub whole_text : (board : PlainBoard) (counts : List ℕ) (undominated : Option (List ℕ))
    (empty head labels lines last whole : List ℕ) → empty ≡ [] → head ≡ empty ++ with_line_feed (codes "chains 1")
    → labels ≡ head ++ size_line (codes "labels") board.labels → lines ≡ labels ++ length_lines 1 counts
    → last ≡ lines ++ last_lines board.labels (length counts) undominated
    → whole ≡ last ++ with_line_feed (codes "end") → whole ≡ chains_text board counts undominated
whole_text board counts undominated empty head labels lines last whole none first second third fourth fifth =
    fifth ∙ ap (λ (t : List ℕ). t ++ with_line_feed (codes "end"))
    (four_parts empty (with_line_feed (codes "chains 1")) (size_line (codes "labels") board.labels)
    (length_lines 1 counts) (last_lines board.labels (length counts) undominated) head labels lines last first second
    third fourth
    ∙ ap (λ (t : List ℕ). t ++ (with_line_feed (codes "chains 1") ++ size_line (codes "labels") board.labels
    ++ length_lines 1 counts ++ last_lines board.labels (length counts) undominated)) none)

-- ---- faults

pub wrong_counting : (most : ℕ) (text : List ℕ) (fault : RunFault) → CannotCountChains most text fault
    → (fault ≡ Memory) ⊎ (fault ≡ Worker) ⊎ HasNoChains most text fault
wrong_counting most text Memory h = inl refl
wrong_counting most text Worker h = inr (inl refl)
wrong_counting most text fault h = inr (inr h)

-- ---- one text, or one fault

module _ (most : ℕ) (text : List ℕ) where
  same_board : (board other : PlainBoard) → IsBoardAmong OfAnySize text board → IsBoardAmong OfAnySize text other
      → board ≡ other
  same_board board other is also = one_board board other is.is_board also.is_board (sym is.spelled ∙ also.spelled)

  pub one_chains : (answer other : Unit {0}) (line more : List ℕ) → SaysChains most text answer line
      → SaysChains most text other more → line ≡ more
  one_chains answer other line more (board, is, says) (next, also, says_too) =
      let here : AreChainsOf board most more
      = subst (λ b. AreChainsOf b most more) (sym (same_board board next is also)) says_too in
      let same = one_answer board most says.counts here.counts says.undominated here.undominated says.are here.are in
      says.text_is ∙ (ap (λ counts. chains_text board counts says.undominated) same.0
      ∙ (ap (λ undominated. chains_text board here.counts undominated) same.1 ∙ sym here.text_is))

  -- a fault is that there are too many chains, or one of the text
  fault_is : (fault : RunFault) → HasNoChains most text fault
      → ((fault ≡ TooManyChains) × HasNoChains most text TooManyChains) ⊎ IsWrongAmong OfAnySize text fault
  fault_is TooManyChains h = inl (refl, h)
  fault_is fault h = inr h

  pub one_chain_fault : (fault other : RunFault) → HasNoChains most text fault → HasNoChains most text other
      → fault ≡ other
  one_chain_fault fault other wrong also =
      elim (fault_is fault wrong) [
        | inl (is, many) ↦ elim (fault_is other also) [
          | inl (same, too) ↦ is ∙ sym same
          | inr next ↦ absurd (not_wrong_among OfAnySize text many.0 many.1 other next)
        ]
        | inr here ↦ elim (fault_is other also) [
          | inl (same, many) ↦ absurd (not_wrong_among OfAnySize text many.0 many.1 fault here)
          | inr next ↦ one_wrong_among OfAnySize text fault other here next
        ]
      ]

  pub chains_or_fault : (answer : Unit {0}) (line : List ℕ) (fault : RunFault) → SaysChains most text answer line
      → HasNoChains most text fault → ⊥
  chains_or_fault answer line fault (board, is, says) wrong =
      elim (fault_is fault wrong) [
        | inl (same, (next, also, many)) ↦ counts_or_many board most says.counts says.undominated says.are
            (subst (λ b. HasTooManyChains b most) (sym (same_board board next is also)) many)
        | inr here ↦ not_wrong_among OfAnySize text board is fault here
      ]
