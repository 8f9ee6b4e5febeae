-- The gaps whose answers all lead below a number: by their best answers, and by their rounds.
use Rattle.std.proofs.Common.{◌≡◌, ℕ, zero, suc, ◌-◌, ◌<◌, ◌≤◌, List, Some, inl, inr, arith, subst, sym}
use Rattle.board_text.specs.PlainBoard.{PlainBoard, IsBoard, places}
use Rattle.positions.specs.declared.value.Value.{Value}
use Rattle.positions.specs.declared.value.Value.TheVariants.{Finite, Forever}
use Rattle.positions.specs.Game.{AdversaryTree}
use Rattle.positions.specs.Value.{HasValue}
use Rattle.positions.proofs.Cited.{at_most_from_tree, lasts_at_most, not_both_trees, same_value, some_tree}
use Rattle.classes.specs.Classes.{IsClass}
use Rattle.classes.specs.ClassGaps.{member_with}
use Rattle.gap_values.specs.BestOfGap.{IsBestOfGap, LeadBelow}
use Rattle.gap_values.specs.declared.value_table.Best.{Best}
use Rattle.gap_values.specs.GapTables.{IsClosedBefore, IsGapTable}
use Rattle.gap_values.specs.RoundWords.{round_of_word}
use Rattle.gap_values.proofs.ClosedGaps.{tree-if-closed, class-configuration}
use Rattle.gap_values.proofs.Words.{before-from, before-to, result-is}

-- ---- by the best answer

module _ (board : PlainBoard) (gap : List ℕ) (number : ℕ) (best : Best) (is : IsBestOfGap board gap (Some best)) where
  pub best-below : (depth : ℕ) → best.value ≡ Finite depth → depth < number → LeadBelow board gap number
  best-below depth value_is low = λ label answers.
      let has = subst (HasValue board (member_with gap best.label)) value_is is.1 in
      let most = is.0.0.greatest label answers depth (depth, omega arith, has) in
      (most.0, omega (arith, low, most.1), most.2)

  pub below-best : (depth : ℕ) → best.value ≡ Finite depth → LeadBelow board gap number → depth < number
  below-best depth value_is below =
      let has = subst (HasValue board (member_with gap best.label)) value_is is.1 in
      let mine = below best.label is.0.0.answers in
      let same : Finite mine.0 ≡ Finite depth =
      same_value board (member_with gap best.label) (Finite mine.0) (Finite depth) mine.2 has in
      let depth_is : mine.0 ≡ depth = cc in
      omega (arith, depth_is, mine.1)

  pub lasting-best : best.value ≡ Forever → LeadBelow board gap number → ⊥
  lasting-best value_is below =
      let has = subst (HasValue board (member_with gap best.label)) value_is is.1 in
      let mine = below best.label is.0.0.answers in
      let same : Finite mine.0 ≡ Forever =
      same_value board (member_with gap best.label) (Finite mine.0) Forever mine.2 has in
      absurd cc

-- ---- by the round

below-from-tree : (board : PlainBoard) (number : ℕ) (configuration : List ℕ) → AdversaryTree board number configuration
    → (depth : ℕ) × (depth < number) × HasValue board configuration (Finite depth)
below-from-tree board zero configuration tree = absurd tree
below-from-tree board (suc number) configuration tree =
    let most = at_most_from_tree board number configuration tree in (most.0, omega (arith, most.1), most.2)

tree-from-below : (board : PlainBoard) (number : ℕ) (configuration : List ℕ) (depth : ℕ) → depth < number
    → HasValue board configuration (Finite depth) → AdversaryTree board number configuration
tree-from-below board number configuration depth low has = elim (some_tree board number configuration) [
  | inr stops ↦ stops
  | inl lasts ↦ absurd (not_both_trees board (suc depth) configuration
      (lasts_at_most board configuration (suc depth) number (omega (arith, low)) lasts) has.1)
]

module _ (board : PlainBoard) (closed : List ℕ → Value) (table : IsGapTable board closed) (gap : List ℕ)
    (is_board : IsBoard board) (is_gap : IsClass (places board) (board.pebbles - 1) gap) (number own : ℕ)
    (same : closed gap ≡ round_of_word own) where
  pub closed-below : own < 4294967295 → own ≤ number → LeadBelow board gap number
  closed-below finite low = λ label answer.
      let before : IsClosedBefore (closed gap) (suc number) =
      subst (λ v. IsClosedBefore v (suc number)) (sym same)
      (before-from own (suc number) (omega (arith, low)) finite) in
      let is = class-configuration board (member_with gap label)
      (result-is board gap label is_board is_gap answer.is_label) in
      below-from-tree board number (member_with gap label)
      ((tree-if-closed board closed table number (member_with gap label) is).1
      ((table gap is_gap number).0 before label answer))

  pub below-closed : LeadBelow board gap number → (own ≤ number) × (own < 4294967295)
  below-closed below =
      let before : IsClosedBefore (closed gap) (suc number) = (table gap is_gap number).1 (λ label answer.
      let is = class-configuration board (member_with gap label)
      (result-is board gap label is_board is_gap answer.is_label) in
      let few = below label answer in
      (tree-if-closed board closed table number (member_with gap label) is).0
      (tree-from-below board number (member_with gap label) few.0 few.1 few.2)) in
      let word = before-to own (suc number) (subst (λ v. IsClosedBefore v (suc number)) same before) in
      (omega (arith, word.0), word.1)
