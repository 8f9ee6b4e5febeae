-- A configuration that lasts for ever has for each request an answer after which it still does.
use Rattle.std.proofs.Common.{◌≡◌, ℕ, zero, suc, ◌+◌, ◌<◌, ◌≤◌, ◌⊎◌, List, length, get_or, sym, ◌∙◌, subst, arith, inl}
use Rattle.std.proofs.Common.{inr}
use Rattle.std.proofs.lemmas.Bool.{cases_lt, cases_eq}
use Rattle.std.proofs.lemmas.List.{get_or-set_other, length-set}
use Rattle.std.proofs.lemmas.Grind.{get_or-set_at}
use Rattle.board_text.specs.PlainBoard.{PlainBoard}
use Rattle.positions.specs.Game.{Legal, DominatesOthers, AdversaryTree, moved}
use Rattle.positions.specs.Value.{HasValue}
use Rattle.positions.specs.declared.value.Value.{Value}
use Rattle.positions.specs.declared.value.Value.TheVariants.{Finite, Forever}
use Rattle.positions.proofs.Cited.{dominates_or_not, each_or_some, lasts_at_most, not_both_trees, some_tree}
use Rattle.domains.proofs.EachValue.{each_has_value}

stops_at_least : (board : PlainBoard) (configuration : List ℕ) (less more : ℕ) → less ≤ more
    → AdversaryTree board less configuration → AdversaryTree board more configuration
stops_at_least board configuration less more bound tree =
    elim (some_tree board more configuration) [
      | inr stops ↦ stops
      | inl lasts ↦ absurd
          (not_both_trees board less configuration (lasts_at_most board configuration less more bound lasts) tree)
    ]

-- a configuration lasts for ever, or an adversary has a tree of some depth
ends_by : (board : PlainBoard) (configuration : List ℕ) (value : Value) → HasValue board configuration value
    → HasValue board configuration Forever ⊎ ((depth : ℕ) × AdversaryTree board depth configuration)
ends_by board configuration (Finite number) has = inr (suc number, has.1)
ends_by board configuration Forever has = inl has

pub lasts_or_ends : (board : PlainBoard) (configuration : List ℕ) → length configuration ≡ board.pebbles
    → HasValue board configuration Forever ⊎ ((depth : ℕ) × AdversaryTree board depth configuration)
lasts_or_ends board configuration long =
    let found = each_has_value board configuration long in
    ends_by board configuration found.0 found.1

module _ (board : PlainBoard) (configuration : List ℕ) (pebble : ℕ) where
  abbrev Ends : ℕ → Type 0
  Ends label = DominatesOthers board configuration pebble label
      → (depth : ℕ) × AdversaryTree board depth (moved configuration pebble label)

  -- one depth serves all labels
  one_depth : (count : ℕ) → ((label : ℕ) → label < count → Ends label)
      → (depth : ℕ) × ((label : ℕ) → label < count → DominatesOthers board configuration pebble label
      → AdversaryTree board depth (moved configuration pebble label))
  one_depth zero each = (0, λ label low dominates. absurd (omega (arith, low)))
  one_depth (suc count) each =
      let rest = one_depth count (λ label low. each label (omega (arith, low))) in
      elim (dominates_or_not board configuration pebble count) [
        | inl here ↦
            let last = each count (omega arith) here in (
              rest.0 + last.0,
              λ label low dominates. elim (cases_lt label count) [
                | inl before ↦ stops_at_least board (moved configuration pebble label) rest.0 (rest.0 + last.0)
                    (omega arith) (rest.1 label before dominates)
                | inr not ↦
                    let is : count ≡ label = omega (arith, low, not) in
                    subst (λ n. AdversaryTree board (rest.0 + last.0) (moved configuration pebble n)) is
                    (stops_at_least board (moved configuration pebble count) last.0 (rest.0 + last.0) (omega arith)
                    last.1)
              ],
            )
        | inr not_here ↦ (
          rest.0,
          λ label low dominates. elim (cases_lt label count) [
            | inl before ↦ rest.1 label before dominates
            | inr not ↦
                let is : label ≡ count = omega (arith, low, not) in
                absurd (not_here (subst (DominatesOthers board configuration pebble) is dominates))
          ],
        )
      ]

  pub lasting_answer : length configuration ≡ board.pebbles → pebble < board.pebbles
      → HasValue board configuration Forever
      → (label : ℕ) × Legal board configuration pebble label × HasValue board (moved configuration pebble label) Forever
  lasting_answer long below lasts =
      elim (each_or_some Ends
      (λ label. DominatesOthers board configuration pebble label
      × HasValue board (moved configuration pebble label) Forever)
      board.labels
      (λ label low. elim (dominates_or_not board configuration pebble label) [
        | inr not ↦ inl (λ dominates. absurd (not dominates))
        | inl dominates ↦
            elim (lasts_or_ends board (moved configuration pebble label)
            (length-set configuration pebble label ∙ long)) [
              | inl for_ever ↦ inr (dominates, for_ever)
              | inr ends ↦ inl (λ _. ends)
            ]
      ])) [
        | inr found ↦ (found.0, record { is_label = found.1; dominates = found.2.0 }, found.2.1)
        | inl each ↦
            let one = one_depth board.labels each in
            let tree : AdversaryTree board (suc one.0) configuration
            = (pebble, below, λ label legal. one.1 label legal.is_label legal.dominates) in
            absurd (not_both_trees board (suc one.0) configuration (lasts (suc one.0)) tree)
      ]

-- ---- each pebble is asked once

-- the first pebbles hold labels
pub record AreHeld (board : PlainBoard) (count : ℕ) (configuration : List ℕ) : Type 0 where
  pub long : length configuration ≡ board.pebbles
  pub each : (pebble : ℕ) → pebble < count → get_or configuration pebble 0 < board.labels
  pub lasts : HasValue board configuration Forever

pub all_held : (board : PlainBoard) (configuration : List ℕ) → length configuration ≡ board.pebbles
    → HasValue board configuration Forever
    → (count : ℕ) → count ≤ board.pebbles → (held : List ℕ) × AreHeld board count held
all_held board configuration long lasts zero few =
    (configuration, record { long = long; each = λ pebble low. absurd (omega (arith, low)); lasts = lasts })
all_held board configuration long lasts (suc count) few =
    let before = all_held board configuration long lasts count (omega (arith, few)) in
    let answer = lasting_answer board before.0 count before.1.long few before.1.lasts in (
      moved before.0 count answer.0,
      record {
        long = length-set before.0 count answer.0 ∙ before.1.long;
        each = λ pebble low. elim (cases_eq pebble count) [
          | inl is ↦ subst (λ n. n < board.labels)
              (sym (get_or-set_at before.0 count pebble answer.0 0 is (omega (arith, before.1.long, few))))
              answer.1.is_label
          | inr differs ↦ subst (λ n. n < board.labels)
              (sym (get_or-set_other before.0 count pebble answer.0 0 differs))
              (before.1.each pebble (omega (arith, low, differs)))
        ];
        lasts = answer.2;
      },
    )
