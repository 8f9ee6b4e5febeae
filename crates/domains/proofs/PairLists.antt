-- Each rule on labels that can be decided has its ascending list of pairs.
use Rattle.std.proofs.Common.{◌≡◌, ℕ, zero, suc, ◌+◌, ◌*◌, ◌/◌, ◌%◌, ◌<◌, ◌≤◌, ◌⊎◌, List, [], ◌∷◌, ◌++◌, get_or, refl}
use Rattle.std.proofs.Common.{ap, subst, arith, inl, inr}
use Rattle.std.specs.Prelude.{All, AllPairs, Contains}
use Rattle.std.proofs.lemmas.Bool.{cases_lt, cases_order}
use Rattle.std.proofs.lemmas.List.Elements.{All-nil, All-push, All-weaker, Contains-append_left, Contains-push}
use Rattle.std.proofs.lemmas.List.Quantifiers.{all_pairs_push}
use Rattle.std.proofs.lemmas.Nat.{row_fits, same_from_place}
use Rattle.board_text.specs.PlainBoard.{AreLabels, Precedes}
use Rattle.nested_cycles.proofs.Cited.{pair_at}

precedes_from_place : (labels : ℕ) (p q : ℕ × ℕ) → q.1 < labels → p.0 * labels + p.1 < q.0 * labels + q.1
    → Precedes p q
precedes_from_place labels p q small lt =
    elim (cases_order p.0 q.0) [
      | inl same ↦ inr (same, omega (arith, lt, ap (λ (a : ℕ). a * labels) same))
      | inr (inl less) ↦ inl less
      | inr (inr more) ↦ absurd (omega (arith, lt, row_fits q.0 labels p.0 labels more (omega arith)))
    ]

abbrev pub Obeys : ℕ → (ℕ → ℕ → Type 0) → ℕ → ℕ × ℕ → Type 0
Obeys labels Rule places pair = AreLabels labels pair × (pair.0 * labels + pair.1 < places) × Rule pair.0 pair.1

-- the pairs of the rule among the first pairs of labels, in ascending order
pub record AreRulePairs (labels : ℕ) (Rule : ℕ → ℕ → Type 0) (places : ℕ) (pairs : List (ℕ × ℕ)) : Type 0 where
  pub ascending : AllPairs Precedes pairs
  pub only : All (Obeys labels Rule places) pairs
  pub all : (x y : ℕ) → AreLabels labels (x, y) → x * labels + y < places → Rule x y → Contains pairs (x, y)

module _ (labels : ℕ) (Rule : ℕ → ℕ → Type 0) where
  still : (places : ℕ) (pairs : List (ℕ × ℕ)) → All (Obeys labels Rule places) pairs
      → All (Obeys labels Rule (suc places)) pairs
  still places pairs only =
      All-weaker (Obeys labels Rule places) (Obeys labels Rule (suc places))
      (λ pair h. (h.0, omega (arith, h.1), h.2)) pairs only

  skips : (places x y : ℕ) (pairs : List (ℕ × ℕ)) → AreRulePairs labels Rule places pairs → AreLabels labels (x, y)
      → x * labels + y ≡ places → (Rule x y → ⊥) → AreRulePairs labels Rule (suc places) pairs
  skips places x y pairs are are_labels here not = record {
    ascending = are.ascending;
    only = still places pairs are.only;
    all = λ v w both among rule. elim (cases_lt (v * labels + w) places) [
      | inl before ↦ are.all v w both before rule
      | inr at ↦
          let same = same_from_place v w x y labels both.1 are_labels.1 (omega (arith, among, at, here)) in
          absurd (not (subst (λ (n : ℕ). Rule n y) same.0 (subst (λ (n : ℕ). Rule v n) same.1 rule)))
    ];
  }

  takes : (places x y : ℕ) (pairs : List (ℕ × ℕ)) → AreRulePairs labels Rule places pairs → AreLabels labels (x, y)
      → x * labels + y ≡ places → Rule x y → AreRulePairs labels Rule (suc places) (pairs ++ (x, y) ∷ [])
  takes places x y pairs are are_labels here rule = record {
    ascending = all_pairs_push Precedes pairs (x, y) are.ascending
        (λ k d lt. precedes_from_place labels (get_or pairs k d) (x, y) are_labels.1
        (omega (arith, (are.only k d lt).1, here)));
    only = All-push (Obeys labels Rule (suc places)) pairs (x, y) (still places pairs are.only)
        (are_labels, omega (arith, here), rule);
    all = λ v w both among obeys. elim (cases_lt (v * labels + w) places) [
      | inl before ↦ Contains-append_left pairs ((x, y) ∷ []) (v, w) (are.all v w both before obeys)
      | inr at ↦
          let same = same_from_place v w x y labels both.1 are_labels.1 (omega (arith, among, at, here)) in
          let pair : ◌≡◌ {A = ℕ × ℕ} (x, y) (v, w) = rw (same.0, same.1) refl in
          subst (λ p. Contains (pairs ++ (x, y) ∷ []) p) pair (Contains-push pairs (x, y))
    ];
  }

  pub rule_pairs : ((x y : ℕ) → AreLabels labels (x, y) → Rule x y ⊎ (Rule x y → ⊥)) → (places : ℕ)
      → places ≤ labels * labels
      → (pairs : List (ℕ × ℕ)) × AreRulePairs labels Rule places pairs
  rule_pairs decided zero few = (
    [],
    record {
      ascending = λ i j d lt in_list. absurd (omega (arith, in_list));
      only = All-nil (Obeys labels Rule 0);
      all = λ x y both among rule. absurd (omega (arith, among));
    },
  )
  rule_pairs decided (suc place) few =
      let before = rule_pairs decided place (omega (arith, few)) in
      let at = pair_at labels place (omega (arith, few)) in
      let x : ℕ = place / labels in
      let y : ℕ = place % labels in
      elim (decided x y at.are) [
        | inl rule ↦ (before.0 ++ (x, y) ∷ [], takes place x y before.0 before.1 at.are at.here rule)
        | inr not ↦ (before.0, skips place x y before.0 before.1 at.are at.here not)
      ]
