-- The words of configurations before and after a gap closes.
use Rattle.std.proofs.Common.{◌≡◌, ◌≢◌, ℕ, ◌+◌, ◌<◌, ◌==◌, inl, inr, Bool, true, false, cond, refl, arith, sym, ap, ◌∙◌}
use Rattle.std.proofs.Common.{List, [], ◌∷◌, length, slice_index, slice_set, get_or-set_other, get_or-set_same}
use Rattle.std.proofs.Math.ListN.{length-set}
use Rattle.std.proofs.lemmas.Bool.{cases_lt}
use Rattle.index_lists.specs.Lists.{times}
use Rattle.index_lists.proofs.Cited.{same_is, differ_is, times-later}
use Rattle.graphs.specs.Graph.{PlainGraph, is_member}
use Rattle.solver.specs.Inside.Tables.{is_open, GapIsClosed}
use Rattle.gap_values.specs.declared.closing.TheConstants.{OPEN}
use Rattle.graphs.proofs.Cited.{member-at, true_or_false, true_not_false, same_or_not}

-- some open members of a gap are filed at a value, and nothing else changes
pub record IsClosing (a : PlainGraph) (g value : ℕ) (values values' : List ℕ) : Type 0 where
  pub same_length : length values' ≡ length values
  pub filed : (x : ℕ) → x < a.configurations → is_open values x ≡ true → is_open values' x ≡ false
      → (slice_index values' x ≡ value) × (is_member a g x ≡ true)
  pub waiting : (x : ℕ) → x < a.configurations → is_open values' x ≡ true → is_open values x ≡ true
  pub kept : (x : ℕ) → x < a.configurations → is_open values x ≡ false → slice_index values' x ≡ slice_index values x

pub open_word : (values : List ℕ) (x : ℕ) → is_open values x ≡ true → slice_index values x ≡ OPEN
open_word values x e = elim (same_or_not (slice_index values x) OPEN) [
  | inl same ↦ same
  | inr other ↦ absurd (true_not_false (is_open values x) e (differ_is (slice_index values x) OPEN other))
]

pub valued_word : (values : List ℕ) (x : ℕ) → slice_index values x ≢ OPEN → is_open values x ≡ false
valued_word values x other = differ_is (slice_index values x) OPEN other

pub times_one : (node : ℕ) → times node (node ∷ []) ≡ 1
times_one node = rw (same_is node node refl) refl

pub times_none : (node x : ℕ) → x ≢ node → times x (node ∷ []) ≡ 0
times_none node x d = times-later node x [] (λ e. d (sym e))

pub times_true : (b : Bool) (n : ℕ) → 0 < n → n ≡ cond b 1 0 → b ≡ true
times_true true n h e = refl
times_true false n h e = absurd (omega arith)

-- ---- the words while a gap closes

module _ (values : List ℕ) (rank value : ℕ) where
  open-after : rank < length values → value ≢ OPEN → is_open (slice_set values rank value) rank ≡ false
  open-after i small = ap (λ w. w == OPEN) (get_or-set_same values rank value 0 i) ∙ differ_is value OPEN small

  open-elsewhere : (x : ℕ) → x ≢ rank → is_open (slice_set values rank value) x ≡ is_open values x
  open-elsewhere x d = ap (λ w. w == OPEN) (get_or-set_other values rank x value 0 d)

module _ (a : PlainGraph) (g value : ℕ) (values values' : List ℕ) where
  pub closing-step : (rank : ℕ) → rank < a.configurations
      → length values ≡ a.configurations → value ≢ OPEN → is_open values' rank ≡ true → is_member a g rank ≡ true
      → IsClosing a g value values values' → IsClosing a g value values (slice_set values' rank value)
  closing-step rank i size small was_open member c =
      let place : rank < length values' = (let s = c.same_length in omega arith) in record {
        same_length = length-set values' rank value ∙ c.same_length;
        filed = λ x j was shut. elim (same_or_not x rank) [
          | inl here ↦ (
            ap (slice_index (slice_set values' rank value)) here ∙ get_or-set_same values' rank value 0 place,
            ap (is_member a g) here ∙ member,
          )
          | inr other ↦ (let before = c.filed x j was (sym (open-elsewhere values' rank value x other) ∙ shut) in
              (get_or-set_other values' rank x value 0 other ∙ before.0, before.1))
        ];
        waiting = λ x j e. elim (same_or_not x rank) [
          | inl here ↦ ap (is_open values) here ∙ c.waiting rank i was_open
          | inr other ↦ c.waiting x j (sym (open-elsewhere values' rank value x other) ∙ e)
        ];
        kept = λ x j shut. elim (same_or_not x rank) [
          | inl here ↦ absurd (true_not_false (is_open values rank) (c.waiting rank i was_open)
              (ap (is_open values) (sym here) ∙ shut))
          | inr other ↦ get_or-set_other values' rank x value 0 other ∙ c.kept x j shut
        ];
      }

  pub closing-end : ((x : ℕ) → x < a.configurations → is_member a g x ≡ true → is_open values' x ≡ false)
      → IsClosing a g value values values' → GapIsClosed a g value values values'
  closing-end shut c = record {
    same_length = c.same_length;
    filed = λ x i member was. (c.filed x i was (shut x i member)).0;
    outside = λ x i out. elim (true_or_false (is_open values x)) [
      | inr was_shut ↦ c.kept x i was_shut
      | inl was ↦ elim (true_or_false (is_open values' x)) [
        | inl still ↦ open_word values' x still ∙ sym (open_word values x was)
        | inr now ↦ absurd (true_not_false (is_member a g x) (c.filed x i was now).1 out)
      ]
    ];
    kept = c.kept;
  }

-- the members of a gap with the first labels are not open
module _ (a : PlainGraph) (g label : ℕ) (values : List ℕ) (rank : ℕ) (here : a.member g label ≡ rank)
    (shut : (v : ℕ) → v < label → is_open values (a.member g v) ≡ false) where
  pub shut-more : (values' : List ℕ) (value : ℕ) → rank < length values → value ≢ OPEN
      → values' ≡ slice_set values rank value → (v : ℕ) → v < label + 1 → is_open values' (a.member g v) ≡ false
  shut-more values' value i small set v h =
      ap (λ (ws : List ℕ). is_open ws (a.member g v)) set ∙ elim (same_or_not (a.member g v) rank) [
        | inl same ↦ ap (is_open (slice_set values rank value)) same ∙ open-after values rank value i small
        | inr other ↦ open-elsewhere values rank value (a.member g v) other ∙ elim (cases_lt v label) [
          | inl low ↦ shut v low
          | inr last ↦ absurd (let is : v ≡ label = omega arith in other (ap (a.member g) is ∙ here))
        ]
      ]

  pub shut-same : is_open values rank ≡ false → (v : ℕ) → v < label + 1 → is_open values (a.member g v) ≡ false
  shut-same closed v h = elim (cases_lt v label) [
    | inl low ↦ shut v low
    | inr last ↦ (let is : v ≡ label = omega arith in
        ap (λ w. is_open values (a.member g w)) is ∙ ap (is_open values) here ∙ closed)
  ]

-- if no place of a gap has an open member, the gap has no open member
pub all-shut : (a : PlainGraph) (g : ℕ) (values : List ℕ)
    → ((v : ℕ) → v < a.places → is_open values (a.member g v) ≡ false)
    → (x : ℕ) → x < a.configurations → is_member a g x ≡ true → is_open values x ≡ false
all-shut a g values shut x j member = let w = member-at a g x member in ap (is_open values) (sym w.2) ∙ shut w.0 w.1
