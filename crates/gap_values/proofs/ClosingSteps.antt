-- The open gaps of a round that are shut are closed, family by family.
use Rattle.std.proofs.Common.{◌≡◌, ◌≢◌, ℕ, zero, suc, ◌+◌, ◌-◌, ◌<◌, ◌≤◌, ◌⊎◌, ◌↔◌, Bool, true, cond, nat_eq, List, []}
use Rattle.std.proofs.Common.{◌∷◌, ◌++◌, length}
use Rattle.std.proofs.Common.{get_or, set, sym, ap, ◌∙◌, subst, inl, inr, arith, refl, eq-eqb, ne_eqb, below_more}
use Rattle.std.specs.List.{remove}
use Rattle.std.proofs.lemmas.Bool.{cases_lt, cases_eq, cases_Bool, both_ways}
use Rattle.std.proofs.lemmas.List.{length-append, length-set, get_or_append_left, get_or-append-add, get_or_past}
use Rattle.std.proofs.lemmas.List.{get_or-set_same, get_or-set_other}
use Rattle.std.proofs.lemmas.List.Elements.{All-from_get_or}
use Rattle.board_text.specs.Domination.{has_bit}
use Rattle.board_text.specs.PlainBoard.{PlainBoard, IsBoard, DominatesPlace, places}
use Rattle.board_text.specs.declared.board.TheConstants.{MAX_LABELS}
use Rattle.positions.specs.Gaps.{AnswersGap}
use Rattle.classes.specs.Classes.{put}
use Rattle.classes.specs.Numbers.{number_by_greatest, class_with}
use Rattle.classes.proofs.Cited.{all-put, of-all-put, member-long, others-number, number-last-others}
use Rattle.classes.specs.declared.families.Family.{Family}
use Rattle.classes.specs.FamilyWalks.{IsFamilyOf}
use Rattle.gap_values.specs.Inside.Sets.{HasLabel, IsInOthers, AreLeft, IsShut, IsPassed, ArePassed, open_count}

-- ---- the answers that are in no set yet

-- whether a label is in the set of some list before the end
abbrev pub InLists : List (List ℕ) → Family → ℕ → ℕ → ℕ → Type 0
InLists sets f v end label =
    HasLabel sets f.number label
    ⊎ ((index : ℕ) × (index < end) × HasLabel sets (get_or f.rests index 0 + v) label)

-- a test holds of some number below a bound, or of none
found-below : (test : ℕ → Bool) (bound : ℕ)
    → ((n : ℕ) × (n < bound) × (test n ≡ true)) ⊎ ((n : ℕ) × (n < bound) × (test n ≡ true) → ⊥)
found-below test zero = inr (λ some. let none : some.0 < 0 = some.1 in omega arith)
found-below test (suc bound) = elim (found-below test bound) [
  | inl some ↦ let low : some.0 < bound = some.1 in inl (some.0, omega arith, some.2)
  | inr none ↦ elim (cases_Bool (test bound)) [
    | inl last ↦ inl (bound, omega arith, last)
    | inr free ↦ inr (λ some. elim (cases_eq some.0 bound) [
      | inl here ↦ both_ways (test bound) free (ap test (sym here) ∙ some.2)
      | inr before ↦ let under : some.0 < suc bound = some.1 in none (some.0, omega (arith, before), some.2)
    ])
  ]
]

in-others-or-not : (sets : List (List ℕ)) (f : Family) (v label : ℕ)
    → IsInOthers sets f v label ⊎ (IsInOthers sets f v label → ⊥)
in-others-or-not sets f v label =
    found-below (λ index. has_bit (get_or sets (get_or f.rests index 0 + v) []) label) (length f.held)

-- ---- the labels that are in no set of the lists before an index

abbrev pub AreLeftBefore : List (List ℕ) → Family → ℕ → List ℕ → ℕ → List ℕ → Type 0
AreLeftBefore sets f v common end left = (x : ℕ) → x < MAX_LABELS → (has_bit left x ≡ true)
    ↔ ((has_bit common x ≡ true)
    × ((index : ℕ) → index < end → HasLabel sets (get_or f.rests index 0 + v) x → ⊥))

pub before-begins : (sets : List (List ℕ)) (f : Family) (v : ℕ) (common : List ℕ)
    → AreLeftBefore sets f v common 0 common
before-begins sets f v common x low = (
  λ has. (has, λ index none. absurd (omega arith)),
  λ both. both.0,
)

pub before-next : (sets : List (List ℕ)) (f : Family) (v : ℕ) (common left part new : List ℕ) (end : ℕ)
    → AreLeftBefore sets f v common end left
    → ((x : ℕ) → x < MAX_LABELS → (has_bit new x ≡ true)
    ↔ ((has_bit left x ≡ true) × (has_bit part x ≡ true → ⊥)))
    → part ≡ get_or sets (get_or f.rests end 0 + v) [] → AreLeftBefore sets f v common (end + 1) new
before-next sets f v common left part new end was new_are part_is x low = (
  λ has.
      let both = (new_are x low).0 has in
      let before = (was x low).0 both.0 in (
        before.0,
        below_more (λ index. HasLabel sets (get_or f.rests index 0 + v) x → ⊥) end before.1
            (λ in_part. both.1 (ap (λ s. has_bit s x) part_is ∙ in_part)),
      ),
  λ both. (new_are x low).1 (
    (was x low).1 (both.0, λ index under. both.1 index (omega arith)),
    λ in_part. both.1 end (omega arith) (ap (λ s. has_bit s x) (sym part_is) ∙ in_part),
  ),
)

pub before-all : (sets : List (List ℕ)) (f : Family) (v : ℕ) (common left : List ℕ) (end : ℕ) → end ≡ length f.held
    → AreLeftBefore sets f v common end left
    → (x : ℕ) → x < MAX_LABELS → (has_bit left x ≡ true)
    ↔ ((has_bit common x ≡ true) × (IsInOthers sets f v x → ⊥))
before-all sets f v common left end all was x low = (
  λ has.
      let both = (was x low).0 has in (
        both.0,
        λ some. let inside : some.0 < length f.held = some.1 in both.1 some.0 (omega arith) some.2,
      ),
  λ both. (was x low).1 (both.0, λ index under in_part. both.1 (index, omega arith, in_part)),
)

module _ (b : PlainBoard) (is : IsBoard b) (sets : List (List ℕ)) where
  small : (label : ℕ) → label < b.labels → label < MAX_LABELS
  small label low = let few = is.labels.1 in omega arith

  -- the answers of the places held that are not in their set
  pub common-is : (h : List ℕ) (number : ℕ) (answers part : List ℕ) (common : List ℕ)
      → ((x : ℕ) → x < MAX_LABELS → (has_bit answers x ≡ true) ↔ AnswersGap b h x)
      → ((x : ℕ) → x < MAX_LABELS → (has_bit common x ≡ true)
      ↔ ((has_bit answers x ≡ true) × (has_bit part x ≡ true → ⊥)))
      → part ≡ get_or sets number []
      → AreLeft b sets h (λ label. HasLabel sets number label) common
  common-is h number answers part common answers_are common_are part_is = record {
    answers = λ x low has.
        let both = (common_are x low).0 has in (
          (answers_are x low).0 both.0,
          λ in_set. both.1 (ap (λ s. has_bit s x) part_is ∙ in_set),
        );
    all = λ x answer.
        let low = small x answer.is_label in
        elim (cases_Bool (has_bit part x)) [
          | inl held ↦ inr (ap (λ s. has_bit s x) (sym part_is) ∙ held)
          | inr free ↦ inl ((common_are x low).1
              ((answers_are x low).1 answer, λ held. both_ways (has_bit part x) free held))
        ];
  }

  module _ (f : Family) (v : ℕ) where
    pub left-begins : (common live : List ℕ)
        → AreLeft b sets f.held (λ label. HasLabel sets f.number label) common
        → ((x : ℕ) → x < MAX_LABELS → (has_bit live x ≡ true) ↔ ((has_bit common x ≡ true) × DominatesPlace b x v))
        → AreLeft b sets (put v f.held) (InLists sets f v 0) live
    left-begins common live left live_are = record {
      answers = λ x low has.
          let both = (live_are x low).0 has in
          let was = left.answers x low both.0 in (
            record {
              is_label = was.0.is_label;
              dominates = all-put (DominatesPlace b x) v f.held both.1 was.0.dominates;
            },
            λ in_lists. elim in_lists [
              | inl own ↦ was.1 own
              | inr some ↦ let none : some.0 < 0 = some.1 in omega arith
            ],
          );
      all = λ x answer.
          let low = small x answer.is_label in
          let parts = of-all-put (DominatesPlace b x) v f.held answer.dominates in
          elim (left.all x (record { is_label = answer.is_label; dominates = parts.1 })) [
            | inl has ↦ inl ((live_are x low).1 (has, parts.0))
            | inr own ↦ inr (inl own)
          ];
    }

    pub left-all : (live left : List ℕ) → AreLeft b sets (put v f.held) (InLists sets f v 0) live
        → ((x : ℕ) → x < MAX_LABELS → (has_bit left x ≡ true)
        ↔ ((has_bit live x ≡ true) × (IsInOthers sets f v x → ⊥)))
        → AreLeft b sets (put v f.held) (InLists sets f v (length f.held)) left
    left-all live left begun left_are = record {
      answers = λ x low has.
          let both = (left_are x low).0 has in
          let was = begun.answers x low both.0 in (
            was.0,
            λ in_lists. elim in_lists [
              | inl own ↦ was.1 (inl own)
              | inr some ↦ both.1 some
            ],
          );
      all = λ x answer.
          let low = small x answer.is_label in
          elim (begun.all x answer) [
            | inl has ↦ elim (in-others-or-not sets f v x) [
              | inl some ↦ inr (inr some)
              | inr none ↦ inl ((left_are x low).1 (has, none))
            ]
            | inr own ↦ elim own [
              | inl in_own ↦ inr (inl in_own)
              | inr some ↦ let none : some.0 < 0 = some.1 in absurd (omega arith)
            ]
          ];
    }

    module _ (count : ℕ) (family : IsFamilyOf b count f) (low : v < f.size) where
      pub left-shut : (live : List ℕ) (index : ℕ) → index ≤ count
          → AreLeft b sets (put v f.held) (InLists sets f v index) live
          → ((x : ℕ) → x < MAX_LABELS → has_bit live x ≡ true → ⊥)
          → IsShut b sets (put v f.held)
      left-shut live index most left empty label answer =
          let long = member-long b count f family v low in
          elim (left.all label answer) [
            | inl has ↦ absurd (empty label (small label answer.is_label) has)
            | inr in_lists ↦ elim in_lists [
              | inl own ↦ (
                count,
                omega arith,
                subst (λ n. HasLabel sets n label) (sym (number-last-others b count f family v low)) own,
              )
              | inr some ↦
                  let under : some.0 < index = some.1 in (
                    some.0,
                    omega arith,
                    subst (λ n. HasLabel sets n label)
                        (sym (others-number b count f family v low some.0 (omega arith))) some.2,
                  )
            ]
          ]

      pub shut-none : (live : List ℕ) (index : ℕ) → count ≤ index
          → AreLeft b sets (put v f.held) (InLists sets f v index) live
          → IsShut b sets (put v f.held)
          → (x : ℕ) → x < MAX_LABELS → has_bit live x ≡ true → ⊥
      shut-none live index least left shut x x_low has =
          let was = left.answers x x_low has in
          let some = shut x was.0 in
          let long = member-long b count f family v low in
          let inside : some.0 < length (put v f.held) = some.1 in
          was.1 (elim (cases_lt some.0 count) [
            | inl before ↦ inr (
              some.0,
              omega arith,
              subst (λ n. HasLabel sets n x) (others-number b count f family v low some.0 before) some.2,
            )
            | inr last ↦
                let here : some.0 ≡ count = omega arith in
                inl (subst (λ n. HasLabel sets n x) (number-last-others b count f family v low)
                (subst (λ k. HasLabel sets (number_by_greatest (remove (put v f.held) k)) x) here some.2))
          ])

-- ---- the answers to some places

-- the set has the labels that dominate the places before an index
abbrev pub AreAnswersTo : PlainBoard → List ℕ → ℕ → List ℕ → Type 0
AreAnswersTo b held end found = (x : ℕ) → x < MAX_LABELS → (has_bit found x ≡ true)
    ↔ ((x < b.labels) × ((k : ℕ) → k < end → DominatesPlace b x (get_or held k 0)))

pub answers-more : (b : PlainBoard) (held found new : List ℕ) (index place : ℕ) → place ≡ get_or held index 0
    → ((x : ℕ) → x < MAX_LABELS → (has_bit new x ≡ true) ↔ ((has_bit found x ≡ true) × DominatesPlace b x place))
    → AreAnswersTo b held index found → AreAnswersTo b held (index + 1) new
answers-more b held found new index place place_is are was x low = (
  λ has.
      let both = (are x low).0 has in
      let is = (was x low).0 both.0 in (
        is.0,
        below_more (λ k. DominatesPlace b x (get_or held k 0)) index is.1 (subst (DominatesPlace b x) place_is both.1),
      ),
  λ is. (are x low).1 (
    (was x low).1 (is.0, λ k under. is.1 k (omega arith)),
    subst (DominatesPlace b x) (sym place_is) (is.1 index (omega arith)),
  ),
)

pub answers-all : (b : PlainBoard) (held found : List ℕ) (index : ℕ) → length held ≤ index → index ≤ length held
    → AreAnswersTo b held index found
    → (x : ℕ) → x < MAX_LABELS → (has_bit found x ≡ true) ↔ AnswersGap b held x
answers-all b held found index all most are x low = (
  λ has.
      let is = (are x low).0 has in
      record {
        is_label = is.0;
        dominates = All-from_get_or (DominatesPlace b x) held 0 (λ k under. is.1 k (omega arith));
      },
  λ answer. (are x low).1 (answer.is_label, λ k under. answer.dominates k 0 (omega arith)),
)

-- ---- how many words are open

pub open-few : (words : List ℕ) → open_count words ≤ length words
open-few [] = omega arith
open-few (word ∷ words) =
    let rest = open-few words in
    elim (cases_eq word 4294967295) [
      | inl open_word ↦ omega (arith, rest, ap {B = ℕ} (λ t. cond t 1 0) (eq-eqb word 4294967295 open_word))
      | inr closed_word ↦ omega (arith, rest, ap {B = ℕ} (λ t. cond t 1 0) (ne_eqb word 4294967295 closed_word))
    ]

-- each word of `new` is as in `old`, or was open and is the round
abbrev pub AreClosing : ℕ → List ℕ → List ℕ → Type 0
AreClosing round old new =
    (n : ℕ) → n < length old
    → (get_or new n 0 ≡ get_or old n 0) ⊎ ((get_or old n 0 ≡ 4294967295) × (get_or new n 0 ≡ round))

one-open : (word : ℕ) → word ≡ 4294967295 → ◌≡◌ {A = ℕ} (cond (nat_eq word 4294967295) 1 0) 1
one-open word is = ap {B = ℕ} (λ t. cond t 1 0) (eq-eqb word 4294967295 is)

none-open : (word : ℕ) → word < 4294967295 → ◌≡◌ {A = ℕ} (cond (nat_eq word 4294967295) 1 0) 0
none-open word low = ap {B = ℕ} (λ t. cond t 1 0) (ne_eqb word 4294967295 (λ same. omega (arith, same)))

open-kept : (round : ℕ) (old new : List ℕ) → round < 4294967295 → length new ≡ length old
    → AreClosing round old new → open_count new ≤ open_count old
open-kept round [] [] low size each = omega arith
open-kept round [] (new ∷ others) low size each = absurd (omega (arith, size))
open-kept round (old ∷ others) [] low size each = absurd (omega (arith, size))
open-kept round (old ∷ olds) (new ∷ news) low size each =
    let rest = open-kept round olds news low (omega (arith, size)) (λ n under. each (suc n) (omega arith)) in
    elim (each 0 (omega arith)) [
      | inl same ↦ omega (arith, rest, ap {B = ℕ} (λ w. cond (nat_eq w 4294967295) 1 0) same)
      | inr closes ↦ omega (arith, rest, one-open old closes.0, none-open new (omega (arith, closes.1)))
    ]

pub open-falls : (round : ℕ) (old new : List ℕ) (n : ℕ) → round < 4294967295 → length new ≡ length old
    → AreClosing round old new → n < length old → get_or old n 0 ≡ 4294967295 → get_or new n 0 ≡ round
    → open_count new < open_count old
open-falls round [] new n low size each inside was is = absurd (omega arith)
open-falls round (old ∷ olds) [] n low size each inside was is = absurd (omega (arith, size))
open-falls round (old ∷ olds) (new ∷ news) zero low size each inside was is =
    let rest = open-kept round olds news low (omega (arith, size)) (λ n under. each (suc n) (omega arith)) in
    omega (arith, rest, one-open old was, none-open new (omega (arith, is)))
open-falls round (old ∷ olds) (new ∷ news) (suc n) low size each inside was is =
    let rest = open-falls round olds news n low (omega (arith, size)) (λ k under. each (suc k) (omega arith))
    (omega arith) was is in
    elim (each 0 (omega arith)) [
      | inl same ↦ omega (arith, rest, ap {B = ℕ} (λ w. cond (nat_eq w 4294967295) 1 0) same)
      | inr closes ↦ omega (arith, rest, one-open old closes.0, none-open new (omega (arith, closes.1)))
    ]

-- ---- gaps are passed one after the other, in words of which the first is that of a gap

module _ (b : PlainBoard) (sets : List (List ℕ)) (round : ℕ) (low : round < 4294967295) (first : ℕ) where
  abbrev gap_of : ℕ → List ℕ
  gap_of index = class_with (places b) (b.pebbles - 1) (first + index)

  abbrev Passed : List ℕ → List ℕ → ℕ → Type 0
  Passed old new index = IsPassed b sets round (first + index) (get_or old index 0) (get_or new index 0)

  -- none of the gaps is open
  pub passed-over : (from to : ℕ) (words : List ℕ)
      → ((index : ℕ) → from ≤ index → index < to → get_or words index 0 ≢ 4294967295)
      → ArePassed b sets round first from to words words
  passed-over from to words none = record {
    same_length = refl;
    passed = λ index least under. record {
      shut = λ open_word. absurd (none index least under open_word);
      left_open = λ open_word. absurd (none index least under open_word);
      changed = inl refl;
    };
    before = λ index under. refl;
    behind = λ index past. refl;
  }

  pub passed-none : (from : ℕ) (words : List ℕ) → ArePassed b sets round first from from words words
  passed-none from words = passed-over from from words (λ index least under. absurd (omega arith))

  pub passed-kept : (from to : ℕ) (old now : List ℕ)
      → (get_or now to 0 ≡ 4294967295 → IsShut b sets (gap_of to) → ⊥)
      → ArePassed b sets round first from to old now → ArePassed b sets round first from (to + 1) old now
  passed-kept from to old now stays was =
      let same = was.behind to (omega arith) in
      record {
        same_length = was.same_length;
        passed = λ index least under. elim (cases_eq index to) [
          | inl here ↦ subst (Passed old now) (sym here) (record {
            shut = λ open_word now_round. absurd (omega (arith, same, open_word, now_round, low));
            left_open = stays;
            changed = inl same;
          })
          | inr before ↦ was.passed index least (omega (arith, before))
        ];
        before = was.before;
        behind = λ index past. was.behind index (omega arith);
      }

  pub passed-shut : (from to : ℕ) (old now : List ℕ) → from ≤ to → to < length now
      → get_or now to 0 ≡ 4294967295 → IsShut b sets (gap_of to)
      → ArePassed b sets round first from to old now
      → ArePassed b sets round first from (to + 1) old (set now to round)
  passed-shut from to old now most inside open_now is_shut was =
      let here_is : get_or (set now to round) to 0 ≡ round = get_or-set_same now to round 0 inside in
      let other : (n : ℕ) → n ≢ to → get_or (set now to round) n 0 ≡ get_or now n 0 =
      λ n differ. get_or-set_other now to n round 0 differ in
      record {
        same_length = length-set now to round ∙ was.same_length;
        passed = λ index least under. elim (cases_eq index to) [
          | inl here ↦ subst (Passed old (set now to round)) (sym here) (record {
            shut = λ open_word now_round. is_shut;
            left_open = λ open_word. absurd (omega (arith, here_is, open_word, low));
            changed = inr (sym (was.behind to (omega arith)) ∙ open_now, here_is);
          })
          | inr differ ↦ subst (IsPassed b sets round (first + index) (get_or old index 0)) (sym (other index differ))
              (was.passed index least (omega (arith, differ)))
        ];
        before = λ index under. other index (λ same. omega (arith, same)) ∙ was.before index under;
        behind = λ index past. other index (λ same. omega (arith, same)) ∙ was.behind index (omega arith);
      }

  pub passed-join : (from middle to : ℕ) (old now new : List ℕ) → from ≤ middle → middle ≤ to
      → ArePassed b sets round first from middle old now → ArePassed b sets round first middle to now new
      → ArePassed b sets round first from to old new
  passed-join from middle to old now new least most one two = record {
    same_length = two.same_length ∙ one.same_length;
    passed = λ index after under. elim (cases_lt index middle) [
      | inl early ↦ subst (IsPassed b sets round (first + index) (get_or old index 0)) (sym (two.before index early))
          (one.passed index after early)
      | inr late ↦ subst (λ w. IsPassed b sets round (first + index) w (get_or new index 0)) (one.behind index late)
          (two.passed index late under)
    ];
    before = λ index under. two.before index (omega arith) ∙ one.before index under;
    behind = λ index past. two.behind index past ∙ one.behind index (omega arith);
  }

  -- the words behind others are passed as a part of their own
  pub passed-append : (next : ℕ) (old new olds news : List ℕ) → next ≡ first + length old
      → ArePassed b sets round first 0 (length old) old new → ArePassed b sets round next 0 (length olds) olds news
      → ArePassed b sets round first 0 (length (old ++ olds)) (old ++ olds) (new ++ news)
  passed-append next old new olds news next_is one two =
      let whole : length (old ++ olds) ≡ length old + length olds = length-append old olds in
      let same : length new ≡ length old = one.same_length in
      let ends : length (new ++ news) ≡ length (old ++ olds) =
      omega (arith, whole, length-append new news, same, two.same_length) in
      record {
        same_length = ends;
        passed = λ index least under. elim (cases_lt index (length old)) [
          | inl early ↦
              subst (λ w. IsPassed b sets round (first + index) w (get_or (new ++ news) index 0))
              (sym (get_or_append_left old olds 0 index early))
              (subst (IsPassed b sets round (first + index) (get_or old index 0))
              (sym (get_or_append_left new news 0 index (omega (arith, early, same))))
              (one.passed index least early))
          | inr late ↦
              let at : ℕ = index - length old in
              let place : length old + at ≡ index = omega (arith, late) in
              let was : get_or (old ++ olds) index 0 ≡ get_or olds at 0 =
              ap (λ n. get_or (old ++ olds) n 0) (sym place) ∙ get_or-append-add old olds at 0 in
              let is : get_or (new ++ news) index 0 ≡ get_or news at 0 =
              ap (λ n. get_or (new ++ news) n 0) (sym (omega (arith, place, same)))
              ∙ get_or-append-add new news at 0 in
              let gap : next + at ≡ first + index = omega (arith, next_is, place) in
              subst (λ w. IsPassed b sets round (first + index) w (get_or (new ++ news) index 0)) (sym was)
              (subst (IsPassed b sets round (first + index) (get_or olds at 0)) (sym is)
              (subst (λ n. IsPassed b sets round n (get_or olds at 0) (get_or news at 0)) gap
              (two.passed at (omega arith) (omega (arith, whole, under, place)))))
        ];
        before = λ index under. absurd (omega arith);
        behind = λ index past.
            get_or_past (new ++ news) index 0 (omega (arith, ends, past))
            ∙ sym (get_or_past (old ++ olds) index 0 past);
      }
