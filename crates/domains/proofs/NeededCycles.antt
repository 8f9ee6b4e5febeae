-- Two pebbles last only if domination has a cycle.
use Rattle.std.proofs.Common.{◌≡◌, ◌↔◌, ◌≢◌, ℕ, zero, suc, ◌+◌, ◌-◌, ◌==◌, ◌<◌, ◌≤◌, List, [], ◌∷◌, length}
use Rattle.std.proofs.Common.{get_or, set, replicate, refl, sym, ◌∙◌, ap, subst, arith, inl, inr, cond}
use Rattle.std.specs.Prelude.{All, Contains}
use Rattle.std.proofs.lemmas.Bool.{cases_eq, eq-eqb, ne_eqb}
use Rattle.std.proofs.lemmas.List.{length-replicate, length-set}
use Rattle.std.proofs.lemmas.Grind.{get_or-set_at}
use Rattle.std.proofs.lemmas.List.Elements.{All-contains, All-get_or, All-replicate, All-cons, All-nil}
use Rattle.board_text.specs.PlainBoard.{PlainBoard, Dominates}
use Rattle.positions.specs.Game.{LabellerTree, moved}
use Rattle.nested_cycles.proofs.Cited.{contains_none, contains_here, contains_later, contains_cases}
use Rattle.positions.proofs.Cited.{each_or_some}
use Rattle.positions.specs.Value.{HasValue}
use Rattle.positions.specs.declared.value.Value.TheVariants.{Forever}
use Rattle.domains.specs.Cycles.{HaveDominators}
use Rattle.domains.specs.Dominated.{IsHeld}
use Rattle.domains.proofs.TwoPebbles.{beaten_last}

-- ---- among more numbers than values some value comes twice

record Twice (m : ℕ) (f : ℕ → ℕ) : Type 0 where
  first : ℕ
  second : ℕ
  before : first < second
  inside : second < m
  same : f first ≡ f second

below_last : (n w x : ℕ) → x < suc n → w < suc n → x ≢ w → cond (x == n) w x < n
below_last n w x low w_low differs =
    elim (cases_eq x n) [
      | inl is ↦ subst (λ v. v < n) (sym (ap (λ t. cond t w x) (eq-eqb x n is))) (omega (arith, w_low, is, differs))
      | inr other ↦ subst (λ v. v < n) (sym (ap (λ t. cond t w x) (ne_eqb x n other))) (omega (arith, low, other))
    ]

same_before : (n w x y : ℕ) → x ≢ w → y ≢ w → cond (x == n) w x ≡ cond (y == n) w y → x ≡ y
same_before n w x y x_differs y_differs same =
    elim (cases_eq x n) [
      | inl x_is ↦ elim (cases_eq y n) [
        | inl y_is ↦ x_is ∙ sym y_is
        | inr y_other ↦ absurd (y_differs
            (sym (sym (ap (λ t. cond t w x) (eq-eqb x n x_is)) ∙ (same ∙ ap (λ t. cond t w y) (ne_eqb y n y_other)))))
      ]
      | inr x_other ↦ elim (cases_eq y n) [
        | inl y_is ↦ absurd (x_differs (sym (ap (λ t. cond t w x) (ne_eqb x n x_other))
            ∙ (same ∙ ap (λ t. cond t w y) (eq-eqb y n y_is))))
        | inr y_other ↦ sym (ap (λ t. cond t w x) (ne_eqb x n x_other))
            ∙ (same ∙ ap (λ t. cond t w y) (ne_eqb y n y_other))
      ]
    ]

twice : (n m : ℕ) (f : ℕ → ℕ) → ((t : ℕ) → t < m → f t < n) → n < m → Twice m f
twice zero m f low more = absurd (omega (arith, low 0 more))
twice (suc n) zero f low more = absurd (omega (arith, more))
twice (suc n) (suc m) f low more =
    elim (each_or_some (λ t. f t ≢ f m) (λ t. f t ≡ f m) m
    (λ t _. elim (cases_eq (f t) (f m)) [ inl same ↦ inr same | inr differs ↦ inl differs ])) [
      | inr found ↦ record { first = found.0; second = m; before = found.1; inside = omega arith; same = found.2 }
      | inl differ ↦
          let rest = twice n m (λ t. cond (f t == n) (f m) (f t))
          (λ t below. below_last n (f m) (f t) (low t (omega (arith, below))) (low m (omega arith)) (differ t below))
          (omega (arith, more)) in
          record {
            first = rest.first;
            second = rest.second;
            before = rest.before;
            inside = omega (arith, rest.inside);
            same = same_before n (f m) (f rest.first) (f rest.second)
                (differ rest.first (omega (arith, rest.before, rest.inside)))
                (differ rest.second rest.inside) rest.same;
          }
    ]

-- ---- the answers to two pebbles that are asked in turn

-- labels in a row after this one, `depth` of them, each of which beats the one before
record Rises (board : PlainBoard) (from depth : ℕ) : Type 0 where
  at : ℕ → ℕ
  start : at 0 ≡ from
  low : (t : ℕ) → t ≤ depth → at t < board.labels
  beats : (t : ℕ) → t < depth → Dominates board (at (suc t)) (at t)

abbrev shifted : ℕ → (ℕ → ℕ) → ℕ → ℕ
shifted from at zero = from
shifted from at (suc t) = at t

rises : (board : PlainBoard) (depth : ℕ) (configuration : List ℕ) (asked other : ℕ)
    → length configuration ≡ board.pebbles
    → asked < board.pebbles → other < board.pebbles → asked ≢ other → get_or configuration other 0 < board.labels
    → LabellerTree board depth configuration → Rises board (get_or configuration other 0) depth
rises board zero configuration asked other long asked_below other_below differ held tree = record {
  at = λ _. get_or configuration other 0;
  start = refl;
  low = λ _ _. held;
  beats = λ t below. absurd (omega (arith, below));
}
rises board (suc depth) configuration asked other long asked_below other_below differ held tree =
    let answer = tree asked asked_below in
    let there : get_or (set configuration asked answer.0) asked 0 ≡ answer.0 = get_or-set_at configuration asked asked
    answer.0 0 refl (omega (arith, long, asked_below)) in
    let more = rises board depth (moved configuration asked answer.0) other asked
    (length-set configuration asked answer.0 ∙ long) other_below asked_below (λ one. differ (sym one))
    (subst (λ n. n < board.labels) (sym there) answer.1.is_label) answer.2 in
    let first = get_or configuration other 0 in
    record {
      at = shifted first more.at;
      start = refl;
      low = low first held more.at more.low;
      beats = beats first more.at (subst (λ n. Dominates board n first) (sym (more.start ∙ there))
          (answer.1.dominates other other_below (λ one. differ (sym one)) held)) more.beats;
    }
  where
    low : (first : ℕ) → first < board.labels → (at : ℕ → ℕ) → ((t : ℕ) → t ≤ depth → at t < board.labels) → (t : ℕ)
        → t ≤ suc depth → shifted first at t < board.labels
    low first is at lows zero below = is
    low first is at lows (suc t) below = lows t (omega (arith, below))

    beats : (first : ℕ) (at : ℕ → ℕ) → Dominates board (at 0) first
        → ((t : ℕ) → t < depth → Dominates board (at (suc t)) (at t)) → (t : ℕ) → t < suc depth
        → Dominates board (shifted first at (suc t)) (shifted first at t)
    beats first at here later zero below = here
    beats first at here later (suc t) below = later t (omega (arith, below))

-- ---- the labels between two equal ones

abbrev row : (ℕ → ℕ) → ℕ → ℕ → List ℕ
row at first zero = []
row at first (suc count) = at first ∷ row at (suc first) count

in_row : (at : ℕ → ℕ) (first count t : ℕ) → first ≤ t → t < first + count → Contains (row at first count) (at t)
in_row at first zero t above below = absurd (omega (arith, above, below))
in_row at first (suc count) t above below =
    elim (cases_eq t first) [
      | inl same ↦ subst (λ n. Contains (at first ∷ row at (suc first) count) (at n)) (sym same)
          (contains_here (at first) (row at (suc first) count))
      | inr differs ↦ contains_later (at first) (row at (suc first) count) (at t)
          (in_row at (suc first) count t (omega (arith, above, differs)) (omega (arith, below)))
    ]

from_row : (at : ℕ → ℕ) (first count x : ℕ) → Contains (row at first count) x → (t : ℕ) × (first ≤ t)
    × (t < first + count) × (at t ≡ x)
from_row at first zero x has = absurd (contains_none x has)
from_row at first (suc count) x has =
    elim (contains_cases (at first) (row at (suc first) count) x has) [
      | inl same ↦ (first, omega arith, omega arith, same)
      | inr later ↦ let found = from_row at (suc first) count x later in
          (found.0, omega (arith, found.1), omega (arith, found.2), found.3)
    ]

all_row : (P : ℕ → Type 0) (at : ℕ → ℕ) (first count : ℕ) → ((t : ℕ) → t < first + count → P (at t))
    → All P (row at first count)
all_row P at first zero each = All-nil P
all_row P at first (suc count) each = All-cons P (at first) (row at (suc first) count) (each first (omega arith))
    (all_row P at (suc first) count (λ t below. each t (omega (arith, below))))

pub on_a_cycle : (board : PlainBoard) (configuration : List ℕ) → board.pebbles ≡ 2 → length configuration ≡ 2
    → get_or configuration 1 0 < board.labels
    → LabellerTree board board.labels configuration → (labels : List ℕ) × (0 < length labels)
    × HaveDominators board labels
on_a_cycle board configuration two long held tree =
    let up = rises board board.labels configuration 0 1 (long ∙ sym two) (omega (arith, two)) (omega (arith, two))
    (λ one. omega (arith, one)) held tree in
    let found = twice board.labels (suc board.labels) up.at (λ t below. up.low t (omega (arith, below)))
    (omega arith) in
    let count = found.second - found.first in (
      row up.at found.first count,
      some up.at found.first count (omega (arith, found.before)),
      record {
        are_labels = all_row (λ label. label < board.labels) up.at found.first count
            (λ t below. up.low t (omega (arith, below, found.before, found.inside)));
        each = λ label has.
            let here = from_row up.at found.first count label has in
            let beats = subst (Dominates board (up.at (suc here.0))) here.3
            (up.beats here.0 (omega (arith, here.2, found.before, found.inside))) in
            elim (cases_eq (suc here.0) found.second) [
              | inl end ↦
                  let again : up.at (suc here.0) ≡ up.at found.first = ap up.at end ∙ sym found.same in (
                    up.at found.first,
                    in_row up.at found.first count found.first (omega arith)
                        (omega (arith, found.before)),
                    subst (λ n. Dominates board n label) again beats,
                  )
              | inr on ↦ (
                up.at (suc here.0),
                in_row up.at found.first count (suc here.0) (omega (arith, here.1))
                    (omega (arith, here.2, on, found.before)),
                beats,
              )
            ];
      },
    )
  where
    some : (at : ℕ → ℕ) (first count : ℕ) → 0 < count → 0 < length (row at first count)
    some at first zero more = absurd (omega (arith, more))
    some at first (suc count) more = omega arith

-- ---- exactly

first_of : (labels : List ℕ) → 0 < length labels → (label : ℕ) × Contains labels label
first_of [] some = absurd (omega (arith, some))
first_of (label ∷ labels) some = (label, contains_here label labels)

pub exactly_on_cycles : (board : PlainBoard) → board.pebbles ≡ 2
    → ((configuration : List ℕ) × IsHeld board configuration × HasValue board configuration Forever)
    ↔ ((labels : List ℕ) × (0 < length labels) × HaveDominators board labels)
exactly_on_cycles board two = (
  λ start.
      let held = All-get_or (λ place. place < board.labels) start.0 1 0 (omega (arith, start.1.0, two)) start.1.1 in
      on_a_cycle board start.0 two (start.1.0 ∙ two) held (start.2 board.labels),
  λ cycle.
      let first = first_of cycle.0 cycle.1 in
      let is_label = All-contains (λ label. label < board.labels) cycle.0 first.0 cycle.2.are_labels first.1 in (
        replicate 2 first.0,
        (
          length-replicate {A = ℕ} 2 first.0
              ∙ sym two,
          All-replicate (λ place. place < board.labels) 2 first.0 is_label,
        ),
        λ depth. beaten_last board cycle.0 depth (replicate 2 first.0) cycle.2 two
            (length-replicate {A = ℕ} 2 first.0)
            (All-replicate (Contains cycle.0) 2 first.0 first.1),
      ),
)
