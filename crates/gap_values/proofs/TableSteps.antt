-- Tables of sets: they are added to one, and put one after the other.
use Rattle.std.proofs.Common.{◌≡◌, ℕ, ◌+◌, ◌-◌, ◌*◌, ◌<◌, ◌≤◌, ◌⊎◌, ◌↔◌, ◌++◌, true, List, [], length, get_or}
use Rattle.std.proofs.Common.{sym, ap, ◌∙◌, subst, inl, inr, arith}
use Rattle.std.proofs.Math.Nat.{mul-le-mul_right}
use Rattle.std.proofs.lemmas.Bool.{cases_lt, cases_eq}
use Rattle.std.proofs.lemmas.List.{length-append, get_or_append_left, get_or-append-add}
use Rattle.board_text.specs.Domination.{has_bit}
use Rattle.board_text.specs.PlainBoard.{PlainBoard, places}
use Rattle.board_text.specs.declared.board.TheConstants.{MAX_LABELS}
use Rattle.classes.specs.Classes.{put}
use Rattle.classes.specs.Numbers.{ways, number_by_greatest}
use Rattle.classes.proofs.Cited.{is-below}
use Rattle.gap_values.specs.Inside.Sets.{HasLabel, AreGathered, AreSetsOf, AreTablesOf, HasRound, IsInTables, IsOfRound}

-- ---- the sets of one list

-- an index into a table is one into all
pub in-table : (tables lists table list size : ℕ) → size ≡ tables * lists → table < tables → list < lists
    → table * lists + list < size
in-table tables lists table list size size_is low inside =
    let many : (table + 1) * lists ≤ tables * lists = mul-le-mul_right lists (omega arith) in omega arith

-- the set has the labels of another one, and of a list in the tables before one
abbrev pub HasTablesTo : ℕ → List (List ℕ) → ℕ → ℕ → List ℕ → List ℕ → Type 0
HasTablesTo lists told list end old new = (x : ℕ) → x < MAX_LABELS
    → (has_bit new x ≡ true) ↔ ((has_bit old x ≡ true) ⊎ IsInTables end lists told list x)

pub tables-more : (lists : ℕ) (told : List (List ℕ)) (list end : ℕ) (old now other new : List ℕ)
    → other ≡ get_or told (end * lists + list) []
    → ((x : ℕ) → x < MAX_LABELS → (has_bit new x ≡ true) ↔ ((has_bit now x ≡ true) ⊎ (has_bit other x ≡ true)))
    → HasTablesTo lists told list end old now → HasTablesTo lists told list (end + 1) old new
tables-more lists told list end old now other new other_is are was x low = (
  λ has. elim ((are x low).0 has) [
    | inl before ↦ elim ((was x low).0 before) [
      | inl first ↦ inl first
      | inr some ↦ let under : some.0 < end = some.1 in inr (some.0, omega arith, some.2)
    ]
    | inr here ↦ inr (end, omega arith, ap (λ s. has_bit s x) (sym other_is) ∙ here)
  ],
  λ either. elim either [
    | inl first ↦ (are x low).1 (inl ((was x low).1 (inl first)))
    | inr some ↦ elim (cases_eq some.0 end) [
      | inl same ↦ (are x low).1 (inr (ap (λ s. has_bit s x) other_is
          ∙ ap (λ n. has_bit (get_or told (n * lists + list) []) x) (sym same) ∙ some.2))
      | inr differ ↦
          let under : some.0 < end + 1 = some.1 in
          (are x low).1 (inl ((was x low).1 (inr (some.0, omega (arith, differ), some.2))))
    ]
  ],
)

-- ---- the sets of one list after the other

-- the sets before an index have got the labels of their lists in all tables
pub record AreAddedTo (tables lists first end : ℕ) (told old new : List (List ℕ)) : Type 0 where
  pub same_length : length new ≡ length old
  pub before : (at : ℕ) → at < end → HasTablesTo lists told (first + at) tables (get_or old at []) (get_or new at [])
  pub behind : (at : ℕ) → end ≤ at → get_or new at [] ≡ get_or old at []

-- ---- the sets in parts

-- a set of all, and the part that it was added to in
pub record IsAddedIn (tables lists : ℕ) (told old new : List (List ℕ)) (at : ℕ) : Type 0 where
  pub first : ℕ
  pub offset : ℕ
  pub before : List (List ℕ)
  pub after : List (List ℕ)
  pub place : first + offset ≡ at
  pub inside : offset < length before
  pub was : get_or before offset [] ≡ get_or old at []
  pub is : get_or after offset [] ≡ get_or new at []
  pub added : AreGathered tables lists first told before after

pub parts-added : (tables lists : ℕ) (told old new : List (List ℕ)) → length new ≡ length old
    → ((at : ℕ) → at < length old → IsAddedIn tables lists told old new at)
    → AreGathered tables lists 0 told old new
parts-added tables lists told old new size part = record {
  same_length = size;
  each = λ at label inside low.
      let here = part at inside in
      let both = here.added.each here.offset label here.inside low in
      let list : here.first + here.offset ≡ 0 + at = omega (arith, here.place) in (
        λ has. elim (both.0 (ap (λ s. has_bit s label) here.is ∙ has)) [
          | inl before ↦ inl (ap (λ s. has_bit s label) (sym here.was) ∙ before)
          | inr some ↦ inr (subst (λ n. IsInTables tables lists told n label) list some)
        ],
        λ either. ap (λ s. has_bit s label) (sym here.is) ∙ both.1 (elim either [
          | inl before ↦ inl (ap (λ s. has_bit s label) here.was ∙ before)
          | inr some ↦ inr (subst (λ n. IsInTables tables lists told n label) (sym list) some)
        ]),
      );
}

-- ---- one table, and tables behind others

pub tables-one : (b : PlainBoard) (Among : ℕ → Type 0) (sets : List (List ℕ)) → AreSetsOf b Among sets
    → AreTablesOf b 1 Among sets
tables-one b Among sets are =
    let lists : ℕ = ways (b.pebbles - 2) (places b) in
    record {
      many = omega (arith, are.many);
      each = λ list list_is label low.
          let number : ℕ = number_by_greatest list in
          let own : 0 * lists + number ≡ number = omega arith in (
            λ some.
                let one : some.0 < 1 = some.1 in
                let first : some.0 ≡ 0 = omega arith in
                let at : some.0 * lists + number ≡ number = ap (λ t. t * lists + number) first ∙ own in
                (are.each list list_is label low).0 (subst (λ n. HasLabel sets n label) at some.2),
            λ among. (
              0,
              omega arith,
              subst (λ n. HasLabel sets n label) (sym own) ((are.each list list_is label low).1 among),
            ),
          );
    }

pub tables-both : (b : PlainBoard) (all fewer more : ℕ) (One Other All : ℕ → Type 0) (low high : List (List ℕ))
    → all ≡ fewer + more → ((gap : ℕ) → (One gap ⊎ Other gap) ↔ All gap)
    → AreTablesOf b fewer One low → AreTablesOf b more Other high → AreTablesOf b all All (low ++ high)
tables-both b all fewer more One Other All low high all_is same one other =
    let lists : ℕ = ways (b.pebbles - 2) (places b) in
    let size : length low ≡ fewer * lists = one.many in
    let whole : all * lists ≡ fewer * lists + more * lists = omega (arith, ap (λ n. n * lists) all_is) in
    record {
      many = omega (arith, length-append low high, size, other.many, whole);
      each = λ list list_is label label_low.
          let number : ℕ = number_by_greatest list in
          let inside : number < lists = is-below (places b) (b.pebbles - 2) list list_is in
          let gap : ℕ = number_by_greatest (put label list) in (
            λ some.
                let table : ℕ = some.0 in
                let table_low : table < all = some.1 in
                elim (cases_lt table fewer) [
                  | inl early ↦
                      let at = get_or_append_left low high [] (table * lists + number)
                      (in-table fewer lists table number (length low) size early inside) in
                      (same gap).0 (inl ((one.each list list_is label label_low).0
                      (table, early, ap (λ s. has_bit s label) (sym at) ∙ some.2)))
                  | inr late ↦
                      let here : ℕ = table - fewer in
                      let table_is : fewer + here ≡ table = omega (arith, late) in
                      let place : length low + (here * lists + number) ≡ table * lists + number =
                      omega (arith, size, ap (λ n. n * lists) table_is) in
                      let at = get_or-append-add low high (here * lists + number) [] in
                      (same gap).0 (inr ((other.each list list_is label label_low).0 (
                        here,
                        omega (arith, table_low, table_is, all_is),
                        ap (λ s. has_bit s label) (sym at)
                            ∙ ap (λ n. has_bit (get_or (low ++ high) n []) label) place ∙ some.2,
                      )))
                ],
            λ among. elim ((same gap).1 among) [
              | inl first ↦
                  let some = (one.each list list_is label label_low).1 first in
                  let under : some.0 < fewer = some.1 in
                  let at = get_or_append_left low high [] (some.0 * lists + number)
                  (in-table fewer lists some.0 number (length low) size under inside) in
                  (some.0, omega (arith, under, all_is), ap (λ s. has_bit s label) at ∙ some.2)
              | inr behind ↦
                  let some = (other.each list list_is label label_low).1 behind in
                  let under : some.0 < more = some.1 in
                  let place : length low + (some.0 * lists + number) ≡ (fewer + some.0) * lists + number =
                  omega (arith, size) in
                  let at = get_or-append-add low high (some.0 * lists + number) [] in (
                    fewer + some.0,
                    omega (arith, under, all_is),
                    ap (λ n. has_bit (get_or (low ++ high) n []) label) (sym place) ∙ ap (λ s. has_bit s label) at
                        ∙ some.2,
                  )
            ],
          );
    }

-- words behind others are those of the gaps behind
pub round-append : (round first next : ℕ) (words others : List ℕ) → next ≡ first + length words → (gap : ℕ)
    → (IsOfRound round first words gap ⊎ IsOfRound round next others gap)
    ↔ IsOfRound round first (words ++ others) gap
round-append round first next words others next_is gap =
    let size : length (words ++ others) ≡ length words + length others = length-append words others in (
      λ either. elim either [
        | inl early ↦
            let under : early.0 < length words = early.2 in (
              early.0,
              early.1,
              omega (arith, under, size),
              get_or_append_left words others 0 early.0 under ∙ early.3,
            )
        | inr late ↦
            let under : late.0 < length others = late.2 in (
              length words + late.0,
              omega (arith, late.1, next_is),
              omega (arith, under, size),
              get_or-append-add words others late.0 0 ∙ late.3,
            )
      ],
      λ some.
          let at : ℕ = some.0 in
          let under : at < length (words ++ others) = some.2 in
          elim (cases_lt at (length words)) [
            | inl early ↦ inl (at, some.1, early, sym (get_or_append_left words others 0 at early) ∙ some.3)
            | inr late ↦
                let here : ℕ = at - length words in
                let place : length words + here ≡ at = omega (arith, late) in
                inr (
                  here,
                  omega (arith, some.1, next_is, place),
                  omega (arith, under, size, place),
                  sym (get_or-append-add words others here 0) ∙ ap (λ n. get_or (words ++ others) n 0) place ∙ some.3,
                )
          ],
    )

-- one of the words is the round, before others or behind
pub some-append : (round : ℕ) (words others : List ℕ)
    → (HasRound round words ⊎ HasRound round others) ↔ HasRound round (words ++ others)
some-append round words others =
    let size : length (words ++ others) ≡ length words + length others = length-append words others in (
      λ either. elim either [
        | inl early ↦
            let under : early.0 < length words = early.1 in
            (early.0, omega (arith, under, size), get_or_append_left words others 0 early.0 under ∙ early.2)
        | inr late ↦
            let under : late.0 < length others = late.1 in
            (length words + late.0, omega (arith, under, size), get_or-append-add words others late.0 0 ∙ late.2)
      ],
      λ some.
          let at : ℕ = some.0 in
          let under : at < length (words ++ others) = some.1 in
          elim (cases_lt at (length words)) [
            | inl early ↦ inl (at, early, sym (get_or_append_left words others 0 at early) ∙ some.2)
            | inr late ↦
                let here : ℕ = at - length words in
                let place : length words + here ≡ at = omega (arith, late) in
                inr (
                  here,
                  omega (arith, under, size, place),
                  sym (get_or-append-add words others here 0) ∙ ap (λ n. get_or (words ++ others) n 0) place ∙ some.2,
                )
          ],
    )
