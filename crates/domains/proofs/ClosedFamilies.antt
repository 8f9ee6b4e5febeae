-- A configuration whose other labels, for each pebble, are in one list of a closed family lasts for ever.
use Rattle.std.proofs.Common.{◌≡◌, ◌≢◌, ℕ, zero, suc, ◌<◌, List, [], ◌∷◌, length, get_or, replicate, All, Contains}
use Rattle.std.proofs.Common.{sym, ◌∙◌, subst, arith, inl, inr}
use Rattle.std.specs.List.{remove}
use Rattle.std.proofs.lemmas.Bool.{cases_eq}
use Rattle.std.proofs.lemmas.List.{get_or-replicate, get_or-set_other, length-replicate, length-set}
use Rattle.std.proofs.lemmas.List.Edits.{length-remove}
use Rattle.std.proofs.lemmas.List.Elements.{All-contains, All-contains_itself}
use Rattle.std.proofs.lemmas.Grind.{get_or-set_at}
use Rattle.nested_cycles.proofs.Cited.{contains_here, contains_later}
use Rattle.board_text.specs.PlainBoard.{PlainBoard, Dominates}
use Rattle.positions.specs.Game.{LabellerTree, moved}
use Rattle.domains.specs.Families.{IsClosedFamily, IsCovered}
use Rattle.domains.specs.Kept.{IsKept}
use Rattle.domains.proofs.KeptProperties.{kept_lasts}
use Rattle.domains.proofs.OtherPlaces.{all_others, contains_left, left_at, others_left, spare}

module _ (board : PlainBoard) (count : ℕ) (Family : List ℕ → Type 0) (more : board.pebbles ≡ suc count)
    (closed : IsClosedFamily board count Family) where
  -- the label of each pebble but one is in the list
  pub held_in : (c labels : List ℕ) (pebble other : ℕ) → length c ≡ board.pebbles
      → All (Contains labels) (remove c pebble) → other < board.pebbles → other ≢ pebble
      → Contains labels (get_or c other 0)
  held_in c labels pebble other long all below differs =
      All-contains (Contains labels) (remove c pebble) (get_or c other 0) all
      (others_left c pebble other (omega (arith, long, below)) differs)

  -- the labels of all pebbles but two are in the list without some label of it
  pub two_left : (c labels : List ℕ) (pebble asked : ℕ) → length c ≡ board.pebbles → pebble < board.pebbles
      → asked < board.pebbles → pebble ≢ asked → length labels ≡ count → All (Contains labels) (remove c asked)
      → (index : ℕ) × (index < count) × ((other : ℕ) → other < board.pebbles → other ≢ asked → other ≢ pebble
      → Contains (remove labels index) (get_or c other 0))
  two_left c labels pebble asked long below asked_below differs many all =
      let inside : asked < length c = omega (arith, long, asked_below) in
      let there = left_at c asked pebble inside (omega (arith, long, below)) differs in
      let left = remove (remove c asked) there.0 in
      let few = length-remove c asked inside in
      let fewer = length-remove (remove c asked) there.0 there.1 in
      let free = spare labels [] left (omega (arith, few, fewer, long, more, many))
      (λ y has. inl (All-contains (Contains labels) (remove c asked) y all
      (contains_left (remove c asked) there.0 y has))) in (
        free.0,
        omega (arith, free.1, many),
        λ other other_below other_asked other_pebble.
            let at = left_at c asked other inside (omega (arith, long, other_below)) other_asked in
            let apart : at.0 ≢ there.0 = λ is. elim at.3 [
              | inl low ↦ elim there.3 [
                | inl also ↦ other_pebble (sym low.1 ∙ (is ∙ also.1))
                | inr high ↦ omega (arith, low.0, low.1, high.0, high.1, is)
              ]
              | inr high ↦ elim there.3 [
                | inl low ↦ omega (arith, low.0, low.1, high.0, high.1, is)
                | inr also ↦ other_pebble (omega (arith, also.1, high.1, is))
              ]
            ] in
            elim (free.2 (get_or c other 0)
            (subst (Contains left) at.2 (others_left (remove c asked) there.0 at.0 at.1 apart))) [
              | inl is ↦ is
              | inr none ↦ absurd {A = Contains (remove labels free.0) (get_or c other 0)} (omega (arith, none.1))
            ],
      )

  covered_kept : IsKept (IsCovered board Family) board
  covered_kept c good asked asked_below =
      let covering = good.each asked asked_below in
      let answer = closed.answered covering.0 covering.1 in
      let after = moved c asked answer.0 in
      let after_long : length after ≡ board.pebbles = length-set c asked answer.0 ∙ good.long in (
        answer.0,
        record {
          is_label = answer.1;
          dominates = λ other below differs low. All-contains (Dominates board answer.0) covering.0
              (get_or c other 0) answer.2 (held_in c covering.0 asked other good.long covering.2 below differs);
        },
        record {
          long = after_long;
          each = λ pebble below. elim (cases_eq pebble asked) [
            | inl is ↦ (
              covering.0,
              covering.1,
              all_others (Contains covering.0) after pebble (omega (arith, after_long, below))
                  (λ other inside differs.
                  let apart : other ≢ asked = λ same. differs (same ∙ sym is) in
                  subst (Contains covering.0) (sym (get_or-set_other c asked other answer.0 0 apart))
                  (held_in c covering.0 asked other good.long covering.2 (omega (arith, inside, after_long)) apart)),
            )
            | inr differs ↦
                let free = two_left c covering.0 pebble asked good.long below asked_below differs
                (closed.long covering.0 covering.1) covering.2 in
                let rest = remove covering.0 free.0 in (
                  answer.0 ∷ rest,
                  answer.3 free.0 free.1,
                  all_others (Contains (answer.0 ∷ rest)) after pebble (omega (arith, after_long, below))
                      (λ other inside apart. elim (cases_eq other asked) [
                        | inl is ↦ subst (Contains (answer.0 ∷ rest))
                            (sym (get_or-set_at c asked other answer.0 0 is (omega (arith, good.long, asked_below))))
                            (contains_here answer.0 rest)
                        | inr not ↦ subst (Contains (answer.0 ∷ rest))
                            (sym (get_or-set_other c asked other answer.0 0 not))
                            (contains_later answer.0 rest (get_or c other 0)
                            (free.2 other (omega (arith, inside, after_long)) not apart))
                      ]),
                )
          ];
        },
      )

  pub covered_last : (c : List ℕ) → IsCovered board Family c → (depth : ℕ) → LabellerTree board depth c
  covered_last = kept_lasts (IsCovered board Family) board covered_kept

  -- all on a label of a list of the family
  pub member_lasts : (labels : List ℕ) (label : ℕ) → Family labels → Contains labels label
      → (depth : ℕ) → LabellerTree board depth (replicate board.pebbles label)
  member_lasts labels label is has =
      let all = replicate board.pebbles label in
      let long : length all ≡ board.pebbles = length-replicate {A = ℕ} board.pebbles label in
      covered_last all (record {
        long = long;
        each = λ pebble below. (
          labels,
          is,
          all_others (Contains labels) all pebble (omega (arith, long, below)) (λ other inside differs.
              subst (Contains labels)
              (sym (get_or-replicate board.pebbles other label 0 (omega (arith, inside, long)))) has),
        );
      })

-- a list of a family with a label before it that may take the place of each of its labels
pub put_covered : (board : PlainBoard) (Family : List ℕ → Type 0) (label : ℕ) (labels : List ℕ)
    → board.pebbles ≡ suc (length labels) → Family labels
    → ((index : ℕ) → index < length labels → Family (label ∷ remove labels index))
    → IsCovered board Family (label ∷ labels)
put_covered board Family label labels more is again = record {
  long = omega (arith, more);
  each = each;
}
  where
    each : (pebble : ℕ) → pebble < board.pebbles
        → (list : List ℕ) × Family list × All (Contains list) (remove (label ∷ labels) pebble)
    each zero below = (labels, is, All-contains_itself labels)
    each (suc pebble) below = (
      label ∷ remove labels pebble,
      again pebble (omega (arith, below, more)),
      All-contains_itself (label ∷ remove labels pebble),
    )
