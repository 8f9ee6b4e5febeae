-- If short chains are dominated, each label that dominates the others' labels is a right answer, and labels are many.
use Rattle.std.proofs.Common.{◌≡◌, ◌≢◌, ℕ, Bool, true, suc, ◌-◌, ◌^◌, ◌<◌, ◌≤◌, List, ◌∷◌, length, get_or, replicate}
use Rattle.std.proofs.Common.{All, Contains, sym, ◌∙◌, refl, subst, arith, inl, inr}
use Rattle.std.specs.List.{filter, remove}
use Rattle.std.proofs.lemmas.Bool.{cases_eq}
use Rattle.std.proofs.lemmas.List.{get_or-set_other, length-replicate, length-set}
use Rattle.std.proofs.lemmas.List.Edits.{length-remove}
use Rattle.std.proofs.lemmas.List.Elements.{All-contains, All-weaker, filter_passes}
use Rattle.std.proofs.lemmas.List.Sums.{count_by-le-length, length-filter}
use Rattle.std.proofs.lemmas.Grind.{get_or-set_at}
use Rattle.nested_cycles.proofs.Cited.{contains_here, contains_later, each_of}
use Rattle.board_text.specs.PlainBoard.{PlainBoard, Dominates, IsAntisymmetric}
use Rattle.positions.specs.Game.{Legal, moved}
use Rattle.domains.specs.Carried.{with_pebbles}
use Rattle.chains.specs.Chains.{AreChained, AreChainsDominated}
use Rattle.domains.specs.Families.{IsCovered}
use Rattle.domains.proofs.ClosedFamilies.{held_in, two_left}
use Rattle.domains.proofs.DominatedChains.{IsFull, IsShort, dominated_chains_last, filled, full_closed}
use Rattle.domains.proofs.LastingChains.{chained_more, chained_without}
use Rattle.domains.proofs.NeededLabels.{labels_needed}
use Rattle.domains.proofs.OtherPlaces.{all_others, others_left}
use Rattle.domains.proofs.ProductBoards.{kept}
use Rattle.domains.proofs.ProductChains.{chained_filter}
use Rattle.domains.proofs.ResiduesModuloNineteen.{among, is_among, is_found}

module _ (board : PlainBoard) (count : ℕ) (more : board.pebbles ≡ suc count)
    (dominated : AreChainsDominated board count) (c : List ℕ) (asked label : ℕ)
    (covered : IsCovered board (IsShort board count) c) (asked_below : asked < board.pebbles)
    (legal : Legal board c asked label) where
  others : List ℕ
  others = remove c asked

  test : ℕ → Bool
  test = is_among others

  inside : asked < length c
  inside = let long = covered.long in omega (arith, long, asked_below)

  -- the answer dominates each label that another pebble holds
  above_held : (x : ℕ) → x < board.labels → Contains others x → Dominates board label x
  unfolding others
  above_held x low has =
      All-contains (λ y. y < board.labels → Dominates board label y) (remove c asked) x
      (all_others (λ y. y < board.labels → Dominates board label y) c asked inside (λ other there differs.
      let long = covered.long in legal.dominates other (omega (arith, there, long)) differs)) has low

  put : (chain : List ℕ) (index : ℕ) → length chain ≡ count → AreChained board chain → index < count
      → (length (label ∷ filter test (remove chain index)) ≤ count)
      × AreChained board (label ∷ filter test (remove chain index))
  unfolding test
  put chain index long chained below =
      let rest = remove chain index in
      let there : index < length chain = omega (arith, below, long) in
      let left = chained_filter board (is_among others) rest (chained_without board chain index there chained) in (
        omega (
          arith,
          length-filter (is_among others) rest,
          count_by-le-length (is_among others) rest,
          length-remove chain index there,
          long,
          below,
        ),
        chained_more board label (filter (is_among others) rest) legal.is_label
            (each_of (λ x. Dominates board label x) (filter (is_among others) rest) (λ x has.
            above_held x (All-contains (λ n. n < board.labels) (filter (is_among others) rest) x left.are_labels has)
            (among others x (All-contains (λ y. is_among others y ≡ true) (filter (is_among others) rest) x
            (filter_passes (is_among others) rest) has)))) left,
      )

  pub answered_covered : IsCovered board (IsShort board count) (moved c asked label)
  unfolding others test
  answered_covered =
      let covering = covered.each asked asked_below in
      let full = filled board count more dominated (count - length covering.0) covering.0
      (omega (arith, covering.1.0)) covering.1.1 in
      let all : All (Contains full.0) (remove c asked)
      = All-weaker (Contains covering.0) (Contains full.0) full.2 (remove c asked) covering.2 in
      let after = moved c asked label in
      let closed = full_closed board count more dominated in
      let after_long : length after ≡ board.pebbles = length-set c asked label ∙ covered.long in record {
        long = after_long;
        each = λ pebble below. elim (cases_eq pebble asked) [
          | inl is ↦ (
            covering.0,
            covering.1,
            all_others (Contains covering.0) after pebble (omega (arith, after_long, below)) (λ other there differs.
                let apart : other ≢ asked = λ same. differs (same ∙ sym is) in
                subst (Contains covering.0) (sym (get_or-set_other c asked other label 0 apart))
                (held_in board count (IsFull board count more dominated) more closed c covering.0 asked other
                covered.long covering.2 (omega (arith, there, after_long)) apart)),
          )
          | inr differs ↦
              let free = two_left board count (IsFull board count more dominated) more closed c full.0 pebble asked
              covered.long below asked_below differs full.1.long all in
              let rest = filter (is_among (remove c asked)) (remove full.0 free.0) in (
                label ∷ rest,
                put full.0 free.0 full.1.long full.1.chained free.1,
                all_others (Contains (label ∷ rest)) after pebble (omega (arith, after_long, below))
                    (λ other there apart. elim (cases_eq other asked) [
                      | inl is ↦ subst (Contains (label ∷ rest)) (sym (get_or-set_at c asked other label 0 is inside))
                          (contains_here label rest)
                      | inr not ↦
                          let below_other : other < board.pebbles = omega (arith, there, after_long) in
                          let long = covered.long in
                          subst (Contains (label ∷ rest)) (sym (get_or-set_other c asked other label 0 not))
                          (contains_later label rest (get_or c other 0)
                          (kept (is_among (remove c asked)) (remove full.0 free.0) (get_or c other 0)
                          (free.2 other below_other not apart)
                          (is_found (remove c asked) (get_or c other 0)
                          (others_left c asked other (omega (arith, below_other, long)) not))))
                    ]),
              )
        ];
      }

-- so many processes need many labels
pub chains_need_labels : (board : PlainBoard) (count : ℕ) → IsAntisymmetric board → AreChainsDominated board count
    → 2 ^ suc count ≤ suc board.labels
chains_need_labels board count one_way dominated =
    let wider = with_pebbles board (suc count) in
    let start : List ℕ = replicate (suc count) 0 in
    labels_needed wider start one_way (length-replicate {A = ℕ} (suc count) 0)
    (dominated_chains_last wider count refl (λ chain short chained. dominated chain short
    (record { are_labels = chained.are_labels; beat = chained.beat })) 0)
