-- The gaps of the result of an answer: the answered gap, and those that have the answer in the place of one of its own.
use Rattle.std.proofs.Common.{◌≡◌, ℕ, zero, suc, ◌-◌, ◌<◌, ◌≤◌, ◌⊎◌, ◌↔◌, List, ◌∷◌, length, get_or, sym, ap, ◌∙◌}
use Rattle.std.proofs.Common.{subst, inl, inr, arith, refl}
use Rattle.std.specs.List.{remove}
use Rattle.board_text.specs.PlainBoard.{PlainBoard, IsBoard, places}
use Rattle.positions.specs.declared.value.Value.{Value}
use Rattle.classes.specs.Classes.{IsClass, put, class_of}
use Rattle.classes.specs.ClassGaps.{member_with, gap_at}
use Rattle.classes.specs.Numbers.{number_by_greatest}
use Rattle.classes.proofs.Cited.{class_of-class, falls-remove, remove-is}
use Rattle.gap_values.specs.GapTables.{IsClosedBefore, HasClosedGap, ClosesBy}
use Rattle.gap_values.specs.Inside.Words.{gap_table}
use Rattle.gap_values.specs.Inside.Sets.{TellClosed, IsShut}
use Rattle.gap_values.proofs.ClosedGaps.{like-closed}
use Rattle.gap_values.proofs.Words.{before-to, result-is}

module _ (board : PlainBoard) (is_board : IsBoard board) (gap : List ℕ)
    (is_gap : IsClass (places board) (board.pebbles - 1) gap) (label : ℕ) (low : label < board.labels) where
  abbrev member : List ℕ
  member = member_with gap label

  -- the same pebbles, the answering one first
  abbrev listed : List ℕ
  listed = label ∷ gap

  own : class_of gap ≡ gap
  own = class_of-class (places board) gap is_gap.falls

  member-is : IsClass (places board) board.pebbles member
  member-is = result-is board gap label is_board is_gap low

  same-class : class_of listed ≡ class_of member
  same-class = ap (put label) own ∙ sym (class_of-class (places board) member member-is.falls)

  long : suc (length gap) ≡ board.pebbles
  long = let size = is_gap.size in let some = is_board.pebbles.0 in omega arith

  other-gap : (index : ℕ) → index < length gap → gap_at listed (suc index) ≡ put label (remove gap index)
  other-gap index inside =
      ap (put label)
      (class_of-class (places board) (remove gap index) (falls-remove (places board) gap index inside is_gap.falls))

  module _ (closed : List ℕ → Value) (bound : ℕ) where
    pub closed-parts : HasClosedGap board closed member bound
        ↔ (IsClosedBefore (closed gap) bound
        ⊎ ((index : ℕ) × (index < length gap) × IsClosedBefore (closed (member_with (remove gap index) label)) bound))
    closed-parts = (
      λ has. from (like-closed board closed bound listed member
          (record { one_size = long; other_size = member-is.size; same = same-class }) has),
      λ either. like-closed board closed bound member listed
          (record { one_size = member-is.size; other_size = long; same = sym same-class }) (to either),
    )
      where
        from : HasClosedGap board closed listed bound
            → IsClosedBefore (closed gap) bound
            ⊎ ((index : ℕ) × (index < length gap) × IsClosedBefore (closed (put label (remove gap index))) bound)
        from (zero, inside, before) = inl (subst (λ g. IsClosedBefore (closed g) bound) own before)
        from (suc index, inside, before) =
            let size = long in
            let low : index < length gap = omega arith in
            inr (index, low, subst (λ g. IsClosedBefore (closed g) bound) (other-gap index low) before)

        to : IsClosedBefore (closed gap) bound
            ⊎ ((index : ℕ) × (index < length gap) × IsClosedBefore (closed (put label (remove gap index))) bound)
            → HasClosedGap board closed listed bound
        to (inl before) = (0, is_board.pebbles.0, subst (λ g. IsClosedBefore (closed g) bound) (sym own) before)
        to (inr some) =
            let size = long in
            let inside : some.0 < length gap = some.1 in (
              suc some.0,
              omega arith,
              subst (λ g. IsClosedBefore (closed g) bound) (sym (other-gap some.0 inside)) some.2,
            )

-- an open gap is shut, by sets that tell of the gaps before a round, exactly if it closes by the round
pub shut-closes : (board : PlainBoard) (words : List ℕ) (round : ℕ) (sets : List (List ℕ)) (gap : List ℕ)
    → IsBoard board → 2 ≤ board.pebbles → TellClosed board words round sets
    → IsClass (places board) (board.pebbles - 1) gap → get_or words (number_by_greatest gap) 0 ≡ 4294967295
    → IsShut board sets gap ↔ ClosesBy board (gap_table words) gap round
shut-closes board words round sets gap is_board some tell is_gap opened =
    let size : length gap ≡ board.pebbles - 1 = is_gap.size in
    let list_is : (index : ℕ) → index < length gap → IsClass (places board) (board.pebbles - 2) (remove gap index) =
    λ index inside. remove-is (places board) gap index (board.pebbles - 2) inside
    (record { size = refl; falls = is_gap.falls }) (omega arith) in (
      λ shut label answer.
          let has = shut label answer in
          (closed-parts board is_board gap is_gap label answer.is_label (gap_table words) round).1
          (inr (
            has.0,
            has.1,
            (tell.each (remove gap has.0) (list_is has.0 has.1) label answer.is_label).0 has.2,
          )),
      λ closes label answer. elim ((closed-parts board is_board gap is_gap label answer.is_label
          (gap_table words) round).0
          (closes label answer)) [
            | inl before ↦
                let finite = before-to (get_or words (number_by_greatest gap) 0) round before in
                absurd (omega (arith, finite.1, opened))
            | inr part ↦ (
              part.0,
              part.1,
              (tell.each (remove gap part.0) (list_is part.0 part.1) label answer.is_label).1 part.2,
            )
          ],
    )
