-- Sets of reached numbers, as marks.
use Rattle.std.proofs.Common.{◌≡◌, ◌≢◌, ℕ, zero, suc, ◌<◌, ◌≤◌, inl, inr, refl, sym, ap, ◌∙◌, subst, arith}
use Rattle.std.proofs.Common.{Bool, true, false, List, length, slice_index_or, slice_set}
use Rattle.std.proofs.lemmas.Bool.{cases_eq, cases_lt}
use Rattle.std.proofs.lemmas.List.{get_or-set_other, get_or-set_same}
use Rattle.strategies.specs.Inside.Marks.{IsMarked, AreListed}
use Rattle.strategies.specs.Inside.Reached.{AreInOrder, HasLessRoom, IsTakenFrom, NothingIsReached}
use Rattle.strategies.specs.Inside.ReachedMarks.{ReachedMarks, AreLeftOfReached, none_reached, one_if_undone}
use Rattle.strategies.specs.Inside.ReachedMarks.{reached_by_marks, room_of_marks, undone}
use Rattle.strategies.proofs.MarkedRanks.{is_cleared, is_set, marked_inside, none_is_marked, still_set, was_set}

abbrev at : ReachedMarks → ℕ → ℕ
at marks number = one_if_undone (slice_index_or marks.reached number false) (slice_index_or marks.left number false)

-- ---- how many steps are still to be taken

module _ (marks after : ReachedMarks) where
  fewer_undone : ((number : ℕ) → at after number ≤ at marks number) → (bound : ℕ)
      → undone after bound ≤ undone marks bound
  fewer_undone few zero = omega arith
  fewer_undone few (suc bound) = omega (arith, fewer_undone few bound, few bound)

  less_undone : ((number : ℕ) → at after number ≤ at marks number) → (bound number : ℕ) → number < bound
      → at after number < at marks number → undone after bound < undone marks bound
  less_undone few zero number below less = absurd (omega arith)
  less_undone few (suc bound) number below less = elim (cases_lt number bound) [
    | inl early ↦ omega (arith, less_undone few bound number early less, few bound)
    | inr late ↦
        let last : number ≡ bound = omega arith in
        let here : at after bound < at marks bound = subst (λ (n : ℕ). at after n < at marks n) last less in
        omega (arith, fewer_undone few bound, here)
  ]

pub none_marked : (size : ℕ) → NothingIsReached (reached_by_marks (none_reached size))
none_marked size number = (none_is_marked size number, none_is_marked size number)

-- ---- a number is added

module _ (marks : ReachedMarks) (number : ℕ) (are : AreLeftOfReached marks.reached marks.left)
    (inside : number < length marks.reached) where
  abbrev added : ReachedMarks
  added = record { reached = slice_set marks.reached number true; left = slice_set marks.left number true }

  left_inside : number < length marks.left
  left_inside = omega (arith, inside, are.size)

  set_left : (other : ℕ) → other ≡ number → IsMarked added.left other
  set_left other same = subst (IsMarked added.left) (sym same) (is_set marks.left number left_inside)

  module _ (new : slice_index_or marks.reached number false ≡ false) where
    same_at : (other : ℕ) → at added other ≡ at marks other
    same_at other = elim (cases_eq other number) [
      | inl same ↦
          let left : slice_index_or added.left other false ≡ true = set_left other same in
          let was : slice_index_or marks.reached other false ≡ false =
          ap (λ n. slice_index_or marks.reached n false) same ∙ new in
          ap (one_if_undone (slice_index_or added.reached other false)) left
          ∙ sym (ap (λ b. one_if_undone b (slice_index_or marks.left other false)) was
          ∙ not_reached (slice_index_or marks.left other false))
      | inr differ ↦
          ap (λ b. one_if_undone b (slice_index_or added.left other false))
          (get_or-set_other marks.reached number other true false differ)
          ∙ ap (one_if_undone (slice_index_or marks.reached other false))
          (get_or-set_other marks.left number other true false differ)
    ]
      where
        not_reached : (left : Bool) → one_if_undone false left ≡ 1
        not_reached true = refl
        not_reached false = refl

-- ---- a number is taken

module _ (marks : ReachedMarks) (number : ℕ) (are : AreLeftOfReached marks.reached marks.left)
    (is_left : IsMarked marks.left number) where
  abbrev taken : ReachedMarks
  taken = record { reached = marks.reached; left = slice_set marks.left number false }

  inside : number < length marks.left
  inside = marked_inside marks.left number is_left

  cleared : (other : ℕ) → IsMarked taken.left other → other ≢ number
  cleared other is same = is_cleared marks.left number inside (subst (IsMarked taken.left) same is)

  pub number_taken : IsTakenFrom (reached_by_marks marks) number (reached_by_marks taken)
  number_taken = record {
    was_left = is_left;
    same = λ other. (λ is. is, λ is. is);
    left = λ other. (
      λ is. (was_set marks.left number other false (cleared other is) is, cleared other is),
      λ is. still_set marks.left number other false is.1 is.0,
    );
  }

  none_here : at taken number ≡ 0
  none_here =
      ap (λ b. one_if_undone b (slice_index_or taken.left number false)) (are.known number is_left)
      ∙ ap (one_if_undone true) (get_or-set_same marks.left number false false inside)

  one_here : at marks number ≡ 1
  one_here = ap (one_if_undone (slice_index_or marks.reached number false)) is_left

  few_at : (other : ℕ) → at taken other ≤ at marks other
  few_at other = elim (cases_eq other number) [
    | inl same ↦
        let none : at taken other ≡ 0 = ap (at taken) same ∙ none_here in omega (arith, none)
    | inr differ ↦
        let same : at taken other ≡ at marks other =
        ap (one_if_undone (slice_index_or marks.reached other false))
        (get_or-set_other marks.left number other false false differ) in
        omega (arith, same)
  ]

  pub less_room : HasLessRoom (room_of_marks marks) (room_of_marks taken)
  less_room = record {
    bound = refl;
    most = refl;
    steps = less_undone marks taken few_at (length marks.reached) number
        (omega (arith, inside, are.size)) (omega (arith, none_here, one_here));
  }

-- ---- the numbers in order

pub marks_in_order : (marks : List Bool) (from : ℕ) (numbers : List ℕ) → AreListed (IsMarked marks) 0 from numbers
    → ((number : ℕ) → from ≤ number → IsMarked marks number → ⊥) → AreInOrder (IsMarked marks) numbers
marks_in_order marks from numbers listed none = record {
  each = λ number. (
    λ among. ((listed.each number).0 among).0,
    λ marked. elim (cases_lt number from) [
      | inl early ↦ (listed.each number).1 (marked, omega arith, early)
      | inr late ↦ absurd (none number late marked)
    ],
  );
  ascending = listed.ascending;
}
