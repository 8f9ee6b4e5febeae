-- Sets of reached numbers, as lists.
use Rattle.std.proofs.Common.{◌≡◌, ◌≢◌, ℕ, ◌+◌, ◌^◌, ◌<◌, ◌≤◌, inl, inr, refl, sym, ap, ◌∙◌, subst, arith}
use Rattle.std.proofs.Common.{List, [], ◌∷◌, ◌++◌, Some, None, length, slice_get, slice_index}
use Rattle.std.specs.List.{AllPairs, Contains}
use Rattle.std.proofs.lemmas.Bool.{cases_lt}
use Rattle.std.proofs.lemmas.List.{get_or_append_left, length-append}
use Rattle.std.proofs.lemmas.List.Elements.{Contains-append_left, Contains-get_or, Contains-push, Contains-push_cases}
use Rattle.std.proofs.lemmas.Option.{slice_get_within, get_or_from_slice_get, slice_get-get_or}
use Rattle.std.proofs.Math.Seq.{get_or-append_seam}
use Rattle.strategies.specs.Inside.Reached.{AreReachedWith, HasLessRoom, HasTooMany, IsTakenFrom, NoneIsLeft}
use Rattle.strategies.specs.Inside.ReachedLists.{ReachedList, reached_by_list, room_of_list}
use Rattle.strategies.proofs.AddedRanks.{IsWith, contains_or_not}
use Rattle.strategies.specs.declared.unmade.Unmade.TheVariants.{TooLong}
use Rattle.strategies.proofs.AddedNumbers.{reached_known}

-- ---- a number is added

abbrev with_numbers : ReachedList → List ℕ → ReachedList
with_numbers list numbers = record { numbers = numbers; taken = list.taken; most = list.most }

new_added : (list : ReachedList) (number : ℕ) → list.taken ≤ length list.numbers → ¬ Contains list.numbers number
    → AreReachedWith (reached_by_list list) (λ other. other ≡ number)
    (reached_by_list (with_numbers list (list.numbers ++ number ∷ [])))
new_added list number are new = record {
  each = λ other. (
    λ among. elim (Contains-push_cases numbers number other among) [ inl old ↦ inl old | inr same ↦ inr (sym same) ],
    λ either. elim either [
      | inl old ↦ Contains-append_left numbers (number ∷ []) other old
      | inr same ↦ subst (Contains more) (sym same) (Contains-push numbers number)
    ],
  );
  kept = λ other after. (
    after.0,
    after.1,
    let inside : after.0 < length numbers = after.2 in omega (arith, inside, longer),
    get_or_append_left numbers (number ∷ []) 0 after.0 after.2 ∙ after.3,
  );
  fresh = λ other among. elim (Contains-push_cases numbers number other among) [
    | inl old ↦ inl old
    | inr same ↦ inr (length numbers, are, omega (arith, longer), get_or-append_seam numbers number [] 0 ∙ same)
  ];
  only = λ other after. elim (cases_lt after.0 (length numbers)) [
    | inl early ↦ inl (
      after.0,
      after.1,
      early,
      sym (get_or_append_left numbers (number ∷ []) 0 after.0 early) ∙ after.3,
    )
    | inr late ↦
        let inside : after.0 < length more = after.2 in
        let last : after.0 ≡ length numbers = omega (arith, late, inside, longer) in
        let same : number ≡ other =
        sym (get_or-append_seam numbers number [] 0) ∙ ap (slice_index more) (sym last) ∙ after.3 in
        inr (
          λ old. new (subst (Contains numbers) (sym same) old),
          subst (Contains more) same (Contains-push numbers number),
        )
  ];
}
  where
    numbers : List ℕ
    numbers = list.numbers

    more : List ℕ
    more = numbers ++ number ∷ []

    longer : length more ≡ length numbers + 1
    longer = length-append numbers (number ∷ [])

pub number_listed : (list : ReachedList) (number : ℕ) (numbers : List ℕ) → list.taken ≤ length list.numbers
    → IsWith list.numbers number numbers
    → AreReachedWith (reached_by_list list) (λ other. other ≡ number) (reached_by_list (with_numbers list numbers))
number_listed list number numbers are with = elim (contains_or_not list.numbers number) [
  | inl among ↦ subst (λ (l : List ℕ). AreReachedWith (reached_by_list list) (λ other. other ≡ number)
      (reached_by_list (with_numbers list l))) (sym (with.known among))
      (reached_known (reached_by_list list) (λ other. other ≡ number)
      (λ other same. subst (Contains list.numbers) (sym same) among))
  | inr new ↦ subst (λ (l : List ℕ). AreReachedWith (reached_by_list list) (λ other. other ≡ number)
      (reached_by_list (with_numbers list l))) (sym (with.other new)) (new_added list number are new)
]

-- ---- a number is taken

module _ (list : ReachedList) where
  pub none_after : slice_get list.numbers list.taken ≡ None → NoneIsLeft (reached_by_list list)
  none_after end number after = elim (cases_lt list.taken (length list.numbers)) [
    | inl inside ↦
        let there : slice_get list.numbers list.taken ≡ Some (slice_index list.numbers list.taken) =
        slice_get-get_or list.numbers list.taken 0 inside in
        absurd cc
    | inr past ↦
        let low : list.taken ≤ after.0 = after.1 in
        let inside : after.0 < length list.numbers = after.2 in
        omega (arith, past, low, inside)
  ]

  module _ (once : AllPairs (λ first second. first ≢ second) list.numbers) where
    pub too_many : list.most < length list.numbers → HasTooMany (reached_by_list list) list.most TooLong
    too_many many = (
      list.numbers,
      once,
      λ k d inside. Contains-get_or list.numbers k d inside,
      many,
    )

    module _ (number : ℕ) (there : slice_get list.numbers list.taken ≡ Some number) where
      abbrev next : ReachedList
      next = record { numbers = list.numbers; taken = list.taken + 1; most = list.most }

      inside : list.taken < length list.numbers
      inside = slice_get_within list.numbers list.taken number there

      here : slice_index list.numbers list.taken ≡ number
      here = get_or_from_slice_get list.numbers list.taken number 0 there

      pub number_taken : IsTakenFrom (reached_by_list list) number (reached_by_list next)
      number_taken = record {
        was_left = (list.taken, omega arith, inside, here);
        same = λ other. (λ is. is, λ is. is);
        left = λ other. (
          λ after. (
            (after.0, let low : list.taken + 1 ≤ after.0 = after.1 in omega (arith, low), after.2, after.3),
            λ same. once list.taken after.0 0 (let low : list.taken + 1 ≤ after.0 = after.1 in omega (arith, low))
                after.2 (here ∙ sym same ∙ sym after.3),
          ),
          λ is. elim (cases_lt list.taken is.0.0) [
            | inl later ↦ (is.0.0, omega (arith, later), is.0.2, is.0.3)
            | inr not ↦
                let low : list.taken ≤ is.0.0 = is.0.1 in
                let at : is.0.0 ≡ list.taken = omega (arith, not, low) in
                absurd (is.1 (sym is.0.3 ∙ ap (slice_index list.numbers) at ∙ here))
          ],
        );
      }

      pub less_room : list.taken < 2 ^ 64 → HasLessRoom (room_of_list list) (room_of_list next)
      less_room low = record { bound = refl; most = refl; steps = omega (arith, low) }
