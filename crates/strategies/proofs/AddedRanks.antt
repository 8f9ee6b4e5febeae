-- Ranks that are added to others.
use Rattle.std.proofs.Common.{◌≡◌, ◌≢◌, ℕ, ◌+◌, ◌<◌, ◌≤◌, ◌⊎◌, ◌↔◌, inl, inr, refl, sym, ap, ◌∙◌, subst, arith}
use Rattle.std.proofs.Common.{List, [], ◌∷◌, ◌++◌, length}
use Rattle.std.specs.List.{AllPairs, Contains}
use Rattle.std.specs.Set.{is_member}
use Rattle.std.proofs.Math.Dec.{eqb}
use Rattle.std.proofs.lemmas.Bool.{cases_lt, cases_Bool, eqb-true}
use Rattle.std.proofs.lemmas.Bool.Decides.{Decides-eqb, not_from_Decides}
use Rattle.std.proofs.lemmas.List.{append-nil, append_assoc}
use Rattle.std.proofs.lemmas.List.Elements.{Contains-append_left, Contains-push, Contains-push_cases}
use Rattle.std.proofs.lemmas.Map.Made.{IsDistinct-from_AllPairs, is_member-Decides}
use Rattle.std.proofs.lemmas.Map.Steps.{length-le_from_distinct_below}
use Rattle.std.proofs.lemmas.Map.Views.{Contains-from_any}

-- the rank was added after the others, or was among them
pub record IsWith (before : List ℕ) (rank : ℕ) (after : List ℕ) : Type 0 where
  pub known : Contains before rank → after ≡ before
  pub other : ¬ Contains before rank → after ≡ before ++ rank ∷ []

-- the ranks of which the fact holds are added, after the others
pub record IsWithAll (before : List ℕ) (P : ℕ → Type 0) (after : List ℕ) : Type 0 where
  pub each : (rank : ℕ) → Contains after rank ↔ (Contains before rank ⊎ P rank)
  pub behind : (more : List ℕ) × (after ≡ before ++ more)

-- a list without repetitions of numbers below a bound is no longer than the bound
pub few_apart : (ranks : List ℕ) (bound : ℕ) → AllPairs (λ first second. first ≢ second) ranks
    → ((rank : ℕ) → Contains ranks rank → rank < bound) → length ranks ≤ bound
few_apart ranks bound apart below =
    length-le_from_distinct_below ranks bound (IsDistinct-from_AllPairs {eq = eqb} Decides-eqb ranks apart)
    (λ rank any. below rank (Contains-from_any {eq = eqb} eqb-true rank ranks any))

pub contains_or_not : (xs : List ℕ) (x : ℕ) → Contains xs x ⊎ ¬ Contains xs x
contains_or_not xs x =
    let tells = is_member-Decides {eq = eqb} Decides-eqb xs x in
    elim (cases_Bool (is_member eqb xs x)) [
      | inl is ↦ inl (tells.0 is)
      | inr not ↦
          inr (not_from_Decides (is_member eqb xs x) tells not)
    ]

-- if all ranks of which the fact holds are in the list, none is added
pub added_known : (ranks : List ℕ) (P : ℕ → Type 0) → ((rank : ℕ) → P rank → Contains ranks rank)
    → IsWithAll ranks P ranks
added_known ranks P there = record {
  each = λ rank. (λ among. inl among, λ either. elim either [ inl among ↦ among | inr holds ↦ there rank holds ]);
  behind = ([], sym (append-nil ranks));
}

-- one rank is added
pub added_one : (ranks more : List ℕ) (rank : ℕ) (P : ℕ → Type 0) → IsWith ranks rank more → P rank
    → ((other : ℕ) → P other → other ≡ rank) → IsWithAll ranks P more
added_one ranks more rank P with holds only = elim (contains_or_not ranks rank) [
  | inl among ↦ subst (IsWithAll ranks P) (sym (with.known among))
      (added_known ranks P (λ other is. subst (Contains ranks) (sym (only other is)) among))
  | inr new ↦ subst (IsWithAll ranks P) (sym (with.other new)) (record {
    each = λ other. (
      λ among. elim (Contains-push_cases ranks rank other among) [
        | inl old ↦ inl old
        | inr last ↦
            inr (subst P last holds)
      ],
      λ either. elim either [
        | inl old ↦ Contains-append_left ranks (rank ∷ []) other old
        | inr is ↦ subst (Contains (ranks ++ rank ∷ [])) (sym (only other is)) (Contains-push ranks rank)
      ],
    );
    behind = (rank ∷ [], refl);
  })
]

pub added_same : (ranks more : List ℕ) (P Q : ℕ → Type 0) → ((rank : ℕ) → P rank ↔ Q rank) → IsWithAll ranks P more
    → IsWithAll ranks Q more
added_same ranks more P Q same added = record {
  each = λ rank. (
    λ among. elim ((added.each rank).0 among) [ inl old ↦ inl old | inr is ↦ inr ((same rank).0 is) ],
    λ either. (added.each rank).1 (elim either [ inl old ↦ inl old | inr is ↦ inr ((same rank).1 is) ]),
  );
  behind = added.behind;
}

-- ---- facts of some number below a bound

abbrev pub Below : (ℕ → ℕ → Type 0) → ℕ → ℕ → Type 0
Below P bound rank = (number : ℕ) × (number < bound) × P number rank

pub added_start : (ranks : List ℕ) (P : ℕ → ℕ → Type 0) → IsWithAll ranks (Below P 0) ranks
added_start ranks P = added_known ranks (Below P 0) (λ rank is. absurd (let below : is.0 < 0 = is.1 in omega arith))

pub added_more : (ranks some more : List ℕ) (P : ℕ → ℕ → Type 0) (bound : ℕ) → IsWithAll ranks (Below P bound) some
    → IsWithAll some (P bound) more
    → IsWithAll ranks (Below P (bound + 1)) more
added_more ranks some more P bound first second = record {
  each = λ rank. (
    λ among. elim ((second.each rank).0 among) [
      | inl before ↦ elim ((first.each rank).0 before) [
        | inl old ↦ inl old
        | inr is ↦ inr (is.0, let below : is.0 < bound = is.1 in omega arith, is.2)
      ]
      | inr is ↦ inr (bound, omega arith, is)
    ],
    λ either. (second.each rank).1 (elim either [
      | inl old ↦ inl ((first.each rank).1 (inl old))
      | inr is ↦ elim (cases_lt is.0 bound) [
        | inl early ↦ inl ((first.each rank).1 (inr (is.0, early, is.2)))
        | inr late ↦ inr (let last : is.0 < bound + 1 = is.1 in let same : is.0 ≡ bound = omega arith in
            subst (λ (n : ℕ). P n rank) same is.2)
      ]
    ]),
  );
  behind = (
    first.behind.0 ++ second.behind.0,
    second.behind.1 ∙ ap (λ (xs : List ℕ). xs ++ second.behind.0) first.behind.1
        ∙ append_assoc ranks first.behind.0 second.behind.0,
  );
}

-- if P holds at no number from one bound to another, both bounds give the same ranks
pub below_same : (P : ℕ → ℕ → Type 0) (bound more rank : ℕ) → bound ≤ more
    → ((number : ℕ) → bound ≤ number → number < more → ¬ P number rank)
    → Below P bound rank ↔ Below P more rank
below_same P bound more rank enough none = (
  λ is. (is.0, let below : is.0 < bound = is.1 in omega arith, is.2),
  λ is. elim (cases_lt is.0 bound) [ inl early ↦ (is.0, early, is.2) | inr late ↦ absurd (none is.0 late is.1 is.2) ],
)

-- if P holds only at numbers below the bound, the bound may be left out
pub below_all : (P : ℕ → ℕ → Type 0) (bound rank : ℕ) → ((number : ℕ) → P number rank → number < bound)
    → Below P bound rank ↔ ((number : ℕ) × P number rank)
below_all P bound rank all = (λ is. (is.0, is.2), λ is. (is.0, all is.0 is.1, is.1))
