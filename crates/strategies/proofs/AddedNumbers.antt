-- Numbers that are reached beside others.
use Rattle.std.proofs.Common.{◌≡◌, ℕ, ◌+◌, ◌<◌, ◌≤◌, ◌↔◌, inl, inr, sym, subst, arith}
use Rattle.std.proofs.lemmas.Bool.{cases_lt}
use Rattle.strategies.specs.Inside.Reached.{ReachedBy, AreReachedWith}

-- the fact holds of a number below the bound and this one
abbrev pub Below : (ℕ → ℕ → Type 0) → ℕ → ℕ → Type 0
Below P bound number = (of : ℕ) × (of < bound) × P of number

-- if all numbers of which the fact holds are reached, none is added
pub reached_known : (set : ReachedBy) (P : ℕ → Type 0) → ((number : ℕ) → P number → set.Among number)
    → AreReachedWith set P set
reached_known set P there = record {
  each = λ number. (λ is. inl is, λ either. elim either [ inl is ↦ is | inr holds ↦ there number holds ]);
  kept = λ number is. is;
  fresh = λ number is. inl is;
  only = λ number is. inl is;
}

pub reached_same : (before after : ReachedBy) (P Q : ℕ → Type 0) → ((number : ℕ) → P number ↔ Q number)
    → AreReachedWith before P after → AreReachedWith before Q after
reached_same before after P Q same with = record {
  each = λ number. (
    λ among. elim ((with.each number).0 among) [ inl old ↦ inl old | inr is ↦ inr ((same number).0 is) ],
    λ either. (with.each number).1 (elim either [ inl old ↦ inl old | inr is ↦ inr ((same number).1 is) ]),
  );
  kept = with.kept;
  fresh = with.fresh;
  only = with.only;
}

-- the one number of which the fact holds is added
pub reached_one : (before after : ReachedBy) (P : ℕ → Type 0) (number : ℕ)
    → AreReachedWith before (λ other. other ≡ number) after → P number
    → ((other : ℕ) → P other → other ≡ number) → AreReachedWith before P after
reached_one before after P number with holds only =
    reached_same before after (λ other. other ≡ number) P
    (λ other. (λ same. subst P (sym same) holds, only other)) with

-- ---- facts of some number below a bound

pub reached_start : (set : ReachedBy) (P : ℕ → ℕ → Type 0) → AreReachedWith set (Below P 0) set
reached_start set P =
    reached_known set (Below P 0) (λ number is. absurd (let below : is.0 < 0 = is.1 in omega arith))

pub reached_more : (before some after : ReachedBy) (P : ℕ → ℕ → Type 0) (bound : ℕ)
    → AreReachedWith before (Below P bound) some
    → AreReachedWith some (P bound) after
    → AreReachedWith before (Below P (bound + 1)) after
reached_more before some after P bound first second = record {
  each = λ number. (
    λ among. elim ((second.each number).0 among) [
      | inl earlier ↦ elim ((first.each number).0 earlier) [
        | inl old ↦ inl old
        | inr is ↦ inr (is.0, let below : is.0 < bound = is.1 in omega arith, is.2)
      ]
      | inr is ↦ inr (bound, omega arith, is)
    ],
    λ either. (second.each number).1 (elim either [
      | inl old ↦ inl ((first.each number).1 (inl old))
      | inr is ↦ elim (cases_lt is.0 bound) [
        | inl early ↦ inl ((first.each number).1 (inr (is.0, early, is.2)))
        | inr late ↦ inr (let last : is.0 < bound + 1 = is.1 in let same : is.0 ≡ bound = omega arith in
            subst (λ (n : ℕ). P n number) same is.2)
      ]
    ]),
  );
  kept = λ number is. second.kept number (first.kept number is);
  fresh = λ number among. elim (second.fresh number among) [
    | inl earlier ↦ elim (first.fresh number earlier) [
      | inl old ↦ inl old
      | inr new ↦ inr (second.kept number new)
    ]
    | inr new ↦ inr new
  ];
  only = λ number is. elim (second.only number is) [
    | inl earlier ↦ elim (first.only number earlier) [
      | inl old ↦ inl old
      | inr new ↦ inr (new.0, (second.each number).1 (inl new.1))
    ]
    | inr new ↦ inr (λ old. new.0 ((first.each number).1 (inl old)), new.1)
  ];
}

-- if P holds at no number from one bound to another, both bounds give the same numbers
pub below_same : (P : ℕ → ℕ → Type 0) (bound more number : ℕ) → bound ≤ more
    → ((of : ℕ) → bound ≤ of → of < more → ¬ P of number)
    → Below P bound number ↔ Below P more number
below_same P bound more number enough none = (
  λ is. (is.0, let below : is.0 < bound = is.1 in omega arith, is.2),
  λ is. elim (cases_lt is.0 bound) [ inl early ↦ (is.0, early, is.2) | inr late ↦ absurd (none is.0 late is.1 is.2) ],
)

-- if P holds only at numbers below the bound, the bound may be left out
pub below_all : (P : ℕ → ℕ → Type 0) (bound number : ℕ) → ((of : ℕ) → P of number → of < bound)
    → Below P bound number ↔ ((of : ℕ) × P of number)
below_all P bound number all = (λ is. (is.0, is.2), λ is. (is.0, all is.0 is.1, is.1))
