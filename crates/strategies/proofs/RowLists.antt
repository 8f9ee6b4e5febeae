-- Lists of exactly the rows of a document, built number by number.
use Rattle.std.proofs.Common.{◌≡◌, ℕ, ◌+◌, ◌<◌, ◌≤◌, ◌↔◌, List, [], ◌∷◌, ◌++◌, get_or, subst, inl, inr, arith}
use Rattle.std.specs.List.{Contains}
use Rattle.std.proofs.lemmas.Bool.{cases_lt}
use Rattle.std.proofs.lemmas.List.Elements.{Contains-get_or, Contains-append_left, Contains-push, Contains-push_cases}
use Rattle.std.proofs.lemmas.List.Quantifiers.{all_pairs_push}
use Rattle.strategies.specs.PositionDocument.{AreExactlyOver}

-- exactly the rows whose places have numbers below the bound
abbrev pub AreExactlyBelow : {X : Type 0} → (List ℕ → ℕ) → (X → Type 0) → (X → List ℕ) → ℕ → List X → Type 0
AreExactlyBelow number IsRow at bound = AreExactlyOver number (λ row. IsRow row × (number (at row) < bound)) at

module _ {X : Type 0} (number : List ℕ → ℕ) (at : X → List ℕ) where
  -- if two facts hold of the same rows, exactly these rows are listed for both
  pub same_fact : (P Q : X → Type 0) (rows : List X) → ((row : X) → P row ↔ Q row) → AreExactlyOver number P at rows
      → AreExactlyOver number Q at rows
  same_fact P Q rows same exactly = record {
    each = λ row. (λ among. (same row).0 ((exactly.each row).0 among), λ is. (exactly.each row).1 ((same row).1 is));
    ascending = exactly.ascending;
  }

  pub no_rows : (IsRow : X → Type 0) → ((row : X) → IsRow row → ⊥) → AreExactlyOver number IsRow at []
  no_rows IsRow none = record {
    each = λ row. (λ among. absurd (let inside : among.0 < 0 = among.1 in omega arith), λ is. absurd (none row is));
    ascending = λ i j d less inside. absurd (omega arith);
  }

  pub one_row : (IsRow : X → Type 0) (row : X) → IsRow row → ((other : X) → IsRow other → row ≡ other)
      → AreExactlyOver number IsRow at (row ∷ [])
  one_row IsRow row is only = record {
    each = λ other. (
      λ among. elim (Contains-push_cases [] row other among) [
        | inl none ↦ absurd (let inside : none.0 < 0 = none.1 in omega arith)
        | inr same ↦ subst IsRow same is
      ],
      λ also. subst (Contains (row ∷ [])) (only other also) (Contains-push [] row),
    );
    ascending = λ i j d less inside. absurd (omega arith);
  }

module _ {X : Type 0} (number : List ℕ → ℕ) (IsRow : X → Type 0) (at : X → List ℕ) where
  -- numbers without a row are passed over
  pub pass_numbers : (bound next : ℕ) (rows : List X) → bound ≤ next → AreExactlyBelow number IsRow at bound rows
      → ((row : X) → IsRow row → bound ≤ number (at row) → number (at row) < next → ⊥)
      → AreExactlyBelow number IsRow at next rows
  pass_numbers bound next rows more exactly none = same_fact number at _ _ rows (λ row. (
    λ is. (is.0, let below : number (at row) < bound = is.1 in omega arith),
    λ is. (
      is.0,
      elim (cases_lt (number (at row)) bound) [
        | inl below ↦ below
        | inr above ↦
            absurd (none row is.0 above is.1)
      ],
    ),
  )) exactly

  -- the only row of the next number is appended
  pub push_row : (bound : ℕ) (rows : List X) (row : X) → AreExactlyBelow number IsRow at bound rows → IsRow row
      → number (at row) ≡ bound
      → ((other : X) → IsRow other → number (at other) ≡ bound → row ≡ other)
      → AreExactlyBelow number IsRow at (bound + 1) (rows ++ row ∷ [])
  push_row bound rows row exactly is_row here only = record {
    each = λ other. (
      λ among. elim (Contains-push_cases rows row other among) [
        | inl before ↦ let is = (exactly.each other).0 before in
            (is.0, let below : number (at other) < bound = is.1 in omega arith)
        | inr same ↦ subst (λ (r : X). IsRow r × (number (at r) < bound + 1)) same (is_row, omega (arith, here))
      ],
      λ is. elim (cases_lt (number (at other)) bound) [
        | inl below ↦ Contains-append_left rows (row ∷ []) other ((exactly.each other).1 (is.0, below))
        | inr above ↦
            let next : number (at other) < bound + 1 = is.1 in
            subst (Contains (rows ++ row ∷ [])) (only other is.0 (omega arith)) (Contains-push rows row)
      ],
    );
    ascending = all_pairs_push (λ first second. number (at first) < number (at second)) rows row exactly.ascending
        (λ k d inside.
        let below : number (at (get_or rows k d)) < bound = ((exactly.each (get_or rows k d)).0
        (Contains-get_or rows k d inside)).1 in
        omega arith);
  }

  -- all numbers have been passed
  pub all_rows : (bound : ℕ) (rows : List X) → AreExactlyBelow number IsRow at bound rows
      → ((row : X) → IsRow row → number (at row) < bound)
      → AreExactlyOver number IsRow at rows
  all_rows bound rows exactly below =
      same_fact number at _ IsRow rows (λ row. (λ is. is.0, λ is. (is, below row is))) exactly
