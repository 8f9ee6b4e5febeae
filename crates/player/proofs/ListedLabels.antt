-- The labels of a property, listed one after the other.
use Rattle.std.proofs.Common.{◌≡◌, ℕ, ◌+◌, ◌<◌, ◌≤◌, ◌⊎◌, ◌↔◌, List, [], ◌∷◌, ◌++◌}
use Rattle.std.proofs.Common.{inl, inr, sym, subst, arith, ap, ◌∙◌, append-nil}
use Rattle.std.proofs.lemmas.Bool.{cases_lt, le-ltb, lt-ltb}
use Rattle.std.proofs.lemmas.List.Elements.{All-nil, All-push, Contains-append_left, Contains-push, Contains-push_cases}
use Rattle.std.proofs.lemmas.List.Quantifiers.{all_pairs_push}
use Rattle.std.proofs.lemmas.List.{flat_map_more, length_push, take-append-le, take_all}
use Rattle.std.specs.Prelude.{All, AllPairs, Bool, Contains, Option, if◌then◌else◌, length, take}
use Rattle.std.specs.Fmt.{decimal}
use Rattle.board_text.specs.LineForms.{spaced_numbers}
use Rattle.console.specs.Showing.{HasNoControl, IsMore, shown}
use Rattle.console.proofs.Cited.{then_more, plain_both}
use Rattle.player.specs.Inside.Prompts.{listed_label_words}
use Rattle.player.specs.declared.prompts.TheConstants.{MOST_LISTED}

low_or_last : (bound x : ℕ) → x < bound + 1 → (x < bound) ⊎ (bound ≡ x)
low_or_last bound x low =
    elim (cases_lt x bound) [
      | inl less ↦ inl less
      | inr same ↦ inr (omega (arith, low, same))
    ]

-- the numbers below the bound that have the property, in ascending order
pub record AreListed (Has : ℕ → Type 0) (bound : ℕ) (xs : List ℕ) : Type 0 where
  pub ascending : AllPairs (λ x y. x < y) xs
  pub below : All (λ x. x < bound) xs
  pub each : (x : ℕ) → Contains xs x → Has x
  pub all : (x : ℕ) → x < bound → Has x → Contains xs x

module _ (Has : ℕ → Type 0) where
  pub none_listed : AreListed Has 0 []
  none_listed = record {
    ascending = λ i j d low high. omega (arith, low, high);
    below = All-nil (λ x. x < 0);
    each = λ x has. absurd (nothing x has);
    all = λ x low has. absurd (none_below x low);
  }
    where
      none_below : (x : ℕ) → x < 0 → ⊥
      none_below x low = omega (arith, low)

      nothing : (x : ℕ) → Contains [] x → ⊥
      nothing x (k, inside, is) = omega (arith, inside)

  module _ (bound : ℕ) (xs : List ℕ) (listed : AreListed Has bound xs) where
    -- the next number has it
    pub one_more : Has bound → AreListed Has (bound + 1) (xs ++ bound ∷ [])
    one_more has = record {
      ascending = all_pairs_push (λ x y. x < y) xs bound listed.ascending listed.below;
      below = All-push (λ x. x < bound + 1) xs bound
          (λ k d inside. let low = listed.below k d inside in omega (arith, low)) (omega arith);
      each = λ x contains. each_of x (Contains-push_cases xs bound x contains);
      all = λ x low h. all_of x (low_or_last bound x low) h;
    }
      where
        each_of : (x : ℕ) → Contains xs x ⊎ (bound ≡ x) → Has x
        each_of x (inl contains) = listed.each x contains
        each_of x (inr same) = subst Has same has

        all_of : (x : ℕ) → (x < bound) ⊎ (bound ≡ x) → Has x → Contains (xs ++ bound ∷ []) x
        all_of x (inl low) h = Contains-append_left xs (bound ∷ []) x (listed.all x low h)
        all_of x (inr same) h = subst (Contains (xs ++ bound ∷ [])) same (Contains-push xs bound)

    -- the next number doesn't have it
    pub none_more : (Has bound → ⊥) → AreListed Has (bound + 1) xs
    none_more lacks = record {
      ascending = listed.ascending;
      below = λ k d inside. let low = listed.below k d inside in omega (arith, low);
      each = listed.each;
      all = λ x low h. all_of x (low_or_last bound x low) h;
    }
      where
        all_of : (x : ℕ) → (x < bound) ⊎ (bound ≡ x) → Has x → Contains xs x
        all_of x (inl low) h = listed.all x low h
        all_of x (inr same) h = absurd (lacks (subst Has (sym same) h))

    -- all that have it are below the bound
    pub all_listed : ((x : ℕ) → Has x → x < bound) → (x : ℕ) → Contains xs x ↔ Has x
    all_listed low x = (listed.each x, λ h. listed.all x (low x h) h)

-- ---- their text, of which no more than the first are listed

abbrev listed : List ℕ → List ℕ
listed xs = spaced_numbers (take MOST_LISTED xs)

-- one more label
listed_more : (xs : List ℕ) (x : ℕ) → listed xs ++ listed_label_words (length xs) x ≡ listed (xs ++ x ∷ [])
listed_more xs x = elim (cases_lt (length xs) MOST_LISTED) [
  | inl low ↦
      let within : length (xs ++ x ∷ []) ≤ MOST_LISTED = omega (arith, length_push xs x, low) in
      ap (λ l. listed xs ++ (if l then 32 ∷ decimal x else [])) (lt-ltb (length xs) MOST_LISTED low)
      ∙ flat_map_more (λ n. 32 ∷ decimal n) [] (take MOST_LISTED xs) x
      ∙ ap (λ l. spaced_numbers (l ++ x ∷ [])) (take_all MOST_LISTED xs (omega (arith, low)))
      ∙ ap spaced_numbers (sym (take_all MOST_LISTED (xs ++ x ∷ []) within))
  | inr high ↦
      ap (λ l. listed xs ++ (if l then 32 ∷ decimal x else [])) (le-ltb (length xs) MOST_LISTED high)
      ∙ append-nil (listed xs) ∙ ap spaced_numbers (sym (take-append-le MOST_LISTED xs (x ∷ []) high))
]

pub told_listed : {W : Type 0} (known : W → Option (List ℕ)) (failed : W → Bool) (a b c : W) (xs : List ℕ)
    (count x : ℕ) → length xs ≡ count → IsMore known failed a b (listed xs)
    → IsMore known failed b c (listed_label_words count x) → IsMore known failed a c (listed (xs ++ x ∷ []))
told_listed known failed a b c xs count x is before label =
    subst (IsMore known failed a c) (listed_more xs x)
    (then_more known failed a b c (listed xs) (listed_label_words (length xs) x) before
    (subst (λ n. IsMore known failed b c (listed_label_words n x)) (sym is) label))

pub plain_listed : (xs : List ℕ) (count x : ℕ) → length xs ≡ count → HasNoControl (listed xs)
    → HasNoControl (listed_label_words count x) → HasNoControl (listed (xs ++ x ∷ []))
unfolding shown
plain_listed xs count x is before label =
    subst HasNoControl (listed_more xs x)
    (plain_both (listed xs) (listed_label_words (length xs) x) before
    (subst (λ n. HasNoControl (listed_label_words n x)) (sym is) label))
