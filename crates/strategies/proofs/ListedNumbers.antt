-- The numbers of which a fact holds, listed from the smallest on.
use Rattle.std.proofs.Common.{◌≡◌, ℕ, ◌+◌, ◌<◌, ◌≤◌, List, [], ◌∷◌, ◌++◌, get_or, Some, subst, inl, inr, arith}
use Rattle.std.specs.List.{Contains}
use Rattle.std.proofs.lemmas.Bool.{cases_lt}
use Rattle.std.proofs.lemmas.List.Elements.{Contains-get_or, Contains-append_left, Contains-push, Contains-push_cases}
use Rattle.std.proofs.lemmas.List.Quantifiers.{all_pairs_push}
use Rattle.positions.specs.Counts.{IsSmallest}
use Rattle.strategies.specs.Inside.Marks.{AreListed}

module _ (P : ℕ → Type 0) (first : ℕ) where
  pub none_listed : AreListed P first first []
  none_listed = record {
    each = λ number. (
      λ among. absurd (let inside : among.0 < 0 = among.1 in omega arith),
      λ is. absurd (let from : first ≤ number = is.1 in let below : number < first = is.2 in omega arith),
    );
    ascending = λ i j d less inside. absurd (omega arith);
  }

  -- the next of them is appended
  pub next_listed : (bound : ℕ) (numbers : List ℕ) (next : ℕ) → first ≤ bound → AreListed P first bound numbers
      → IsSmallest (λ number. (bound ≤ number) × P number) (Some next)
      → AreListed P first (next + 1) (numbers ++ next ∷ [])
  next_listed bound numbers next from are least =
      let above : bound ≤ next = least.0.0 in record {
        each = λ number. (
          λ among. elim (Contains-push_cases numbers next number among) [
            | inl before ↦
                let is = (are.each number).0 before in
                let below : number < bound = is.2 in (is.0, is.1, omega arith)
            | inr same ↦ subst (λ n. P n × (first ≤ n) × (n < next + 1)) same (least.0.1, omega arith, omega arith)
          ],
          λ is. elim (cases_lt number bound) [
            | inl below ↦ Contains-append_left numbers (next ∷ []) number ((are.each number).1 (is.0, is.1, below))
            | inr beyond ↦
                let low : next ≤ number = least.1 number (beyond, is.0) in
                let most : number < next + 1 = is.2 in
                let same : next ≡ number = omega arith in
                subst (Contains (numbers ++ next ∷ [])) same (Contains-push numbers next)
          ],
        );
        ascending = all_pairs_push (λ one other. one < other) numbers next are.ascending (λ k d inside.
            let below : get_or numbers k d < bound = ((are.each (get_or numbers k d)).0 (Contains-get_or numbers k d
            inside)).2 in
            omega arith);
      }

  -- none comes before the end
  pub all_listed : (bound end : ℕ) (numbers : List ℕ) → bound ≤ end → AreListed P first bound numbers
      → ((number : ℕ) → bound ≤ number → number < end → P number → ⊥) → AreListed P first end numbers
  all_listed bound end numbers enough are none = record {
    each = λ number. (
      λ among. let is = (are.each number).0 among in
          let below : number < bound = is.2 in (is.0, is.1, omega arith),
      λ is. elim (cases_lt number bound) [
        | inl below ↦ (are.each number).1 (is.0, is.1, below)
        | inr beyond ↦ absurd (none number beyond is.2 is.0)
      ],
    );
    ascending = are.ascending;
  }
