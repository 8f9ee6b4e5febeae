-- Whether a rank is in a list, and lists filtered by a test.
use Rattle.std.proofs.Common.{◌≡◌, ℕ, ◌<◌, ◌≤◌, not, Bool, true, false, cond, List, [], ◌∷◌, sym, ap, ◌∙◌, inl, inr}
use Rattle.std.proofs.Common.{subst, arith}
use Rattle.std.specs.List.{filter}
use Rattle.std.proofs.lemmas.Bool.{cases_lt}
use Rattle.index_lists.specs.Lists.{times}
use Rattle.index_lists.proofs.Cited.{times-later}
use Rattle.solver.specs.Striking.{stands}
use Rattle.graphs.proofs.Cited.{true_or_false, true_not_false, same_or_not, zero_is, positive_is}

pub stands-true : (ranks : List ℕ) (x : ℕ) → 0 < times x ranks → stands ranks x ≡ true
stands-true ranks x h = ap not (positive_is (times x ranks) h)

pub stands-false : (ranks : List ℕ) (x : ℕ) → times x ranks ≡ 0 → stands ranks x ≡ false
stands-false ranks x e = ap not (zero_is (times x ranks) e)

pub stands-some : (ranks : List ℕ) (x : ℕ) → stands ranks x ≡ true → 0 < times x ranks
stands-some ranks x e = elim (cases_lt 0 (times x ranks)) [
  | inl some ↦ some
  | inr none ↦ absurd (true_not_false (stands ranks x) e (stands-false ranks x (omega arith)))
]

-- ---- filtered lists

pub times-filter-true : (test : ℕ → Bool) (x : ℕ) (ranks : List ℕ) → 0 < times x (filter test ranks) → test x ≡ true
times-filter-true test x [] h = absurd (omega arith)
times-filter-true test x (y ∷ ranks) h = elim (true_or_false (test y)) [
  | inr fails ↦ times-filter-true test x ranks
      (subst (λ (b : Bool). 0 < times x (cond b (y ∷ filter test ranks) (filter test ranks))) fails h)
  | inl passes ↦ elim (same_or_not y x) [
    | inl e ↦ ap test (sym e) ∙ passes
    | inr d ↦ times-filter-true test x ranks (
        let kept : 0 < times x (y ∷ filter test ranks) =
        subst (λ (b : Bool). 0 < times x (cond b (y ∷ filter test ranks) (filter test ranks))) passes h in
        let later = times-later y x (filter test ranks) d in omega arith)
  ]
]

pub times-filter-le : (test : ℕ → Bool) (x : ℕ) (ranks : List ℕ) → times x (filter test ranks) ≤ times x ranks
times-filter-le test x [] = omega arith
times-filter-le test x (y ∷ ranks) =
    let rest = times-filter-le test x ranks in
    by (test y) rest
  where
    by : (b : Bool) → times x (filter test ranks) ≤ times x ranks
        → times x (cond b (y ∷ filter test ranks) (filter test ranks)) ≤ times x (y ∷ ranks)
    by true rest = omega arith
    by false rest = omega arith
