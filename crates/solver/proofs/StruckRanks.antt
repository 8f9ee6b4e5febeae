-- Configurations that are answers; counts depend on these alone.
use Rattle.std.proofs.Common.{◌≡◌, ℕ, ◌<◌, ◌==◌, ◌&&◌, Bool, true, cond, inl, inr, refl, sym, ap, ◌∙◌}
use Rattle.std.proofs.Common.{subst, arith, List, [], ◌∷◌, ◌+◌, zero, suc, length, get_or}
use Rattle.std.specs.List.{filter}
use Rattle.std.proofs.lemmas.Bool.{lt-ltb, ltb-true}
use Rattle.std.proofs.lemmas.Bool.Decides.{nat_tests}
use Rattle.index_lists.specs.Lists.{times}
use Rattle.index_lists.proofs.Cited.{times-here, times-more, times-later}
use Rattle.graphs.specs.Graph.{PlainGraph, IsGraph, is_struck, live_answers, is_answered}
use Rattle.solver.specs.Inside.Tables.{IsCounted, AreWords}
use Rattle.graphs.proofs.Cited.{count_below-same, same_test, true_or_false, true_not_false, next-gives, next-from}

pub struck-is : (a : PlainGraph) (c : ℕ) → a.struck c < a.gaps → is_struck a c ≡ true
struck-is a c low = lt-ltb (a.struck c) a.gaps low

pub is-struck : (a : PlainGraph) (c : ℕ) → is_struck a c ≡ true → a.struck c < a.gaps
is-struck a c e = ltb-true (a.struck c) a.gaps e

test_same : (m n : ℕ) → (m == n) ≡ true → m ≡ n
test_same m n e = grind (arith, nat_tests)

pub in_list : (xs : List ℕ) (k d : ℕ) → k < length xs → 0 < times (get_or xs k d) xs
in_list [] k d h = absurd (omega arith)
in_list (x ∷ xs) zero d h = times-here x x xs refl
in_list (x ∷ xs) (suc k) d h = times-more x (get_or xs k d) xs (in_list xs k d (omega arith))

-- a number that passes the test occurs in a filtered list as often as before
pub filtered-times : (test : ℕ → Bool) (x : ℕ) (xs : List ℕ) → test x ≡ true → times x (filter test xs) ≡ times x xs
filtered-times test x [] holds = refl
filtered-times test x (y ∷ ys) holds = elim (true_or_false (test y)) [
  | inl kept ↦ rw kept (ap (λ n. cond (y == x) 1 0 + n) (filtered-times test x ys holds))
  | inr dropped ↦ rw dropped (filtered-times test x ys holds
      ∙ sym (times-later y x ys (λ e. true_not_false (test x) holds (ap test (sym e) ∙ dropped))))
]

-- tests that agree on the configurations that are answers
module _ (a : PlainGraph) (is : IsGraph a) (f h : ℕ → Bool)
    (same : (x : ℕ) → x < a.configurations → is_struck a x ≡ true → f x ≡ h x) where
  -- they give the same counts
  live-struck : (g : ℕ) → g < a.gaps → live_answers a f g ≡ live_answers a h g
  live-struck g i =
      count_below-same a.places (λ v. a.struck (a.member g v) == g && f (a.member g v))
      (λ v. a.struck (a.member g v) == g && h (a.member g v))
      (λ v j. elim (true_or_false (a.struck (a.member g v) == g)) [
        | inl answer ↦ ap (λ t. a.struck (a.member g v) == g && t)
            (same (a.member g v) (is.member_in g v i j)
            (struck-is a (a.member g v) (let here = test_same (a.struck (a.member g v)) g answer in omega arith)))
        | inr none ↦ rw none refl
      ])

  next-struck : (c : ℕ) → c < a.configurations → is_answered a f c ≡ is_answered a h c
  next-struck c i =
      same_test (is_answered a f c) (is_answered a h c) (one f h (λ g j. live-struck g j))
      (one h f (λ g j. sym (live-struck g j)))
    where
      one : (k l : ℕ → Bool) → ((g : ℕ) → g < a.gaps → live_answers a k g ≡ live_answers a l g)
          → is_answered a k c ≡ true → is_answered a l c ≡ true
      one k l alike e = next-from a l c (λ g v j m n. subst (λ t. 0 < t) (alike g j) (next-gives a k c g v e j m n))

  pub counted-alike : (counts : List ℕ) → IsCounted a f counts → IsCounted a h counts
  counted-alike counts t = record {
    counts_length = t.counts_length;
    counted = λ g i. t.counted g i ∙ live-struck g i;
  }

  pub words-alike : (values : List ℕ) → AreWords a f values → AreWords a h values
  words-alike values t = record {
    values_length = t.values_length;
    opened = λ x i. t.opened x i ∙ next-struck x i;
    lasting = t.lasting;
    stopping = t.stopping;
  }
