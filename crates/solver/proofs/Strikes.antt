-- The effect of one strike on counts and open configurations, and the end of the rounds.
use Rattle.std.proofs.Common.{◌≡◌, ℕ, ◌+◌, ◌<◌, ◌≢◌, ◌&&◌, ◌==◌, inl, inr, Bool, true, false, zero, suc, refl, arith}
use Rattle.std.proofs.Common.{sym, ap, ◌∙◌}
use Rattle.std.proofs.lemmas.Bool.Decides.{nat_tests}
use Rattle.graphs.specs.Graph.{PlainGraph, IsGraph, is_member, live_answers, is_answered, lasts}
use Rattle.graphs.proofs.Cited.{without, member-is, member-at, one-place, count_below-same, count_below-without}
use Rattle.graphs.proofs.Cited.{and_true, and_second, same_is, same_test, true_or_false, true_not_false, next-gives}
use Rattle.graphs.proofs.Cited.{next-from, next-closed, next-le}

-- the test without c fails at c
without-here : (above : ℕ → Bool) (c x : ℕ) → x ≡ c → without above c x ≡ false
without-here above c x e = grind (arith, nat_tests)

without-elsewhere : (above : ℕ → Bool) (c x : ℕ) → x ≢ c → without above c x ≡ above x
without-elsewhere above c x e = grind (arith, nat_tests)

test_same : (m n : ℕ) → (m == n) ≡ true → m ≡ n
test_same m n e = grind (arith, nat_tests)

-- if no answer of a gap is c, its count is the same without c
live-elsewhere : (a : PlainGraph) (above : ℕ → Bool) (c g : ℕ)
    → ((v : ℕ) → v < a.places → a.struck (a.member g v) ≡ g → a.member g v ≢ c)
    → live_answers a (without above c) g ≡ live_answers a above g
live-elsewhere a above c g other =
    count_below-same a.places (λ v. a.struck (a.member g v) == g && without above c (a.member g v))
    (λ v. a.struck (a.member g v) == g && above (a.member g v)) (λ v i.
    elim (true_or_false (a.struck (a.member g v) == g)) [
      | inl legal ↦ ap (λ b. a.struck (a.member g v) == g && b)
          (without-elsewhere above c (a.member g v) (other v i (test_same (a.struck (a.member g v)) g legal)))
      | inr illegal ↦ rw illegal refl
    ])

-- a strike at c takes 1 from the count of the gap in which c is an answer
pub strike-home : (a : PlainGraph) → IsGraph a → (above : ℕ → Bool) (c g : ℕ) → c < a.configurations → g ≡ a.struck c
    → g < a.gaps → above c ≡ true → live_answers a (without above c) g + 1 ≡ live_answers a above g
strike-home a is above c g i g_is in_gaps is_above =
    let w = is.struck_in c i (omega arith) in
    let back : a.member g w.0 ≡ c = ap (λ h. a.member h w.0) g_is ∙ w.2 in
    count_below-without a.places w.0 (λ v. a.struck (a.member g v) == g && above (a.member g v))
    (λ v. a.struck (a.member g v) == g && without above c (a.member g v)) w.1
    (and_true _ _ (same_is (a.struck (a.member g w.0)) g (ap a.struck back ∙ sym g_is)) (ap above back ∙ is_above))
    (and_second _ _ (without-here above c (a.member g w.0) back))
    (λ j in_places other. ap (λ b. a.struck (a.member g j) == g && b)
    (sym (without-elsewhere above c (a.member g j) (λ e.
    other (one-place a is g j w.0 in_gaps in_places w.1 (e ∙ sym back))))))

-- a strike at c leaves the counts of all other gaps
pub strike-other : (a : PlainGraph) (above : ℕ → Bool) (c g : ℕ) → g ≢ a.struck c
    → live_answers a (without above c) g ≡ live_answers a above g
strike-other a above c g other =
    live-elsewhere a above c g (λ v in_places legal e. other (sym legal ∙ ap a.struck e))

-- the open configurations after some fail the test that passed it
module _ (a : PlainGraph) (is : IsGraph a) (above less : ℕ → Bool) (x : ℕ) (i : x < a.configurations)
    (implies : (y : ℕ) → y < a.configurations → less y ≡ true → above y ≡ true) where
  -- if no count falls to 0, the same are open
  pub open-same : ((g : ℕ) → g < a.gaps → 0 < live_answers a above g → 0 < live_answers a less g)
      → is_answered a less x ≡ is_answered a above x
  open-same kept = same_test _ _ (next-le a is less above x i implies) (λ e.
      next-from a less x (λ g v j k m. kept g j (next-gives a above x g v e j k m)))

  -- one that isn't a member of the gap that closes stays open
  pub open-outside : (g : ℕ) → is_member a g x ≡ false
      → ((h : ℕ) → h < a.gaps → h ≢ g → live_answers a less h ≡ live_answers a above h)
      → is_answered a less x ≡ is_answered a above x
  open-outside g outside others = same_test _ _ (next-le a is less above x i implies) (λ e.
      next-from a less x (λ h v j k m.
      let ne : h ≢ g = λ same. true_not_false (is_member a g x)
      (ap (λ f. is_member a f x) (sym same) ∙ member-is a h v x k m) outside in
      let some = next-gives a above x h v e j k m in
      let same = others h j ne in
      omega arith))

-- no member of a gap whose count is 0 is open
pub open-member : (a : PlainGraph) (less : ℕ → Bool) (x g : ℕ) → g < a.gaps → is_member a g x ≡ true
    → live_answers a less g ≡ 0 → is_answered a less x ≡ false
open-member a less x g in_gaps member closed =
    let w = member-at a g x member in next-closed a less x g w.0 in_gaps w.1 w.2 closed

-- if a round files nothing, a configuration that lasts the round lasts for ever
pub lasts-forever : (a : PlainGraph) → IsGraph a → (r : ℕ)
    → ((x : ℕ) → x < a.configurations → lasts a r x ≡ true → lasts a (suc r) x ≡ true) → (k x : ℕ)
    → x < a.configurations → lasts a r x ≡ true → lasts a k x ≡ true
lasts-forever a is r none zero x i e = refl
lasts-forever a is r none (suc k) x i e =
    next-le a is (lasts a r) (lasts a k) x i (λ y j. lasts-forever a is r none k y j) (none x i e)
