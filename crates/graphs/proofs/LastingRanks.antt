-- The number of requests that a labeller lasts.
use Rattle.std.proofs.Common.{◌≡◌, ◌≢◌, ℕ, ◌+◌, ◌-◌, ◌<◌, ◌≤◌, ◌⊎◌, ◌==◌, ◌&&◌, inl, inr, Bool, true, false, zero, suc}
use Rattle.std.proofs.Common.{refl, arith, sym, ap, ◌∙◌, subst, Some, None}
use Rattle.std.proofs.lemmas.Bool.Decides.{nat_tests}
use Rattle.graphs.specs.Graph.{PlainGraph, IsGraph, is_member, live_answers, is_answered, lasts}
pub use Rattle.graphs.proofs.Graphs.{same_is, differ_is}
use Rattle.graphs.proofs.Graphs.{member-is, member-at}
use Rattle.graphs.proofs.Counts.{count_below-same, count_below-none, none_below, some_below, count_below-some}
use Rattle.graphs.proofs.Counts.{count_below-le}

pub both_true : (b c : Bool) → b && c ≡ true → (b ≡ true) × (c ≡ true)
both_true true true e = (refl, refl)
both_true true false e = cc
both_true false c e = cc

pub and_true : (b c : Bool) → b ≡ true → c ≡ true → b && c ≡ true
and_true b c e f = rw (e, f) refl

pub not_zero : (n : ℕ) → n == 0 ≡ false → 0 < n
not_zero n e = grind (arith, nat_tests)

pub is_zero : (n : ℕ) → n == 0 ≡ true → n ≡ 0
is_zero n e = grind (arith, nat_tests)

pub zero_is : (n : ℕ) → n ≡ 0 → n == 0 ≡ true
zero_is n e = grind (arith, nat_tests)

pub positive_is : (n : ℕ) → 0 < n → n == 0 ≡ false
positive_is n e = grind (arith, nat_tests)

pub and_first : (b c : Bool) → b ≡ false → b && c ≡ false
and_first b c e = rw e refl

pub and_second : (b c : Bool) → c ≡ false → b && c ≡ false
and_second true c e = e
and_second false c e = refl

pub and_false : (b c : Bool) → b && c ≡ false → b ≡ true → c ≡ false
and_false true c e h = e
and_false false c e h = cc

pub true_or_false : (b : Bool) → (b ≡ true) ⊎ (b ≡ false)
true_or_false true = inl refl
true_or_false false = inr refl

pub true_not_false : (b : Bool) → b ≡ true → b ≡ false → ⊥
true_not_false b e f = cc

-- whether the gap has the member c and no live answer
abbrev pub is_shut : PlainGraph → (ℕ → Bool) → ℕ → ℕ → Bool
is_shut a above c g = is_member a g c && (live_answers a above g == 0)

-- if each request is answered, each gap of the configuration has a live answer
pub next-gives : (a : PlainGraph) (above : ℕ → Bool) (c g v : ℕ) → is_answered a above c ≡ true → g < a.gaps
    → v < a.places → a.member g v ≡ c → 0 < live_answers a above g
next-gives a above c g v e i j m =
    not_zero _ (and_false _ _ (none_below a.gaps (is_shut a above c) (is_zero _ e) g i) (member-is a g v c j m))

pub next-from : (a : PlainGraph) (above : ℕ → Bool) (c : ℕ)
    → ((g v : ℕ) → g < a.gaps → v < a.places → a.member g v ≡ c → 0 < live_answers a above g)
    → is_answered a above c ≡ true
next-from a above c each =
    zero_is _ (count_below-none a.gaps (is_shut a above c) (λ g i. elim (true_or_false (is_member a g c)) [
      | inl member ↦ (let w = member-at a g c member in and_second _ _ (positive_is _ (each g w.0 i w.1 w.2)))
      | inr other ↦ and_first _ _ other
    ]))

-- if some request isn't answered, some gap of the configuration has no live answer
pub next-fails : (a : PlainGraph) (above : ℕ → Bool) (c : ℕ) → is_answered a above c ≡ false
    → (g : ℕ) × (g < a.gaps) × ((v : ℕ) × (v < a.places) × (a.member g v ≡ c)) × (live_answers a above g ≡ 0)
next-fails a above c e =
    let w = some_below a.gaps (is_shut a above c) (not_zero _ e) in
    let both = both_true _ _ w.2 in
    (w.0, w.1, member-at a w.0 c both.0, is_zero _ both.1)

pub next-closed : (a : PlainGraph) (above : ℕ → Bool) (c g v : ℕ) → g < a.gaps → v < a.places → a.member g v ≡ c
    → live_answers a above g ≡ 0 → is_answered a above c ≡ false
next-closed a above c g v i j m e =
    positive_is _ (count_below-some a.gaps (is_shut a above c) g i (and_true _ _ (member-is a g v c j m) (zero_is _ e)))

pub live-le : (a : PlainGraph) → IsGraph a → (f h : ℕ → Bool) (g : ℕ) → g < a.gaps
    → ((c : ℕ) → c < a.configurations → f c ≡ true → h c ≡ true) → live_answers a f g ≤ live_answers a h g
live-le a is f h g in_range implies =
    count_below-le a.places (λ v. a.struck (a.member g v) == g && f (a.member g v))
    (λ v. a.struck (a.member g v) == g && h (a.member g v)) (λ v i e.
    let both = both_true _ _ e in
    and_true _ _ both.0 (implies (a.member g v) (is.member_in g v in_range i) both.1))

pub live-same : (a : PlainGraph) → IsGraph a → (f h : ℕ → Bool) (g : ℕ) → g < a.gaps
    → ((c : ℕ) → c < a.configurations → f c ≡ h c) → live_answers a f g ≡ live_answers a h g
live-same a is f h g in_range same =
    count_below-same a.places (λ v. a.struck (a.member g v) == g && f (a.member g v))
    (λ v. a.struck (a.member g v) == g && h (a.member g v)) (λ v i.
    ap (λ b. a.struck (a.member g v) == g && b) (same (a.member g v) (is.member_in g v in_range i)))

pub next-le : (a : PlainGraph) → IsGraph a → (f h : ℕ → Bool) (c : ℕ) → c < a.configurations
    → ((x : ℕ) → x < a.configurations → f x ≡ true → h x ≡ true) → is_answered a f c ≡ true → is_answered a h c ≡ true
next-le a is f h c in_range implies e = next-from a h c (λ g v i j m.
    let some = next-gives a f c g v e i j m in
    let more = live-le a is f h g i implies in
    omega arith)

pub same_test : (b c : Bool) → (b ≡ true → c ≡ true) → (c ≡ true → b ≡ true) → b ≡ c
same_test true c there back = sym (there refl)
same_test false true there back = back refl
same_test false false there back = refl

pub next-same : (a : PlainGraph) → IsGraph a → (f h : ℕ → Bool) (c : ℕ) → c < a.configurations
    → ((x : ℕ) → x < a.configurations → f x ≡ h x) → is_answered a f c ≡ is_answered a h c
next-same a is f h c in_range same = same_test (is_answered a f c) (is_answered a h c)
    (next-le a is f h c in_range (λ x i e. sym (same x i) ∙ e))
    (next-le a is h f c in_range (λ x i e. same x i ∙ e))

-- a labeller that lasts k + 1 requests lasts k
pub lasts-less : (a : PlainGraph) → IsGraph a → (k c : ℕ) → c < a.configurations → lasts a (suc k) c ≡ true
    → lasts a k c ≡ true
lasts-less a is zero c in_range e = refl
lasts-less a is (suc k) c in_range e =
    next-le a is (lasts a (suc k)) (lasts a k) c in_range (λ x i. lasts-less a is k x i) e

pub lasts_at : (a : PlainGraph) (j k c : ℕ) → j ≡ k → lasts a j c ≡ true → lasts a k c ≡ true
lasts_at a j k c same e = subst (λ n. lasts a n c ≡ true) same e

pub lasts-fewer : (a : PlainGraph) → IsGraph a → (more k c : ℕ) → c < a.configurations → lasts a (more + k) c ≡ true
    → lasts a k c ≡ true
lasts-fewer a is zero k c in_range e = lasts_at a (0 + k) k c (omega arith) e
lasts-fewer a is (suc more) k c in_range e =
    lasts-fewer a is more k c in_range
    (lasts-less a is (more + k) c in_range (lasts_at a (suc more + k) (suc (more + k)) c (omega arith) e))

-- a labeller that lasts k requests lasts fewer too
pub lasts-at-most : (a : PlainGraph) → IsGraph a → (j k c : ℕ) → c < a.configurations → j ≤ k → lasts a k c ≡ true
    → lasts a j c ≡ true
lasts-at-most a is j k c in_range h e =
    lasts-fewer a is (k - j) j c in_range (lasts_at a k (k - j + j) c (omega arith) e)

pub same_or_not : (m n : ℕ) → (m ≡ n) ⊎ (m ≢ n)
same_or_not m n =
    elim (true_or_false (m == n)) [ inl e ↦ inl (grind (arith, nat_tests)) | inr e ↦ inr (grind (arith, nat_tests)) ]

pub some_same : (m n : ℕ) → Some m ≡ Some n → m ≡ n
some_same m n e = cc

pub none_some : (n : ℕ) → None ≡ Some n → ⊥
none_some n e = cc
