-- The count of the numbers below a bound that pass a test.
use Rattle.std.proofs.Common.{◌≡◌, ℕ, ◌+◌, ◌<◌, ◌≤◌, ◌≢◌, ◌⊎◌, inl, inr, Bool, true, false, cond, zero, suc, refl}
use Rattle.std.proofs.Common.{arith}
use Rattle.graphs.specs.Graph.{count_below}

pub count_below-same : (n : ℕ) (f g : ℕ → Bool) → ((k : ℕ) → k < n → f k ≡ g k) → count_below n f ≡ count_below n g
count_below-same zero f g same = refl
count_below-same (suc n) f g same =
    let rest = count_below-same n f g (λ k h. same k (omega arith)) in
    let here = same n (omega arith) in
    cc

pub count_below-none : (n : ℕ) (f : ℕ → Bool) → ((k : ℕ) → k < n → f k ≡ false) → count_below n f ≡ 0
count_below-none zero f none = refl
count_below-none (suc n) f none =
    let rest = count_below-none n f (λ k h. none k (omega arith)) in
    let here = none n (omega arith) in
    rw (here, rest) refl

step-none : (m k n : ℕ) (f : ℕ → Bool) (b : Bool) → f n ≡ b → m + cond b 1 0 ≡ 0
    → ((k : ℕ) → m ≡ 0 → k < n → f k ≡ false) → k < suc n → f k ≡ false
step-none m k n f true e z below h = absurd (omega arith)
step-none m k n f false e z below h = grind (arith, below k)

pub none_below : (n : ℕ) (f : ℕ → Bool) → count_below n f ≡ 0 → (k : ℕ) → k < n → f k ≡ false
none_below zero f e k h = absurd (omega arith)
none_below (suc n) f e k h = step-none (count_below n f) k n f (f n) refl e (λ j z i. none_below n f z j i) h

step-some : (n : ℕ) (f : ℕ → Bool) (b : Bool) → f n ≡ b → 0 < count_below n f + cond b 1 0
    → (0 < count_below n f → (k : ℕ) × (k < n) × (f k ≡ true)) → (k : ℕ) × (k < suc n) × (f k ≡ true)
step-some n f true e h below = (n, omega arith, e)
step-some n f false e h below = let w = below (omega arith) in (w.0, omega arith, w.2)

pub some_below : (n : ℕ) (f : ℕ → Bool) → 0 < count_below n f → (k : ℕ) × (k < n) × (f k ≡ true)
some_below zero f h = absurd (omega arith)
some_below (suc n) f h = step-some n f (f n) refl h (some_below n f)

-- if a number passes, the count isn't 0
pub count_below-some : (n : ℕ) (f : ℕ → Bool) (k : ℕ) → k < n → f k ≡ true → 0 < count_below n f
count_below-some n f k h e = grind (arith, none_below n f)

cond-le : (b c : Bool) → (b ≡ true → c ≡ true) → cond b 1 0 ≤ cond c 1 0
cond-le true c h = rw (h refl) (omega arith)
cond-le false c h = omega arith

pub count_below-le : (n : ℕ) (f g : ℕ → Bool) → ((k : ℕ) → k < n → f k ≡ true → g k ≡ true)
    → count_below n f ≤ count_below n g
count_below-le zero f g implies = omega arith
count_below-le (suc n) f g implies =
    let rest = count_below-le n f g (λ k h. implies k (omega arith)) in
    let here = cond-le (f n) (g n) (implies n (omega arith)) in
    omega arith

step-without : (n k : ℕ) (f g : ℕ → Bool) → k < suc n → f k ≡ true → g k ≡ false
    → ((j : ℕ) → j < suc n → j ≢ k → f j ≡ g j) → ((k < n) ⊎ (k ≡ n)) → (k < n → count_below n g + 1 ≡ count_below n f)
    → count_below (suc n) g + 1 ≡ count_below (suc n) f
step-without n k f g h one off same (inl lt) rest =
    let here : f n ≡ g n = same n (omega arith) (omega arith) in
    let before = rest lt in
    rw here (omega arith)
step-without n k f g h one off same (inr e) rest =
    let before = count_below-same n f g (λ j i. same j (omega arith) (omega arith)) in
    let fn : f n ≡ true = rw (← e) one in
    let gn : g n ≡ false = rw (← e) off in
    rw (fn, gn) (omega arith)

lt_or_eq : (k n : ℕ) → k < suc n → (k < n) ⊎ (k ≡ n)
lt_or_eq k n h = grind arith

-- if the tests differ at one number alone, the counts differ by 1
pub count_below-without : (n k : ℕ) (f g : ℕ → Bool) → k < n → f k ≡ true → g k ≡ false
    → ((j : ℕ) → j < n → j ≢ k → f j ≡ g j) → count_below n g + 1 ≡ count_below n f
count_below-without zero k f g h one off same = absurd (omega arith)
count_below-without (suc n) k f g h one off same =
    step-without n k f g h one off same (lt_or_eq k n h)
    (λ lt. count_below-without n k f g lt one off (λ j i. same j (omega arith)))

step-less : (n k : ℕ) (f g : ℕ → Bool) → f k ≡ false → g k ≡ true → ((j : ℕ) → j < suc n → f j ≡ true → g j ≡ true)
    → ((k < n) ⊎ (k ≡ n)) → (k < n → count_below n f < count_below n g) → count_below (suc n) f < count_below (suc n) g
step-less n k f g off one implies (inl lt) rest =
    let before = rest lt in
    let here = cond-le (f n) (g n) (implies n (omega arith)) in
    omega arith
step-less n k f g off one implies (inr e) rest =
    let before = count_below-le n f g (λ j i. implies j (omega arith)) in
    let fn : f n ≡ false = rw (← e) off in
    let gn : g n ≡ true = rw (← e) one in
    rw (fn, gn) (omega arith)

-- if g passes all numbers that f passes, and one more, g has the larger count
pub count_below-less : (n k : ℕ) (f g : ℕ → Bool) → k < n → f k ≡ false → g k ≡ true
    → ((j : ℕ) → j < n → f j ≡ true → g j ≡ true) → count_below n f < count_below n g
count_below-less zero k f g h off one implies = absurd (omega arith)
count_below-less (suc n) k f g h off one implies =
    step-less n k f g off one implies (lt_or_eq k n h)
    (λ lt. count_below-less n k f g lt off one (λ j i. implies j (omega arith)))

pub count_below-bound : (n : ℕ) (f : ℕ → Bool) → count_below n f ≤ n
count_below-bound zero f = omega arith
count_below-bound (suc n) f = let rest = count_below-bound n f in let here = cond-le (f n) true (λ _. refl) in
    omega arith
