-- A game as a graph of numbers: configurations, and gaps, whose members are configurations. There
-- is no board here.
use Rattle.std.specs.Prelude.{◌≡◌, ℕ, ◌+◌, ◌<◌, ◌≤◌, ◌==◌, ◌&&◌, not, nat_lt, Bool, true, cond}
use Rattle.std.specs.Prelude.{zero, suc}

-- numbers of configurations, of gaps and of the members of a gap; the member of a gap at a place,
-- and the gap in which a configuration is an answer, or a number that is no gap
pub record PlainGraph : Type 0 where
  pub configurations : ℕ
  pub gaps : ℕ
  pub places : ℕ
  pub member : ℕ → ℕ → ℕ
  pub struck : ℕ → ℕ

-- members are configurations, in ascending order, and a configuration is a member of the gap in
-- which it is an answer
pub record IsGraph (a : PlainGraph) : Type 0 where
  pub member_in : (g v : ℕ) → g < a.gaps → v < a.places → a.member g v < a.configurations
  pub ascending : (g v w : ℕ) → g < a.gaps → v < w → w < a.places → a.member g v < a.member g w
  pub struck_most : (c : ℕ) → c < a.configurations → a.struck c ≤ a.gaps
  pub struck_in : (c : ℕ) → c < a.configurations → a.struck c < a.gaps → (v : ℕ) × (v < a.places)
      × (a.member (a.struck c) v ≡ c)

-- the number of numbers below a bound that pass the test
abbrev pub count_below : ℕ → (ℕ → Bool) → ℕ
count_below zero test = 0
count_below (suc n) test = count_below n test + cond (test n) 1 0

-- whether the configuration is a member of the gap
abbrev pub is_member : PlainGraph → ℕ → ℕ → Bool
is_member a g c = not (count_below a.places (λ v. a.member g v == c) == 0)

-- the number of answers of a gap that pass the test
abbrev pub live_answers : PlainGraph → (ℕ → Bool) → ℕ → ℕ
live_answers a test g =
    count_below a.places (λ v. a.struck (a.member g v) == g && test (a.member g v))

-- each gap that the configuration is a member of has an answer that passes the test
abbrev pub is_answered : PlainGraph → (ℕ → Bool) → ℕ → Bool
is_answered a test c = count_below a.gaps (λ g. is_member a g c && live_answers a test g == 0) == 0

-- k requests are answered from c, whichever they are
abbrev pub lasts : PlainGraph → ℕ → ℕ → Bool
lasts a zero c = true
lasts a (suc k) c = is_answered a (lasts a k) c

-- whether the configuration is an answer in some gap
abbrev pub is_struck : PlainGraph → ℕ → Bool
is_struck a c = nat_lt (a.struck c) a.gaps
