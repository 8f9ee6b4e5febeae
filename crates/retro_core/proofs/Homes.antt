-- Sums of counts of a gap's answers, and tallies of filtered lists.
use Rattle.std.proofs.Common.{◌≡◌, ◌≢◌, ℕ, zero, suc, ◌+◌, ◌<◌, ◌==◌, ◌&&◌, Bool, true, false, cond, List, [], ◌∷◌}
use Rattle.std.proofs.Common.{refl, ap, ◌∙◌, inl, inr, arith}
use Rattle.std.specs.List.{filter}
use Rattle.index_lists.specs.Lists.{times}
use Rattle.index_lists.proofs.Cited.{times-here, cond_other}
use Rattle.graphs.specs.Graph.{PlainGraph, IsGraph, count_below, live_answers}
use Rattle.graphs.proofs.Cited.{true_or_false}
use Rattle.solver.specs.Striking.{tally}

-- ---- two tests as one

count-sum : (n : ℕ) (f g h : ℕ → Bool)
    → ((k : ℕ) → k < n → ◌≡◌ {A = ℕ} (cond (f k) 1 0) (cond (g k) 1 0 + cond (h k) 1 0))
    → count_below n f ≡ count_below n g + count_below n h
count-sum zero f g h each = refl
count-sum (suc n) f g h each =
    let rest = count-sum n f g h (λ k i. each k (omega arith)) in
    let here = each n (omega arith) in
    omega arith

answer-sum : (b f g h : Bool) → ◌≡◌ {A = ℕ} (cond f 1 0) (cond g 1 0 + cond h 1 0)
    → ◌≡◌ {A = ℕ} (cond (b && f) 1 0) (cond (b && g) 1 0 + cond (b && h) 1 0)
answer-sum true f g h e = e
answer-sum false f g h e = refl

pub live-sum : (a : PlainGraph) → IsGraph a → (f g h : ℕ → Bool) (gap : ℕ) → gap < a.gaps
    → ((c : ℕ) → c < a.configurations → ◌≡◌ {A = ℕ} (cond (f c) 1 0) (cond (g c) 1 0 + cond (h c) 1 0))
    → live_answers a f gap ≡ live_answers a g gap + live_answers a h gap
live-sum a is f g h gap i each =
    count-sum a.places (λ v. a.struck (a.member gap v) == gap && f (a.member gap v))
    (λ v. a.struck (a.member gap v) == gap && g (a.member gap v))
    (λ v. a.struck (a.member gap v) == gap && h (a.member gap v))
    (λ v j. answer-sum (a.struck (a.member gap v) == gap) (f (a.member gap v)) (g (a.member gap v)) (h (a.member gap v))
    (each (a.member gap v) (is.member_in gap v i j)))

-- ---- filtered lists

pub tally-filter : (home : ℕ → ℕ) (test : ℕ → Bool) (g : ℕ) (ranks : List ℕ)
    → ((x : ℕ) → 0 < times x ranks → test x ≡ false → home x ≢ g)
    → tally home g (filter test ranks) ≡ tally home g ranks
tally-filter home test g [] fails = refl
tally-filter home test g (y ∷ ranks) fails =
    let rest = tally-filter home test g ranks (λ x h e. fails x (omega arith) e) in
    elim (true_or_false (test y)) [
      | inl passes ↦ ap (λ (b : Bool). tally home g (cond b (y ∷ filter test ranks) (filter test ranks))) passes
          ∙ (omega arith)
      | inr fail ↦ ap (λ (b : Bool). tally home g (cond b (y ∷ filter test ranks) (filter test ranks))) fail
          ∙ (let other = cond_other {A = ℕ} (home y) g 1 0 (fails y (times-here y y ranks refl) fail) in omega arith)
    ]
