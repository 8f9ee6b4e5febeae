-- The entries that a seat may still owe, after each step, and the number of members of a gap.
use Rattle.std.proofs.Common.{◌≡◌, ℕ, zero, suc, ◌+◌, ◌-◌, ◌*◌, ◌/◌, ◌^◌, ◌<◌, ◌≤◌, List, [], ◌∷◌, ◌++◌, length, take}
use Rattle.std.proofs.Common.{drop, refl, ap, ◌∙◌, arith, inl, inr, length-append, length-take, length-drop}
use Rattle.graphs.specs.Numbered.{graph_of}
use mathlib.Core.Logic.{dite}
use native.Mathlib.Decide.{ℕ_discrete}
use Rattle.board_text.proofs.Cited.{some_places}
use Rattle.index_lists.specs.Lists.{times, without_node}
use Rattle.index_lists.proofs.Cited.{cond_same, cond_other, times-without_same, times-without_other, length-without}
use Rattle.index_lists.proofs.Cited.{times-here}
use Rattle.graphs.proofs.Cited.{numbers-fit, same_or_not, places_are}
use Rattle.solver.specs.Solving.{Solving, IsSolving, source}
use Rattle.retro_core.proofs.Cited.{source-once}
use Rattle.claim_round.specs.Shared.{Key, View, kept_part, new_part, view_joined}
use Rattle.claim_round.specs.Rule.{most_members, size, entry_bound}
use Rattle.claim_round.specs.Plays.{view_struck, view_tried}

-- ---- the number of members of a gap

-- a list without repetitions, all of whose entries are f of numbers below n, has at most n entries
covered : (n : ℕ) (f : ℕ → ℕ) (xs : List ℕ) → ((x : ℕ) → times x xs ≤ 1)
    → ((x : ℕ) → 0 < times x xs → (v : ℕ) × (v < n) × (x ≡ f v)) → length xs ≤ n
covered zero f [] once from = omega arith
covered zero f (x ∷ xs) once from =
    absurd (let found = from x (times-here x x xs refl) in let low : found.0 < 0 = found.1 in omega arith)
covered (suc n) f xs once from =
    let ys = without_node (f n) xs in
    let less = length-without (f n) xs in
    let top = once (f n) in
    let none = times-without_same (f n) xs in
    let rest = covered n f ys
    (λ x. elim (same_or_not x (f n)) [
      | inl e ↦ (let z : times x ys ≡ 0 = ap (λ m. times m ys) e ∙ none in omega arith)
      | inr ne ↦ (let z = times-without_other (f n) x xs ne in let o = once x in omega arith)
    ])
    (λ x there. elim (same_or_not x (f n)) [
      | inl e ↦ absurd (let z : times x ys ≡ 0 = ap (λ m. times m ys) e ∙ none in omega arith)
      | inr ne ↦ (
          let z = times-without_other (f n) x xs ne in
          let found = from x (omega arith) in
          elim (same_or_not found.0 n) [
            | inl last ↦ absurd (ne (found.2 ∙ ap f last))
            | inr before ↦ (found.0, (let low : found.0 < suc n = found.1 in omega arith), found.2)
          ])
    ]) in
    omega arith

pub few_members : (s : Solving) → IsSolving s → (gap : ℕ) → gap < (graph_of s.game).gaps
    → length (source s gap) ≤ (graph_of s.game).places
few_members s sol gap i = covered ((graph_of s.game).places) ((graph_of s.game).member gap) (source s gap)
    (source-once s sol gap i) (λ rank. sol.sources.members gap rank i)

-- ---- numbers that fit

pub some_most : (k : Key) → IsSolving k.solving → 0 < most_members k
some_most k sol =
    let some = some_places k.solving.game.board sol.is_board in let same = places_are k.solving.game in omega arith

pub narrow : (k : Key) → IsSolving k.solving → most_members k * size k < 2 ^ 32
narrow k sol = numbers-fit k.solving.game sol.is_board sol.small

-- ---- loads

times_one_more : (m n : ℕ) → m * (1 + n) ≡ m + m * n
times_one_more m n = grind arith

times_sum : (m a b : ℕ) → m * (a + b) ≡ m * a + m * b
times_sum m a b = grind arith

pub length_rest : (xs : List ℕ) → 0 < length xs → length xs ≡ 1 + length (drop 1 xs)
length_rest [] some = absurd (omega arith)
length_rest (x ∷ xs) some = omega arith

pub load_struck : (most : ℕ) (v : View) (gap n place : ℕ) → 0 < length v.has.todo
    → length (source v.key.solving gap) ≤ most → entry_bound most (view_struck v gap n place) ≤ entry_bound most v
load_struck most v gap n place some few =
    let more : List ℕ = source v.key.solving gap in
    let l = ap (λ (i : ℕ). most * i) (length_rest v.has.todo some) ∙ times_one_more most (length (drop 1 v.has.todo)) in
    dite (ℕ_discrete n 1)
    (λ e. let o = ap length (cond_same n 1 (v.has.owed ++ more) v.has.owed e) ∙ length-append v.has.owed more in
    omega arith)
    (λ ne. let o = ap length (cond_other n 1 (v.has.owed ++ more) v.has.owed ne) in omega arith)

pub load_claimed : (most : ℕ) (v : View) (n place : ℕ) → entry_bound most (view_tried v n place) ≤ entry_bound most v
load_claimed most v n place = let l = length-drop 1 v.has.owed in omega arith

pub load_cut : (most : ℕ) (v : View)
    → entry_bound most (kept_part v) + entry_bound most (new_part v) ≡ entry_bound most v
load_cut most v =
    let n : ℕ = length v.has.todo - length v.has.todo / 2 in
    let a : length (take n v.has.todo) ≡ n = length-take n v.has.todo ∙ (omega arith) in
    let b : length (drop n v.has.todo) ≡ length v.has.todo / 2 = length-drop n v.has.todo ∙ (omega arith) in
    let s = times_sum most (length (take n v.has.todo)) (length (drop n v.has.todo)) in
    let t = ap (λ (i : ℕ). most * i)
    (let u : length (take n v.has.todo) + length (drop n v.has.todo) ≡ length v.has.todo = omega arith in u) in
    omega arith

pub load_glue : (most : ℕ) (v u : View) → entry_bound most (view_joined v u) ≡ entry_bound most v + entry_bound most u
load_glue most v u =
    let o = length-append v.has.owed u.has.owed in
    let t = ap (λ (i : ℕ). most * i) (length-append v.has.todo u.has.todo)
    ∙ times_sum most (length v.has.todo) (length u.has.todo) in
    omega arith

-- if a value is below the number of configurations, there is a configuration
pub some_gaps : (k : Key) → k.solving.rounds < (graph_of k.solving.game).configurations → 0 < size k
some_gaps k below = omega arith
