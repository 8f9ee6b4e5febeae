-- The history of a round after each step: one step more, whose answer is told to the seat that
-- made it.
use Rattle.std.proofs.Common.{◌≡◌, ℕ, zero, suc, max, ◌+◌, ◌<◌, ◌≤◌, List, [], ◌∷◌, ◌++◌, length, set, get_or, refl}
use Rattle.std.proofs.Common.{sym, ap, ◌∙◌, subst, arith, inl, inr, length-append, Some}
use mathlib.Core.Option.{some}
use lib.ListN.{get_elem?}
use Rattle.std.specs.List.{All, Contains}
use Rattle.std.proofs.lemmas.Option.{same_Some}
use Rattle.std.proofs.lemmas.List.{map_push}
use Rattle.std.proofs.lemmas.List.Elements.{All-push, All-set, All-append}
use Rattle.index_lists.specs.Lists.{times}
use Rattle.index_lists.proofs.Cited.{times-append, times-later}
use Rattle.solver.specs.Solving.{IsSolving}
use Rattle.retro_core.specs.Round.{IsLawful}
use Rattle.retro_core.specs.declared.step.Step.{Step}
use Rattle.retro_core.specs.declared.step.Seen.{Seen}
use Rattle.retro_core.specs.Stepping.{Does}
use Rattle.retro_core.specs.History.{answer_in_history}
use Rattle.graphs.proofs.Cited.{same_or_not}
use Rattle.retro_core.proofs.Cited.{answer-before, answer-last, lead-more, steps-lawful, times_here}
use Rattle.claim_round.specs.Shared.{Key, View}
use Rattle.claim_round.specs.History.{IsHistory, AreTold, indexes_of, calls_of, calls_at, seats_of}
use Rattle.claim_round.specs.Words.{round_of_words}
use Rattle.claim_round.proofs.Totals.{total_set, total_cut, total_glue, view_at}

-- the words and seats that a history leads to are lawful
pub history-lawful : (k : Key) (words : List ℕ) (views : List View) → IsSolving k.solving → IsHistory k words views
    → IsLawful (round_of_words k.solving k.width words (seats_of views))
history-lawful k words views sol h =
    let from = ap (λ r. r.solving) h.opens.is in
    (steps-lawful h.first h.steps (round_of_words k.solving k.width words (seats_of views))
    (subst IsSolving (sym from) sol) h.opens.lawful h.leads).0

-- ---- one step more

-- the answers told to a view are those of these steps
abbrev pub IsToldBy : List (Step × Seen) → View → Type 0
IsToldBy steps view = AreTold steps view.made × (view.since ≤ length steps)

told-more : (steps : List (Step × Seen)) (one : Step × Seen) (made : List (ℕ × Seen)) → AreTold steps made
    → AreTold (steps ++ one ∷ []) made
told-more steps one made told i d inside = answer-before steps one _ _ (told i d inside)

view-more : (steps : List (Step × Seen)) (one : Step × Seen) (v : View) → IsToldBy steps v
    → IsToldBy (steps ++ one ∷ []) v
view-more steps one v told =
    (told-more steps one v.made told.0, (let l = length-append steps (one ∷ []) in let low = told.1 in omega arith))

views-more : (steps : List (Step × Seen)) (one : Step × Seen) (views : List View) → All (IsToldBy steps) views
    → All (IsToldBy (steps ++ one ∷ [])) views
views-more steps one views told i d inside = view-more steps one (get_or views i d) (told i d inside)

-- two places are equal exactly if the next ones are
times-suc : (place other : ℕ) → times place (other ∷ []) ≡ times (suc place) (suc other ∷ [])
times-suc place other = elim (same_or_not other place) [
  | inl e ↦ omega (arith, times-one place other e, times-one (suc place) (suc other) (ap suc e))
  | inr ne ↦ omega (
    arith,
    times-later other place [] ne,
    times-later (suc other) (suc place) [] (λ e. ne (omega arith)),
  )
]
  where
    times-one : (x y : ℕ) → y ≡ x → times x (y ∷ []) ≡ 1
    times-one x y e = ap (λ z. times x (z ∷ [])) e ∙ times_here x []

-- a call as the last step adds one call at its place
calls-more : (steps : List (Step × Seen)) (one : Step × Seen) (place : ℕ) → calls_of (Some one.1) ≡ 1
    → calls_at (steps ++ one ∷ []) place ≡ calls_at steps place + times place (length steps ∷ [])
calls-more [] one zero call = call
calls-more [] one (suc place) call = omega (arith, times-later 0 (suc place) [] (λ e. absurd (omega arith)))
calls-more (first ∷ steps) one zero call =
    omega (arith, times-later (suc (length steps)) 0 [] (λ e. absurd (omega arith)))
calls-more (first ∷ steps) one (suc place) call =
    calls-more steps one place call ∙ ap (λ (n : ℕ). calls_at steps place + n) (times-suc place (length steps))

calls-same : (steps : List (Step × Seen)) (one : Step × Seen) (place : ℕ) → calls_of (Some one.1) ≡ 0
    → calls_at (steps ++ one ∷ []) place ≡ calls_at steps place
calls-same [] one zero call = call
calls-same [] one (suc place) call = refl
calls-same (first ∷ steps) one zero call = refl
calls-same (first ∷ steps) one (suc place) call = calls-same steps one place call

-- the number of times that a view was told of a place
abbrev pub told_of : ℕ → View → ℕ
told_of place v = times place (indexes_of v.made)

places-more : (place at : ℕ) (answer : Seen) (made : List (ℕ × Seen))
    → times place (indexes_of (made ++ (at, answer) ∷ [])) ≡ times place (indexes_of made) + times place (at ∷ [])
places-more place at answer made =
    ap (times place) (map_push (λ (call : ℕ × Seen). call.0) made (at, answer))
    ∙ times-append place (indexes_of made) (at ∷ [])

-- if a view was told of a place, it was told the answer there
pub told-there : (steps : List (Step × Seen)) (made : List (ℕ × Seen)) (place : ℕ) (answer : Seen) → AreTold steps made
    → answer_in_history steps place ≡ Some answer → 0 < times place (indexes_of made)
    → Contains made (place, answer)
told-there steps [] place answer told at there = absurd (omega arith)
told-there steps (call ∷ made) place answer told at there = elim (same_or_not call.0 place) [
  | inl here ↦ (
      let same : call.1 ≡ answer = same_Some call.1 answer
      (sym (told 0 call (omega arith)) ∙ ap (answer_in_history steps) here ∙ at) in
      (0, omega arith, λ j. (here j, same j)))
  | inr other ↦ (
      let none = times-later call.0 place (indexes_of made) other in
      let rest = told-there steps made place answer (λ i d inside. told (suc i) d (omega arith)) at (omega arith) in
      (suc rest.0, (let low = rest.1 in omega arith), rest.2))
]

module _ (k : Key) (words words' : List ℕ) (views : List View) (h : IsHistory k words views) (step : Step)
    (answer : Seen) where
  abbrev pub longer : List (Step × Seen)
  longer = h.steps ++ (step, answer) ∷ []

  -- a strike or a claim, whose answer is told to the seat
  pub history-call : (id : ℕ) (v w : View) → get_elem? views id ≡ some v
      → Does (round_of_words k.solving k.width words (seats_of views)) step answer
      (round_of_words k.solving k.width words' (seats_of (set views id w)))
      → calls_of (Some answer) ≡ 1 → w.made ≡ v.made ++ (length h.steps, answer) ∷ [] → w.since ≡ suc (length h.steps)
      → IsHistory k words' (set views id w)
  history-call id v w at does call made since = record {
    first = h.first;
    steps = longer;
    opens = h.opens;
    counted = h.counted;
    leads = lead-more h.first h.steps (round_of_words k.solving k.width words (seats_of views)) step answer
        (round_of_words k.solving k.width words' (seats_of (set views id w))) h.leads does;
    told = All-set (IsToldBy longer) views id w
        (let old = view_at (IsToldBy h.steps) views id v h.told at in (
          subst (AreTold longer) (sym made)
              (All-push (λ (call : ℕ × Seen). answer_in_history longer call.0 ≡ Some call.1) v.made
              (length h.steps, answer) (told-more h.steps (step, answer) v.made old.0)
              (answer-last h.steps (step, answer))),
          (let l = length-append h.steps ((step, answer) ∷ []) in omega arith),
        ))
        (views-more h.steps (step, answer) views h.told);
    once = λ place.
        let sum = total_set (told_of place) views id v w at in
        let here : told_of place w ≡ told_of place v + times place (length h.steps ∷ []) =
        ap (λ (m : List (ℕ × Seen)). times place (indexes_of m)) made
        ∙ places-more place (length h.steps) answer v.made in
        let calls = calls-more h.steps (step, answer) place call in
        let old = h.once place in
        omega arith;
  }

  -- a split, whose answer is told to no seat
  pub history-split : (id : ℕ) (v a b : View) → get_elem? views id ≡ some v
      → Does (round_of_words k.solving k.width words (seats_of views)) step answer
      (round_of_words k.solving k.width words' (seats_of (set views id a ++ b ∷ [])))
      → calls_of (Some answer) ≡ 0 → a.made ≡ v.made → b.made ≡ [] → a.since ≡ v.since → b.since ≡ v.since
      → IsHistory k words' (set views id a ++ b ∷ [])
  history-split id v a b at does call kept new since since' =
      let old = view-more h.steps (step, answer) v (view_at (IsToldBy h.steps) views id v h.told at) in
      let low = old.1 in
      record {
        first = h.first;
        steps = longer;
        opens = h.opens;
        counted = h.counted;
        leads = lead-more h.first h.steps (round_of_words k.solving k.width words (seats_of views)) step answer
            (round_of_words k.solving k.width words' (seats_of (set views id a ++ b ∷ []))) h.leads does;
        told = All-push (IsToldBy longer) (set views id a) b
            (All-set (IsToldBy longer) views id a (subst (AreTold longer) (sym kept) old.0, omega arith)
            (views-more h.steps (step, answer) views h.told))
            (subst (AreTold longer) (sym new) (λ i d below. absurd (omega arith)), omega arith);
        once = λ place.
            let mine = ap (λ (m : List (ℕ × Seen)). times place (indexes_of m)) kept in
            let none : told_of place b ≡ 0 = ap (λ (m : List (ℕ × Seen)). times place (indexes_of m)) new in
            total_cut (told_of place) views id v a b at (omega arith) ∙ h.once place
            ∙ sym (calls-same h.steps (step, answer) place call);
      }

  -- a join, whose answer is told to no seat
  pub history-join : (id other : ℕ) (v u a b : View) → get_elem? views id ≡ some v → get_elem? views other ≡ some u
      → get_elem? (set views id a) other ≡ some u
      → Does (round_of_words k.solving k.width words (seats_of views)) step answer
      (round_of_words k.solving k.width words' (seats_of (set (set views id a) other b)))
      → calls_of (Some answer) ≡ 0 → a.made ≡ v.made ++ u.made → b.made ≡ [] → a.since ≡ max v.since u.since
      → b.since ≡ 0 → IsHistory k words' (set (set views id a) other b)
  history-join id other v u a b at at' there does call both none since since' =
      let old = view-more h.steps (step, answer) v (view_at (IsToldBy h.steps) views id v h.told at) in
      let old' = view-more h.steps (step, answer) u (view_at (IsToldBy h.steps) views other u h.told at') in
      let low = old.1 in
      let low' = old'.1 in
      record {
        first = h.first;
        steps = longer;
        opens = h.opens;
        counted = h.counted;
        leads = lead-more h.first h.steps (round_of_words k.solving k.width words (seats_of views)) step answer
            (round_of_words k.solving k.width words' (seats_of (set (set views id a) other b))) h.leads does;
        told = All-set (IsToldBy longer) (set views id a) other b
            (subst (AreTold longer) (sym none) (λ i d below. absurd (omega arith)), omega arith)
            (All-set (IsToldBy longer) views id a (
              subst (AreTold longer) (sym both)
                  (All-append (λ (call : ℕ × Seen). answer_in_history longer call.0
                  ≡ Some call.1) v.made u.made old.0 old'.0),
              omega arith,
            )
            (views-more h.steps (step, answer) views h.told));
        once = λ place.
            let mine : told_of place a ≡ told_of place v + told_of place u =
            ap (λ (m : List (ℕ × Seen)). times place (indexes_of m)) both ∙ places-both place v.made u.made in
            let gone : told_of place b ≡ 0 = ap (λ (m : List (ℕ × Seen)). times place (indexes_of m)) none in
            total_glue (told_of place) views id other v u a b at there (omega arith) ∙ h.once place
            ∙ sym (calls-same h.steps (step, answer) place call);
      }
    where
      places-both : (place : ℕ) (made made' : List (ℕ × Seen))
          → times place (indexes_of (made ++ made')) ≡ times place (indexes_of made) + times place (indexes_of made')
      places-both place [] made' = omega arith
      places-both place (x ∷ made) made' = let rest = places-both place made made' in omega arith
