use Rattle.std.proofs.Common.{drop, ◌≡◌, ℕ, ◌<◌, ◌≤◌, List, ◌++◌, length, ap, sym, subst, refl, ◌∙◌, arith}
use Rattle.graphs.specs.Numbered.{Numbered, graph_of}
use Rattle.index_lists.proofs.Cited.{cond_same, cond_other}
use Rattle.solver.specs.Solving.{Solving, source}
use Rattle.claim_round.specs.Shared.{Key, View}
use Rattle.claim_round.specs.Rule.{most_members}
use Rattle.claim_round.proofs.FirstEntries.{StrikesNext, strikes_next, in_gaps, struck_in}
use Rattle.claim_round.proofs.Loads.{few_members}
use Rattle.claim_round.proofs.TableSteps.{strike_allowed}
use Rattle.claim_round.proofs.Seats.{struck_seat}
use Rattle.claim_round.proofs.round.SharedRound.strike.Given.{Over}
use Rattle.claim_round.proofs.round.SharedRound.strike.Goals as goal
use Rattle.claim_round.proofs.round.SharedRound.strike.Goals.{After-self}

-- the seat, and the configuration that it strikes next
strikes : (g : Over) (c : After-self g) → StrikesNext c.self.inside.table.shared.table_id c.self.inside.table.shared.key
    c.self.inside.solver.now c.seat.inside c.in-Some.config
strikes g c =
    strikes_next _ _ _ _ _ c.seat.inside _ c.in-Some.config _ c.self.view_is c.seat.view_is c.self.invariant
    c.seat.invariant c.requires.mine c.requires.todo c.requires.owed c.in-Some.ensures.items

pub answered_gap-requires : goal.answered_gap-requires
answered_gap-requires g c =
    let next = strikes g (goal.at.answered_gap-requires g c).After-self in
    subst (λ (n : Numbered). c.in-Some.config < (graph_of n).configurations)
    (sym c.graph.ensures) next.due.worth.is_rank

pub unreachable-requires-in_default-answered_gap : goal.unreachable-requires-in_default-answered_gap
unreachable-requires-in_default-answered_gap g c =
    let next = strikes g (goal.at.unreachable-requires-in_default-answered_gap g c).After-self in
    let struck = next.due.struck in
    let none = subst (λ (n : Numbered). (graph_of n).gaps ≤
    (graph_of n).struck c.in-Some.config) c.graph.ensures c.in_default-answered_gap.ensures in
    omega (arith, struck, none)

pub fetch_sub-found-requires : goal.fetch_sub-found-requires
fetch_sub-found-requires g c =
    let k : Key = c.self.inside.table.shared.key in
    let next = strikes g (goal.at.fetch_sub-found-requires g c).After-self in
    let low = in_gaps k _ _ c.in-Some-answered_gap.gap next.solving c.graph.ensures c.in-Some-answered_gap.ensures.1 in
    let gap_is = struck_in k _ _ c.in-Some-answered_gap.gap c.in-Some.config _ next.solving c.graph.ensures next.first
    c.in-Some-answered_gap.ensures.0 in
    let words = c.self.invariant.words in
    (next.of.0, omega arith, strike_allowed k _ _ _ _ next.of.2 next.some_todo gap_is)

pub owe_members-requires-clause-room : goal.owe_members-requires-clause-room
owe_members-requires-clause-room g c =
    let v : View = c.seat.inside.seat.me.0 in
    let k : Key = c.self.inside.table.shared.key in
    let next = strikes g (goal.at.owe_members-requires-clause-room g c).After-self in
    let low = in_gaps k _ _ c.in-Some-answered_gap.gap next.solving c.graph.ensures c.in-Some-answered_gap.ensures.1 in
    let empty : length c.seat.inside.owed.items ≡ 0 = ap length (c.seat.invariant.owed ∙ next.none_owed) in
    let room = c.seat.invariant.room_owed in
    let few : length (source c.self.inside.solver.now c.in-Some-answered_gap.gap) ≤ most_members k =
    subst (λ (s : Solving). length (source s c.in-Some-answered_gap.gap) ≤ most_members k) next.solving
    (few_members k.solving c.self.invariant.sound c.in-Some-answered_gap.gap low) in
    let same : most_members v.key ≡ most_members k = ap most_members next.of.1 in
    omega arith

pub invariant_of-seat : goal.invariant_of-seat
invariant_of-seat g c =
    let k : Key = c.self.inside.table.shared.key in
    let next = strikes g (goal.at.invariant_of-seat g c).After-self in
    let low = in_gaps k _ _ c.in-Some-answered_gap.gap next.solving c.graph.ensures c.in-Some-answered_gap.ensures.1 in
    let e = c.fetch_sub-found.ensures.2 in
    let members : source c.self.inside.solver.now c.in-Some-answered_gap.gap
    ≡ source k.solving c.in-Some-answered_gap.gap =
    ap (λ (s : Solving). source s c.in-Some-answered_gap.gap) (sym next.solving) in
    struck_seat c.seat.inside _ c.fetch_sub-found.result c.in-Some-answered_gap.gap e.0 k c.seat.invariant
    c.self.invariant.sound low next.of.1 next.some_todo next.none_owed e.2 e.3
    (ap (drop 1) (sym c.in-Some.ensures.items))
    (c.owe_members.ensures.items ∙ ap (λ (xs : List ℕ). c.seat.inside.owed.items ++ xs) members
    ∙ sym (cond_same _ _ _ _ c.if-found-eq1.true)) c.owe_members.ensures.room refl refl refl

pub invariant_of-seat-else-found-eq1 : goal.invariant_of-seat-else-found-eq1
invariant_of-seat-else-found-eq1 g c =
    let k : Key = c.self.inside.table.shared.key in
    let next = strikes g (goal.at.invariant_of-seat-else-found-eq1 g c).After-self in
    let low = in_gaps k _ _ c.in-Some-answered_gap.gap next.solving c.graph.ensures c.in-Some-answered_gap.ensures.1 in
    let e = c.fetch_sub-found.ensures.2 in
    struck_seat c.seat.inside _ c.fetch_sub-found.result c.in-Some-answered_gap.gap e.0 k c.seat.invariant
    c.self.invariant.sound low next.of.1 next.some_todo next.none_owed e.2 e.3
    (ap (drop 1) (sym c.in-Some.ensures.items))
    (sym (cond_other _ _ _ _ c.if-found-eq1.false)) refl refl refl refl
