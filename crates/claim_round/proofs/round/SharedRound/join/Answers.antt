use Rattle.std.proofs.Common.{◌≡◌, ℕ, ◌<◌, ◌≤◌, ◌+◌, ◌*◌, ◌⊎◌, inl, inr, ⊎_elim, List, ◌++◌, length, refl, sym, ap, ◌∙◌}
use Rattle.std.proofs.Common.{subst, arith, rules}
use Rattle.graphs.specs.Numbered.{Numbered, graph_of}
use Rattle.std.specs.Prelude.{vec_capacity}
use Rattle.atomic_table.specs.Table.{Me}
use Rattle.solver.specs.Solving.{Solving}
use Rattle.claim_round.specs.Shared.{Key, View}
use Rattle.claim_round.specs.Plays.{IsBounded}
use Rattle.claim_round.specs.Rule.{Unit0, most_members, size}
use Rattle.claim_round.proofs.FirstEntries.{of_round}
use Rattle.claim_round.proofs.Loads.{some_gaps}
use Rattle.claim_round.proofs.TableSteps.{join_allowed, look_allowed}
use Rattle.claim_round.proofs.Seats.{joined_seat}
use Rattle.claim_round.proofs.round.SharedRound.join.Goals as goal

pub join_seat-requires : goal.join_seat-requires
join_seat-requires g c =
    let k : Key = c.self.inside.table.shared.key in
    let r = c.self.invariant in
    let mine = of_round _ k _ c.into.inside _ c.self.view_is c.into.view_is c.requires.into in
    let theirs = of_round _ k _ c.from.inside _ c.self.view_is c.from.view_is c.requires.from in
    let some = some_gaps k r.sound.below in
    let words = r.words in
    (mine.0, theirs.0, c.from.invariant.free, omega arith, join_allowed k _ _ _ _ mine.2 theirs.2)

pub load-requires : goal.load-requires
load-requires g c =
    let k : Key = c.self.inside.table.shared.key in
    let r = c.self.invariant in
    let mine = of_round _ k _ c.into.inside _ c.self.view_is c.into.view_is c.requires.into in
    let some = some_gaps k r.sound.below in
    let words = r.words in
    let j = c.join_seat.ensures in
    let wide : 0 < c.join_seat.new.seat.me.0.has.width =
    subst (λ (m : Me Unit0 View). 0 < m.0.has.width) (sym j.2) (let w = mine.2 in omega arith) in
    (j.0 ∙ mine.0, omega arith, look_allowed k _ _ c.join_seat.new.seat.me 0 wide)

pub invariant_of-into-2 : goal.invariant_of-into-2
invariant_of-into-2 g c =
    let k : Key = c.self.inside.table.shared.key in
    let r = c.self.invariant in
    let mine = of_round _ k _ c.into.inside _ c.self.view_is c.into.view_is c.requires.into in
    let theirs = of_round _ k _ c.from.inside _ c.self.view_is c.from.view_is c.requires.from in
    let j = c.join_seat.ensures in
    let l = c.load.ensures in
    let m : ℕ = c.places-most.result in
    let given : c.into.inside.seat.me.0.key.solving ≡ c.self.inside.solver.now =
    ap (λ (q : Key). q.solving) (mine.1 ∙ r.key_is) in
    let most_is : most_members c.into.inside.seat.me.0.key ≡ m =
    sym (c.places-most.ensures ∙ ap (λ (n : Numbered). (graph_of n).places) c.graph.ensures
    ∙ ap (λ (s : Solving). (graph_of s.game).places) (sym given)) in
    let size_is : size c.into.inside.seat.me.0.key ≡ (graph_of c.self.inside.solver.now.game).configurations =
    ap (λ (s : Solving). (graph_of s.game).configurations) given in
    let room_is : ((graph_of c.self.inside.solver.now.game).configurations ≤ c.won_capacity-capacity.result)
    ⊎ (c.len-8.result + (c.len.result + m * c.len-2.result) +
    (c.len-3.result + c.len-4.result + m * c.len-5.result) ≤ c.won_capacity-capacity.result) =
    c.won_capacity-capacity.ensures in
    joined_seat c.into.inside c.from.inside _ c.into.invariant c.from.invariant (mine.1 ∙ sym theirs.1)
    (ap (λ (m : Me Unit0 View). m.0) (l.2.0 ∙ j.2)) (ap (λ m. m.1) (l.2.0 ∙ j.2))
    (c.in-Ok.ensures.items ∙ ap (λ (xs : List ℕ). xs ++ c.from.inside.todo.items) c.make_room.ensures.items)
    (c.in-Ok-append.ensures.items ∙ ap (λ (xs : List ℕ). xs ++ c.from.inside.owed.items) c.make_room-2.ensures.items)
    (let a = c.make_room-2.ensures.capacity in let b = c.append-2.ensures.capacity in omega arith)
    (c.in-Ok-append-2.ensures.items ∙ ap (λ (xs : List ℕ). xs ++ c.from.inside.won.items) c.make_capacity.ensures.items)
    (let room : c.won_capacity-capacity.result ≤ vec_capacity c.make_capacity.new.list = search rules in
    let a : c.len.result ≡ length c.into.inside.owed.items = c.len.ensures ∙ c.into.inside.owed.ok.0 in
    let b : c.len-3.result ≡ length c.from.inside.won.items = c.len-3.ensures ∙ c.from.inside.won.ok.0 in
    let d : c.len-4.result ≡ length c.from.inside.owed.items = c.len-4.ensures ∙ c.from.inside.owed.ok.0 in
    let w : c.len-8.result ≡ length c.into.inside.won.items = c.len-8.ensures ∙ c.into.inside.won.ok.0 in
    let x : most_members c.into.inside.seat.me.0.key * length c.into.inside.todo.items ≡ m * c.len-2.result =
    ap (λ (p : ℕ × ℕ). p.0 * p.1) (λ i. (most_is i, sym (c.len-2.ensures ∙ c.into.inside.todo.ok.0) i)) in
    let y : most_members c.into.inside.seat.me.0.key * length c.from.inside.todo.items ≡ m * c.len-5.result =
    ap (λ (p : ℕ × ℕ). p.0 * p.1) (λ i. (most_is i, sym (c.len-5.ensures ∙ c.from.inside.todo.ok.0) i)) in
    let z = c.append-3.ensures.capacity in
    ⊎_elim (λ (e : (graph_of c.self.inside.solver.now.game).configurations ≤ c.won_capacity-capacity.result). inl
    (omega arith)) (λ f. inr (omega arith)) room_is)
    (subst (λ (n : Me Unit0 View). IsBounded n.0) (sym l.2.0) l.2.1)
    refl
