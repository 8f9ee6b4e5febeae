use Rattle.std.proofs.Common.{◌≡◌, ℕ, ◌≤◌, ◌-◌, ◌*◌, ◌/◌, inl, inr, ⊎_elim, length, take, drop, refl, sym, ap, ◌∙◌}
use Rattle.std.proofs.Common.{subst, arith, rules}
use Rattle.graphs.specs.Numbered.{Numbered, graph_of}
use Rattle.std.specs.Prelude.{vec_capacity}
use Rattle.std.specs.VecDeque.{deque_capacity}
use Rattle.solver.specs.Solving.{Solving}
use Rattle.claim_round.specs.Shared.{Key, View, SeatId}
use Rattle.claim_round.specs.Rule.{most_members, size}
use Rattle.claim_round.proofs.FirstEntries.{of_round}
use Rattle.claim_round.proofs.Loads.{some_gaps}
use Rattle.claim_round.proofs.TableSteps.{split_allowed}
use Rattle.claim_round.proofs.Seats.{kept_seat, new_seat}
use Rattle.claim_round.proofs.round.SharedRound.split.Goals as goal

pub split_seat-other-requires : goal.split_seat-other-requires
split_seat-other-requires g c =
    let v : View = c.seat.inside.seat.me.0 in
    let k : Key = c.self.inside.table.shared.key in
    let r = c.self.invariant in
    let mine = of_round _ k _ c.seat.inside _ c.self.view_is c.seat.view_is c.requires.mine in
    let wide : 2 ≤ v.has.width = subst (λ (p : SeatId). 2 ≤ p.view.has.width) (sym c.seat.view_is) c.requires.width in
    let some = some_gaps k r.sound.below in
    let words = r.words in
    (mine.0, omega arith, split_allowed k _ v wide)

pub invariant_of-seat-2 : goal.invariant_of-seat-2
invariant_of-seat-2 g c =
    let e = c.split_seat-other.ensures in
    let l = c.len.ensures in
    let h = c.len-moved.ensures in
    let ok = c.seat.inside.todo.ok.0 in
    let n : ℕ = length c.seat.inside.todo.items in
    let kept : c.len.result - c.len-moved.result / 2 ≡ n - n / 2 =
    ap (λ (p : ℕ × ℕ). p.0 - p.1 / 2) (λ j. ((l ∙ ok) j, (h ∙ ok) j)) in
    kept_seat c.seat.inside _ c.seat.invariant (ap (λ m. m.0) e.2) (ap (λ m. m.1) e.2)
    (c.in-Ok-split_off.ensures.items
    ∙ ap (λ (i : ℕ). take i c.seat.inside.todo.items) kept) refl refl refl refl refl

pub invariant_of-new : goal.invariant_of-new
invariant_of-new g c =
    let v : View = c.seat.inside.seat.me.0 in
    let k : Key = c.self.inside.table.shared.key in
    let r = c.self.invariant in
    let mine = of_round _ k _ c.seat.inside _ c.self.view_is c.seat.view_is c.requires.mine in
    let given : v.key.solving ≡ c.self.inside.solver.now = ap (λ (q : Key). q.solving) (mine.1 ∙ r.key_is) in
    let board = c.graph.ensures in
    let most_is : c.places-most.result ≡ most_members v.key =
    c.places-most.ensures ∙ ap (λ (n : Numbered). (graph_of n).places) board
    ∙ ap (λ (s : Solving). (graph_of s.game).places) (sym given) in
    let size_is : (graph_of c.self.inside.solver.now.game).configurations ≡ size v.key =
    ap (λ (s : Solving). (graph_of s.game).configurations) (sym given) in
    let e = c.split_seat-other.ensures in
    let l = c.len.ensures in
    let h = c.len-moved.ensures in
    let ok = c.seat.inside.todo.ok.0 in
    let n : ℕ = length c.seat.inside.todo.items in
    let kept : c.len.result - c.len-moved.result / 2 ≡ n - n / 2 =
    ap (λ (p : ℕ × ℕ). p.0 - p.1 / 2) (λ j. ((l ∙ ok) j, (h ∙ ok) j)) in
    let room : c.places-most.result ≤ deque_capacity c.in-Ok.owed = search rules in
    let full : c.won_capacity.result ≤ vec_capacity c.in-Ok-with_capacity.won = search rules in
    let space : most_members v.key * (n / 2) ≡ c.places-most.result * (c.len-moved.result / 2) =
    ap (λ (p : ℕ × ℕ). p.0 * (p.1 / 2)) (λ j. (sym most_is j, sym (h ∙ ok) j)) in
    new_seat c.seat.inside _ c.seat.invariant (ap (λ m. m.0) e.4) (ap (λ m. m.1) e.4)
    (c.in-Ok-split_off.ensures.tail ∙ ap (λ (i : ℕ). drop i c.seat.inside.todo.items) kept)
    c.in-Ok.ensures.items (omega arith) c.in-Ok-with_capacity.ensures.items
    (⊎_elim (λ a. inl (omega arith)) (λ b. inr (omega arith)) c.won_capacity.ensures) refl
