use Rattle.std.proofs.Common.{◌≡◌, ℕ, List, ◌*◌, ◌≤◌, inl, inr, ⊎_elim, length, ap, sym, subst, refl, ◌∙◌, arith, rules}
use Rattle.std.proofs.Common.{mul-le-mul_left}
use Rattle.graphs.specs.Numbered.{Numbered, graph_of}
use Rattle.std.specs.Prelude.{vec_capacity}
use Rattle.std.specs.VecDeque.{deque_capacity}
use Rattle.solver.specs.Solving.{to_strike}
use Rattle.claim_round.specs.Shared.{Key, View}
use Rattle.claim_round.specs.Rule.{most_members, size}
use Rattle.claim_round.specs.Inside.Openings.{AreOpeningWords, opening_view}
use Rattle.claim_round.proofs.Loads.{narrow}
use Rattle.claim_round.proofs.OpeningWords.{ranks_due, opened}
use Rattle.claim_round.proofs.Seats.{first_seat}
use Rattle.claim_round.proofs.round.SharedRound.open.Goals as goal

pub overflow_mul-most : goal.overflow_mul-most
overflow_mul-most g c =
    let s = c.args.solver.now in
    let k : Key = record { solving = s; width = c.args.width } in
    let sol = c.to_strike.ensures.kept in
    let all = ranks_due s c.in_ok-ranks.ranks.items sol c.in_ok-ranks.ensures.ranks in
    let most_is : c.places-most.result ≡ most_members k =
    c.places-most.ensures ∙ ap (λ (n : Numbered). (graph_of n).places) c.graph.ensures in
    let m : most_members k * length c.in_ok-ranks.ranks.items ≤ most_members k * size k =
    mul-le-mul_left (most_members k) all.few in
    let n = narrow k sol in
    let long : c.len.result ≡ length c.in_ok-ranks.ranks.items = c.len.ensures ∙ c.in_ok-ranks.ranks.ok.0 in
    let e : c.places-most.result * c.len.result ≡ most_members k * length c.in_ok-ranks.ranks.items =
    ap (λ (p : ℕ × ℕ). p.0 * p.1) (λ j. (most_is j, long j)) in
    omega arith

pub of_words-requires : goal.of_words-requires
of_words-requires g c =
    let s = c.args.solver.now in
    opened s c.args.width c.as_slice.result.now c.to_strike.ensures.kept c.requires.some_width
    (subst (AreOpeningWords s) (sym c.as_slice.ensures.value) c.in_ok-words.ensures)

pub invariant_of-seat : goal.invariant_of-seat
invariant_of-seat g c =
    let s = c.args.solver.now in
    let k : Key = record { solving = s; width = c.args.width } in
    let sol = c.to_strike.ensures.kept in
    let e = c.in_ok-table.ensures in
    let todo_is : c.from_vec-todo.result.items ≡ c.in_ok-ranks.ranks.items = c.from_vec-todo.ensures.items in
    let most_is : c.places-most.result ≡ most_members k =
    c.places-most.ensures ∙ ap (λ (n : Numbered). (graph_of n).places) c.graph.ensures in
    let len : c.len.result ≡ length c.from_vec-todo.result.items =
    c.len.ensures ∙ c.in_ok-ranks.ranks.ok.0 ∙ sym (ap length todo_is) in
    let product : c.places-most.result * c.len.result ≡ most_members k * length c.from_vec-todo.result.items =
    ap (λ (p : ℕ × ℕ). p.0 * p.1) (λ j. (most_is j, len j)) in
    let room : c.places-most.result ≤ deque_capacity c.in_ok-owed.owed = c.in_ok-owed.ensures.capacity in
    let full : c.won_capacity.result ≤ vec_capacity c.in_ok-won.won = search rules in
    first_seat _ k sol (ap (λ m. m.0) e.4) (ap (λ m. m.1) e.4)
    (subst (λ (l : List ℕ). l ≡ to_strike s) (sym todo_is) c.in_ok-ranks.ensures.ranks) c.in_ok-owed.ensures.items
    (omega arith)
    c.in_ok-won.ensures.items (⊎_elim (λ a. inl (omega arith)) (λ b. inr (omega arith)) c.won_capacity.ensures) refl

pub returns : goal.returns
returns g c =
    let s = c.args.solver.now in
    let k : Key = record { solving = s; width = c.args.width } in
    let sol = c.to_strike.ensures.kept in
    let e = c.in_ok-table.ensures in
    let view : c.in_ok-table.seat.me.0 ≡ opening_view k = ap (λ m. m.0) e.4 in
    record {
      key_is = e.5;
      table_is = e.2;
      seat_key = ap (λ (v : View). v.key) view;
      to_strike_is = subst (λ (l : List ℕ). l ≡ to_strike s)
          ((ranks_due s c.in_ok-ranks.ranks.items sol c.in_ok-ranks.ensures.ranks).is
          ∙ sym (ap (λ (v : View). v.has.todo) view)) c.in_ok-ranks.ensures.ranks;
      no_owed = ap (λ (v : View). v.has.owed) view;
      no_won = ap (λ (v : View). v.has.won) view;
      wide = ap (λ (v : View). v.has.width) view;
      none_made = ap (λ (v : View). v.made) view;
    }
