-- A seat's fields agree with its view after a step.
use Rattle.std.proofs.Common.{◌≡◌, ℕ, ◌+◌, ◌-◌, ◌*◌, ◌/◌, ◌<◌, ◌≤◌, ◌⊎◌, ◌==◌, cond, inl, inr, ⊎_elim, List, [], ◌∷◌}
use Rattle.std.proofs.Common.{◌++◌, length, take, drop, refl, sym, ap, ◌∙◌, subst, arith, length-append, length-drop}
use Rattle.std.proofs.Common.{length-take, mul-le-mul_left}
use Rattle.graphs.specs.Numbered.{graph_of}
use Rattle.std.specs.Prelude.{vec_capacity}
use Rattle.std.specs.VecDeque.{deque_capacity}
use mathlib.Core.Logic.{dite}
use native.Mathlib.Decide.{ℕ_discrete}
use Rattle.index_lists.specs.Lists.{times}
use Rattle.index_lists.proofs.Cited.{cond_same, cond_other, times-append}
use Rattle.solver.specs.Solving.{Solving, IsSolving, source, to_strike}
use Rattle.retro_core.specs.Round.{IsDue, first_of}
use Rattle.retro_core.proofs.Cited.{times-cut, times_here, split_first, source-rank}
use Rattle.claim_round.specs.Shared.{Key, View, kept_part, new_part, view_joined}
use Rattle.claim_round.specs.Rule.{most_members, size, entry_bound}
use Rattle.claim_round.specs.Plays.{view_struck, view_tried, IsBounded}
use Rattle.claim_round.specs.Inside.Openings.{opening_view}
use Rattle.claim_round.specs.Inside.Seats.{IsDueIn, IsSeated, SeatHasRoom}
use Rattle.claim_round.specs.declared.seat.RoundSeat.TheInside.{Inside}
use Rattle.claim_round.specs.declared.words.TheConstants.{OPEN}
use Rattle.claim_round.proofs.Loads.{length_rest, few_members, narrow, some_most}
use Rattle.claim_round.proofs.OpeningWords.{ranks_due}

pub times_first : (xs : List ℕ) → 0 < length xs → 0 < times (first_of xs) xs
times_first xs some =
    let h = ap (times (first_of xs)) (split_first xs some) ∙ times_here (first_of xs) (drop 1 xs) in omega arith

times_rest : (x : ℕ) (xs : List ℕ) → times x (drop 1 xs) ≤ times x xs
times_rest x [] = omega arith
times_rest x (y ∷ ys) = omega arith

one_longer : (x : ℕ) (xs : List ℕ) → length (xs ++ x ∷ []) ≡ length xs + 1
one_longer x xs = length-append xs (x ∷ [])

times_step : (a m : ℕ) → a * (1 + m) ≡ a + a * m
times_step a m = grind arith

-- a seat that may owe and win fewer needs no more room
room_less : (k : Key) (won owed todo room won' owed' todo' : ℕ) → SeatHasRoom k won owed todo room
    → won' + owed' + most_members k * todo' ≤ won + owed + most_members k * todo
    → owed' + most_members k * todo' ≤ owed + most_members k * todo
    → SeatHasRoom k won' owed' todo' room
room_less k won owed todo room won' owed' todo' has less fewer = record {
  places = ⊎_elim (λ (a : size k ≤ room). inl a)
      (λ (b : won + owed + most_members k * todo ≤ room). inr (omega arith)) has.places;
  few = let f = has.few in omega arith;
  narrow = has.narrow;
  some_most = has.some_most;
}

-- the same by the fields of a seat
room_told : (t : Inside) (k : Key) (room : ℕ) → t.seat.me.0.key ≡ k → vec_capacity t.won ≡ room
    → SeatHasRoom k (length t.won.items) (length t.owed.items) (length t.todo.items) room
    → SeatHasRoom t.seat.me.0.key (length t.won.items) (length t.owed.items) (length t.todo.items) (vec_capacity t.won)
room_told t k room terms capacity =
    subst (λ (p : Key × ℕ). SeatHasRoom p.0 (length t.won.items) (length t.owed.items) (length t.todo.items) p.1)
    (λ j. (sym terms j, sym capacity j))

pub claimed_seat : (s t : Inside) (n place : ℕ) → IsSeated s → 0 < length s.seat.me.0.has.owed
    → t.seat.me.0 ≡ view_tried s.seat.me.0 n place → t.seat.me.1 ≡ s.seat.me.1
    → t.todo.items ≡ s.todo.items → t.owed.items ≡ drop 1 s.owed.items → deque_capacity t.owed ≡ deque_capacity s.owed
    → t.won.items ≡ (cond (n == OPEN) (s.won.items ++ first_of s.owed.items ∷ []) s.won.items)
    → vec_capacity t.won ≡ vec_capacity s.won → t.width ≡ s.width → IsSeated t
claimed_seat s t n place seated some view slots todo owed room_owed won room_won width =
    let v : View = s.seat.me.0 in
    let some' : 0 < length s.owed.items = subst (λ (xs : List ℕ). 0 < length xs) (sym seated.owed) some in
    record {
      free = slots ∙ seated.free;
      todo = todo ∙ seated.todo ∙ sym (ap (λ (u : View). u.has.todo) view);
      owed = owed ∙ ap (drop 1) seated.owed ∙ sym (ap (λ (u : View). u.has.owed) view);
      won = won ∙ ap (λ (p : List ℕ × List ℕ). cond (n == OPEN) (p.0 ++ first_of p.1 ∷ []) p.0)
          (λ j. (seated.won j, seated.owed j)) ∙ sym (ap (λ (u : View). u.has.won) view);
      width = width ∙ seated.width ∙ sym (ap (λ (u : View). u.has.width) view);
      due = subst (λ (u : View). (c : ℕ) → 0 < times c u.has.todo → IsDueIn u.key c) (sym view) seated.due;
      inside = subst (λ (u : View). (c : ℕ) → 0 < times c u.has.owed → c < size u.key) (sym view)
          (λ c there. seated.inside c (let r = times_rest c v.has.owed in omega arith));
      room_owed = subst (λ (u : View). most_members u.key ≤ deque_capacity t.owed) (sym view)
          (let r = seated.room_owed in omega arith);
      room = room_told t v.key (vec_capacity s.won) (ap (λ (u : View). u.key) view) room_won
          (let l = length_rest s.owed.items some' in
          let space : most_members v.key * length t.todo.items ≡ most_members v.key * length s.todo.items =
          ap (λ (xs : List ℕ). most_members v.key * length xs) todo in
          let o = ap length owed in
          let w : length t.won.items ≤ length s.won.items + 1 = dite (ℕ_discrete n OPEN)
          (λ e. let w = ap length won ∙ ap length
          (cond_same n OPEN (s.won.items ++ first_of s.owed.items ∷ []) s.won.items e)
          ∙ one_longer (first_of s.owed.items) s.won.items in omega arith)
          (λ ne. let w = ap length won ∙ ap length
          (cond_other n OPEN (s.won.items ++ first_of s.owed.items ∷ []) s.won.items ne) in omega arith) in
          room_less v.key (length s.won.items) (length s.owed.items) (length s.todo.items)
          (vec_capacity s.won) _ _ _ seated.room (omega arith) (omega arith));
    }

-- the seat after a strike, if it owed nothing before
pub struck_seat : (s t : Inside) (n gap place : ℕ) (k : Key) → IsSeated s → IsSolving k.solving
    → gap < (graph_of k.solving.game).gaps → s.seat.me.0.key ≡ k → 0 < length s.seat.me.0.has.todo
    → s.seat.me.0.has.owed ≡ []
    → t.seat.me.0 ≡ view_struck s.seat.me.0 gap n place → t.seat.me.1 ≡ s.seat.me.1
    → t.todo.items ≡ drop 1 s.todo.items
    → t.owed.items ≡ (cond (n == 1) (s.owed.items ++ source k.solving gap) s.owed.items)
    → deque_capacity t.owed ≡ deque_capacity s.owed
    → t.won.items ≡ s.won.items → vec_capacity t.won ≡ vec_capacity s.won → t.width ≡ s.width → IsSeated t
struck_seat s t n gap place k seated sol in_gaps knows some none_owed view slots todo owed room_owed won room_won
    width =
    let v : View = s.seat.me.0 in
    let some' : 0 < length s.todo.items = subst (λ (xs : List ℕ). 0 < length xs) (sym seated.todo) some in
    let more : List ℕ = source k.solving gap in
    let no_owed : length s.owed.items ≡ 0 = ap length (seated.owed ∙ none_owed) in
    let same : more ≡ source v.key.solving gap = ap (λ (q : Key). source q.solving gap) (sym knows) in
    let few : length more ≤ most_members k = few_members k.solving sol gap in_gaps in
    let l = length_rest s.todo.items some' in
    let own : List ℕ = source v.key.solving gap in
    record {
      free = slots ∙ seated.free;
      todo = todo ∙ ap (drop 1) seated.todo ∙ sym (ap (λ (u : View). u.has.todo) view);
      owed = owed ∙ ap (λ (p : List ℕ × List ℕ). cond (n == 1) (p.0 ++ p.1) p.0) (λ j. (seated.owed j, same j))
          ∙ sym (ap (λ (u : View). u.has.owed) view);
      won = won ∙ seated.won ∙ sym (ap (λ (u : View). u.has.won) view);
      width = width ∙ seated.width ∙ sym (ap (λ (u : View). u.has.width) view);
      due = subst (λ (u : View). (c : ℕ) → 0 < times c u.has.todo → IsDueIn u.key c) (sym view)
          (λ c there. seated.due c (let r = times_rest c v.has.todo in omega arith));
      inside = subst (λ (u : View). (c : ℕ) → 0 < times c u.has.owed → c < size u.key) (sym view)
          (λ c there. dite (ℕ_discrete n 1)
          (λ e.
          let o : times c (view_struck v gap n place).has.owed ≡ times c v.has.owed + times c own =
          ap (times c) (cond_same n 1 (v.has.owed ++ own) v.has.owed e) ∙ times-append c v.has.owed own in
          let z : times c v.has.owed ≡ 0 = ap (times c) none_owed in
          subst (λ (q : Key). c < size q) (sym knows)
          (source-rank k.solving sol gap c in_gaps
          (subst (λ (xs : List ℕ). 0 < times c xs) (sym same) (omega arith))))
          (λ ne.
          let o : times c (view_struck v gap n place).has.owed ≡ times c v.has.owed =
          ap (times c) (cond_other n 1 (v.has.owed ++ own) v.has.owed ne) in
          let z : times c v.has.owed ≡ 0 = ap (times c) none_owed in
          absurd (omega arith)));
      room_owed = subst (λ (u : View). most_members u.key ≤ deque_capacity t.owed) (sym view)
          (let r = seated.room_owed in omega arith);
      room = room_told t v.key (vec_capacity s.won) (ap (λ (u : View). u.key) view) room_won
          (let most' : most_members v.key ≡ most_members k = ap most_members knows in
          let m : ℕ = length (drop 1 s.todo.items) in
          let space : most_members v.key * length t.todo.items ≡ most_members v.key * m =
          ap (λ (xs : List ℕ). most_members v.key * length xs) todo in
          let before : most_members v.key * length s.todo.items ≡ most_members v.key + most_members v.key * m =
          ap (λ (i : ℕ). most_members v.key * i) l ∙ times_step (most_members v.key) m in
          let w = ap length won in
          let o : length t.owed.items ≤ length s.owed.items + most_members v.key = dite (ℕ_discrete n 1)
          (λ e. let o = ap length owed ∙ ap length (cond_same n 1 (s.owed.items ++ more) s.owed.items e)
          ∙ length-append s.owed.items more in omega arith)
          (λ ne. let o = ap length owed ∙ ap length (cond_other n 1 (s.owed.items ++ more) s.owed.items ne) in
          omega arith) in
          room_less v.key (length s.won.items) (length s.owed.items) (length s.todo.items)
          (vec_capacity s.won) _ _ _ seated.room (omega arith) (omega arith));
    }

-- the seat that a split keeps
pub kept_seat : (s t : Inside) → IsSeated s → t.seat.me.0 ≡ kept_part s.seat.me.0 → t.seat.me.1 ≡ s.seat.me.1
    → t.todo.items ≡ take (length s.todo.items - length s.todo.items / 2) s.todo.items → t.owed.items ≡ s.owed.items
    → deque_capacity t.owed ≡ deque_capacity s.owed
    → t.won.items ≡ s.won.items → vec_capacity t.won ≡ vec_capacity s.won → t.width ≡ s.width - s.width / 2 → IsSeated t
kept_seat s t seated view slots todo owed room_owed won room_won width =
    let v : View = s.seat.me.0 in
    let m : ℕ = length v.has.todo - length v.has.todo / 2 in
    record {
      free = slots ∙ seated.free;
      todo = todo ∙ ap (λ (xs : List ℕ). take (length xs - length xs / 2) xs) seated.todo
          ∙ sym (ap (λ (u : View). u.has.todo) view);
      owed = owed ∙ seated.owed ∙ sym (ap (λ (u : View). u.has.owed) view);
      won = won ∙ seated.won ∙ sym (ap (λ (u : View). u.has.won) view);
      width = width ∙ ap (λ (n : ℕ). n - n / 2) seated.width ∙ sym (ap (λ (u : View). u.has.width) view);
      due = subst (λ (u : View). (c : ℕ) → 0 < times c u.has.todo → IsDueIn u.key c) (sym view)
          (λ c there. seated.due c (let r = times-cut c m v.has.todo in omega arith));
      inside = subst (λ (u : View). (c : ℕ) → 0 < times c u.has.owed → c < size u.key) (sym view) seated.inside;
      room_owed = subst (λ (u : View). most_members u.key ≤ deque_capacity t.owed) (sym view)
          (let r = seated.room_owed in omega arith);
      room = room_told t v.key (vec_capacity s.won) (ap (λ (u : View). u.key) view) room_won
          (let shorter : length t.todo.items ≤ length s.todo.items =
          omega (arith, ap length todo, length-take {A = ℕ}) in
          let space : most_members v.key * length t.todo.items ≤ most_members v.key * length s.todo.items =
          mul-le-mul_left (most_members v.key) shorter in
          let w = ap length won in
          let o = ap length owed in
          room_less v.key (length s.won.items) (length s.owed.items) (length s.todo.items)
          (vec_capacity s.won) _ _ _ seated.room (omega arith) (omega arith));
    }

-- the seat that a split makes
pub new_seat : (s t : Inside) → IsSeated s → t.seat.me.0 ≡ new_part s.seat.me.0 → t.seat.me.1 ≡ []
    → t.todo.items ≡ drop (length s.todo.items - length s.todo.items / 2) s.todo.items → t.owed.items ≡ []
    → most_members s.seat.me.0.key ≤ deque_capacity t.owed
    → t.won.items ≡ [] → (size s.seat.me.0.key ≤ vec_capacity t.won)
    ⊎ (most_members s.seat.me.0.key * (length s.todo.items / 2) ≤ vec_capacity t.won) → t.width ≡ s.width / 2
    → IsSeated t
new_seat s t seated view slots todo owed room_owed won room_won width =
    let v : View = s.seat.me.0 in
    let m : ℕ = length v.has.todo - length v.has.todo / 2 in
    record {
      free = slots;
      todo = todo ∙ ap (λ (xs : List ℕ). drop (length xs - length xs / 2) xs) seated.todo
          ∙ sym (ap (λ (u : View). u.has.todo) view);
      owed = owed ∙ sym (ap (λ (u : View). u.has.owed) view);
      won = won ∙ sym (ap (λ (u : View). u.has.won) view);
      width = width ∙ ap (λ (n : ℕ). n / 2) seated.width ∙ sym (ap (λ (u : View). u.has.width) view);
      due = subst (λ (u : View). (c : ℕ) → 0 < times c u.has.todo → IsDueIn u.key c) (sym view)
          (λ c there. seated.due c (let r = times-cut c m v.has.todo in omega arith));
      inside = subst (λ (u : View). (c : ℕ) → 0 < times c u.has.owed → c < size u.key) (sym view)
          (λ c there. absurd (omega arith));
      room_owed = subst (λ (u : View). most_members u.key ≤ deque_capacity t.owed) (sym view) room_owed;
      room = room_told t v.key (vec_capacity t.won) (ap (λ (u : View). u.key) view) refl
          (let long : length t.todo.items ≡ length s.todo.items / 2 =
          omega (arith, ap length todo, length-drop {A = ℕ}) in
          let shorter : length t.todo.items ≤ length s.todo.items = omega arith in
          let space : most_members v.key * length t.todo.items ≤ most_members v.key * length s.todo.items =
          mul-le-mul_left (most_members v.key) shorter in
          let space' : most_members v.key * length t.todo.items ≡ most_members v.key * (length s.todo.items / 2) =
          ap (λ (i : ℕ). most_members v.key * i) long in
          let w = ap length won in
          let o = ap length owed in
          let f = seated.room.few in
          record {
            places = ⊎_elim (λ (a : size v.key ≤ vec_capacity t.won). inl a)
                (λ (b : most_members v.key * (length s.todo.items / 2) ≤ vec_capacity t.won). inr
                (omega arith)) room_won;
            few = omega arith;
            narrow = seated.room.narrow;
            some_most = seated.room.some_most;
          });
    }

-- the seat that a join makes
pub joined_seat : (s q t : Inside) → IsSeated s → IsSeated q → s.seat.me.0.key ≡ q.seat.me.0.key
    → t.seat.me.0 ≡ view_joined s.seat.me.0 q.seat.me.0 → t.seat.me.1 ≡ s.seat.me.1
    → t.todo.items ≡ s.todo.items ++ q.todo.items → t.owed.items ≡ s.owed.items ++ q.owed.items
    → deque_capacity s.owed ≤ deque_capacity t.owed
    → t.won.items ≡ s.won.items ++ q.won.items
    → (size s.seat.me.0.key ≤ vec_capacity t.won)
    ⊎ (length s.won.items + (length s.owed.items + most_members s.seat.me.0.key * length s.todo.items) +
    (length q.won.items + length q.owed.items + most_members s.seat.me.0.key * length q.todo.items) ≤ vec_capacity
    t.won)
    → IsBounded t.seat.me.0 → t.width ≡ s.width + q.width → IsSeated t
joined_seat s q t seated other same view slots todo owed room_owed won room_won bounded width =
    let v : View = s.seat.me.0 in
    let u : View = q.seat.me.0 in
    record {
      free = slots ∙ seated.free;
      todo = todo ∙ ap (λ (p : List ℕ × List ℕ). p.0 ++ p.1) (λ j. (seated.todo j, other.todo j))
          ∙ sym (ap (λ (u : View). u.has.todo) view);
      owed = owed ∙ ap (λ (p : List ℕ × List ℕ). p.0 ++ p.1) (λ j. (seated.owed j, other.owed j))
          ∙ sym (ap (λ (u : View). u.has.owed) view);
      won = won ∙ ap (λ (p : List ℕ × List ℕ). p.0 ++ p.1) (λ j. (seated.won j, other.won j))
          ∙ sym (ap (λ (u : View). u.has.won) view);
      width = width ∙ ap (λ (p : ℕ × ℕ). p.0 + p.1) (λ j. (seated.width j, other.width j))
          ∙ sym (ap (λ (u : View). u.has.width) view);
      due = subst (λ (u : View). (c : ℕ) → 0 < times c u.has.todo → IsDueIn u.key c) (sym view) (λ c there.
          let r = times-append c v.has.todo u.has.todo in
          dite (ℕ_discrete (times c v.has.todo) 0)
          (λ z. subst (λ (k : Key). IsDueIn k c) (sym same) (other.due c (omega arith)))
          (λ nz. seated.due c (omega arith)));
      inside = subst (λ (u : View). (c : ℕ) → 0 < times c u.has.owed → c < size u.key) (sym view) (λ c there.
          let r = times-append c v.has.owed u.has.owed in
          dite (ℕ_discrete (times c v.has.owed) 0)
          (λ z. subst (λ (k : Key). c < size k) (sym same) (other.inside c (omega arith)))
          (λ nz. seated.inside c (omega arith)));
      room_owed = subst (λ (u : View). most_members u.key ≤ deque_capacity t.owed) (sym view)
          (let r = seated.room_owed in omega arith);
      room = room_told t v.key (vec_capacity t.won) (ap (λ (x : View). x.key) view) refl
          (let long : length t.todo.items ≡ length s.todo.items + length q.todo.items =
          ap length todo ∙ length-append s.todo.items q.todo.items in
          let space : most_members v.key * length t.todo.items
          ≡ most_members v.key * (length s.todo.items + length q.todo.items) =
          ap (λ (i : ℕ). most_members v.key * i) long in
          let spread : most_members v.key * (length s.todo.items + length q.todo.items)
          ≡ most_members v.key * length s.todo.items + most_members v.key * length q.todo.items = grind arith in
          let w = ap length won ∙ length-append s.won.items q.won.items in
          let o = ap length owed ∙ length-append s.owed.items q.owed.items in
          let todo' = ap (λ (xs : List ℕ). most_members v.key * length xs)
          (todo ∙ ap (λ (p : List ℕ × List ℕ). p.0 ++ p.1) (λ j. (seated.todo j, other.todo j))) in
          let owed' = ap length (owed ∙ ap (λ (p : List ℕ × List ℕ). p.0 ++ p.1)
          (λ j. (seated.owed j, other.owed j))) in
          let bound : entry_bound (most_members v.key) (view_joined v u) ≤ most_members v.key * size v.key =
          subst (λ (x : View). entry_bound
          (most_members x.key) x ≤ most_members x.key * size x.key) view bounded.load in
          record {
            places = ⊎_elim (λ (a : size v.key ≤ vec_capacity t.won). inl a) (λ b. inr (omega arith)) room_won;
            few = omega arith;
            narrow = seated.room.narrow;
            some_most = seated.room.some_most;
          });
    }

pub no_length : (xs : List ℕ) → length xs ≡ 0 → xs ≡ []
no_length [] e = refl
no_length (x ∷ xs) e = absurd (omega arith)

-- the first seat of a round
pub first_seat : (t : Inside) (k : Key) → IsSolving k.solving → t.seat.me.0 ≡ opening_view k → t.seat.me.1 ≡ []
    → t.todo.items ≡ to_strike k.solving → t.owed.items ≡ [] → most_members k ≤ deque_capacity t.owed
    → t.won.items ≡ [] → (size k ≤ vec_capacity t.won) ⊎ (most_members k * length t.todo.items ≤ vec_capacity t.won)
    → t.width ≡ k.width → IsSeated t
first_seat t k sol view slots picked owed room_owed won room_won width =
    let all = ranks_due k.solving t.todo.items sol picked in
    record {
      free = slots;
      todo = all.is ∙ sym (ap (λ (u : View). u.has.todo) view);
      owed = owed ∙ sym (ap (λ (u : View). u.has.owed) view);
      won = won ∙ sym (ap (λ (u : View). u.has.won) view);
      width = width ∙ sym (ap (λ (u : View). u.has.width) view);
      due = subst (λ (u : View). (c : ℕ) → 0 < times c u.has.todo → IsDueIn u.key c) (sym view)
          (λ c there. all.due c (subst (λ (l : List ℕ). 0 < times c l) (sym all.is) there));
      inside = subst (λ (u : View). (c : ℕ) → 0 < times c u.has.owed → c < size u.key) (sym view)
          (λ c there. absurd (omega arith));
      room_owed = subst (λ (u : View). most_members u.key ≤ deque_capacity t.owed) (sym view) room_owed;
      room = room_told t k (vec_capacity t.won) (ap (λ (u : View). u.key) view) refl
          (let w = ap length won in
          let o = ap length owed in
          let m : most_members k * length t.todo.items ≤ most_members k * size k =
          mul-le-mul_left (most_members k) all.few in
          record {
            places = ⊎_elim (λ (a : size k ≤ vec_capacity t.won). inl a)
                (λ (b : most_members k * length t.todo.items ≤ vec_capacity t.won). inr (omega arith)) room_won;
            few = omega arith;
            narrow = narrow k sol;
            some_most = some_most k sol;
          });
    }

-- the configuration that is struck first has the round's value and is an answer in some gap
pub first_due : (s : Inside) (given : Solving) (config : ℕ) → IsSeated s → 0 < length s.seat.me.0.has.todo
    → s.seat.me.0.key.solving ≡ given → first_of s.seat.me.0.has.todo ≡ config → IsDue given.game config given.rounds
first_due s given config seated some key_is first =
    subst (λ (p : Solving × ℕ). IsDue p.0.game p.1 p.0.rounds) (λ j. (key_is j, first j))
    (seated.due (first_of s.seat.me.0.has.todo) (times_first s.seat.me.0.has.todo some))
