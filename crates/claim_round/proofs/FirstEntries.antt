-- Facts before a step: the seat is of the round, and its first entry is of the game.
use Rattle.std.proofs.Common.{◌≡◌, ℕ, ◌+◌, ◌<◌, List, [], ◌∷◌, length, sym, ap, ◌∙◌, subst, arith}
use Rattle.graphs.specs.Numbered.{Numbered, graph_of}
use Rattle.atomic_table.specs.Seated.{TableId}
use Rattle.solver.specs.Solving.{Solving}
use Rattle.retro_core.specs.Round.{IsDue, first_of}
use Rattle.claim_round.specs.Shared.{Key, IsOf, RoundId, SeatId}
use Rattle.claim_round.specs.Rule.{size}
use Rattle.claim_round.specs.Inside.Seats.{IsSeated, seat_id_of}
use Rattle.claim_round.specs.Inside.Rounds.{IsRound, round_id}
use Rattle.claim_round.specs.declared.seat.RoundSeat.TheInside.{Inside}
use Rattle.claim_round.proofs.Seats.{first_due, times_first}

-- a seat that belongs to the round by the clauses belongs to it by its fields
pub of_round : (table : TableId) (k : Key) (r : RoundId) (s : Inside) (p : SeatId) → round_id table k ≡ r
    → seat_id_of s ≡ p → IsOf r p → IsOf (round_id table k) (seat_id_of s)
of_round table k r s p round_is seat_is =
    subst (λ (q : RoundId × SeatId). IsOf q.0 q.1) (λ j. (sym round_is j, sym seat_is j))

-- a gap of the game is a gap of the key's game
pub in_gaps : (k : Key) (given : Solving) (game : Numbered) (gap : ℕ) → k.solving ≡ given → game ≡ given.game
    → gap < (graph_of game).gaps → gap < (graph_of k.solving.game).gaps
in_gaps k given game gap solving game_is =
    subst (λ (n : Numbered). gap < (graph_of n).gaps) (game_is ∙ ap (λ (s : Solving). s.game) (sym solving))

-- the gap in which a configuration is an answer in the game is that of the key's game
pub struck_in : (k : Key) (given : Solving) (game : Numbered) (gap config first : ℕ) → k.solving ≡ given
    → game ≡ given.game → first ≡ config
    → gap ≡ (graph_of game).struck config → gap ≡ (graph_of k.solving.game).struck first
struck_in k given game gap config first solving game_is first_is gap_is =
    gap_is ∙ ap (λ (n : Numbered). (graph_of n).struck config) (game_is ∙ ap (λ (s : Solving). s.game) (sym solving))
    ∙ ap (graph_of k.solving.game).struck (sym first_is)

-- a seat of the round that owes nothing and strikes this configuration next
pub record StrikesNext (table : TableId) (k : Key) (given : Solving) (s : Inside) (config : ℕ) : Type 0 where
  pub of : IsOf (round_id table k) (seat_id_of s)
  pub solving : k.solving ≡ given
  pub some_todo : 0 < length s.seat.me.0.has.todo
  pub none_owed : s.seat.me.0.has.owed ≡ []
  pub first : first_of s.seat.me.0.has.todo ≡ config
  pub due : IsDue given.game config given.rounds

pub strikes_next : (table : TableId) (k : Key) (r : RoundId) (given : Solving) (width : ℕ) (s : Inside) (p : SeatId)
    (config : ℕ) (rest : List ℕ)
    → round_id table k ≡ r → seat_id_of s ≡ p
    → IsRound (record { solving = given; width = width }) k table → IsSeated s → IsOf r p → 0 < length p.view.has.todo
    → p.view.has.owed ≡ [] → s.todo.items ≡ config ∷ rest
    → StrikesNext table k given s config
strikes_next table k r given width s p config rest round_is seat_is round seated mine some none items =
    let of = of_round table k r s p round_is seat_is mine in
    let solving : k.solving ≡ given = ap (λ (q : Key). q.solving) round.key_is in
    let some_todo : 0 < length s.seat.me.0.has.todo =
    subst (λ (q : SeatId). 0 < length q.view.has.todo) (sym seat_is) some in
    let first : first_of s.seat.me.0.has.todo ≡ config = ap first_of (sym seated.todo ∙ items) in
    record {
      of = of;
      solving = solving;
      some_todo = some_todo;
      none_owed = subst (λ (q : SeatId). q.view.has.owed ≡ []) (sym seat_is) none;
      first = first;
      due = first_due s given config seated some_todo (ap (λ (q : Key). q.solving) of.1 ∙ solving) first;
    }

-- a seat of the round that owes something, and the word of the first owed configuration
pub record ClaimsNext (table : TableId) (k : Key) (s : Inside) (word : ℕ) : Type 0 where
  pub of : IsOf (round_id table k) (seat_id_of s)
  pub some_owed : 0 < length s.seat.me.0.has.owed
  pub here : word ≡ (graph_of k.solving.game).gaps + first_of s.seat.me.0.has.owed
  pub inside : word < table.words

pub claims_next : (table : TableId) (k : Key) (r : RoundId) (given : Solving) (width : ℕ) (s : Inside) (p : SeatId)
    (game : Numbered) (count config : ℕ) (rest : List ℕ)
    → round_id table k ≡ r → seat_id_of s ≡ p → IsRound (record { solving = given; width = width }) k table → IsSeated s
    → IsOf r p → 0 < length p.view.has.owed
    → s.owed.items ≡ config ∷ rest → game ≡ given.game → count ≡ (graph_of game).gaps
    → ClaimsNext table k s (count + config)
claims_next table k r given width s p game count config rest round_is seat_is round seated mine some items game_is
    count_is =
    let of = of_round table k r s p round_is seat_is mine in
    let some_owed : 0 < length s.seat.me.0.has.owed =
    subst (λ (q : SeatId). 0 < length q.view.has.owed) (sym seat_is) some in
    let first : first_of s.seat.me.0.has.owed ≡ config = ap first_of (sym seated.owed ∙ items) in
    let gaps_are : count ≡ (graph_of k.solving.game).gaps =
    count_is ∙ ap (λ (n : Numbered). (graph_of n).gaps) game_is
    ∙ ap (λ (q : Key). (graph_of q.solving.game).gaps) (sym round.key_is) in
    let low : first_of s.seat.me.0.has.owed < size k =
    subst (λ (q : Key). first_of s.seat.me.0.has.owed < size q) of.1
    (seated.inside (first_of s.seat.me.0.has.owed) (times_first s.seat.me.0.has.owed some_owed)) in
    let words = round.words in
    record { of = of; some_owed = some_owed; here = omega arith; inside = omega arith }
