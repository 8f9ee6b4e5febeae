-- When one seat has the whole width and no work left, the round is finished.
use Rattle.std.proofs.Common.{◌≡◌, ◌≢◌, ℕ, zero, suc, ◌+◌, ◌^◌, ◌<◌, ◌≤◌, ◌↔◌, List, [], ◌∷◌, map, length, take, drop}
use Rattle.std.proofs.Common.{get_or, true, false, refl, sym, ap, ◌∙◌, subst, inl, inr, arith, Some, None}
use Rattle.board_text.proofs.Cited.{few_places}
use Rattle.graphs.specs.Answers.{IsAnswerIn}
use Rattle.graphs.specs.Graph.{PlainGraph}
use Rattle.graphs.specs.Numbered.{Numbered, graph_of, configuration_of}
use Rattle.graphs.proofs.Cited.{places_are, same_or_not}
use Rattle.std.specs.Prelude.{slice_index}
use Rattle.board_text.specs.declared.board.TheConstants.{MAX_LABELS}
use Rattle.std.proofs.lemmas.Bool.{cases_lt}
use Rattle.std.proofs.lemmas.List.{get_or-map, length-map}
use Rattle.std.specs.List.{All, Contains, flat_map, sum_by}
use Rattle.std.proofs.lemmas.List.Elements.{All-contains}
use Rattle.std.proofs.lemmas.List.Sums.{sum_by-cons}
use mathlib.Core.Option.{some, some-ne-none, some-injective}
use lib.ListN.{get_elem?}
use Rattle.atomic_table.specs.Seated.{TableId}
use Rattle.atomic_table.specs.Table.{State, Final, Seen}
use Rattle.index_lists.specs.Lists.{times}
use Rattle.index_lists.proofs.Cited.{cond_other}
use Rattle.positions.specs.declared.value.Value.TheVariants.{Finite}
use Rattle.positions.specs.Value.{HasValue}
use Rattle.positions.specs.Counts.{HasSize}
use Rattle.positions.specs.declared.space.TheConstants.{MAX_CONFIGURATIONS}
use Rattle.positions.proofs.Cited.{same_size, size_zero, size_at_most}
use Rattle.solver.specs.Solving.{Solving, IsSolving, AnswerLasts}
use Rattle.retro_core.specs.Round.{PlainSeat, Round, IsLawful, IsWorkedOff, spent_seat, seat_at, all_todo, all_won}
use Rattle.retro_core.specs.declared.step.Seen.{Seen as SeenData}
use Rattle.retro_core.specs.declared.step.Seen.TheVariants as seen
use Rattle.retro_core.specs.History.{answer_in_history}
use Rattle.solver.specs.Ending.{IsRoundEnd}
use Rattle.retro_core.proofs.Cited.{closed-always, closed-gone, closed-once, lost-opened, won-told, times-together}
use Rattle.retro_core.proofs.Cited.{worked-off}
use Rattle.claim_round.specs.Shared.{Key, View, Ended, Finishes}
use Rattle.claim_round.specs.History.{IsHistory, HasHistory, AreTold, LostWereWon, TellsClosedGaps, indexes_of}
use Rattle.claim_round.specs.History.{calls_of, calls_at, seats_of}
use Rattle.claim_round.specs.Rule.{Unit0, Kept, KnowsRound}
use Rattle.claim_round.specs.Inside.Seats.{IsSeated}
use Rattle.claim_round.specs.Inside.Rounds.{IsRound}
use Rattle.claim_round.specs.declared.seat.RoundSeat.TheInside.{Inside}
use Rattle.claim_round.specs.declared.words.TheConstants.{OPEN}
use Rattle.solver.specs.Words.{value_of_word}
use Rattle.claim_round.specs.Words.{round_of_words}
use Rattle.claim_round.proofs.Histories.{history-lawful, told-there, told_of, IsToldBy}
use Rattle.claim_round.proofs.Totals.{seat_read, two_widths, view_at, width_at}
use Rattle.claim_round.proofs.TableSteps.{words_length}
use Rattle.claim_round.proofs.Seats.{no_length}

-- ---- one seat has the whole width

none_else : (f : PlainSeat → ℕ) → f spent_seat ≡ 0 → (seats : List PlainSeat)
    → ((j : ℕ) → get_or seats j spent_seat ≡ spent_seat) → sum_by f seats ≡ 0
none_else f z [] idle = refl
none_else f z (x ∷ xs) idle = let here : f x ≡ 0 = ap f (idle 0) ∙ z in
    omega (arith, here, none_else f z xs (λ j. idle (suc j)), sum_by-cons f x xs)

-- if all other seats are spent, a sum over the seats is its part for the one seat
only : (f : PlainSeat → ℕ) → f spent_seat ≡ 0 → (seats : List PlainSeat) (id : ℕ)
    → ((j : ℕ) → j ≢ id → get_or seats j spent_seat ≡ spent_seat) → sum_by f seats ≡ f (get_or seats id spent_seat)
only f z [] id idle = sym z
only f z (x ∷ xs) zero idle =
    omega (arith, none_else f z xs (λ j. idle (suc j) (λ e. absurd (omega arith))), sum_by-cons f x xs)
only f z (x ∷ xs) (suc id) idle =
    let here : f x ≡ 0 = ap f (idle 0 (λ e. absurd (omega arith))) ∙ z in
    omega (arith, here, only f z xs id (λ j ne. idle (suc j) (λ e. ne (omega arith))), sum_by-cons f x xs)

-- if f is 0 for all views, its sum is 0
none_of : (f : View → ℕ) (views : List View) → ((j : ℕ) (u : View) → get_elem? views j ≡ some u → f u ≡ 0)
    → sum_by f views ≡ 0
none_of f [] idle = refl
none_of f (x ∷ xs) idle = let here = idle 0 x refl in let rest = none_of f xs (λ j u at. idle (suc j) u at) in
    omega (arith, sum_by-cons f x xs)

only_of : (f : View → ℕ) (views : List View) (id : ℕ) (v : View) → get_elem? views id ≡ some v
    → ((j : ℕ) (u : View) → j ≢ id → get_elem? views j ≡ some u → f u ≡ 0) → sum_by f views ≡ f v
only_of f [] id v at idle = absurd (some-ne-none v (sym at))
only_of f (x ∷ xs) zero v at idle =
    let here : f x ≡ f v = ap f (some-injective x v at) in
    let rest = none_of f xs (λ j u there. idle (suc j) u (λ e. absurd (omega arith)) there) in
    omega (arith, sum_by-cons f x xs)
only_of f (x ∷ xs) (suc id) v at idle =
    let here = idle 0 x (λ e. absurd (omega arith)) refl in
    let rest = only_of f xs id v at (λ j u ne there. idle (suc j) u (λ e. ne (omega arith)) there) in
    omega (arith, sum_by-cons f x xs)

-- the counts and values of a table's words, and a won list
abbrev pub end_of_words : Key → List ℕ → List ℕ → Ended
end_of_words k words won = record {
  counts = take ((graph_of k.solving.game).gaps) words;
  values = map value_of_word (drop ((graph_of k.solving.game).gaps) words);
  won = won;
}

pub record IsClosed (k : Key) (words : List ℕ) (v : View) : Type 0 where
  pub wide : v.has.width ≡ k.width
  pub long : length words ≡ (graph_of k.solving.game).gaps + (graph_of k.solving.game).configurations
  pub finishes : Finishes k.solving (end_of_words k words v.has.won)
  pub history : HasHistory k v.made (end_of_words k words v.has.won)
  pub lost : LostWereWon v.made v.has.won
  pub closed : TellsClosedGaps k.solving v.made (take ((graph_of k.solving.game).gaps) words)

module _ (k : Key) (words : List ℕ) (views : List View) (sol : IsSolving k.solving) (h : IsHistory k words views)
    (knows : All (KnowsRound k) views)
    (id : ℕ) (v : View) (at : get_elem? views id ≡ some v) (whole : k.width ≤ v.has.width) (no_todo : v.has.todo ≡ [])
    (no_owed : v.has.owed ≡ []) where
  abbrev round : Round
  round = round_of_words k.solving k.width words (seats_of views)

  law : IsLawful round
  law = history-lawful k words views sol h

  read : seat_at round id ≡ v.has
  read = seat_read views id v at

  same_width : v.has.width ≡ k.width
  same_width = let all = law.widths in let part = width_at (seats_of views) id in let here =
      ap (λ (u : PlainSeat). u.width) read in omega arith

  others : (j : ℕ) → j ≢ id → seat_at round j ≡ spent_seat
  others j ne = law.spent_seats j
      (let all = law.widths in let two = two_widths (seats_of views) j id ne in let here =
      ap (λ (u : PlainSeat). u.width) read in omega arith)

  off : IsWorkedOff round
  off = record {
    no_todo = λ j. elim (same_or_not j id) [
      | inl e ↦ ap (λ i. (seat_at round i).todo) e ∙ ap (λ (u : PlainSeat). u.todo) read ∙ no_todo
      | inr ne ↦ ap (λ (u : PlainSeat). u.todo) (others j ne)
    ];
    no_owed = λ j. elim (same_or_not j id) [
      | inl e ↦ ap (λ i. (seat_at round i).owed) e ∙ ap (λ (u : PlainSeat). u.owed) read ∙ no_owed
      | inr ne ↦ ap (λ (u : PlainSeat). u.owed) (others j ne)
    ];
  }

  listed : (list : PlainSeat → List ℕ) → list spent_seat ≡ [] → (x : ℕ)
      → times x (flat_map list (seats_of views)) ≡ times x (list v.has)
  listed list none x = times-together x list (seats_of views)
      ∙ only (λ u. times x (list u)) (ap (times x) none) (seats_of views) id others
      ∙ ap (λ (u : PlainSeat). times x (list u)) read

  won_all : (x : ℕ) → times x (all_won round) ≡ times x v.has.won
  won_all x = listed (λ u. u.won) refl x

  nothing_waits : (x : ℕ) → times x (all_todo round) ≡ 0
  nothing_waits x = listed (λ u. u.todo) refl x ∙ ap (times x) no_todo

  above_of : (gap : ℕ) → gap < (graph_of k.solving.game).gaps
      → HasSize (AnswerLasts k.solving.game gap (suc k.solving.rounds))
      (slice_index (take ((graph_of k.solving.game).gaps) words) gap)
  above_of gap i =
      let n : Numbered = k.solving.game in
      let a : PlainGraph = graph_of n in
      let count = law.counts gap i in
      let P : ℕ → Type 0 = λ place. IsAnswerIn a gap place × (0 < times (a.member gap place) (all_todo round)) in
      let waiting : count.waiting ≡ 0 = same_size P count.waiting 0 count.are_waiting
      ((size_zero P).1 (λ place h. let z = nothing_waits (a.member gap place) in let one = h.1 in omega arith)) in
      let sum = count.sum in
      subst (HasSize (AnswerLasts n gap (suc k.solving.rounds)))
      (let e : count.above ≡ slice_index (take a.gaps words) gap = omega arith in e) count.are_above

  ended : IsRoundEnd k.solving v.has.won (take ((graph_of k.solving.game).gaps) words)
  ended = record {
    once = λ x. let all = (worked-off round sol.is_board law off x).0 in let w = won_all x in omega arith;
    next = λ x. let all = (worked-off round sol.is_board law off x).1 in (
      λ h. all.0 (subst (λ n. 0 < n) (sym (won_all x)) h),
      λ worth. subst (λ n. 0 < n) (won_all x) (all.1 worth),
    );
    wide = law.counts_length;
    above = above_of;
  }

  valued : (rank value : ℕ) → rank < (graph_of k.solving.game).configurations
      → (get_or (map value_of_word (drop ((graph_of k.solving.game).gaps) words)) rank None ≡ Some value)
      ↔ ((value ≤ suc k.solving.rounds)
      × HasValue k.solving.game.board (configuration_of k.solving.game rank) (Finite value))
  valued rank value i =
      let n : Numbered = k.solving.game in
      let r = k.solving.rounds in
      let means = law.values rank value i in (
        λ e. elim (means.0 e) [
          | inl low ↦ (let l = low.0 in (omega arith, low.1))
          | inr next ↦ (let l = next.0 in (
            omega arith,
            subst (λ m. HasValue n.board (configuration_of n rank) (Finite m)) (sym next.0)
                (law.won rank next.1).has_value,
          ))
        ],
        λ has. elim (cases_lt r value) [
          | inr low ↦ means.1 (inl (omega arith, has.1))
          | inl high ↦ (
              let top = has.0 in
              let e : value ≡ suc r = omega arith in
              means.1 (inr (
                e,
                ((worked-off round sol.is_board law off rank).1).1
                    (record {
                      is_rank = i;
                      has_value = subst (λ m. HasValue n.board (configuration_of n rank) (Finite m)) e has.1;
                    }),
              )))
        ],
      )

  finished : Finishes k.solving (end_of_words k words v.has.won)
  finished = record { end = ended; wide = law.values_length; values = valued }

  -- each call of the history was told to the one seat
  told_once : (place : ℕ) → times place (indexes_of v.made) ≡ calls_at h.steps place
  told_once place = sym (only_of (told_of place) views id v at (λ j u ne there.
      let width : u.has.width ≡ 0 = ap (λ (q : PlainSeat). q.width) (sym (seat_read views j u there) ∙ others j ne) in
      ap (λ (m : List (ℕ × SeenData)). times place (indexes_of m))
      ((view_at (KnowsRound k) views j u knows there).nothing width))) ∙ h.once place

  told : AreTold h.steps v.made
  told = (view_at (IsToldBy h.steps) views id v h.told at).0

  -- the answer of each call at a place was told
  has_told : (place : ℕ) (answer : SeenData) → answer_in_history h.steps place ≡ Some answer
      → calls_of (Some answer) ≡ 1 → Contains v.made (place, answer)
  has_told place answer is call =
      told-there h.steps v.made place answer told is
      (let once = told_once place in let one = ap calls_of is in omega arith)

  -- each answer that was told is in the history, at its place
  stands : (place : ℕ) (answer : SeenData) → Contains v.made (place, answer)
      → answer_in_history h.steps place ≡ Some answer
  stands place answer there = All-contains (λ (call : ℕ × SeenData). answer_in_history h.steps call.0 ≡ Some call.1)
      v.made (place, answer) told there

  history : HasHistory k v.made (end_of_words k words v.has.won)
  history = record {
    first = h.first;
    steps = h.steps;
    last = round;
    opens = h.opens;
    counted = h.counted;
    leads = h.leads;
    worked_off = off;
    counts = refl;
    values = refl;
    won = won_all;
    told = told;
    once = told_once;
  }

  lost : LostWereWon v.made v.has.won
  lost place config there =
      let found = lost-opened k.solving k.width h.first h.steps round sol h.opens h.leads place config
      (stands place (seen.Tried config false) there) in
      let won = won-told h.first h.steps round h.leads found.0 config found.2 in (
        found.0,
        found.1,
        has_told found.0 (seen.Tried config true) found.2 refl,
        (let all = won_all config in omega arith),
      )

  closed : TellsClosedGaps k.solving v.made (take ((graph_of k.solving.game).gaps) words)
  closed = record {
    once = λ gap place other config another here there. closed-once h.first h.steps round h.leads gap place other
        (config, stands place (seen.Struck config (Some gap)) here)
        (another, stands other (seen.Struck another (Some gap)) there);
    only = λ gap place config here.
        (closed-gone h.first h.steps round h.leads gap place
        (config, stands place (seen.Struck config (Some gap)) here)).1;
    always = λ gap label low answer none.
        let P : ℕ → Type 0 = AnswerLasts k.solving.game gap k.solving.rounds in
        let some : 0 < slice_index h.first.counts gap = elim (same_or_not (slice_index h.first.counts gap) 0) [
          | inl zero_left ↦ absurd ((size_zero P).0 (subst (HasSize P) zero_left (h.counted gap low)) label answer)
          | inr left ↦ (let more = left in omega arith)
        ] in
        let found = closed-always h.first h.steps round h.leads gap some none in
        (found.0, found.1.0, has_told found.0 (seen.Struck found.1.0 (Some gap)) found.1.1 refl);
  }

-- if at the last state a seat has the whole width and no work left, the round is closed
pub closed_state : (k : Key) (id : ℕ) (v : View) (words : List ℕ) (slots : List Unit0)
    → Final (Seen (Kept k) id v) words slots → k.width ≤ v.has.width → v.has.todo ≡ [] → v.has.owed ≡ []
    → IsClosed k words v
closed_state k id v words slots last whole no_todo no_owed =
    let s : State Unit0 View = last.0 in
    let kept : Kept k s = last.1.0 in
    let at : get_elem? s.views id ≡ some v = last.1.1 in
    let sol = kept.solving in
    let h = kept.history in
    let knows = kept.knows in
    subst (λ (ws : List ℕ). IsClosed k ws v) last.2 (record {
      wide = same_width k s.words s.views sol h knows id v at whole no_todo no_owed;
      long = words_length k.solving k.width s.words (seats_of s.views) (history-lawful k s.words s.views sol h);
      finishes = finished k s.words s.views sol h knows id v at whole no_todo no_owed;
      history = history k s.words s.views sol h knows id v at whole no_todo no_owed;
      lost = lost k s.words s.views sol h knows id v at whole no_todo no_owed;
      closed = closed k s.words s.views sol h knows id v at whole no_todo no_owed;
    })

-- the same by the fields of a round and of its seat
pub closed_fields : (k : Key) (given : Solving) (width : ℕ) (table : TableId) (s : Inside) (words : List ℕ)
    (slots : List Unit0)
    → IsRound (record { solving = given; width = width }) k table → IsSeated s
    → width ≤ s.width → length s.todo.items ≡ 0 → length s.owed.items ≡ 0
    → Final (Seen (Kept k) s.seat.id s.seat.me.0) words slots
    → IsClosed k words s.seat.me.0 × (s.seat.me.0.has.todo ≡ []) × (s.seat.me.0.has.owed ≡ [])
closed_fields k given width table s words slots round seated whole todo owed last =
    let no_todo : s.seat.me.0.has.todo ≡ [] = sym seated.todo ∙ no_length s.todo.items todo in
    let no_owed : s.seat.me.0.has.owed ≡ [] = sym seated.owed ∙ no_length s.owed.items owed in
    let kept : k.width ≡ width = ap (λ (q : Key). q.width) round.key_is in
    let wide = seated.width in
    (closed_state k _ s.seat.me.0 words slots last (omega arith) no_todo no_owed, no_todo, no_owed)

-- ---- the words fit

pub small_counts : (s : Solving) (e : Ended) → IsSolving s → Finishes s e → (g : ℕ) → g < (graph_of s.game).gaps
    → slice_index e.counts g < 2 ^ 32
small_counts s e sol done g i =
    let few = size_at_most (AnswerLasts s.game g (suc s.rounds)) (slice_index e.counts g) (MAX_LABELS + 1)
    (done.end.above g i)
    (λ place answer. let low : place < (graph_of s.game).places = answer.0.is_place in
    let same = places_are s.game in let top = few_places s.game.board sol.is_board in omega arith) in
    omega arith

pub small_value : (s : Solving) (words : List ℕ) (counts won : List ℕ) → s.rounds < (graph_of s.game).configurations
    → (graph_of s.game).configurations ≤ MAX_CONFIGURATIONS
    → Finishes s (record { counts = counts; values = map value_of_word words; won = won }) → (rank : ℕ)
    → rank < length words
    → slice_index words rank < 2 ^ 32
small_value s words counts won below few done rank i =
    let word : ℕ = slice_index words rank in
    let long = length-map words value_of_word in
    let wide = done.wide in
    elim (same_or_not word OPEN) [
      | inl same ↦ omega arith
      | inr other ↦ (
          let read : get_or (map value_of_word words) rank None ≡ Some word =
          get_or-map value_of_word words rank 0 None i ∙ cond_other word OPEN None (Some word) other in
          let top = ((done.values rank word (omega arith)).0 read).0 in
          omega arith)
    ]
