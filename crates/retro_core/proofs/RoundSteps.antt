-- Openings are lawful, steps keep rounds lawful, and a worked-off round has won all of the next value.
use Rattle.std.proofs.Common.{drop, ◌≡◌, ◌≢◌, ◌⊎◌, ℕ, suc, ◌-◌, ◌<◌, ◌≤◌, Bool, true, false, cond, List, [], ◌∷◌}
use Rattle.std.proofs.Common.{length, map, set, refl, sym, ap, ◌∙◌, inl, inr, subst, arith, Option, Some, None, get_or}
use Rattle.std.proofs.Common.{slice_index, length-set, get_or-set_same, get_or-set_other}
use Rattle.std.specs.Option.{is_none}
use Rattle.std.proofs.lemmas.List.{length-map}
use Rattle.std.proofs.lemmas.Bool.{cases_lt}
use Rattle.std.specs.List.{flat_map, sum_by}
use Rattle.std.proofs.lemmas.List.Sums.{sum_by-cons}
use Rattle.index_lists.specs.Lists.{times}
use Rattle.board_text.specs.PlainBoard.{IsBoard}
use Rattle.positions.specs.Game.{LabellerTree}
use Rattle.positions.proofs.Cited.{same_size, size_zero}
use Rattle.graphs.specs.Answers.{IsAnswerIn}
use Rattle.graphs.specs.Graph.{PlainGraph, live_answers, lasts}
use Rattle.graphs.specs.Numbered.{Numbered, graph_of, configuration_of}
use Rattle.graphs.proofs.Cited.{next-fails, tree_of_lasts, lasts_of_value}
use Rattle.solver.specs.Solving.{Solving, IsSolving, AnswerLasts, to_strike}
use Rattle.solver.specs.Words.{value_of_word, AreFirstCounts, AreFirstValues}
use Rattle.retro_core.specs.Round.{PlainSeat, Round, spent_seat, seat_at, all_todo, all_owed, all_won, IsDue, IsLawful}
use Rattle.retro_core.specs.Round.{round_of, opening_round, IsOpening, IsWorkedOff, HasWonAll, first_of, seat_tried}
use Rattle.retro_core.specs.Round.{round_struck, first_is_open, round_tried, round_split, round_joined}
use Rattle.retro_core.specs.declared.step.Step.{Step}
use Rattle.retro_core.specs.declared.step.Step.TheVariants as steps
use Rattle.retro_core.specs.declared.step.Seen.{Seen}
use Rattle.retro_core.specs.declared.step.Seen.TheVariants as seen
use Rattle.retro_core.specs.Stepping.{Does, LeadTo}
use Rattle.retro_core.proofs.Rules.{Rules, rules_of, AreKept}
use Rattle.solver.proofs.Cited.{above-size}
use Rattle.retro_core.proofs.SeatSums.{total-at, times-together}
use Rattle.retro_core.proofs.SeatSteps.{strikes, tries, first-known, splits, joins, opens, split_first, times_here}
use Rattle.retro_core.proofs.RoundStart.{sound-is, ready-is}
use Rattle.retro_core.proofs.RoundLaws.{word_at, seat-there, lawful-of, kept-of}

-- ---- live seats

-- a seat with an entry in one of its lists has a width
wide-with : (list : PlainSeat → List ℕ) → list spent_seat ≡ [] → (round : Round) → IsLawful round → (id : ℕ)
    → 0 < length (list (seat_at round id)) → 0 < (seat_at round id).width
wide-with list none round law id some = elim (cases_lt 0 (seat_at round id).width) [
  | inl wide ↦ wide
  | inr no_width ↦ absurd (let gone = ap (λ v. length (list v)) (law.spent_seats id (omega arith)) ∙ ap length none in
      omega arith)
]

-- ---- strike

-- the first configuration that a seat has to strike has the round's value and is an answer in some gap
pub first-due : (round : Round) → IsLawful round → (id : ℕ) → 0 < length (seat_at round id).todo
    → IsDue round.solving.game (first_of (seat_at round id).todo) round.solving.rounds
first-due round law id some =
    let v = seat_at round id in
    let c : ℕ = first_of v.todo in
    let at = seat-there round.seats id (wide-with (λ v. v.todo) refl round law id some) in
    let part = total-at (λ (u : PlainSeat). times c u.todo) round.seats id v at in
    let here = ap (times c) (split_first v.todo some) ∙ times_here c (drop 1 v.todo) in
    let all = times-together c (λ u. u.todo) round.seats in
    law.due c (omega arith)

pub record IsStruck (round : Round) (id gap : ℕ) : Type 0 where
  pub gap_in : gap < (graph_of round.solving.game).gaps
  pub some_left : 0 < slice_index round.counts gap
  pub lawful : IsLawful (round_struck round id gap)

-- the round after a claim, by whether the claim found the word open
abbrev pub tried_as : Bool → Round → ℕ → Round
tried_as is_open round seat = record round {
  values = cond is_open (set round.values (first_of (seat_at round seat).owed)
      (Some (suc round.solving.rounds))) round.values;
  seats = set round.seats seat (seat_tried is_open (seat_at round seat));
}

pub record IsTried (round : Round) (id : ℕ) : Type 0 where
  pub is_rank : first_of (seat_at round id).owed < (graph_of round.solving.game).configurations
  pub word : (word_at round (first_of (seat_at round id).owed) ≡ None)
      ⊎ (word_at round (first_of (seat_at round id).owed) ≡ Some (suc round.solving.rounds))
  pub not_won : first_is_open round id ≡ false → 0 < times (first_of (seat_at round id).owed) (all_won round)
  pub lawful : IsLawful (round_tried round id)

-- ---- the steps of a lawful round

module _ (round : Round) (sol : IsSolving round.solving) (law : IsLawful round) where
  abbrev k : Rules
  k = rules_of round.solving round.width

  kept : AreKept k (slice_index round.counts) (word_at round) round.seats
  kept = kept-of round sol law

  pub strike-lawful : (id : ℕ) → 0 < length (seat_at round id).todo
      → IsStruck round id ((graph_of round.solving.game).struck (first_of (seat_at round id).todo))
  strike-lawful id some =
      let c : ℕ = first_of (seat_at round id).todo in
      let due = first-due round law id some in
      let wide = wide-with (λ v. v.todo) refl round law id some in
      let in_gaps : k.home c < (graph_of round.solving.game).gaps = due.struck in
      let long = law.counts_length in
      let n : ℕ = slice_index round.counts (k.home c) in
      let done = strikes k (slice_index round.counts) (word_at round) round.seats kept id (seat_at round id)
      (seat-there round.seats id wide) (slice_index (set round.counts (k.home c) (n - 1))) wide some
      (get_or-set_same round.counts (k.home c) (n - 1) 0 (omega arith))
      (λ g j ne. get_or-set_other round.counts (k.home c) g (n - 1) 0 ne) in
      record {
        gap_in = in_gaps;
        some_left = done.some_left;
        lawful = lawful-of (round_struck round id (k.home c)) sol
            (length-set round.counts (k.home c) (n - 1) ∙ law.counts_length) law.values_length done.kept;
      }

  pub try-lawful : (id : ℕ) → 0 < length (seat_at round id).owed → IsTried round id
  try-lawful id some =
      let v = seat_at round id in
      let c : ℕ = first_of v.owed in
      let wide = wide-with (λ v. v.owed) refl round law id some in
      let at = seat-there round.seats id wide in
      let sound = sound-is round.solving sol round.width in
      let known = first-known k (slice_index round.counts) (word_at round) round.seats kept id v at sound wide some in
      let values' : List (Option ℕ) = set round.values c (Some (suc round.solving.rounds)) in
      elim (tries k (slice_index round.counts) (word_at round) round.seats kept id v at sound wide some) [
        | inl won ↦ (
            let w = won (λ x. get_or values' x None) in
            let opened : first_is_open round id ≡ true = ap is_none w.open_yet in
            record {
              is_rank = known.0;
              word = inl w.open_yet;
              not_won = λ e. absurd (different (first_is_open round id) opened e);
              lawful = subst (λ (o : Bool). IsLawful (tried_as o round id)) (sym opened)
                  (lawful-of (tried_as true round id) sol law.counts_length
                  (length-set round.values c (Some (suc round.solving.rounds)) ∙ law.values_length)
                  (w.kept (get_or-set_same round.values c (Some (suc round.solving.rounds)) None
                  (let long = law.values_length in let low : c < (graph_of round.solving.game).configurations =
                  known.0 in omega arith))
                  (λ x j ne. get_or-set_other round.values c x (Some (suc round.solving.rounds)) None ne)));
            })
        | inr lost ↦ (
            let shut : first_is_open round id ≡ false = ap is_none lost.has_next in
            record {
              is_rank = known.0;
              word = inr lost.has_next;
              not_won =
                  λ e. (let all = times-together c (λ u. u.won) round.seats in let there = lost.stands in omega arith);
              lawful = subst (λ (o : Bool). IsLawful (tried_as o round id)) (sym shut)
                  (lawful-of (tried_as false round id) sol law.counts_length law.values_length lost.kept);
            })
      ]
    where
      different : (o : Bool) → o ≡ true → o ≡ false → ⊥
      different o e d = cc

  pub split-lawful : (id : ℕ) → 2 ≤ (seat_at round id).width → IsLawful (round_split round id)
  split-lawful id wide = lawful-of (round_split round id) sol law.counts_length law.values_length
      (splits k (slice_index round.counts) (word_at round) round.seats kept id (seat_at round id)
      (seat-there round.seats id (omega arith)) wide)

  pub join-lawful : (into from : ℕ) → into ≢ from → 0 < (seat_at round into).width → 0 < (seat_at round from).width
      → IsLawful (round_joined round into from)
  join-lawful into from differ wide other_wide =
      lawful-of (round_joined round into from) sol law.counts_length law.values_length
      (joins k (slice_index round.counts) (word_at round) round.seats kept into (seat_at round into)
      (seat-there round.seats into wide) from (seat_at round from) (seat-there round.seats from other_wide) differ wide)

-- ---- the opening

pub opening-lawful : (s : Solving) → IsSolving s
    → (width : ℕ) (counts : List ℕ) (values : List (Option ℕ)) (todo : List ℕ) → 0 < width
    → length counts ≡ (graph_of s.game).gaps → length values ≡ (graph_of s.game).configurations
    → AreFirstCounts s counts → AreFirstValues s values → todo ≡ to_strike s
    → IsOpening s width (opening_round s width counts values todo)
opening-lawful s sol width counts values todo some_width counts_length values_length counts_are values_are picked =
    record {
      ranks = todo;
      to_strike_is = picked;
      is = refl;
      lawful = lawful-of (opening_round s width counts values todo) sol counts_length values_length
          (opens (rules_of s width) (slice_index counts) (λ x. get_or values x None) todo
          (ready-is s sol width (slice_index counts)
          (λ x. get_or values x None) todo some_width counts_are values_are picked));
    }

-- ---- the end

none-together : (list : PlainSeat → List ℕ) → list spent_seat ≡ [] → (seats : List PlainSeat)
    → ((id : ℕ) → list (get_or seats id spent_seat) ≡ []) → (x : ℕ) → times x (flat_map list seats) ≡ 0
none-together list none seats each x = times-together x list seats ∙ by seats each
  where
    by : (seats : List PlainSeat) → ((id : ℕ) → list (get_or seats id spent_seat) ≡ [])
        → sum_by (λ v. times x (list v)) seats ≡ 0
    by [] each = refl
    by (v ∷ seats) each =
        let here = ap (times x) (each 0) in
        let rest = by seats (λ id. each (suc id)) in
        let first = sum_by-cons (λ v. times x (list v)) v seats in
        omega arith

-- if no work is left, the won configurations are those of the next value, each once
pub worked-off : (round : Round) → IsBoard round.solving.game.board → IsLawful round → IsWorkedOff round
    → HasWonAll round
worked-off round board_is law off = λ rank. (
  law.won_once rank,
  (
    law.won rank,
    λ worth.
        let n : Numbered = round.solving.game in
        let a : PlainGraph = graph_of n in
        let r = round.solving.rounds in
        let last = lasts_of_value n board_is (suc r) rank worth.is_rank worth.has_value in
        let found = next-fails a (lasts a (suc r)) rank last.1 in
        let g : ℕ = found.0 in
        let in_gaps = found.1 in
        let v : ℕ = found.2.0 in
        let low = found.2.1 in
        let back : a.member g v ≡ rank = found.2.2 in
        let count = law.counts g in_gaps in
        let above : count.above ≡ 0 =
        same_size (AnswerLasts n g (suc r)) count.above (live_answers a (lasts a (suc r)) g) count.are_above
        (above-size n board_is (suc r) g in_gaps) ∙ found.3 in
        let no_todo : (x : ℕ) → times x (all_todo round) ≡ 0 =
        none-together (λ u. u.todo) refl round.seats off.no_todo in
        let no_owed : (x : ℕ) → times x (all_owed round) ≡ 0 =
        none-together (λ u. u.owed) refl round.seats off.no_owed in
        let waiting : count.waiting ≡ 0 =
        same_size (λ place. IsAnswerIn a g place
        × (0 < times (a.member g place) (all_todo round))) count.waiting 0 count.are_waiting
        ((size_zero (λ place. IsAnswerIn a g place × (0 < times (a.member g place) (all_todo round)))).1
        (λ place h. let none = no_todo (a.member g place) in let some = h.1 in omega arith)) in
        let sum = count.sum in
        let tree = tree_of_lasts n board_is (suc r) rank worth.is_rank last.0 in
        elim (law.closed g v in_gaps (omega arith) low
        (subst (λ x. LabellerTree n.board (suc r) (configuration_of n x)) (sym back) tree)) [
          | inl owed ↦ absurd (let none = no_owed (a.member g v) in omega arith)
          | inr won ↦ subst (λ x. 0 < times x (all_won round)) back won
        ],
  ),
)

-- ---- any step

pub stepped : (before : Round) (step : Step) (answer : Seen) (after : Round) → IsSolving before.solving
    → IsLawful before → Does before step answer after
    → IsLawful after × (after.solving ≡ before.solving)
stepped before (steps.Strike seat) (seen.Struck config closed) after sol law does =
    let done = strike-lawful before sol law seat does.some_todo in
    let gap : (graph_of before.solving.game).struck (first_of (seat_at before seat).todo) ≡ does.gap =
    ap (graph_of before.solving.game).struck (sym does.first) ∙ sym does.gap_is in
    let same : round_struck before seat ((graph_of before.solving.game).struck (first_of (seat_at before seat).todo))
    ≡ after =
    ap (round_struck before seat) gap ∙ sym does.after_is in
    (subst IsLawful same done.lawful, ap (λ r. r.solving) does.after_is)
stepped before (steps.Try seat) (seen.Tried config won) after sol law does = (
  subst IsLawful (sym does.after_is) (try-lawful before sol law seat does.some_owed).lawful,
  ap (λ r. r.solving) does.after_is,
)
stepped before (steps.Split seat) (seen.Parted new_seat) after sol law does =
    (subst IsLawful (sym does.after_is) (split-lawful before sol law seat does.wide), ap (λ r. r.solving) does.after_is)
stepped before (steps.Join into from) seen.Joined after sol law does = (
  subst IsLawful (sym does.after_is) (join-lawful before sol law into from does.differ does.has_into does.has_from),
  ap (λ r. r.solving) does.after_is,
)
stepped before (steps.Strike seat) (seen.Tried config won) after sol law does = absurd does
stepped before (steps.Strike seat) (seen.Parted new_seat) after sol law does = absurd does
stepped before (steps.Strike seat) seen.Joined after sol law does = absurd does
stepped before (steps.Try seat) (seen.Struck config closed) after sol law does = absurd does
stepped before (steps.Try seat) (seen.Parted new_seat) after sol law does = absurd does
stepped before (steps.Try seat) seen.Joined after sol law does = absurd does
stepped before (steps.Split seat) (seen.Struck config closed) after sol law does = absurd does
stepped before (steps.Split seat) (seen.Tried config won) after sol law does = absurd does
stepped before (steps.Split seat) seen.Joined after sol law does = absurd does
stepped before (steps.Join into from) (seen.Struck config closed) after sol law does = absurd does
stepped before (steps.Join into from) (seen.Tried config won) after sol law does = absurd does
stepped before (steps.Join into from) (seen.Parted new_seat) after sol law does = absurd does

pub step-lawful : (before : Round) (step : Step) (answer : Seen) (after : Round) → IsSolving before.solving
    → IsLawful before → Does before step answer after → IsLawful after
step-lawful before step answer after sol law does = (stepped before step answer after sol law does).0

-- ---- any steps

pub steps-lawful : (first : Round) (made : List (Step × Seen)) (last : Round) → IsSolving first.solving → IsLawful first
    → LeadTo first made last → IsLawful last × (last.solving ≡ first.solving)
steps-lawful first [] last sol law same = (subst IsLawful same law, ap (λ r. r.solving) (sym same))
steps-lawful first (one ∷ more) last sol law lead =
    let between : Round = lead.0 in
    let done = stepped first one.0 one.1 between sol law lead.1 in
    let rest = steps-lawful between more last (subst IsSolving (sym done.1) sol) done.0 lead.2 in
    (rest.0, rest.1 ∙ done.1)

-- a round that was opened from a solver, and worked off by any steps
pub opened-and-worked-off : (s : Solving) (width : ℕ) (first : Round) (made : List (Step × Seen)) (last : Round)
    → IsSolving s → IsOpening s width first → LeadTo first made last → IsWorkedOff last
    → (last.solving ≡ s) × HasWonAll last
opened-and-worked-off s width first made last sol opens lead off =
    let from : first.solving ≡ s = ap (λ r. r.solving) opens.is in
    let rest = steps-lawful first made last (subst IsSolving (sym from) sol) opens.lawful lead in
    let same : last.solving ≡ s = rest.1 ∙ from in
    (same, worked-off last (subst IsSolving (sym same) sol).is_board rest.0 off)

-- ---- the opening as the machine has it, with copies of its solver's words

pub opening-state : (s : Solving) → IsSolving s
    → (width : ℕ) (counts words lent_counts lent_words : List ℕ) (seats : List PlainSeat) (todo : List ℕ) → 0 < width
    → length lent_counts ≡ (graph_of s.game).gaps → length lent_words ≡ (graph_of s.game).configurations
    → AreFirstCounts s lent_counts → AreFirstValues s (map value_of_word lent_words) → todo ≡ to_strike s
    → counts ≡ lent_counts → words ≡ lent_words
    → seats ≡ record { width = width; todo = todo; owed = []; won = [] } ∷ []
    → IsOpening s width (round_of s width counts (map value_of_word words) seats)
opening-state s sol width counts words lent_counts lent_words seats todo some counts_length words_length counts_are
    values_are picked counts_same words_same seats_are =
    subst (λ (l : List PlainSeat). IsOpening s width (round_of s width counts (map value_of_word words) l))
    (sym seats_are)
    (subst (λ (p : List ℕ × List ℕ). IsOpening s width (opening_round s width p.0 (map value_of_word p.1) todo))
    (λ i. (sym counts_same i, sym words_same i))
    (opening-lawful s sol width lent_counts (map value_of_word lent_words) todo some counts_length
    (length-map lent_words value_of_word ∙ words_length) counts_are values_are picked))
