-- A round is lawful exactly if it keeps the rules by numbers, so each step keeps rounds lawful.
use Rattle.std.proofs.Common.{◌≡◌, ℕ, zero, suc, ◌+◌, ◌<◌, ◌≤◌, List, [], ◌∷◌, length, refl, sym, ap, ◌∙◌, inl, inr}
use Rattle.std.proofs.Common.{subst, arith, Option, Some, None, get_or, slice_get, slice_index}
use Rattle.std.proofs.lemmas.Bool.{cases_lt}
use Rattle.std.specs.List.{All, sum_by}
use Rattle.std.proofs.lemmas.List.{get_or_default, get_or_past}
use Rattle.index_lists.specs.Lists.{times}
use Rattle.board_text.specs.PlainBoard.{IsBoard}
use Rattle.positions.specs.declared.value.Value.TheVariants.{Finite}
use Rattle.positions.specs.Counts.{HasSize}
use Rattle.positions.proofs.Cited.{same_size, same_value}
use Rattle.graphs.specs.Answers.{IsAnswerIn}
use Rattle.graphs.specs.Graph.{PlainGraph, live_answers, lasts}
use Rattle.graphs.specs.Numbered.{Numbered, graph_of, configuration_of}
use Rattle.graphs.proofs.Cited.{numbered-is, same_or_not, some_same}
use Rattle.solver.specs.Solving.{Solving, IsSolving, AnswerLasts, source, IsWorth}
use Rattle.solver.specs.Striking.{stands, tally}
use Rattle.retro_core.specs.Round.{PlainSeat, Round, spent_seat, all_todo, all_owed, all_won, IsDue, IsLawful}
use Rattle.retro_core.proofs.Rules.{Fits, value_before, rules_of, held_in, AreKept}
use Rattle.solver.proofs.Cited.{live-size, live-tally, above-size, stands-true, stands-some}
use Rattle.retro_core.proofs.SeatSums.{total-sum, times-together, tally-together}
use Rattle.retro_core.proofs.SeatSteps.{word_none, word_some}
use Rattle.retro_core.proofs.RoundStart.{same-word, base-is, to-win-is, struck-in-is}

-- ---- seats by their numbers

pub seat-there : (seats : List PlainSeat) (id : ℕ) → 0 < (get_or seats id spent_seat).width
    → slice_get seats id ≡ Some (get_or seats id spent_seat)
seat-there [] id wide = absurd (omega arith)
seat-there (v ∷ seats) zero wide = refl
seat-there (v ∷ seats) (suc id) wide = seat-there seats id wide

-- the seat of a number is spent if it has no width
seat-fits : (seats : List PlainSeat) → All Fits seats → (id : ℕ) → Fits (get_or seats id spent_seat)
seat-fits seats fits id = elim (cases_lt id (length seats)) [
  | inl below ↦ fits id spent_seat below
  | inr past ↦ λ none. get_or_past seats id spent_seat past
]

-- ---- the rules, as a caller sees them

-- the words of a round
abbrev pub word_at : Round → ℕ → Option ℕ
word_at round rank = get_or round.values rank None

abbrev pub RoundKept : Round → Type 0
RoundKept round = AreKept (rules_of round.solving round.width) (slice_index round.counts) (word_at round) round.seats

-- the tally of a gap is the number of its answers that lead into the list
pub waiting-size : (n : Numbered) → IsBoard n.board → (ranks : List ℕ) (g : ℕ) → g < (graph_of n).gaps
    → ((x : ℕ) → 0 < times x ranks → x < (graph_of n).configurations) → ((x : ℕ) → times x ranks ≤ 1)
    → HasSize (λ place. IsAnswerIn (graph_of n) g place × (0 < times ((graph_of n).member g place) ranks))
    (tally (graph_of n).struck g ranks)
waiting-size n board_is ranks g i inside once =
    let a : PlainGraph = graph_of n in
    subst (HasSize (λ place. IsAnswerIn a g place × (0 < times (a.member g place) ranks)))
    (live-tally a (numbered-is n board_is) g ranks i inside once)
    (live-size a g (stands ranks) (λ v. 0 < times (a.member g v) ranks) (λ v j. (
      λ e. stands-some ranks (a.member g v) e,
      λ h. stands-true ranks (a.member g v) h,
    )))

same_number : (m n : ℕ) → Finite m ≡ Finite n → m ≡ n
same_number m n e = cc

-- the entries of a configuration in owed and won lists are summed over the seats
held-times : (round : Round) (x : ℕ)
    → sum_by (held_in x) round.seats ≡ times x (all_owed round) + times x (all_won round)
held-times round x =
    let s = total-sum (λ v. times x v.owed) (λ v. times x v.won) round.seats in
    let o = times-together x (λ v. v.owed) round.seats in let w = times-together x (λ v. v.won) round.seats in
    omega arith

pub lawful-of : (round : Round) → IsSolving round.solving → length round.counts ≡ (graph_of round.solving.game).gaps
    → length round.values ≡ (graph_of round.solving.game).configurations → RoundKept round → IsLawful round
lawful-of round sol counts_length values_length kept =
    let n : Numbered = round.solving.game in
    let r = round.solving.rounds in
    let k = rules_of round.solving round.width in
    let won_times = λ (x : ℕ). times-together x (λ v. v.won) round.seats in
    let todo_times = λ (x : ℕ). times-together x (λ v. v.todo) round.seats in
    let held_times = held-times round in
    let due : (x : ℕ) → 0 < times x (all_todo round) → IsDue n x r =
    λ x h. (struck-in-is round.solving sol round.width x).0 (kept.due x (let t = todo_times x in omega arith)) in
    let next : (x : ℕ) → 0 < sum_by (held_in x) round.seats → IsWorth n x (suc r) =
    λ x h. (to-win-is round.solving sol round.width x).0 (kept.next x h) in
    let worth : (x : ℕ) → 0 < times x (all_won round) → IsWorth n x (suc r) =
    λ x h. next x (let t = held_times x in omega arith) in
    let once : (x : ℕ) → times x (all_todo round) ≤ 1 = λ x. let t = todo_times x in let o = kept.due_once x in
    omega arith in
    record {
      counts_length = counts_length;
      values_length = values_length;
      values = λ x v i.
          let T : ℕ = sum_by (λ u. times x u.won) round.seats in
          let won = won_times x in
          let word = kept.values x i in
          elim (same_or_not T 0) [
            | inl none ↦ (
                let base = word ∙ word_none k x T none in (
                  λ e. inl ((base-is n sol.is_board r x v i).0 (sym base ∙ e)),
                  λ h. elim h [
                    | inl has ↦ base ∙ (base-is n sol.is_board r x v i).1 has
                    | inr has ↦ absurd (let some = has.1 in omega arith)
                  ],
                ))
            | inr some ↦ (
                let next_word = word ∙ word_some k x T (omega arith) in (
                  λ e. inr (sym (some_same (suc r) v (sym next_word ∙ e)), omega arith),
                  λ h. elim h [
                    | inl has ↦ absurd (
                        let same : suc r ≡ v = same_number (suc r) v
                        (same_value n.board (configuration_of n x) (Finite (suc r)) (Finite v)
                        (worth x (omega arith)).has_value has.1) in
                        let low : v ≤ r = has.0 in omega arith)
                    | inr has ↦ next_word ∙ ap Some (sym has.0)
                  ],
                ))
          ];
      due = due;
      due_once = once;
      counts = λ g i. record {
        above = k.live g;
        waiting = tally k.home g (all_todo round);
        are_above = above-size n sol.is_board (suc r) g i;
        are_waiting = waiting-size n sol.is_board (all_todo round) g i (λ x h. (due x h).worth.is_rank) once;
        sum = (let c = kept.counts g i in let t = tally-together k.home g (λ v. v.todo) round.seats in omega arith);
      };
      owed = λ x h. next x (let t = held_times x in omega arith);
      won = worth;
      won_once = λ x. let w = won_times x in let o = kept.won_once x in omega arith;
      closed = λ g v i none low tree.
          let x : ℕ = (graph_of n).member g v in
          let held = kept.closed g x i none ((sol.sources.listed g v i low).1 tree) in
          let t = held_times x in
          elim (cases_lt 0 (times x (all_owed round))) [
            | inl some ↦ inl some
            | inr none_owed ↦ inr (omega arith)
          ];
      widths = kept.widths;
      spent_seats = seat-fits round.seats kept.fits;
    }

-- the count of a lawful round is the number of answers above its value and of those still to strike
count-is : (round : Round) → IsSolving round.solving → IsLawful round → (g : ℕ) → g < (graph_of round.solving.game).gaps
    → slice_index round.counts g ≡ live_answers (graph_of round.solving.game)
    (lasts (graph_of round.solving.game) (suc round.solving.rounds)) g + tally
    (graph_of round.solving.game).struck g (all_todo round)
count-is round sol law g i =
    let n : Numbered = round.solving.game in
    let count = law.counts g i in
    let above = same_size (AnswerLasts n g (suc round.solving.rounds)) count.above
    (live_answers (graph_of n) (lasts (graph_of n) (suc round.solving.rounds)) g) count.are_above
    (above-size n sol.is_board (suc round.solving.rounds) g i) in
    let waiting = same_size (λ place. IsAnswerIn (graph_of n) g place
    × (0 < times ((graph_of n).member g place) (all_todo round))) count.waiting
    (tally (graph_of n).struck g (all_todo round)) count.are_waiting
    (waiting-size n sol.is_board (all_todo round) g i (λ x h. (law.due x h).worth.is_rank) law.due_once) in
    let sum = count.sum in
    omega arith

pub kept-of : (round : Round) → IsSolving round.solving → IsLawful round → RoundKept round
kept-of round sol law =
    let n : Numbered = round.solving.game in
    let r = round.solving.rounds in
    let k = rules_of round.solving round.width in
    let won_times = λ (x : ℕ). times-together x (λ v. v.won) round.seats in
    let todo_times = λ (x : ℕ). times-together x (λ v. v.todo) round.seats in
    let held_times = held-times round in
    record {
      values = λ x i.
          let T : ℕ = sum_by (λ u. times x u.won) round.seats in
          let won = won_times x in
          elim (same_or_not T 0) [
            | inl none ↦ same-base x i (omega arith) ∙ sym (word_none k x T none)
            | inr some ↦ (law.values x (suc r) i).1 (inr (refl, omega arith)) ∙ sym (word_some k x T (omega arith))
          ];
      due = λ x h. (struck-in-is round.solving sol round.width x).1 (law.due x (let t = todo_times x in omega arith));
      due_once = λ x. let t = todo_times x in let o = law.due_once x in omega arith;
      counts = λ g i. let c = count-is round sol law g i in let t = tally-together k.home g (λ v. v.todo) round.seats in
          omega arith;
      next = λ x h. (to-win-is round.solving sol round.width x).1 (
          let t = held_times x in
          elim (cases_lt 0 (times x (all_owed round))) [
            | inl some ↦ law.owed x some
            | inr none ↦ law.won x (omega arith)
          ]);
      won_once = λ x. let w = won_times x in let o = law.won_once x in omega arith;
      closed = λ g x i none there.
          let m = sol.sources.members g x i there in
          let low : m.0 < (graph_of n).places = m.1 in
          let tree = (sol.sources.listed g m.0 i low).0 (subst (λ y. 0 < times y (source round.solving g)) m.2 there) in
          let t = held_times x in
          elim (law.closed g m.0 i none low tree) [
            | inl owed ↦ (let h : 0 < times x (all_owed round) =
                subst (λ y. 0 < times y (all_owed round)) (sym m.2) owed in omega arith)
            | inr won ↦ (let h : 0 < times x (all_won round) = subst (λ y. 0 < times y (all_won round)) (sym m.2) won in
                omega arith)
          ];
      widths = law.widths;
      fits = λ id d below none.
          let here = get_or_default round.seats id d spent_seat below in
          here ∙ law.spent_seats id (sym (ap (λ (u : PlainSeat). u.width) here) ∙ none);
    }
  where
    same-base : (x : ℕ) → x < (graph_of round.solving.game).configurations → times x (all_won round) ≡ 0
        → word_at round x ≡ value_before (graph_of round.solving.game) round.solving.rounds x
    same-base x i none = same-word (word_at round x) (value_before (graph_of round.solving.game) round.solving.rounds x)
        (λ v e. elim ((law.values x v i).0 e) [
          | inl has ↦ (base-is round.solving.game sol.is_board round.solving.rounds x v i).1 has
          | inr has ↦ absurd (let some = has.1 in omega arith)
        ])
        (λ v e. (law.values x v i).1 (inl ((base-is round.solving.game sol.is_board round.solving.rounds x v i).0 e)))

-- ---- open members

-- an open member of a gap is a configuration, and is listed once
pub source-rank : (s : Solving) → IsSolving s → (g rank : ℕ) → g < (graph_of s.game).gaps → 0 < times rank (source s g)
    → rank < (graph_of s.game).configurations
source-rank s sol g rank i h =
    let m = sol.sources.members g rank i h in
    subst (λ x. x < (graph_of s.game).configurations) (sym m.2)
    ((numbered-is s.game sol.is_board).member_in g m.0 i m.1)

pub source-once : (s : Solving) → IsSolving s → (g : ℕ) → g < (graph_of s.game).gaps → (rank : ℕ)
    → times rank (source s g) ≤ 1
source-once s sol g i rank = elim (cases_lt rank ((graph_of s.game).configurations)) [
  | inl low ↦ sol.sources.once g rank i low
  | inr high ↦ elim (cases_lt 0 (times rank (source s g))) [
    | inl some ↦ absurd (let low = source-rank s sol g rank i some in omega arith)
    | inr none ↦ omega arith
  ]
]
