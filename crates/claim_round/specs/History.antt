-- The history of a shared round: the steps of one run of the machine,
-- in which each call of each seat has its index.
use Rattle.std.specs.Prelude.{◌≡◌, ℕ, ◌<◌, ◌≤◌, false, true, List, map, length, slice_index, Option}
use Rattle.std.specs.Prelude.{Some, None}
use Rattle.graphs.specs.Numbered.{graph_of}
use Rattle.std.specs.List.{All, Contains, sum_by}
use Rattle.index_lists.specs.Lists.{times}
use Rattle.retro_core.specs.declared.step.Step.{Step}
use Rattle.retro_core.specs.declared.step.Seen.{Seen}
use Rattle.retro_core.specs.declared.step.Seen.TheVariants as seen
use Rattle.solver.specs.Solving.{Solving, AnswerLasts}
use Rattle.solver.specs.Words.{AreFirstCounts}
use Rattle.retro_core.specs.Round.{PlainSeat, Round, IsOpening, IsWorkedOff, all_won}
use Rattle.retro_core.specs.Stepping.{LeadTo}
use Rattle.retro_core.specs.History.{answer_in_history}
use Rattle.claim_round.specs.Shared.{Key, View, Ended}
use Rattle.claim_round.specs.Words.{round_of_words}

-- the plain seats of the views
abbrev pub seats_of : List View → List PlainSeat
seats_of views = map (λ view. view.has) views

-- each answer that was told is that of the step at its index
abbrev pub AreTold : List (Step × Seen) → List (ℕ × Seen) → Type 0
AreTold steps made = All (λ call. answer_in_history steps call.0 ≡ Some call.1) made

-- the indexes of the answers told
abbrev pub indexes_of : List (ℕ × Seen) → List ℕ
indexes_of made = map (λ call. call.0) made

-- one for the answer of a strike or of a claim, each of which is the call of a seat, and none for a
-- split, a join or no step
abbrev pub calls_of : Option Seen → ℕ
calls_of (Some (seen.Struck config closed)) = 1
calls_of (Some (seen.Tried config won)) = 1
calls_of (Some (seen.Parted seat)) = 0
calls_of (Some seen.Joined) = 0
calls_of None = 0

-- the number of strikes and claims at an index
abbrev pub calls_at : List (Step × Seen) → ℕ → ℕ
calls_at steps index = calls_of (answer_in_history steps index)

-- steps of the machine lead from an opening, whose counts are those of the solver, to these words
-- and seats. The answers told to a seat are those at its indexes, its next one can be at the
-- end, and each strike and each claim was told to one seat, once
pub record IsHistory (k : Key) (words : List ℕ) (views : List View) : Type 0 where
  pub first : Round
  pub steps : List (Step × Seen)
  pub opens : IsOpening k.solving k.width first
  pub counted : AreFirstCounts k.solving first.counts
  pub leads : LeadTo first steps (round_of_words k.solving k.width words (seats_of views))
  pub told : All (λ view. AreTold steps view.made × (view.since ≤ length steps)) views
  pub once : (index : ℕ)
      → sum_by (λ view. times index (indexes_of view.made)) views ≡ calls_at steps index

-- steps of the machine lead from an opening, whose counts are those of the solver, to an end at
-- which no seat has work left. The end has these counts, values and won configurations. The
-- answers told are those of all strikes and claims, each once
pub record HasHistory (k : Key) (made : List (ℕ × Seen)) (end : Ended) : Type 0 where
  pub first : Round
  pub steps : List (Step × Seen)
  pub last : Round
  pub opens : IsOpening k.solving k.width first
  pub counted : AreFirstCounts k.solving first.counts
  pub leads : LeadTo first steps last
  pub worked_off : IsWorkedOff last
  pub counts : last.counts ≡ end.counts
  pub values : last.values ≡ end.values
  pub won : (rank : ℕ) → times rank (all_won last) ≡ times rank end.won
  pub told : AreTold steps made
  pub once : (index : ℕ) → times index (indexes_of made) ≡ calls_at steps index

-- each claim told as lost was told as won at an earlier index,
-- and its configuration is in the won list
abbrev pub LostWereWon : List (ℕ × Seen) → List ℕ → Type 0
LostWereWon made won = (index config : ℕ) → Contains made (index, seen.Tried config false)
    → (earlier : ℕ) × (earlier < index) × Contains made (earlier, seen.Tried config true)
    × (0 < times config won)

-- each gap was told closed at most once, only if its count is 0,
-- and always then if it had a live answer at the opening
pub record TellsClosedGaps (s : Solving) (made : List (ℕ × Seen)) (counts : List ℕ) : Type 0 where
  pub once : (gap index other config another : ℕ)
      → Contains made (index, seen.Struck config (Some gap))
      → Contains made (other, seen.Struck another (Some gap)) → index ≡ other
  pub only : (gap index config : ℕ) → Contains made (index, seen.Struck config (Some gap))
      → slice_index counts gap ≡ 0
  pub always : (gap label : ℕ) → gap < (graph_of s.game).gaps
      → AnswerLasts s.game gap s.rounds label → slice_index counts gap ≡ 0
      → (index : ℕ) × (config : ℕ) × Contains made (index, seen.Struck config (Some gap))
