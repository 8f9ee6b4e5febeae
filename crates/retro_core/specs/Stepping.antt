-- The effect and the answer of a step of a round, and the reasons why it is refused.
use Rattle.std.specs.Prelude.{◌≡◌, ℕ, ◌<◌, ◌≤◌, ◌⊎◌, ◌==◌, Bool, true, cond, List, [], ◌∷◌, length}
use Rattle.std.specs.Prelude.{slice_index, Option, Some, None}
use Rattle.retro_core.specs.declared.step.Step.{Step}
use Rattle.retro_core.specs.declared.step.Step.TheVariants as steps
use Rattle.retro_core.specs.declared.step.Seen.{Seen}
use Rattle.retro_core.specs.declared.step.Seen.TheVariants as seen
use Rattle.retro_core.specs.declared.step.StepFault.{StepFault}
use Rattle.retro_core.specs.declared.step.StepFault.TheVariants as faults
use Rattle.retro_core.specs.Round.{Round, round_graph, seat_at, first_of, round_struck}
use Rattle.retro_core.specs.Round.{first_is_open, round_tried, round_split, round_joined}

-- the seat strikes the first that it has to strike in the gap in which that is an answer
pub record Strikes (round : Round) (seat config : ℕ) (closed : Option ℕ)
    (after : Round) : Type 0 where
  pub some_todo : 0 < length (seat_at round seat).todo
  pub first : config ≡ first_of (seat_at round seat).todo
  pub gap : ℕ
  pub is_gap : gap < (round_graph round).gaps
  pub gap_is : gap ≡ (round_graph round).struck config
  pub closed_is : closed ≡ cond (slice_index round.counts gap == 1) (Some gap) None
  pub after_is : after ≡ round_struck round seat gap

-- the seat wins the first that it owes if that has no value yet
pub record Tries (round : Round) (seat config : ℕ) (won : Bool) (after : Round) : Type 0 where
  pub some_owed : 0 < length (seat_at round seat).owed
  pub first : config ≡ first_of (seat_at round seat).owed
  pub won_is : won ≡ first_is_open round seat
  pub after_is : after ≡ round_tried round seat

-- the seat gives half of its width to a new one
pub record Splits (round : Round) (seat new_seat : ℕ) (after : Round) : Type 0 where
  pub wide : 2 ≤ (seat_at round seat).width
  pub next_number : new_seat ≡ length round.seats
  pub after_is : after ≡ round_split round seat

-- one seat gives all that it has to another
pub record Joins (round : Round) (into from : ℕ) (after : Round) : Type 0 where
  pub differ : into ≡ from → ⊥
  pub has_into : 0 < (seat_at round into).width
  pub has_from : 0 < (seat_at round from).width
  pub after_is : after ≡ round_joined round into from

-- the step is done, answers this, and leads to the round after it
abbrev pub Does : Round → Step → Seen → Round → Type 0
Does round (steps.Strike seat) (seen.Struck config closed) after =
    Strikes round seat config closed after
Does round (steps.Try seat) (seen.Tried config won) after = Tries round seat config won after
Does round (steps.Split seat) (seen.Parted new_seat) after = Splits round seat new_seat after
Does round (steps.Join into from) seen.Joined after = Joins round into from after
Does round step answer after = ⊥

-- the steps lead from one round to another, one after the other, with these answers
abbrev pub LeadTo : Round → List (Step × Seen) → Round → Type 0
LeadTo first [] last = first ≡ last
LeadTo first (made ∷ more) last =
    (between : Round) × Does first made.0 made.1 between × LeadTo between more last

-- a number of the step is that of no seat, or a seat would be joined with itself
abbrev pub LacksSeat : Round → Step → Type 0
LacksSeat round (steps.Strike seat) = (seat_at round seat).width ≡ 0
LacksSeat round (steps.Try seat) = (seat_at round seat).width ≡ 0
LacksSeat round (steps.Split seat) = (seat_at round seat).width ≡ 0
LacksSeat round (steps.Join into from) =
    ((seat_at round into).width ≡ 0) ⊎ ((seat_at round from).width ≡ 0) ⊎ (into ≡ from)

-- only out of memory can keep the step from being done
abbrev pub IsAllowed : Round → Step → Type 0
IsAllowed round (steps.Strike seat) = 0 < length (seat_at round seat).todo
IsAllowed round (steps.Try seat) = 0 < length (seat_at round seat).owed
IsAllowed round (steps.Split seat) = 2 ≤ (seat_at round seat).width
IsAllowed round (steps.Join into from) =
    (into ≡ from → ⊥) × (0 < (seat_at round into).width) × (0 < (seat_at round from).width)

-- the first that the seat has to strike is the last live answer of the gap that it is struck in
pub record ClosesGap (round : Round) (seat : ℕ) : Type 0 where
  pub struck : (round_graph round).struck (first_of (seat_at round seat).todo) <
      (round_graph round).gaps
  pub last : slice_index round.counts
      ((round_graph round).struck (first_of (seat_at round seat).todo)) ≡ 1

-- the step makes a list longer or makes a seat, for which memory is taken
abbrev pub TakesMemory : Round → Step → Type 0
TakesMemory round (steps.Strike seat) = ClosesGap round seat
TakesMemory round (steps.Try seat) = first_is_open round seat ≡ true
TakesMemory round (steps.Split seat) = Unit {0}
TakesMemory round (steps.Join into from) = Unit {0}

-- the first fault of the step
abbrev pub Refuses : Round → Step → StepFault → Type 0
Refuses round step faults.NoSuchSeat = LacksSeat round step
Refuses round (steps.Split seat) faults.TooNarrow = (seat_at round seat).width ≡ 1
Refuses round step faults.TooNarrow = ⊥
Refuses round (steps.Strike seat) faults.NothingToStrike =
    (0 < (seat_at round seat).width) × ((seat_at round seat).todo ≡ [])
Refuses round step faults.NothingToStrike = ⊥
Refuses round (steps.Try seat) faults.NothingOwed =
    (0 < (seat_at round seat).width) × ((seat_at round seat).owed ≡ [])
Refuses round step faults.NothingOwed = ⊥
Refuses round step faults.Memory = IsAllowed round step × TakesMemory round step
