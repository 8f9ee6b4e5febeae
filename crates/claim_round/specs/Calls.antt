-- The answers and the effects of a round's calls.
use Rattle.std.specs.Prelude.{◌≡◌, ℕ, suc, ◌<◌, ◌≤◌, ◌==◌, Bool, cond, [], ◌∷◌, ◌++◌, Option, Some}
use Rattle.std.specs.Prelude.{None}
use Rattle.graphs.specs.Numbered.{graph_of}
use Rattle.solver.specs.Solving.{Solving, to_strike}
use Rattle.retro_core.specs.declared.step.Seen.{Seen}
use Rattle.retro_core.specs.declared.step.Seen.TheVariants as seen
use Rattle.retro_core.specs.Round.{first_of, seat_struck, seat_tried}
use Rattle.claim_round.specs.Shared.{View, RoundId, SeatId}

-- the round is of this solver and width, and its first seat has the whole width and all to strike
pub record Opens (s : Solving) (width : ℕ) (round : RoundId) (seat : SeatId) : Type 0 where
  pub key_is : round.key ≡ record { solving = s; width = width }
  pub table_is : seat.table ≡ round.table
  pub seat_key : seat.view.key ≡ record { solving = s; width = width }
  pub to_strike_is : seat.view.has.todo ≡ to_strike s
  pub no_owed : seat.view.has.owed ≡ []
  pub no_won : seat.view.has.won ≡ []
  pub wide : seat.view.has.width ≡ width
  pub none_made : seat.view.made ≡ []

-- the answer stands in the history at one more index of the seat,
-- which is not before its earlier ones
pub record IsNextAnswer (before : View) (answer : Seen) (after : View) : Type 0 where
  pub index : ℕ
  pub not_before : before.since ≤ index
  pub made_is : after.made ≡ before.made ++ (index, answer) ∷ []
  pub since_is : after.since ≡ suc index

-- the first that the seat had to strike was struck in the gap in which it is an answer, whose count
-- was found. With the last the gap is closed, and its open members are owed. The answer
-- has its index in the history
pub record HasStruck (before : View) (config : ℕ) (closed : Option ℕ) (after : View) : Type 0 where
  pub first : config ≡ first_of before.has.todo
  pub gap : ℕ
  pub is_gap : gap < (graph_of before.key.solving.game).gaps
  pub gap_is : gap ≡ (graph_of before.key.solving.game).struck config
  pub count : ℕ
  pub some_left : 0 < count
  pub closed_is : closed ≡ cond (count == 1) (Some gap) None
  pub after_is : after.has ≡ seat_struck before.key.solving gap count before.has
  pub stands : IsNextAnswer before (seen.Struck config closed) after

-- the first that the seat owed was won, or not. The answer has its index in the history
pub record HasClaimed (before : View) (config : ℕ) (won : Bool) (after : View) : Type 0 where
  pub first : config ≡ first_of before.has.owed
  pub after_is : after.has ≡ seat_tried won before.has
  pub stands : IsNextAnswer before (seen.Tried config won) after
