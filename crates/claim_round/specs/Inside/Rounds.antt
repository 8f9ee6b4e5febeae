-- The fields of a shared round, and its view in clauses.
use Rattle.std.specs.Prelude.{◌≡◌, ◌+◌, ◌^◌, ◌<◌}
use Rattle.graphs.specs.Numbered.{graph_of}
use Rattle.atomic_table.specs.Seated.{TableId}
use Rattle.solver.specs.Solving.{IsSolving}
use Rattle.claim_round.specs.Shared.{Key, RoundId}

-- the table's key is that of the round's opening, and the table
-- has a word for each gap and each configuration
pub record IsRound (given key : Key) (table : TableId) : Type 0 where
  pub key_is : key ≡ given
  pub words : table.words ≡ (graph_of key.solving.game).gaps +
      (graph_of key.solving.game).configurations
  pub slots : table.slots ≡ 0
  pub narrow : key.width < 2 ^ 32
  pub sound : IsSolving key.solving

abbrev pub round_id : TableId → Key → RoundId
round_id table key = record { table = table; key = key }
