use denote.Exit.{no}
use denote.Param.{param}
use denote.Ref.{NamedLft}
use mir.Syntax.{named}
use denote.Param.Send.{param_sync, arg_sync}
use Rattle.graphs.specs.contracts.by_ranks.ByRanks as by_ranks
use Rattle.graphs.specs.contracts.by_ranks.ByRanksNumbering.TheImpl as numbers
use Rattle.solver.proofs.Cited.{by_ranks_sync, solver_sync}
use Rattle.claim_round.proofs.Cited.{round_sync}
use Rattle.round_tests.proofs.two_callers.drive_round.Goals as goal

pub drive_both-requires-sync-D : goal.drive_both-requires-sync-D
drive_both-requires-sync-D g c κs within =
    let life : NamedLft = record { mir = named 2; lft = κs.1.1.0 } in
    param_sync 0 _ (arg_sync _ no _
    (round_sync life (param 0 g.row.S) by_ranks.the_row g.S.ListStore numbers.ghosts
    (solver_sync (param 0 g.row.S) by_ranks.the_row g.S.ListStore numbers.ghosts c.type_bounds.sync-S by_ranks_sync)))
