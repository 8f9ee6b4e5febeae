use denote.Exit.{no}
use denote.Param.{param}
use denote.Ref.{NamedLft}
use mir.Syntax.{named}
use denote.Param.Send.{param_sync, arg_sync}
use Rattle.solver.proofs.Cited.{solver_sync}
use Rattle.claim_round.proofs.Cited.{round_sync}
use Rattle.round_workers.proofs.solving.work_round.Goals as goal

pub share-requires-sync-W : goal.share-requires-sync-W
share-requires-sync-W g c κs within =
    let life : NamedLft = record { mir = named 3; lft = κs.1.1.1.0 } in
    param_sync 0 _ (arg_sync _ no _
    (round_sync life (param 0 g.row.S) (param 1 g.row.N) g.S.ListStore g.N.Numbering
    (solver_sync (param 0 g.row.S) (param 1 g.row.N) g.S.ListStore g.N.Numbering
    c.type_bounds.sync-S c.type_bounds.sync-N)))

pub returns-in_default-clause-worker : goal.returns-in_default-clause-worker
returns-in_default-clause-worker g c = λ told. absurd cc
