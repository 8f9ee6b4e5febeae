-- A shared round may be lent to any thread if its solver may.
use denote.RattleType.{RattleType}
use denote.Ref.{NamedLft}
use denote.Struct.Declared.{shape}
use denote.Builtin.{unit}
use denote.Param.Send.{IsSend, IsSync, struct_sync, view_sync, recorded_sync, shr_sync, sendable}
use Rattle.std.proofs.Crossing.{crosses, send, sync, frees}
use Rattle.atomic_table.proofs.owned.Table.TheSendSync.{the_field_sync}
use Rattle.index_lists.specs.declared.store.ListStore.{Ghosts as Lists}
use Rattle.graphs.specs.declared.numbering.Numbering.{Ghosts as Numbers}
use Rattle.solver.specs.contracts.solver.Solver as solver
use Rattle.claim_round.specs.contracts.round.SharedRound as round
use Rattle.claim_round.specs.contracts.round.SharedRound.TheInside as inside

unit_send : IsSend unit
unit_send = search sendable

pub round_sync : (a : NamedLft) (T N : RattleType) (g : Lists T.Denot) (h : Numbers N.Denot)
    → IsSync (solver.the_row T N g h) → IsSync (round.the_row a T N g h)
round_sync a T N g h lent = view_sync (inside.the_row a T N g h) _ _ _ _
    (recorded_sync (inside.the_field a T N g h).row _ _ (inside.the_type a T N g h).to_one
    (struct_sync (shape (inside.the_type a T N g h)) (
      search (sendable, crosses),
      (
        shr_sync _ _ _ lent,
        (search (sendable, crosses), (search (the_field_sync, unit_send, send, sync, frees), tt)),
      ),
    )))
