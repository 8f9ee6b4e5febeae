-- A solver may be lent to another thread if its lists and its numbers may, as either numbers may.
use denote.RattleType.{RattleType}
use denote.Struct.Declared.{shape}
use denote.Param.Send.{IsSync, struct_sync, view_sync, recorded_sync, sendable}
use Rattle.std.proofs.Crossing.{crosses}
use Rattle.index_lists.specs.declared.store.ListStore.{Ghosts as Lists}
use Rattle.graphs.specs.declared.numbering.Numbering.{Ghosts as Numbers}
use Rattle.positions.specs.contracts.space.Space as space
use Rattle.graphs.specs.contracts.by_ranks.ByRanks as by_ranks
use Rattle.graphs.specs.contracts.graph.Graph as graph
use Rattle.graphs.specs.contracts.graph.Graph.TheInside as kept
use Rattle.solver.specs.contracts.solver.Solver as solver
use Rattle.solver.specs.contracts.solver.Solver.TheInside as inside
use Rattle.solver.specs.contracts.stage.Stage as stage
use Rattle.solver.specs.contracts.stage.Stage.TheInside as parts

space_sync : IsSync space.the_row
space_sync = search (sendable, crosses) depth 30

pub by_ranks_sync : IsSync by_ranks.the_row
by_ranks_sync = search (sendable, crosses, space_sync) depth 60

graph_sync : (N : RattleType) (h : Numbers N.Denot) → IsSync N → IsSync (graph.the_row N h)
graph_sync N h lent = view_sync (kept.the_row N h) _ _ _ _
    (recorded_sync (kept.the_field N h).row _ _ (kept.the_type N h).to_one (struct_sync (shape (kept.the_type N h)) (
      search (sendable, lent),
      (search sendable, (search sendable, (search sendable, (search (sendable, crosses) depth 30, tt)))),
    )))

module _ (T N : RattleType) (g : Lists T.Denot) (h : Numbers N.Denot) (lists : IsSync T) (numbers : IsSync N) where
  stage_sync : IsSync (stage.the_row T N g h)
  stage_sync = view_sync (parts.the_row T N g h) _ _ _ _
      (recorded_sync (parts.the_field T N g h).row _ _ (parts.the_type T N g h).to_one
      (struct_sync (shape (parts.the_type T N g h)) (
        graph_sync N h numbers,
        (
          search sendable,
          (
            search (sendable, crosses) depth 30,
            (
              search (sendable, crosses) depth 30,
              (
                search (sendable, lists),
                (search (sendable, crosses) depth 30, tt),
              ),
            ),
          ),
        ),
      )))

  pub solver_sync : IsSync (solver.the_row T N g h)
  solver_sync = view_sync (inside.the_row T N g h) _ _ _ _
      (recorded_sync (inside.the_field T N g h).row _ _ (inside.the_type T N g h).to_one
      (struct_sync (shape (inside.the_type T N g h)) (
        stage_sync,
        (search sendable, tt),
      )))
