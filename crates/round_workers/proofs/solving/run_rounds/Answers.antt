use Rattle.std.proofs.Common.{◌≤◌, length, ap, refl, sym, ◌∙◌, arith}
use Rattle.std.proofs.lemmas.Result.{err_from_is_err_and}
use Rattle.graphs.specs.Numbered.{Numbered, graph_of}
use Rattle.solver.specs.Solving.{bucket}
use Rattle.solver.proofs.Cited.{fewer_left}
use Rattle.round_workers.proofs.Rounds.{bucket_few}
use Rattle.round_workers.proofs.solving.run_rounds.Goals as goal

pub loop-alloc-smaller : goal.loop-alloc-smaller
loop-alloc-smaller g c =
    let filed = c.in_ok-file_next.ensures in
    fewer_left c.loop-alloc.solver c.loop-alloc.solver c.file_next.new.solver c.in_ok-file_next.field-0
    (sym c.done.ensures ∙ c.loop-alloc-test.true, refl) filed.game filed.kept filed.filed filed.none

pub returns-in_err-file_next-clause-shared : goal.returns-in_err-file_next-clause-shared
returns-in_err-file_next-clause-shared g c =
    let few = bucket_few c.loop-alloc.solver c.loop-alloc.solver.rounds c.loop-alloc.invariant.kept in
    let enough : c.args.sharing.needed ≤ length (bucket c.loop-alloc.solver c.loop-alloc.solver.rounds) =
    c.in_err-file_next.ensures.shared in
    let games = ap (λ (n : Numbered). (graph_of n).configurations) c.loop-alloc.invariant.game in
    let refused = err_from_is_err_and c.from_residual.result c.from_residual.ensures.1 in
    rw refused.1 (omega (arith, few, enough, games))
