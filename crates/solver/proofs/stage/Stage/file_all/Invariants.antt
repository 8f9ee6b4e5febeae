use Rattle.std.proofs.Common.{take}
use Rattle.solver.specs.Inside.Stage.{FilesAll}
use Rattle.solver.proofs.stage.Stage.file_all.Given as goal

abbrev pub invariant-loop-rank : goal.invariant-loop-rank
invariant-loop-rank g l = FilesAll l.fn.self (take l.rank-index l.ranks) l.self
