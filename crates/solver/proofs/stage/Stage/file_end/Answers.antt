use Rattle.std.proofs.Common.{ℕ, ◌<◌, List, subst}
use Rattle.index_lists.specs.Lists.{times}
use Rattle.solver.specs.Inside.Stage.{FilesAll}
use Rattle.solver.proofs.FiledRounds.{worth-open, end-order, end-struck}
use Rattle.solver.proofs.stage.Stage.file_end.Goals as goal

pub file_all-requires-clause-open : goal.file_all-requires-clause-open
file_all-requires-clause-open g c = λ rank some.
    worth-open c.args.self.now c.requires.unstruck (g.E.RoundEnd.won_list c.args.end.now)
    (g.E.RoundEnd.counts c.args.end.now) c.requires.end rank
    (subst (λ (l : List ℕ). 0 < times rank l) c.won.ensures some)

pub returns-clause-struck : goal.returns-clause-struck
returns-clause-struck g c =
    end-struck c.args.self.now c.requires.unstruck (g.E.RoundEnd.won_list c.args.end.now)
    (g.E.RoundEnd.counts c.args.end.now) c.requires.end c.file_all.new.self c.take_counts.new.self
    (subst (λ (l : List ℕ). FilesAll c.args.self.now l c.file_all.new.self) c.won.ensures c.file_all.ensures)
    c.take_counts.ensures

pub returns-clause-order : goal.returns-clause-order
returns-clause-order g c =
    end-order c.args.self.now c.requires.unstruck (g.E.RoundEnd.won_list c.args.end.now)
    (g.E.RoundEnd.counts c.args.end.now) c.requires.end c.file_all.new.self c.take_counts.new.self
    (subst (λ (l : List ℕ). FilesAll c.args.self.now l c.file_all.new.self) c.won.ensures c.file_all.ensures)
    c.take_counts.ensures
