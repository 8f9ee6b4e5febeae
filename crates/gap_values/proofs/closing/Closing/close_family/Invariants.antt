use Rattle.gap_values.specs.Inside.Sets.{ArePassed, AreSetsOf, IsOfRound}
use Rattle.gap_values.proofs.closing.Closing.close_family.Given as goal

abbrev pub invariant-loop-index : goal.invariant-loop-index
invariant-loop-index g l = record {
  passed : ArePassed l.self.board.now l.self.sets.now l.self.round l.first l.from l.index l.initial.part l.part;
  told : AreSetsOf l.self.board.now (IsOfRound l.self.round l.first l.part) l.told;
}
