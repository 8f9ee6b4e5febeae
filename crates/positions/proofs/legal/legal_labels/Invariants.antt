use Rattle.positions.proofs.PlaceMoves.{AreDominating}
use Rattle.positions.proofs.legal.legal_labels.Given as goal

abbrev pub invariant-loop-other : goal.invariant-loop-other
invariant-loop-other l = AreDominating l.board l.configuration l.pebble l.other l.legal
