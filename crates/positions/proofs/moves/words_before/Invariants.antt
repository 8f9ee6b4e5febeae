use Rattle.positions.proofs.LegalWords.{AreMadeBefore}
use Rattle.positions.proofs.moves.words_before.Given as goal

abbrev pub invariant-loop-pebble : goal.invariant-loop-pebble
invariant-loop-pebble l = AreMadeBefore l.board l.places l.pebble l.words l.before
