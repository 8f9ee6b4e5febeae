use Rattle.positions.proofs.LegalWords.{AreMadeFrom}
use Rattle.positions.proofs.moves.legal_words.Given as goal

abbrev pub invariant-loop-pebble : goal.invariant-loop-pebble
invariant-loop-pebble l = AreMadeFrom l.board l.places l.pebble l.words l.after
