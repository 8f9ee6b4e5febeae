use Rattle.proof_text.proofs.GatheredWords.{AreLabelWords}
use Rattle.proof_text.proofs.row_text.PlaceWords.of.Given as goal

abbrev pub invariant-loop-label : goal.invariant-loop-label
invariant-loop-label l = AreLabelWords l.labels l.label l.words.items
