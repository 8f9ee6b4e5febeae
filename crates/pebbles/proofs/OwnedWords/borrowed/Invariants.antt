use Rattle.std.proofs.Common.{◌≡◌, map, take}
use Rattle.std.specs.Prelude.{string_bytes}
use Rattle.pebbles.specs.Program.{borrowed_texts}
use Rattle.pebbles.proofs.OwnedWords.borrowed.Given as goal

abbrev pub invariant-loop-word : goal.invariant-loop-word
invariant-loop-word l = borrowed_texts l.texts.items ≡ map string_bytes (take l.word-index l.word-items)
