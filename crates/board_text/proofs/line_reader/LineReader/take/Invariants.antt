use Rattle.std.proofs.Common.{◌≡◌, ◌++◌, take}
use Rattle.board_text.proofs.line_reader.LineReader.take.Given as goal

abbrev pub invariant-loop-byte : goal.invariant-loop-byte
invariant-loop-byte l = l.self-inside.rest.now ≡ take l.byte-index l.text ++ l.rest
