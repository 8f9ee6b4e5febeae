use Rattle.std.proofs.Common.{◌≡◌, ◌++◌, string_bytes, take, map}
use Rattle.board_text.specs.Numerals.{spaced_texts}
use Rattle.player.specs.Transcript.{word_text}
use Rattle.player.proofs.nested_writing.write_words.Given as goal

abbrev pub invariant-loop-word : goal.invariant-loop-word
invariant-loop-word l = string_bytes l.text ≡ string_bytes l.initial.text
    ++ spaced_texts (map (word_text l.levels) (take l.word-index l.words))
