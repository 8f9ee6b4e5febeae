use Rattle.std.proofs.Common.{◌≡◌, ◌++◌, ◌<◌, take, All}
use Rattle.board_text.specs.LineForms.{spaced_numbers, NoDigit}
use Rattle.board_text.proofs.line_reader.LineReader.numbers.Given as goal

abbrev pub invariant-loop-number : goal.invariant-loop-number
invariant-loop-number l =
    (l.initial.self ≡ spaced_numbers (take l.number-index l.numbers) ++ l.self)
    × All (λ n. n < l.bound) (take l.number-index l.numbers)
    × (0 < l.number-index → NoDigit l.self)
