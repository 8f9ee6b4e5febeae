use Rattle.std.proofs.Common.{◌≡◌, string_bytes}
use Rattle.board_text.specs.Inside.Domination.{mark_of}
use Rattle.board_text.proofs.PairLines.{Lines}
use Rattle.board_text.proofs.domination.write_pairs.Given as goal

abbrev pub invariant-loop-number : goal.invariant-loop-number
invariant-loop-number l =
    string_bytes l.text ≡ Lines l.labels (mark_of l.labels l.rows) l.number (string_bytes l.initial.text)
