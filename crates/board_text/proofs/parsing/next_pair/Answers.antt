use Rattle.std.proofs.Common.{◌≡◌, ◌++◌, rules}
use Rattle.board_text.specs.PlainBoard.{AreLabels}
use Rattle.board_text.specs.BoardText.{beats_line}
use Rattle.board_text.proofs.PairFaults.{misfit_fault}
use Rattle.board_text.proofs.parsing.next_pair.Goals as goal

pub returns-in-Some-pair_fault : goal.returns-in-Some-pair_fault
returns-in-Some-pair_fault c =
    let are : AreLabels c.args.beats.now.labels (c.in-Some.x, c.in-Some.y) = search rules in
    let line : c.args.text.now ≡ beats_line (c.in-Some.x, c.in-Some.y) ++ c.take_pair.new.text = search rules in
    misfit_fault c.args.beats.now.labels c.args.beats.now.pairs
    (c.in-Some.x, c.in-Some.y) c.args.text.now c.take_pair.new.text c.in-Some-pair_fault.kind are line
    c.in-Some-pair_fault.ensures
