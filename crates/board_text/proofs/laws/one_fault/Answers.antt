use Rattle.board_text.proofs.OneReading as readings
use Rattle.board_text.proofs.laws.one_fault.Goals as goal

pub returns : goal.returns
returns c = λ text line kind other_line other_kind not other_not h g. readings.one_fault text line other_line kind
    other_kind not other_not h g
