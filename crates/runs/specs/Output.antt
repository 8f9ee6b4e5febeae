-- The one line that a check writes.
use Rattle.std.specs.Prelude.{ℕ, List, [], ◌++◌, codes}
use Rattle.std.specs.Fmt.{decimal}
use Rattle.board_text.specs.LineForms.{with_line_feed}
use Rattle.board_text.specs.PlaceForms.{spaced_places}
use Rattle.board_text.specs.PlainBoard.{PlainBoard}
use Rattle.proof_text.specs.Arranged.{arranged_at}
use Rattle.proof_check.specs.declared.class_fault.ClassFault.{ClassFault}
use Rattle.proof_check.specs.declared.class_fault.ClassFault.TheVariants as class_faults
use Rattle.proof_check.specs.declared.symmetry_fault.SymmetryFault.{SymmetryFault}
use Rattle.proof_check.specs.declared.symmetry_fault.SymmetryFault.TheVariants as symmetry_faults
use Rattle.symmetries.specs.declared.maps.MapFault.{MapFault}
use Rattle.symmetries.specs.declared.maps.MapFault.TheVariants.{Missing, Pair}
use Rattle.command_line.specs.Reading.{side_word}
use Rattle.positions.specs.Ranks.{configuration_at}
use Rattle.proof_text.specs.ProofText.{claim_words}
use Rattle.positions.specs.declared.side.Side.{Side}
use Rattle.positions.specs.declared.side.Side.TheVariants.{Labeller, Adversary}
use Rattle.proof_check.specs.declared.fault.CheckFault.{CheckFault}
use Rattle.proof_check.specs.declared.fault.CheckFault.TheVariants as faults
use Rattle.runs.specs.declared.verdicts.Verdict.{Verdict}
use Rattle.runs.specs.declared.verdicts.Verdict.TheVariants.{Accepted, Refused, RefusedByClasses}
use Rattle.runs.specs.declared.verdicts.Verdict.TheVariants.{RefusedUpToSymmetries}

-- the word for a row's turns: a labeller's row has an answer for
-- each pebble, an adversary's leads on by labels
abbrev pub turn_word : Side → List ℕ
turn_word Labeller = codes " pebble "
turn_word Adversary = codes " label "

-- a side's row of this rank, given by its places, and the turn
abbrev pub row_words : PlainBoard → Side → ℕ → ℕ → List ℕ
row_words board side at turn =
    side_word side ++ codes " row" ++ spaced_places board.labels (configuration_at board at)
    ++ turn_word side ++ decimal turn

-- the words for a fault of a check; out of memory has none
abbrev pub fault_words : PlainBoard → CheckFault → List ℕ
fault_words board (faults.StartMissing side) = side_word side ++ codes " start missing"
fault_words board (faults.StartNumber side) = side_word side ++ codes " start number"
fault_words board (faults.IllegalAnswer at pebble) =
    row_words board Labeller at pebble ++ codes " illegal answer"
fault_words board (faults.Unlisted side at turn) = row_words board side at turn ++ codes " unlisted"
fault_words board (faults.TooSmall at pebble) =
    row_words board Labeller at pebble ++ codes " too small"
fault_words board (faults.NotStuck at label) =
    row_words board Adversary at label ++ codes " not stuck"
fault_words board (faults.TooLarge at label) =
    row_words board Adversary at label ++ codes " too large"
fault_words board faults.Memory = []

-- the word for the turns of a row by classes: a labeller's row has an answer for each place
abbrev pub class_turn_word : Side → List ℕ
class_turn_word Labeller = codes " place "
class_turn_word Adversary = codes " label "

-- a side's row of the class that has this number, given by its places, and the turn
abbrev pub class_row_words : PlainBoard → Side → ℕ → ℕ → List ℕ
class_row_words board side at turn =
    side_word side ++ codes " row" ++ spaced_places board.labels (arranged_at board at)
    ++ class_turn_word side ++ decimal turn

-- the words for a fault of a check by classes
abbrev pub class_fault_words : PlainBoard → ClassFault → List ℕ
class_fault_words board (class_faults.StartMissing side) = side_word side ++ codes " start missing"
class_fault_words board (class_faults.StartNumber side) = side_word side ++ codes " start number"
class_fault_words board (class_faults.IllegalAnswer at place) =
    class_row_words board Labeller at place ++ codes " illegal answer"
class_fault_words board (class_faults.Unlisted side at turn) =
    class_row_words board side at turn ++ codes " unlisted"
class_fault_words board (class_faults.TooSmall at place) =
    class_row_words board Labeller at place ++ codes " too small"
class_fault_words board (class_faults.NotStuck at label) =
    class_row_words board Adversary at label ++ codes " not stuck"
class_fault_words board (class_faults.TooLarge at label) =
    class_row_words board Adversary at label ++ codes " too large"

-- the words for what is wrong with the map of this number
abbrev pub map_fault_words : ℕ → MapFault → List ℕ
map_fault_words number (Missing label) =
    codes "symmetry " ++ decimal number ++ codes " label " ++ decimal label
map_fault_words number (Pair x y) =
    codes "symmetry " ++ decimal number ++ codes " labels " ++ decimal x ++ codes " " ++ decimal y

-- the words for a fault of a check up to symmetries; out of memory has none
abbrev pub symmetry_fault_words : PlainBoard → SymmetryFault → List ℕ
symmetry_fault_words board (symmetry_faults.Map number fault) = map_fault_words number fault
symmetry_fault_words board symmetry_faults.TooMany = codes "symmetries too many"
symmetry_fault_words board (symmetry_faults.NotLeast side at) =
    side_word side ++ codes " row" ++ spaced_places board.labels (arranged_at board at)
    ++ codes " not the least alike"
symmetry_fault_words board (symmetry_faults.Row fault) = class_fault_words board fault
symmetry_fault_words board symmetry_faults.Memory = []

-- the line of a verdict
abbrev pub line_of : PlainBoard → Verdict → List ℕ
line_of board (Accepted shown rows) = with_line_feed (codes "accepted " ++ claim_words shown.claim)
line_of board (Refused fault) = with_line_feed (codes "refused " ++ fault_words board fault)
line_of board (RefusedByClasses fault) =
    with_line_feed (codes "refused " ++ class_fault_words board fault)
line_of board (RefusedUpToSymmetries fault) =
    with_line_feed (codes "refused " ++ symmetry_fault_words board fault)
