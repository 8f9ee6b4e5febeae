-- The line of each fault.
use Rattle.std.specs.Prelude.{ℕ, List, ◌++◌, codes}
use Rattle.std.specs.Fmt.{decimal}
use Rattle.board_text.specs.LineForms.{with_line_feed}
use Rattle.board_text.specs.declared.fault.BoardKind.{BoardKind}
use Rattle.board_text.specs.declared.fault.BoardKind.TheVariants as board_kinds
use Rattle.proof_text.specs.declared.fault.ProofKind.{ProofKind}
use Rattle.proof_text.specs.declared.fault.ProofKind.TheVariants as proof_kinds
use Rattle.runs.specs.Output.{map_fault_words}
use Rattle.runs.specs.declared.fault.RunFault.{RunFault}
use Rattle.runs.specs.declared.fault.RunFault.TheVariants.{Board, TooLarge, Proof, Memory, Worker}
use Rattle.runs.specs.declared.fault.RunFault.TheVariants.{DocumentTooLarge, LastsForever}
use Rattle.runs.specs.declared.fault.RunFault.TheVariants.{TooManyChains, TooManyOrbits, Read}
use Rattle.runs.specs.declared.fault.RunFault.TheVariants.{Write, Limit, Symmetries}
use Rattle.runs.specs.declared.fault.SymmetriesFault.{SymmetriesFault}
use Rattle.runs.specs.declared.fault.SymmetriesFault.TheVariants.{Text, Map, TooMany}
use Rattle.symmetries.specs.declared.maps.MapFault.{MapFault}

-- the name of a kind of fault of a board
abbrev pub name_of_board_kind : BoardKind → List ℕ
name_of_board_kind board_kinds.Version = codes "Version"
name_of_board_kind board_kinds.Labels = codes "Labels"
name_of_board_kind board_kinds.Pebbles = codes "Pebbles"
name_of_board_kind board_kinds.Start = codes "Start"
name_of_board_kind board_kinds.Beats = codes "Beats"
name_of_board_kind board_kinds.SelfBeat = codes "SelfBeat"
name_of_board_kind board_kinds.TwoWay = codes "TwoWay"
name_of_board_kind board_kinds.Order = codes "Order"
name_of_board_kind board_kinds.End = codes "End"
name_of_board_kind board_kinds.Trailing = codes "Trailing"
name_of_board_kind board_kinds.Memory = codes "Memory"

-- the name of a kind of fault of a document
abbrev pub name_of_proof_kind : ProofKind → List ℕ
name_of_proof_kind proof_kinds.Version = codes "Version"
name_of_proof_kind proof_kinds.Claim = codes "Claim"
name_of_proof_kind proof_kinds.Section = codes "Section"
name_of_proof_kind proof_kinds.Row = codes "Row"
name_of_proof_kind proof_kinds.Label = codes "Label"
name_of_proof_kind proof_kinds.Pebble = codes "Pebble"
name_of_proof_kind proof_kinds.Number = codes "Number"
name_of_proof_kind proof_kinds.Order = codes "Order"
name_of_proof_kind proof_kinds.End = codes "End"
name_of_proof_kind proof_kinds.Trailing = codes "Trailing"
name_of_proof_kind proof_kinds.Memory = codes "Memory"

-- the line with this number, of a text, has a fault of this kind
abbrev pub line_at : List ℕ → ℕ → List ℕ → List ℕ
line_at text number kind =
    with_line_feed (text ++ codes " fault line " ++ decimal number ++ codes " " ++ kind)

-- what is wrong with the map of this number
abbrev pub line_of_map : ℕ → MapFault → List ℕ
line_of_map number fault = with_line_feed (codes "wrong " ++ map_fault_words number fault)

-- why symmetries that are given can't be taken
abbrev pub line_of_symmetries : SymmetriesFault → List ℕ
line_of_symmetries (Text fault) =
    line_at (codes "symmetries") fault.line (name_of_proof_kind fault.kind)
line_of_symmetries (Map number fault) = line_of_map number fault
line_of_symmetries TooMany = with_line_feed (codes "too many symmetries")

-- the line that says the fault
abbrev pub line_of_fault : RunFault → List ℕ
line_of_fault (Board fault) = line_at (codes "board") fault.line (name_of_board_kind fault.kind)
line_of_fault TooLarge = with_line_feed (codes "board too large")
line_of_fault DocumentTooLarge = with_line_feed (codes "document too large")
line_of_fault LastsForever = with_line_feed (codes "start lasts forever")
line_of_fault TooManyChains = with_line_feed (codes "too many chains")
line_of_fault TooManyOrbits = with_line_feed (codes "too many orbits")
line_of_fault (Proof fault) = line_at (codes "proof") fault.line (name_of_proof_kind fault.kind)
line_of_fault (Symmetries fault) = line_of_symmetries fault
line_of_fault Memory = with_line_feed (codes "out of memory")
line_of_fault Worker = with_line_feed (codes "worker not started")
line_of_fault Read = with_line_feed (codes "read fault")
line_of_fault Write = with_line_feed (codes "write fault")
line_of_fault Limit = with_line_feed (codes "input too long")
