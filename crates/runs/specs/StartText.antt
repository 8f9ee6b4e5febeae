-- The starts of a board: the value with all pebbles on each label, and with none on any.
use Rattle.std.specs.Prelude.{◌≡◌, ℕ, suc, ◌<◌, nat_lt, if◌then◌else◌, List, [], ◌∷◌, ◌++◌, codes}
use Rattle.std.specs.Prelude.{length, replicate, slice_index_or}
use Rattle.std.specs.Fmt.{decimal}
use Rattle.board_text.specs.LineForms.{with_line_feed}
use Rattle.board_text.specs.PlainBoard.{PlainBoard, places}
use Rattle.positions.specs.Claim.{claim_of}
use Rattle.positions.specs.Value.{HasValue}
use Rattle.positions.specs.declared.value.Value.{Value}
use Rattle.positions.specs.declared.value.Value.TheVariants.{Forever}
use Rattle.proof_text.specs.ProofText.{claim_words}
use Rattle.runs.specs.Report.{size_line}

-- the values with all pebbles at one place, for each place of the board from 0 on
pub record AreStartValues (board : PlainBoard) (values : List Value) : Type 0 where
  pub long : length values ≡ places board
  pub each : (place : ℕ) → place < length values
      → HasValue board (replicate board.pebbles place) (slice_index_or values place Forever)

-- the words of a label; or of the place after the labels, which is none
abbrev pub place_name : ℕ → ℕ → List ℕ
place_name labels place =
    if nat_lt place labels then codes "label " ++ decimal place else codes "none"

-- the line of a place and the value with all pebbles there
abbrev pub place_value_line : ℕ → ℕ → Value → List ℕ
place_value_line labels place value =
    with_line_feed (place_name labels place ++ codes ": " ++ claim_words (claim_of value))

-- the lines of a place and of those after it
abbrev pub place_value_lines : ℕ → ℕ → List Value → List ℕ
place_value_lines labels place [] = []
place_value_lines labels place (value ∷ values) =
    place_value_line labels place value ++ place_value_lines labels (suc place) values

-- the text of these values
abbrev pub starts_text : PlainBoard → List Value → List ℕ
starts_text board values =
    with_line_feed (codes "starts 1") ++ size_line (codes "labels") board.labels
    ++ size_line (codes "pebbles") board.pebbles ++ place_value_lines board.labels 0 values
    ++ with_line_feed (codes "end")

-- the text says the board's starts
pub record AreStartsOf (board : PlainBoard) (text : List ℕ) : Type 0 where
  pub values : List Value
  pub are : AreStartValues board values
  pub text_is : text ≡ starts_text board values
