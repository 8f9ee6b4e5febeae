-- Labels from which a domain lasts for ever, and boards that keep them.
use Rattle.std.specs.Prelude.{◌≡◌, ◌↔◌, ℕ, suc, ◌<◌, replicate}
use Rattle.board_text.specs.PlainBoard.{PlainBoard, Dominates}
use Rattle.positions.specs.Value.{HasValue}
use Rattle.positions.specs.declared.value.Value.TheVariants.{Forever}

-- all pebbles on the label last for ever
abbrev pub IsUsed : PlainBoard → ℕ → Type 0
IsUsed board label = (label < board.labels) × HasValue board (replicate board.pebbles label) Forever

-- the part has as many pebbles, and images of the used labels, of which those dominate one another
-- whose labels do
pub record KeepsUsed (board part : PlainBoard) (image : ℕ → ℕ) : Type 0 where
  pub pebbles : part.pebbles ≡ board.pebbles
  pub labels : (label : ℕ) → IsUsed board label → image label < part.labels
  pub beats : (x y : ℕ) → IsUsed board x → IsUsed board y → Dominates board x y
      → Dominates part (image x) (image y)

-- the part has one pebble fewer, and images of the labels that dominate this one, of which those
-- dominate one another whose labels do
pub record KeepsAbove (board part : PlainBoard) (label : ℕ) (image : ℕ → ℕ) : Type 0 where
  pub pebbles : suc part.pebbles ≡ board.pebbles
  pub labels : (other : ℕ) → other < board.labels → Dominates board other label
      → image other < part.labels
  pub beats : (first second : ℕ) → first < board.labels → second < board.labels
      → Dominates board first label → Dominates board second label → Dominates board first second
      → Dominates part (image first) (image second)

-- each label that beats this one has a name in the part, each label of the part is such a name, and
-- of two labels that beat this one, one beats the other if its name does, and only then
pub record AreAbove (board part : PlainBoard) (label : ℕ) (to back : ℕ → ℕ) : Type 0 where
  pub there : (other : ℕ) → other < board.labels → Dominates board other label
      → to other < part.labels
  pub again : (name : ℕ) → name < part.labels
      → (back name < board.labels) × Dominates board (back name) label × (to (back name) ≡ name)
  pub beats : (first second : ℕ) → first < board.labels → second < board.labels
      → Dominates board first label → Dominates board second label
      → Dominates board first second ↔ Dominates part (to first) (to second)
