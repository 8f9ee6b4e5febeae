-- Configurations counted by the words of their classes.
use Rattle.std.specs.Prelude.{◌≡◌, ◌≢◌, ℕ, ◌+◌, ◌-◌, ◌*◌, ◌<◌, ◌≤◌, nat_eq, if◌then◌else◌, List}
use Rattle.std.specs.Prelude.{length, slice_index, take}
use Rattle.board_text.specs.Domination.{has_bit}
use Rattle.board_text.specs.PlainBoard.{PlainBoard, places}
use Rattle.classes.specs.ClassGaps.{member_with}
use Rattle.classes.specs.Numbers.{class_with}
use Rattle.classes.specs.Sums.{sum_below}
use Rattle.classes.specs.Weights.{HasWeight}
use Rattle.gap_values.specs.declared.closing.TheConstants.{OPEN}
use Rattle.gap_values.specs.declared.sizes.Sizes.{Sizes}
use Rattle.gap_values.specs.declared.weight.FamilyWeights.{FamilyWeights}
use Rattle.classes.specs.FamilyWalks.{IsEdge}
use Rattle.gap_values.specs.Inside.Words.{least_word}

-- a number above each word that stands for a round
pub record IsAboveRounds (words : List ℕ) (rounds : ℕ) : Type 0 where
  pub above : (index : ℕ) → index < length words → slice_index words index < OPEN
      → slice_index words index < rounds
  pub few : rounds ≤ OPEN

-- the least of the words of the gaps of the class of a number
abbrev pub word_at : PlainBoard → List ℕ → ℕ → ℕ
word_at board words number =
    least_word words (class_with (places board) board.pebbles number) board.pebbles

-- how many configurations each class has
abbrev pub AreWeightsAt : PlainBoard → (ℕ → ℕ) → Type 0
AreWeightsAt board weight =
    (number : ℕ) → HasWeight (places board) board.pebbles number (weight number)

-- the weights of the classes before a number whose word is the wanted one
abbrev pub counted : PlainBoard → List ℕ → (ℕ → ℕ) → ℕ → ℕ → ℕ
counted board words weight wanted bound =
    sum_below bound
    (λ number. if nat_eq (word_at board words number) wanted then weight number else 0)

-- `count` configurations have a class from `from` up to `to` whose word is the wanted one
pub record IsCountBetween (board : PlainBoard) (words : List ℕ) (wanted from to count : ℕ)
    : Type 0 where
  pub is : (weight : ℕ → ℕ) → AreWeightsAt board weight
      → count + counted board words weight wanted from ≡ counted board words weight wanted to
  pub few : count + 720 * from ≤ 720 * to

-- the configurations of the classes from a number up to another one are counted, each at its word
pub record AreCounted (board : PlainBoard) (words : List ℕ) (rounds from to : ℕ)
    (finite : List ℕ) (forever : ℕ)
    : Type 0 where
  pub size : length finite ≡ rounds
  pub each : (value : ℕ) → value < rounds
      → IsCountBetween board words value from to (slice_index finite value)
  pub unending : IsCountBetween board words OPEN from to forever

-- the same of the classes of the families from a number up to another one
abbrev pub AreSizesBetween : PlainBoard → List ℕ → ℕ → ℕ → ℕ → Sizes → Type 0
AreSizesBetween board words rounds from to sizes =
    (low high : ℕ) → IsEdge board (board.pebbles - 1) from low
    → IsEdge board (board.pebbles - 1) to high
    → AreCounted board words rounds low high sizes.finite.items sizes.forever

-- a list, and the same without the zeros at its end
pub record IsTrimmed (old new : List ℕ) : Type 0 where
  pub within : length new ≤ length old
  pub is : new ≡ take (length new) old
  pub last : 0 < length new → slice_index old (length new - 1) ≢ 0
  pub zeros : (value : ℕ) → length new ≤ value → value < length old → slice_index old value ≡ 0

-- ---- the classes that a gap makes with a place

-- the least of the words of the gaps of the class that a gap makes with a place
abbrev pub class_word : PlainBoard → List ℕ → List ℕ → ℕ → ℕ
class_word board words gap place = least_word words (member_with gap place) board.pebbles

-- the weight of the class with a place, of `size` places
abbrev pub weight_with : FamilyWeights → ℕ → ℕ → ℕ
weight_with weights size place = if nat_eq (place + 1) size then weights.last else weights.each

-- `more` at one word alone
abbrev pub once : ℕ → ℕ → ℕ → ℕ
once word more wanted = if nat_eq wanted word then more else 0

-- the weights of the classes with the places below a number whose word is the wanted one
abbrev pub made_by : PlainBoard → List ℕ → List ℕ → ℕ → FamilyWeights → ℕ → ℕ
made_by board words gap size weights wanted = sum_below size
    (λ place. if nat_eq (class_word board words gap place) wanted
    then weight_with weights size place else 0)

-- the same of the places that are in a set
abbrev pub made_among : PlainBoard → List ℕ → List ℕ → ℕ → FamilyWeights → List ℕ → ℕ → ℕ
made_among board words gap size weights among wanted = sum_below size
    (λ place. if has_bit among place then (if nat_eq (class_word board words gap place) wanted
    then weight_with weights size place else 0) else 0)

-- the weights of the places that aren't positive at the word 0, and of the lasting ones at the
-- greatest word
abbrev pub made_by_bits : List ℕ → List ℕ → ℕ → FamilyWeights → ℕ → ℕ
made_by_bits positive lasting size weights wanted = sum_below size
    (λ place. (if has_bit positive place then 0 else once 0 (weight_with weights size place) wanted)
    + (if has_bit lasting place then once OPEN (weight_with weights size place) wanted else 0))

-- no weight is above that of six pebbles on six places
pub record AreSmallWeights (weights : FamilyWeights) : Type 0 where
  pub each : weights.each ≤ 720
  pub last : weights.last ≤ 720

-- no count is above this number
pub record HaveRoom (most : ℕ) (sizes : Sizes) : Type 0 where
  pub each : (word : ℕ) → slice_index sizes.finite.items word ≤ most
  pub unending : sizes.forever ≤ most

-- the counts grew by so much at each word
pub record AreMore (old new : Sizes) (more : ℕ → ℕ) : Type 0 where
  pub size : length new.finite.items ≡ length old.finite.items
  pub each : (word : ℕ) → word < length old.finite.items
      → slice_index new.finite.items word ≡ slice_index old.finite.items word + more word
  pub unending : new.forever ≡ old.forever + more OPEN
