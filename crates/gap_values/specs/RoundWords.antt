-- Words of 32 bits that stand for rounds, or for values.
use Rattle.std.specs.Prelude.{ℕ, nat_lt, if◌then◌else◌}
use Rattle.positions.specs.declared.value.Value.{Value}
use Rattle.positions.specs.declared.value.Value.TheVariants.{Finite, Forever}
use Rattle.gap_values.specs.declared.closing.TheConstants.{OPEN}

-- the round that a word stands for: the greatest word of 32 bits stands for none
unfoldable pub round_of_word : ℕ → Value
round_of_word word = if nat_lt word OPEN then Finite word else Forever
