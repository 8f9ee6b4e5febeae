-- A text to which rows are appended.
use Rattle.std.specs.Prelude.{ℕ, List}

-- the bytes of a text with those that are gathered after it, and how many these are
pub record RowBytes : Type 0 where
  pub bytes : List ℕ
  pub count : ℕ
