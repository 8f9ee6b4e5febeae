-- Numbers that are searched.
use Rattle.std.specs.Prelude.{ℕ, List}

-- the numbers, in the order in which they are searched
pub record Numbers : Type 0 where
  pub items : List ℕ
