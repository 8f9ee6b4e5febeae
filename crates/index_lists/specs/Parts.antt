-- Lists kept one after the other.
use Rattle.std.specs.Prelude.{ℕ, List}

-- the lists as a caller sees them: the first of them, up to the last that ever had a node
pub record PlainParts : Type 0 where
  pub nodes : ℕ
  pub lists : ℕ
  pub parts : List (List ℕ)
