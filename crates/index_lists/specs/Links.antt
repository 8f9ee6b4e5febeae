-- Lists kept by links.
use Rattle.std.specs.Prelude.{ℕ, List}

-- the links as a caller sees them
pub record Chains : Type 0 where
  pub nodes : ℕ
  pub lists : ℕ
  pub next : List ℕ
  pub first : List ℕ
  pub len : List ℕ
