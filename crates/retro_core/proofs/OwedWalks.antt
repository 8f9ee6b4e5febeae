-- The entries that a walk along a list has appended.
use Rattle.std.proofs.Common.{◌≡◌, ℕ, List, ◌++◌}

-- the appended entries and the rest are the whole list
pub record IsOwing (xs initial owed left : List ℕ) : Type 0 where
  pub more : List ℕ
  pub grown : owed ≡ initial ++ more
  pub whole : more ++ left ≡ xs
