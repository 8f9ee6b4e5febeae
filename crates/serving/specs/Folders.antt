-- The files that a run finds at paths.
use Rattle.std.specs.Prelude.{◌≡◌, ℕ, List, Option, Some}

-- the file at a path: nothing is known of it; it can't be opened; or it can, and has these bytes
pub data File : Type 0 where
  Unknown : File
  Closed : File
  Holds : List ℕ → File

-- the file can be opened, and its reader has these bytes, if they are known
abbrev pub OpensWith : File → Option (List ℕ) → Type 0
OpensWith Unknown left = Unit {0}
OpensWith Closed left = ⊥
OpensWith (Holds bytes) left = left ≡ Some bytes

-- opening the file or reading it can fail: nothing is known of it, or it can't be opened
abbrev pub CanFail : File → Type 0
CanFail Unknown = Unit {0}
CanFail Closed = Unit {0}
CanFail (Holds bytes) = ⊥
