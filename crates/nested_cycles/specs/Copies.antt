-- The copies that words are in.
use Rattle.std.specs.Prelude.{◌≡◌, ℕ, ◌<◌, List, [], Contains}
use Rattle.nested_cycles.specs.declared.copies.Copies.{Copies}
use Rattle.nested_cycles.specs.declared.copies.Copies.TheVariants.{Empty, One, Two, Three}
use Rattle.nested_cycles.specs.GoodWords.{AreInOneCopy, AreInTwoCopies}

-- the copies are those of the first digits
abbrev pub AreCopies : Copies → List ℕ → Type 0
AreCopies Empty firsts = firsts ≡ []
AreCopies (One digit) firsts = (digit < 3) × AreInOneCopy digit firsts × Contains firsts digit
AreCopies (Two digit) firsts = (digit < 3) × AreInTwoCopies digit firsts
AreCopies Three firsts = (digit : ℕ) → digit < 3 → Contains firsts digit
