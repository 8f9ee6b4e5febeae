-- What is told of lengths with many chains.
use Rattle.std.proofs.Common.{◌≡◌, Bool, List, ℕ, inl, inr, refl, subst, sym}
use Rattle.std.specs.Prelude.{Err, IsOk, Ok, Option, Result}
use Rattle.console.specs.Showing.{IsMore}
use Rattle.console.specs.Watching.{AreStepsTold, lines_of}
use Rattle.console.proofs.Cited.{told_lines}
use Rattle.runs.specs.Inside.Chaining.{IsToldOfText}
use Rattle.runs.specs.Notices.{IsToldOfChains, notice_of_length}
use Rattle.runs.specs.Run.{Bytes, Gave}
use Rattle.runs.specs.Texts.{HasNoneAmong, OfAnySize}
use Rattle.runs.specs.declared.fault.RunFault.{RunFault}
use Rattle.runs.specs.declared.reading.TheConstants.{MAX_BOARD_BYTES}

-- ---- of a board that is read

module _ {Answer : Type 0} (most : ℕ) (read : Bytes) (text : List ℕ) (gave : Gave MAX_BOARD_BYTES read text)
    (shows : Bool) (told : List ℕ) (result : Result Answer RunFault)
    (is : IsToldOfText most text shows result told) where
  pub chains_then : (answer : Answer) → result ≡ Ok answer → (other : Result (Unit {0}) RunFault)
      → IsToldOfChains most read shows other told
  chains_then answer ok other = by is
    where
      by : IsToldOfText most text shows result told → IsToldOfChains most read shows other told
      by (inl (board, within, counts, are, complete, told_is)) =
          inl (board, (text, gave, within), counts, are, λ done. complete (subst IsOk (sym ok) refl), told_is)
      by (inr (fault, broke, missing, none)) = cc

  pub chains_before : (fault : RunFault) → result ≡ Err fault → IsToldOfChains most read shows (Err fault) told
  chains_before fault broke = by is
    where
      one : (other : RunFault) → result ≡ Err other → other ≡ fault
      one other same = cc

      by : IsToldOfText most text shows result told → IsToldOfChains most read shows (Err fault) told
      by (inl (board, within, counts, are, complete, told_is)) =
          inl (board, (text, gave, within), counts, are, λ done. cc, told_is)
      by (inr (other, same, missing, none)) =
          inr (fault, refl, inr (text, gave, subst (HasNoneAmong OfAnySize text) (one other same) missing), none)

-- ---- of a walk over chains

module _ {E : Type 0} (known : E → Option (List ℕ)) (failed : E → Bool) (shows : Bool) (old new : E) where
  pub walk_told : (counts : List ℕ)
      → AreStepsTold (λ before after size count. IsMore known failed before after (notice_of_length shows size count)) 1
      counts old new
      → IsMore known failed old new (lines_of (notice_of_length shows) 1 counts)
  walk_told counts told = told_lines known failed (notice_of_length shows) 1 counts old new told
