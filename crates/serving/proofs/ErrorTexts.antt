-- The text that a serving writes on standard error.
use Rattle.std.proofs.Common.{◌≡◌, ℕ, Bool, true, false, List, [], ◌++◌, refl, sym, append-nil}
use Rattle.std.specs.Prelude.{Option}
use Rattle.board_text.specs.LineForms.{with_line_feed}
use Rattle.console.specs.Showing.{HasNoControl, IsMore}
use Rattle.console.proofs.Cited.{then_more}
use Rattle.runs.specs.Run.{stream_of}
use Rattle.serving.specs.Serving.{IsEnding, IsExplained, IsSaid, IsWritten}
use Rattle.serving.specs.declared.outcome.Outcome.{Outcome}

module _ {W : Type 0} (known : W → Option (List ℕ)) (failed : W → Bool) where
  -- a text without its explanation, and with it
  pub plain : (terminal : Bool) (a b : W) (text : List ℕ) → terminal ≡ false → IsMore known failed a b text
      → (said : List ℕ) × IsExplained terminal text said × IsMore known failed a b said
  plain true a b text is more = cc
  plain false a b text is more = (text, ([], refl, sym (append-nil text)), more)

  pub explained : (terminal : Bool) (a b c : W) (text : List ℕ) → terminal ≡ true → IsMore known failed a b text
      → ((words : List ℕ) × HasNoControl words × IsMore known failed b c (with_line_feed words))
      → (said : List ℕ) × IsExplained terminal text said × IsMore known failed a c said
  explained false a b c text is more note = cc
  explained true a b c text is more (words, clean, then) = (
    text ++ with_line_feed words,
    (with_line_feed words, (words, clean, refl), refl),
    then_more known failed a b c text (with_line_feed words) more then,
  )

  -- the clauses of serving, if the writer hadn't failed before
  module _ (a : W) (ready : failed a ≡ false) where
    pub ended : (b : W) (terminal : Bool) (outcome : Outcome)
        → ((said : List ℕ) × IsEnding terminal outcome said × IsMore known failed a b said)
        → (said : List ℕ) × IsEnding terminal outcome said × IsSaid (stream_of known failed a b) said
    ended b terminal outcome (said, is, more) = (said, is, more.1 ready)

    pub prompted : (b c : W) (line : List ℕ) (terminal : Bool) (outcome : Outcome) → IsMore known failed a b line
        → ((said : List ℕ) × IsEnding terminal outcome said × IsMore known failed b c said)
        → (said : List ℕ) × IsEnding terminal outcome said × IsSaid (stream_of known failed a c) (line ++ said)
    prompted b c line terminal outcome first (said, is, more) = (
      said,
      is,
      (then_more known failed a b c line said first more).1 ready,
    )

    pub refused : (b : W) (terminal : Bool) (text : List ℕ)
        → ((said : List ℕ) × IsExplained terminal text said × IsMore known failed a b said)
        → (said : List ℕ) × IsExplained terminal text said × IsWritten (stream_of known failed a b) said
    refused b terminal text (said, is, more) = (said, is, (more.1 ready).0)
