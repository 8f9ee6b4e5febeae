-- Lines that are cut from the bytes that were read.
use Rattle.std.proofs.Common.{◌≡◌, ◌≢◌, ℕ, suc, ◌+◌, ◌≤◌, ◌<◌, true, false, List, [], ◌∷◌, ◌++◌, length, take, drop}
use Rattle.std.proofs.Common.{inl, inr, sym, ap, ◌∙◌, subst, arith, append-nil, append_assoc, take-append-drop}
use Rattle.std.proofs.Common.{length-take-le}
use Rattle.std.specs.Prelude.{Option, None, Some, MatchOption, slice_index}
use Rattle.std.specs.Io.KnownBytes.{Consumes}
use Rattle.std.proofs.lemmas.List.{take_all, drop_more}
use Rattle.std.proofs.lemmas.List.Elements.{All-take}
use lib.Seq.{take-take}
use Rattle.board_text.specs.Streams.{Bytes, GaveAll, GaveNext}
use Rattle.board_text.specs.LineForms.{with_line_feed}
use Rattle.board_text.proofs.Cited.{Consumes-trans, between}
use Rattle.player.specs.Words.{HasNoFeed, IsLine, BeginsTooLong}
use Rattle.player.specs.Inside.Words.{Spells}
use Rattle.player.specs.Inside.LineInput.{Unread, GivesLine}
use Rattle.player.specs.declared.line_meaning.LineMeaning.{LineMeaning}
use Rattle.player.specs.declared.lines.TheConstants.{MOST_BYTES}

-- if a prefix that is longer than a line has no line feed, the bytes begin with too long a line
pub too_long : (bytes : List ℕ) (size : ℕ) → MOST_BYTES < size → size ≤ length bytes → HasNoFeed (take size bytes)
    → BeginsTooLong bytes
too_long bytes size long within no_feed = record {
  long = omega (arith, long, within);
  no_feed = subst HasNoFeed (take-take (suc MOST_BYTES) size bytes long)
      (All-take (λ byte. byte ≢ 10) (suc MOST_BYTES) (take size bytes) no_feed);
}

-- bytes without a line feed, no more than a line may have, are a line
pub whole_line : (bytes : List ℕ) (size : ℕ) → size ≤ MOST_BYTES → length bytes ≤ size → HasNoFeed (take size bytes)
    → IsLine bytes
whole_line bytes size short all no_feed = record {
  no_feed = subst HasNoFeed (take_all size bytes all) no_feed;
  short = omega (arith, short, all);
}

-- the bytes are a line, its line feed and the rest
cut : (bytes : List ℕ) (size : ℕ) → size < length bytes → slice_index bytes size ≡ 10
    → bytes ≡ with_line_feed (take size bytes) ++ drop (size + 1) bytes
cut bytes size inside feed =
    sym (take-append-drop size bytes)
    ∙ ap (λ l. take size bytes ++ l) (drop_more bytes size 0 inside ∙ ap (λ b. b ∷ drop (size + 1) bytes) feed)
    ∙ sym (append_assoc (take size bytes) (10 ∷ []) (drop (size + 1) bytes))

-- a line with its line feed was taken
pub closed_line : (old now new : Unread) (left : Bytes) (more : List ℕ) (size : ℕ) (word : LineMeaning)
    → old.has_ended ≡ false → now.bytes ≡ old.bytes ++ more → GaveNext left more → now.has_ended ≡ false
    → size ≤ MOST_BYTES → size < length now.bytes → HasNoFeed (take size now.bytes) → slice_index now.bytes size ≡ 10
    → Spells (take size now.bytes) word → new.bytes ≡ drop (size + 1) now.bytes → new.has_ended ≡ now.has_ended
    → GivesLine old new left (Some word)
closed_line old now new left more size word began grown read goes_on short inside no_feed feed spells rest
    same = (
      take size now.bytes,
      began,
      spells,
      record { no_feed = no_feed; short = omega (arith, length-take-le size now.bytes (omega (arith, inside)), short) },
      inl (record {
        more = more;
        read = read;
        taken = sym grown ∙ cut now.bytes size inside feed
            ∙ ap (λ l. with_line_feed (take size now.bytes) ++ l) (sym rest);
        goes_on = same ∙ goes_on;
      }),
    )

-- at the end of the input the rest is the last line, if it isn't empty
pub last_line : (old now seen new : Unread) (left_old left_now left_new : Option (List ℕ)) (more : List ℕ)
    (found : Option LineMeaning)
    → old.has_ended ≡ false → now.bytes ≡ old.bytes ++ more → Consumes left_old left_now more → IsLine now.bytes
    → seen.bytes ≡ now.bytes → GaveAll (between left_now left_new) [] → seen.has_ended ≡ true
    → new.bytes ≡ [] → new.has_ended ≡ seen.has_ended
    → MatchOption found (seen.bytes ≡ []) (λ word. Spells seen.bytes word × (seen.bytes ≢ []))
    → GivesLine old new (between left_old left_new) found
last_line old now seen new left_old left_now left_new more found began grown read is_line same end ended empty stays
    says =
    let all : GaveAll (between left_old left_new) more = (
      subst (Consumes left_old left_new) (append-nil more)
          (Consumes-trans left_old left_now left_new more [] read end.0),
      end.1,
    ) in
    let taken : old.bytes ++ more ≡ seen.bytes = sym grown ∙ sym same in
    given found says all taken
  where
    given : (found : Option LineMeaning)
        → MatchOption found (seen.bytes ≡ []) (λ word. Spells seen.bytes word × (seen.bytes ≢ []))
        → GaveAll (between left_old left_new) more → old.bytes ++ more ≡ seen.bytes
        → GivesLine old new (between left_old left_new) found
    given None says all taken =
        record { more = more; read = all; taken = taken ∙ says; nothing_left = empty; ends = stays ∙ ended }
    given (Some word) says all taken = (
      seen.bytes,
      began,
      says.0,
      subst IsLine (sym same) is_line,
      inr (record { more = more; read = all; taken = taken; nothing_left = empty; ends = stays ∙ ended }, says.1),
    )
