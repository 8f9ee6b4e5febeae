-- Texts that a person is shown, by a writer that may fail.
use Rattle.std.specs.Prelude.{◌≡◌, ℕ, ◌⊎◌, ◌&&◌, ◌||◌, Bool, true, false, List, [], ◌∷◌, Option}
use Rattle.std.specs.Prelude.{cond, nat_eq, nat_lt}
use Rattle.board_text.specs.Streams.{AppendsAll, AppendsPrefix, Bytes, bytes_of}

-- a control byte, as a line feed is
abbrev pub is_control : ℕ → Bool
is_control byte = nat_lt byte 32 || nat_eq byte 127

-- the two bytes of a control character from U+0080 to U+009F
abbrev pub are_control : ℕ → ℕ → Bool
are_control first second = nat_eq first 194 && (nat_lt 127 second && nat_lt second 160)

-- bytes as a person is shown them: a question mark for each control character, and for the first
-- byte of such two at the end, so that no text after it makes it one
unfoldable pub shown : List ℕ → List ℕ
shown [] = []
shown (byte ∷ []) = cond (is_control byte || nat_eq byte 194) 63 byte ∷ []
shown (byte ∷ next ∷ rest) = elim (are_control byte next) [
  | true ↦ 63 ∷ shown rest
  | false ↦ cond (is_control byte) 63 byte ∷ shown (next ∷ rest)
]

-- no control character is among the bytes: they are shown as they are
abbrev pub HasNoControl : List ℕ → Type 0
HasNoControl bytes = shown bytes ≡ bytes

-- the text was written, and nothing else; or a prefix of it, and then the writer failed
abbrev pub IsTaken : Bytes → Type 0 → List ℕ → Type 0
IsTaken taken HasFailed text =
    ((HasFailed → ⊥) × AppendsAll taken text) ⊎ (HasFailed × AppendsPrefix taken text)

-- the text was written, unless the writer had failed; if it had, or if the text is empty, the
-- writer is as it was
abbrev pub IsMore : {W : Type 0} → (W → Option (List ℕ)) → (W → Bool) → W → W → List ℕ → Type 0
IsMore known has_failed before after text =
    (has_failed before ≡ true → after ≡ before)
    × (has_failed before ≡ false
    → IsTaken (bytes_of known before after) (has_failed after ≡ true) text
    × (text ≡ [] → after ≡ before))
