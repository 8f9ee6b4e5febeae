-- An explanation that is written in parts is one line.
use Rattle.std.proofs.Common.{◌≡◌, ℕ, List, [], ◌∷◌, ◌++◌, refl, sym, ap, ◌∙◌, append_assoc}
use Rattle.board_text.specs.LineForms.{with_line_feed}
use Rattle.console.specs.Showing.{HasNoControl, shown}
use Rattle.console.proofs.Cited.{plain_both, plain_if_shown}

-- a line that was written in parts
pub line_of_parts : (about colon words : List ℕ)
    → about ++ (colon ++ (words ++ with_line_feed [])) ≡ with_line_feed (about ++ (colon ++ words))
line_of_parts about colon words = sym (
    append_assoc about (colon ++ words) (with_line_feed [])
    ∙ ap (λ (l : List ℕ). about ++ l) (append_assoc colon words (with_line_feed []))
    )

-- it has no control characters
pub plain_line : (about colon words : List ℕ) → HasNoControl colon → HasNoControl words
    → HasNoControl (shown about ++ (colon ++ words))
plain_line about colon words plain plain_too =
    plain_both (shown about) (colon ++ words) (plain_if_shown about) (plain_both colon words plain plain_too)

pub colon_is_plain : HasNoControl (58 ∷ 32 ∷ [])
unfolding shown
colon_is_plain = refl
