-- The reply to the line of a person who asks.
use Rattle.std.proofs.Common.{◌≡◌, ◌≢◌, ℕ, ◌+◌, ◌≤◌, ◌<◌, ◌^◌, List, ◌++◌, inl, inr, refl, sym, ap, ◌∙◌, subst, Bool}
use Rattle.std.proofs.Common.{arith, add-one}
use Rattle.std.specs.Prelude.{codes}
use Rattle.std.specs.Fmt.{decimal}
use Rattle.std.specs.Str.Parse.{AllDigits}
use Rattle.std.proofs.lemmas.Fmt.{decimal_is_IsNumeral, decimal_injective}
use Rattle.std.proofs.lemmas.Str.Parse.{tells_digits}
use Rattle.board_text.specs.PlainBoard.{PlainBoard}
use Rattle.positions.specs.Game.{Legal, moved}
use Rattle.positions.specs.Value.{HasValue}
use Rattle.positions.specs.declared.value.Value.{Value}
use Rattle.strategies.specs.Best.{IsBestAnswer}
use Rattle.player.specs.Words.{quit_line}
use Rattle.player.specs.Inside.Words.{Spells}
use Rattle.player.specs.Transcript.{Standing, Going, Over, PersonAsks, BeginsPlay, RepliesToLine, Replies}
use Rattle.player.specs.Transcript.{opening_lines, no_request_line, stuck_line, takes_line, at_line}
use Rattle.player.specs.Inside.PlayState.{PlayState}
use Rattle.player.specs.Opened.{StandsAt}
use Rattle.player.specs.declared.game.Opened.TheVariants.{Goes}
use Rattle.player.specs.Inside.Steps.{AddsText}
use Rattle.player.specs.declared.line_meaning.LineMeaning.TheVariants.{Number, Other}
use Rattle.player.specs.declared.end.PlayEnd.TheVariants.{Stuck}

-- a number isn't the word `quit`
pub no_quit : (number : ℕ) → number < 2 ^ 32 → decimal number ≢ quit_line
no_quit number small same =
    let all : AllDigits 10 quit_line =
    subst (AllDigits 10) same (decimal_is_IsNumeral number (omega (arith, small))).0.1 in
    let first = (tells_digits.parts 113 (codes "uit") all).0 in
    omega (arith, first.0, first.1)

-- a number that isn't below the number of pebbles is no request
pub no_pebble : (pebbles : ℕ) (Answers : ℕ → List ℕ → Standing → Type 0) (there : List ℕ) (requests number : ℕ)
    → pebbles ≤ number
    → (line : List ℕ) → Spells line (Number number)
    → RepliesToLine pebbles Answers (Going there requests) line no_request_line (Going there requests)
no_pebble pebbles Answers there requests number outside line spells =
    inr (inr (
      (
        λ same. no_quit number spells.0 (sym spells.1 ∙ same),
        λ pebble inside same. let equal : number ≡ pebble =
            decimal_injective number pebble (omega (arith, spells.0)) (omega (arith, spells.0, inside, outside))
            (sym spells.1 ∙ same) in omega (arith, equal, inside, outside),
      ),
      refl,
      refl,
    ))

-- a line that is neither a number nor `quit` is no request
pub no_number : (pebbles : ℕ) (Answers : ℕ → List ℕ → Standing → Type 0) (there : List ℕ) (requests : ℕ)
    (blank : Bool) → pebbles < 2 ^ 32 → (line : List ℕ) → Spells line (Other blank)
    → RepliesToLine pebbles Answers (Going there requests) line no_request_line (Going there requests)
no_number pebbles Answers there requests blank few line spells =
    inr (inr ((spells.0, λ pebble inside same. spells.1 pebble (omega (arith, inside, few)) same), refl, refl))

-- ---- a play that is known by its parts

module _ (inside seat : PlayState) (same : inside ≡ seat) where
  -- the pebble was put on the label of the best answer
  pub reply_said : (space : PlainBoard) (pebble label : ℕ) (after written old new : List ℕ) → space ≡ inside.board
      → IsBestAnswer inside.board inside.at pebble label → after ≡ moved inside.at pebble label → written ≡ after
      → new ≡ old ++ (takes_line pebble (decimal label) ++ at_line space written)
      → AddsText old new (λ said. Replies seat.board seat.at seat.requests pebble said
      (Going after (inside.requests + 1)))
  reply_said space pebble label after written old new of_board best there same_places said =
      subst (λ (s : PlayState). AddsText old new
      (λ said. Replies s.board s.at s.requests pebble said (Going after (inside.requests + 1)))) same (
        takes_line pebble (decimal label) ++ at_line space written,
        said,
        inl (
          label,
          best,
          ap (λ (b : PlainBoard). takes_line pebble (decimal label) ++ at_line b written) of_board
              ∙ ap (λ (c : List ℕ). takes_line pebble (decimal label) ++ at_line inside.board c) (same_places ∙ there),
          rw (there, add-one) refl,
        ),
      )

  -- no label is legal
  pub no_reply_said : (pebble : ℕ) (old new : List ℕ) → ((label : ℕ) → Legal inside.board inside.at pebble label → ⊥)
      → new ≡ old ++ stuck_line pebble inside.requests
      → AddsText old new (λ said. Replies seat.board seat.at seat.requests pebble said (Over (Stuck inside.requests)))
  no_reply_said pebble old new none said =
      subst (λ (s : PlayState). AddsText old new
      (λ said. Replies s.board s.at s.requests pebble said (Over (Stuck inside.requests)))) same
      (stuck_line pebble inside.requests, said, inr (none, refl, refl))

-- the play begins at the start
pub begins : (board : PlainBoard) (value : Value) → HasValue board board.start value
    → BeginsPlay (PersonAsks board) (opening_lines board value board.start) (Going board.start 0)
begins board value has = (value, has, refl, refl)

-- the text that opens it, by a board that is the same, and the play from there on
pub opens_play : (space board : PlainBoard) (value : Value) (old new : List ℕ) (seat : PlayState) → space ≡ board
    → HasValue board board.start value → new ≡ old ++ opening_lines space value space.start
    → seat ≡ record { board = board; at = board.start; requests = 0 }
    → AddsText old new (λ said. (to : Standing) × BeginsPlay (PersonAsks board) said to
    × StandsAt (λ (s : PlayState). PersonAsks s.board) (λ s. s.at) (λ s. s.requests) (PersonAsks board) (Goes seat) to)
opens_play space board value old new seat same has said is = rw is (
  opening_lines board value board.start,
  said ∙ ap (λ (b : PlainBoard). old ++ opening_lines b value b.start) same,
  (Going board.start 0, begins board value has, (refl, refl, refl)),
)
