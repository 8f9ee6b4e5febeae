-- The numbers that the digits of a row spell.
use Rattle.std.proofs.Common.{◌≡◌, ◌≢◌, ℕ, ◌+◌, ◌^◌, ◌<◌, ◌≤◌, true, false, List, [], ◌++◌, Option, Some, None, refl}
use Rattle.std.proofs.Common.{sym, ap, ◌∙◌, arith}
use Rattle.std.specs.Prelude.{codes, MatchOption}
use Rattle.std.specs.Option.{is_some}
use Rattle.std.specs.Fmt.{decimal}
use Rattle.std.specs.Str.Parse.{IsNumeral}
use Rattle.std.proofs.lemmas.Fmt.{decimal_is_IsNumeral, decimal_injective}
use Rattle.std.proofs.lemmas.List.{append-nil}
use Rattle.board_text.specs.declared.line_reader.Numeral.{Numeral}
use Rattle.board_text.specs.declared.line_reader.Numeral.TheVariants.{Number, NoNumber}
use Rattle.board_text.specs.Numerals.{Says, IsNumberIn}
use Rattle.board_text.specs.Ranges.{InRange}
use Rattle.board_text.proofs.Cited.{spells_none, spells_number}
use Rattle.positions.specs.declared.claim.Claim.{Claim}
use Rattle.positions.specs.declared.claim.Claim.TheVariants.{Forever}
use Rattle.positions.specs.declared.turns.Turns.{Turns}
use Rattle.positions.specs.declared.turns.Turns.TheVariants.{Count, Always}
use Rattle.proof_text.specs.Proof.{AreTurns}
use Rattle.proof_text.specs.ProofText.{turns_text}
use Rattle.proof_text.specs.Inside.Reading.{TurnsOf, NumberOf}
use Rattle.proof_text.specs.declared.proof.TheConstants.{MAX_TURNS}
use Rattle.proof_text.proofs.RowWords.{no_star}

pub count_small : (claim : Claim) (n : ℕ) → AreTurns claim (Count n) → n < MAX_TURNS + 1
count_small Forever n are = absurd are
count_small claim n are = omega (arith, are.1)

-- only the claim `forever` has turns without end
pub no_star_turns : (claim : Claim) → claim ≢ Forever → AreTurns claim Always → ⊥
no_star_turns Forever not are = not refl
no_star_turns claim not are = are

pub are_turns : (claim : Claim) (n : ℕ) → claim ≢ Forever → InRange 1 MAX_TURNS n → AreTurns claim (Count n)
are_turns Forever n not is = absurd (not refl)
are_turns claim n not is = is

pub star_is_no_number : (n : ℕ) → n < 2 ^ 64 → codes "*" ≡ decimal n → ⊥
star_is_no_number n small e =
    no_star (decimal n) [] [] (decimal_is_IsNumeral n small).0 (append-nil (decimal n) ∙ sym e)

pub turns_star : (claim : Claim) (r : Option Turns)
    → MatchOption r (AreTurns claim Always → ⊥) (λ turns. AreTurns claim turns × (turns ≡ Always))
    → TurnsOf claim (codes "*") r
turns_star claim (Some turns) h = (h.0, ap turns_text (sym h.1))
turns_star claim None h = λ spells. no_star_turns claim h spells.0 spells.1 spells.2
  where
    no_star_turns : (claim : Claim) → (AreTurns claim Always → ⊥) → (turns : Turns) → AreTurns claim turns
        → codes "*" ≡ turns_text turns → ⊥
    no_star_turns claim h Always are e = h are
    no_star_turns claim h (Count n) are e = star_is_no_number n (omega (arith, count_small claim n are)) e

digits_none : (claim : Claim) (text : List ℕ) (numeral : Numeral) → Says text numeral → IsNumeral 10 text
    → ((n : ℕ) → AreTurns claim (Count n) → numeral ≢ Number n)
    → (turns : Turns) → AreTurns claim turns → text ≡ turns_text turns → ⊥
digits_none claim text numeral says is h Always are e = no_star text [] [] is (append-nil text ∙ e)
digits_none claim text NoNumber says is h (Count n) are e = says n (omega (arith, count_small claim n are)) e
digits_none claim text (Number m) says is h (Count n) are e =
    let same : m ≡ n = decimal_injective m n (omega (arith, says.0)) (omega (arith, count_small claim n are))
    (sym says.1 ∙ e) in
    h n are (ap Number same)

pub turns_digits : (claim : Claim) (r : Option Turns) (text : List ℕ) (numeral : Numeral) → Says text numeral
    → IsNumeral 10 text
    → MatchOption r ((n : ℕ) → AreTurns claim (Count n) → numeral ≢ Number n)
    (λ turns. AreTurns claim turns × ((n : ℕ) × (turns ≡ Count n) × (numeral ≡ Number n)))
    → TurnsOf claim text r
turns_digits claim (Some turns) text numeral says is h =
    (h.0, spells_number text numeral h.1.0 says h.1.2 ∙ ap turns_text (sym h.1.1))
turns_digits claim None text numeral says is h =
    λ spells. digits_none claim text numeral says is h spells.0 spells.1 spells.2

pub number_of : (high : ℕ) (r : Option ℕ) (text : List ℕ) (numeral : Numeral) → high < 2 ^ 32 → Says text numeral
    → MatchOption r ((n : ℕ) → IsNumberIn 0 high numeral n → ⊥) (IsNumberIn 0 high numeral) → NumberOf (high + 1) text r
number_of high (Some n) text numeral small says h = (omega (arith, h.1), spells_number text numeral n says h.2)
number_of high None text numeral small says h =
    spells_none (high + 1) text numeral (omega arith) says (λ n lt e. h n (omega arith, omega arith, e))

pub pebble_of : (pebbles : ℕ) (r : Option ℕ) (text : List ℕ) (numeral : Numeral) → pebbles ≤ 2 ^ 32 → Says text numeral
    → MatchOption r ((n : ℕ) → n < pebbles → numeral ≢ Number n) (λ n. (n < pebbles) × (numeral ≡ Number n))
    → NumberOf pebbles text r
pebble_of pebbles (Some n) text numeral small says h = (h.0, spells_number text numeral n says h.1)
pebble_of pebbles None text numeral small says h = spells_none pebbles text numeral small says h

-- if a star was found, it was taken
pub taken_star : (r : Option (Unit {0})) (old new : List ℕ) → true ≡ is_some r
    → MatchOption r ((more : List ℕ) → old ≢ codes "*" ++ more) (λ _. old ≡ codes "*" ++ new) → old ≡ codes "*" ++ new
taken_star (Some u) old new is h = h
taken_star None old new is h = absurd cc

-- if no star was found, nothing was taken
pub not_taken : (r : Option (Unit {0})) (old new : List ℕ) → false ≡ is_some r
    → MatchOption r (new ≡ old) (λ _. Unit {0}) → new ≡ old
not_taken (Some u) old new is h = absurd cc
not_taken None old new is h = h
