-- The numbers that digits spell.
use Rattle.std.proofs.Common.{◌≡◌, ◌≢◌, ℕ, ◌^◌, ◌<◌, ◌≤◌, List, ◌++◌, Option, Some, None, refl, sym, ap, subst, ◌∙◌}
use Rattle.std.proofs.Common.{arith}
use Rattle.std.specs.Prelude.{MatchOption}
use Rattle.std.specs.Str.Parse.{IsNumeral}
use Rattle.board_text.specs.LineForms.{NoDigit, TakesNumber}
use Rattle.board_text.specs.Numerals.{IsNumberIn, Says, SpellsBelow}
use Rattle.board_text.specs.declared.line_reader.Numeral.TheVariants.{Number, NoNumber}
use Rattle.std.specs.Fmt.{decimal}
use Rattle.std.proofs.lemmas.Fmt.{decimal_injective}
use Rattle.board_text.proofs.Numbers.{no_number, other_number}
use Rattle.board_text.specs.declared.line_reader.Numeral.{Numeral}

-- digits that say no number below the bound spell none
pub spells_none : (bound : ℕ) (text : List ℕ) (numeral : Numeral) → bound ≤ 2 ^ 32 → Says text numeral
    → ((n : ℕ) → n < bound → numeral ≢ Number n) → SpellsBelow bound text → ⊥
spells_none bound text NoNumber small says not spells = says spells.0 (omega (arith, spells.1)) spells.2
spells_none bound text (Number m) small says not spells =
    let same : spells.0 ≡ m = decimal_injective spells.0 m (omega (arith, spells.1)) (omega (arith, says.0))
    (sym spells.2 ∙ says.1) in
    let below : m < bound = omega (arith, same, spells.1) in
    not m below refl

pub spells_number : (text : List ℕ) (numeral : Numeral) (n : ℕ) → Says text numeral → numeral ≡ Number n
    → text ≡ decimal n
spells_number text numeral n says e = (subst (λ (m : Numeral). Says text m) e says).1

-- the number in the range that digits say was taken, or they say none
pub number_taken : (low high : ℕ) (old new digits : List ℕ) (numeral : Numeral) (found : Option ℕ) → high < 2 ^ 32
    → IsNumeral 10 digits → old ≡ digits ++ new → NoDigit new → Says digits numeral
    → MatchOption found ((n : ℕ) → IsNumberIn low high numeral n → ⊥) (IsNumberIn low high numeral)
    → TakesNumber low high found old new
number_taken low high old new digits numeral (Some n) small is taken no_digit says one =
    ((one.0, one.1), taken ∙ ap (λ (t : List ℕ). t ++ new) (spells_number digits numeral n says one.2), no_digit)
number_taken low high old new digits NoNumber None small is taken no_digit says none =
    no_number high old digits new small taken is.1 no_digit says low
number_taken low high old new digits (Number m) None small is taken no_digit says none =
    other_number m low high old new says.0 small (taken ∙ ap (λ (t : List ℕ). t ++ new) says.1) no_digit
    (λ within. none m (within.0, within.1, refl))
