-- What is told after a line with a blank.
use Rattle.std.proofs.Common.{◌≡◌, ℕ, Bool, true, false, List, [], ◌∷◌, arith, ap, refl, subst, sym}
use Rattle.std.specs.Fmt.{decimal}
use Rattle.std.specs.Str.Parse.{AllDigits}
use Rattle.std.proofs.lemmas.Bool.{ne_eqb}
use Rattle.std.proofs.lemmas.Fmt.{decimal_is_IsNumeral}
use Rattle.std.proofs.lemmas.Str.Parse.{tells_digits}
use Rattle.player.specs.Inside.Prompts.{hint_if, hint_there}
use Rattle.player.specs.Inside.Words.{Spells}
use Rattle.player.specs.Prompts.{has_blank}
use Rattle.player.specs.declared.line_meaning.LineMeaning.{LineMeaning}
use Rattle.player.specs.declared.line_meaning.LineMeaning.TheVariants.{Number, Quit, Other}

-- digits have no blank
digits_have_none : (line : List ℕ) → AllDigits 10 line → has_blank line ≡ false
digits_have_none [] all = refl
digits_have_none (byte ∷ rest) all =
    let parts = tells_digits.parts byte rest all in
    rw (ne_eqb byte 32 (λ same. omega (arith, same, parts.0.0)), ne_eqb byte 9 (λ same. omega (arith, same, parts.0.0)))
    (digits_have_none rest parts.1)

none_there : (shows : Bool) (line : List ℕ) → has_blank line ≡ false → [] ≡ hint_there shows line
none_there true line none = rw none refl
none_there false line none = refl

-- the meaning of a line tells whether it has one
pub hint_is : (shows : Bool) (meaning : LineMeaning) (line : List ℕ) → Spells line meaning
    → hint_if shows meaning ≡ hint_there shows line
hint_is true (Number number) line (small, spells) =
    none_there true line
    (subst (λ l. has_blank l ≡ false) (sym spells)
    (digits_have_none (decimal number) (decimal_is_IsNumeral number (omega (arith, small))).0.1))
hint_is true Quit line spells = none_there true line (ap has_blank spells)
hint_is true (Other true) line (no_quit, no_number, blank) = rw blank refl
hint_is true (Other false) line (no_quit, no_number, blank) = none_there true line blank
hint_is false (Number number) line spells = refl
hint_is false Quit line spells = refl
hint_is false (Other blank) line spells = refl
