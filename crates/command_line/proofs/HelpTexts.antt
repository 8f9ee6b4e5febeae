-- The names that stand in the texts of help.
use Rattle.std.proofs.Common.{◌≢◌, ◌∙◌, ◌++◌, ℕ, List, [], codes, drop, refl, sym, ap, take}
use Rattle.std.proofs.lemmas.List.{take-append-drop}
use Rattle.std.specs.Str.Pattern.{FindsText, HasMatch}
use Rattle.clap.specs.Walk.{Text}
use Rattle.command_line.specs.Reading.{Names, NamesCommands}

pub named : (text : List ℕ) (name : Text) → HasMatch (FindsText name) text → Names text name
named text name has = (
  take has.0 text,
  drop has.1 text,
  sym (take-append-drop has.0 text)
      ∙ ap (λ (rest : List ℕ). take has.0 text ++ rest) has.2.1.split,
)

abbrev pub all_names : List ℕ
all_names = codes "solve, check, report, starts, chains, nested, play, climb\n"

pub all_named : NamesCommands all_names
all_named = (
  ([], codes ", check, report, starts, chains, nested, play, climb\n", refl),
  (
    (codes "solve, ", codes ", report, starts, chains, nested, play, climb\n", refl),
    (
      (codes "solve, check, ", codes ", starts, chains, nested, play, climb\n", refl),
      (
        (codes "solve, check, report, ", codes ", chains, nested, play, climb\n", refl),
        (
          (codes "solve, check, report, starts, ", codes ", nested, play, climb\n", refl),
          (
            (codes "solve, check, report, starts, chains, ", codes ", play, climb\n", refl),
            (
              (codes "solve, check, report, starts, chains, nested, ", codes ", climb\n", refl),
              (
                (codes "solve, check, report, starts, chains, nested, play, ", codes "\n", refl),
                tt,
              ),
            ),
          ),
        ),
      ),
    ),
  ),
)

pub some_names : all_names ≢ []
some_names = λ e. cc
