use Rattle.std.proofs.Common.{List, ℕ, rules, sym, ◌≡◌, ◌≢◌, [], subst}
use Rattle.std.specs.Prelude.{string_bytes}
use Rattle.command_line.specs.Reading.{NamesCommands}
use Rattle.command_line.proofs.HelpTexts.{all_named, all_names, some_names}
use Rattle.command_line.proofs.words.help.Goals as goal

pub returns-in-Ok : goal.returns-in-Ok
returns-in-Ok c =
    let is : string_bytes c.in-Ok.text ≡ all_names = search rules in (
      subst (λ (text : List ℕ). text ≢ []) (sym is) some_names,
      λ one. subst NamesCommands (sym is) all_named,
    )
