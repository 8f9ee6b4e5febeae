use Rattle.std.proofs.Common.{◌∙◌, ◌≡◌, Option, Some, None, refl, option_map}
use Rattle.std.specs.Prelude.{Box}
use Rattle.std.specs.Box.{box_value}
use Rattle.clap.specs.Words.{found_of, rows_of, subcommand_rows}
use Rattle.clap.specs.declared.parser.matches.ArgMatches.TheViews.{out-ArgMatches, out-SubCommand}
use Rattle.clap.specs.declared.parser.matches.SubCommand.{SubCommand}
use Rattle.command_line.proofs.ReadingLemmas.{halves}
use Rattle.command_line.proofs.words.named.Goals as goal

same_name : {Z : Type 0} (s : Option (Box SubCommand Z))
    → option_map (λ b. (out-SubCommand (box_value b)).name.now) s ≡ option_map (λ p. p.0) (subcommand_rows s)
same_name None = refl
same_name (Some b) = refl

pub returns : goal.returns
returns c = halves (λ p. p.0.now) (λ p. rows_of (found_of p.1.now)) c.subcommand.result _
    (c.subcommand.ensures.name ∙ same_name (out-ArgMatches c.args.matches.now).subcommand) c.subcommand.ensures.rows
