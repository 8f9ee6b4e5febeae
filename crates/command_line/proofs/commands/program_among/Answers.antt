use Rattle.std.proofs.Common.{rules, ap₂, ◌≡◌, ◌∙◌, [], codes, true}
use Rattle.clap.specs.Words.{app_of, with_subcommand}
use Rattle.clap.specs.Simple.{App, new_shape}
use Rattle.command_line.proofs.commands.program_among.Goals as goal

abbrev top : App
top = record {
  top = record (new_shape (codes "pebbles")) { has_version = true; subcommand_required = true };
  subs = [];
}

pub returns : goal.returns
returns c =
    let none : app_of c.subcommand_required-command.result ≡ top =
    search (
      rules,
      c.new.ensures,
      c.in_ok-bin_name.ensures,
      c.version.ensures,
      c.about.ensures,
      c.override_usage.ensures,
      c.after_help.ensures,
      c.subcommand_required-command.ensures,
    ) in
    let solve = c.in_ok-command.ensures.shape c.in_ok-solve.ensures.local
    ∙ ap₂ with_subcommand none c.in_ok-solve.ensures.shape in
    let check = c.in_ok-command-2.ensures.shape c.in_ok-check.ensures.local
    ∙ ap₂ with_subcommand solve c.in_ok-check.ensures.shape in
    let report = c.in_ok-command-3.ensures.shape c.in_ok-report.ensures.local
    ∙ ap₂ with_subcommand check c.in_ok-report.ensures.shape in
    let starts = c.in_ok-command-4.ensures.shape c.in_ok-starts.ensures.local
    ∙ ap₂ with_subcommand report c.in_ok-starts.ensures.shape in
    let chains = c.in_ok-command-5.ensures.shape c.in_ok-chains.ensures.local
    ∙ ap₂ with_subcommand starts c.in_ok-chains.ensures.shape in
    let nested = c.in_ok-command-6.ensures.shape c.in_ok-nested.ensures.local
    ∙ ap₂ with_subcommand chains c.in_ok-nested.ensures.shape in
    let play = c.in_ok-command-7.ensures.shape c.in_ok-play.ensures.local
    ∙ ap₂ with_subcommand nested c.in_ok-play.ensures.shape in
    let climb = c.in_ok-command-8.ensures.shape c.in_ok-climb.ensures.local
    ∙ ap₂ with_subcommand play c.in_ok-climb.ensures.shape in
    climb
