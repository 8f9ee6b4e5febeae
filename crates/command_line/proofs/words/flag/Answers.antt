use Rattle.std.proofs.Common.{◌∙◌}
use Rattle.std.specs.Str.Parse.{ParsesBool}
use Rattle.clap.proofs.WalkLemmas.{one_text-rows}
use Rattle.clap.specs.Words.{found_of}
use Rattle.command_line.proofs.ReadingLemmas.{flag_read}
use Rattle.command_line.proofs.words.flag.Goals as goal

pub returns : goal.returns
returns c =
    let e = one_text-rows (found_of c.args.matches.now) c.args.id.now in
    flag_read ParsesBool _ c.get_one.result (λ u x g. g) (λ h. c.get_one.ensures.none (e ∙ h))
    (λ t h. c.get_one.ensures.value t (e ∙ h))
