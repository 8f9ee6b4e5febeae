use Rattle.std.proofs.Common.{rules, ◌≡◌, ◌∙◌, ap}
use Rattle.std.proofs.lemmas.Result.{IfOk-weaker}
use Rattle.clap.specs.Simple.{App}
use Rattle.clap.specs.Walk.{texts}
use Rattle.clap.specs.Words.{fault_of, is_simple, is_simple_and_free, subcommand_of, takes}
use Rattle.command_line.specs.Commands.{side_words}
use Rattle.command_line.proofs.SameProgram.{faults_as_program, reads_as_program, takes_as_program}
use Rattle.command_line.proofs.TakenWords.{simple, simple_and_free}
use Rattle.command_line.proofs.commands.program.Goals as goal

pub returns : goal.returns
returns c =
    let words : texts c.as_slice.result.now ≡ side_words = search rules in
    record {
      simple = IfOk-weaker c.program_among.result _ _
          (λ r e. ap is_simple e ∙ simple c.as_slice.result) c.program_among.ensures;
      free = IfOk-weaker c.program_among.result _ _
          (λ r e. ap is_simple_and_free e ∙ simple_and_free c.as_slice.result) c.program_among.ensures;
      takes = IfOk-weaker c.program_among.result _ _
          (λ r e t. ap (λ (a : App). takes a t) e ∙ takes_as_program c.as_slice.result t words) c.program_among.ensures;
      reads = IfOk-weaker c.program_among.result _ _
          (λ r e t. ap (λ (a : App). subcommand_of a t) e
          ∙ reads_as_program c.as_slice.result t words) c.program_among.ensures;
      faults = IfOk-weaker c.program_among.result _ _
          (λ r e t. ap (λ (a : App). fault_of a t) e
          ∙ faults_as_program c.as_slice.result t words) c.program_among.ensures;
    }
