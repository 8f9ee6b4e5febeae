use Rattle.std.specs.Prelude.{codes}
use Rattle.board_text.specs.LineForms.{with_line_feed}
use Rattle.runs.specs.declared.fault.RunFault.TheVariants.{Memory}
use Rattle.serving.specs.declared.outcome.Outcome.TheVariants.{Broken}
use Rattle.std.proofs.Common.{refl}
use Rattle.serving.proofs.ErrorTexts.{ended, refused}
use Rattle.serving.proofs.serving.serve.Goals as goal

pub returns-in-Given : goal.returns-in-Given
returns-in-Given g c =
    rw c.in-Given.is
    (rw (c.of-files.ensures.folder, c.of-files.ensures.explains, c.words_of_job.ensures) at c.serve_words.ensures)

pub returns-in-NotText : goal.returns-in-NotText
returns-in-NotText g c =
    rw c.in-NotText.is (
      refused g.E.Sink.contents g.E.Sink.has_failed c.args.console.now.errors c.requires.errors_ready
          c.refuse.new.errors
          c.args.console.now.terminals.errors (with_line_feed (codes "error: a word on the command line is not text"))
          c.refuse.ensures.said,
      refl,
      refl,
      c.refuse.ensures.status,
    )

pub returns-in-OutOfMemory : goal.returns-in-OutOfMemory
returns-in-OutOfMemory g c =
    rw c.in-OutOfMemory.is (
      refl,
      refl,
      (
        ended g.E.Sink.contents g.E.Sink.has_failed c.args.console.now.errors c.requires.errors_ready
            c.tell_no_memory.new.errors
            c.args.console.now.terminals.errors (Broken Memory) c.tell_no_memory.ensures.told,
        c.tell_no_memory.ensures.status,
      ),
    )
