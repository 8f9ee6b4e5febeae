use Rattle.runs.specs.declared.fault.RunFault.TheVariants.{Memory}
use Rattle.serving.specs.declared.outcome.Outcome.TheVariants.{Broken}
use Rattle.std.proofs.Common.{inl, inr, refl, [], string_bytes}
use Rattle.runs.specs.Run.{stream_of}
use Rattle.serving.specs.Consoles.{serving_of}
use Rattle.serving.specs.Serving.{EndsWith}
use Rattle.serving.proofs.ErrorTexts.{ended, refused}
use Rattle.serving.proofs.Served.{asked, helped, more_words, written}
use Rattle.serving.proofs.serving.serve_words.Goals as goal

pub returns-in-Ok : goal.returns-in-Ok
returns-in-Ok g c = inl (
  c.in-Ok.job,
  asked c.args.words.now c.job.result c.job.ensures.joined c.in-Ok.job c.in-Ok.is c.in-Ok.ensures.job
      c.in-Ok.ensures.faultless,
  c.serve_job.ensures,
)

pub returns-in-Err-Help : goal.returns-in-Err-Help
returns-in-Err-Help g c =
    let fault = c.in-Err-Help.field-0 in
    let output = stream_of g.O.Sink.contents g.O.Sink.has_failed c.args.console.now.output c.write_text.new.writer in
    let input = stream_of g.I.Source.remaining g.I.Source.has_failed c.args.console.now.input c.args.console.now.input
    in
    let errors = stream_of g.E.Sink.contents g.E.Sink.has_failed c.args.console.now.errors c.tell_of_words.new.errors in
    let w = c.write_text.ensures in
    let told = rw c.of_run-outcome.ensures at c.tell_of_words.ensures.told in
    let status = rw c.of_run-outcome.ensures at c.tell_of_words.ensures.status in
    inr (
      fault,
      more_words c.args.words.now c.job.result c.job.ensures.joined fault c.in-Err-Help.is,
      c.in-Err-Help.ensures.shows,
      c.in-Err-Help.ensures.takes,
      rw c.in-Err-Help.field-0-is (
        written output (string_bytes c.in-Err-Help.text) c.write_text.result
            (rw (c.deref.ensures, c.in-Err-Help.field-0-is) at w.ok) (rw (c.deref.ensures, c.in-Err-Help.field-0-is)
            at w.prefix) w.fault w.failed,
        refl,
        helped output c.write_text.result w.fault w.failed (λ o. EndsWith c.args.files.now.explains
            (serving_of input output errors c.tell_of_words.result) [] o) (
              ended g.E.Sink.contents g.E.Sink.has_failed c.args.console.now.errors c.requires.errors_ready
                  c.tell_of_words.new.errors
                  c.args.files.now.explains _ told,
              status,
            ),
      ),
    )

pub returns-in-Err-Usage : goal.returns-in-Err-Usage
returns-in-Err-Usage g c =
    let fault = c.in-Err-Usage.field-0 in
    inr (
      fault,
      more_words c.args.words.now c.job.result c.job.ensures.joined fault c.in-Err-Usage.is,
      c.in-Err-Usage.ensures.shows,
      c.in-Err-Usage.ensures.takes,
      rw c.in-Err-Usage.field-0-is (
        refused g.E.Sink.contents g.E.Sink.has_failed c.args.console.now.errors c.requires.errors_ready
            c.refuse.new.errors
            c.args.files.now.explains
            (string_bytes c.in-Err-Usage.text) (rw (c.deref-in-Err-Usage.ensures, c.in-Err-Usage.field-0-is) at
            c.refuse.ensures.said),
        refl,
        refl,
        c.refuse.ensures.status,
      ),
    )

pub returns-in-Err-Memory : goal.returns-in-Err-Memory
returns-in-Err-Memory g c =
    let fault = c.in-Err-Memory.field-0 in
    inr (
      fault,
      more_words c.args.words.now c.job.result c.job.ensures.joined fault c.in-Err-Memory.is,
      c.in-Err-Memory.ensures.shows,
      c.in-Err-Memory.ensures.takes,
      rw c.in-Err-Memory.field-0-is (
        refl,
        refl,
        (
          ended g.E.Sink.contents g.E.Sink.has_failed c.args.console.now.errors c.requires.errors_ready
              c.tell_no_memory.new.errors
              c.args.files.now.explains (Broken Memory) c.tell_no_memory.ensures.told,
          c.tell_no_memory.ensures.status,
        ),
      ),
    )
