use Rattle.std.proofs.Common.{inl, inr, refl, sym, ◌∙◌}
use Rattle.runs.specs.declared.fault.RunFault.TheVariants.{Read}
use Rattle.serving.specs.declared.outcome.Outcome.TheVariants.{Broken}
use Rattle.serving.proofs.ErrorTexts.{ended, prompted}
use Rattle.serving.proofs.serving.serve_job.Goals as goal

pub returns-then-lacks_input : goal.returns-then-lacks_input
returns-then-lacks_input g c = inr (
  sym c.lacks_input.ensures ∙ c.if-lacks_input.true,
  refl,
  refl,
  (
    ended g.E.Sink.contents g.E.Sink.has_failed c.args.console.now.errors c.requires.errors_ready c.tell.new.errors
        c.args.files.now.explains (Broken Read) c.tell.ensures.told,
    c.tell.ensures.status,
  ),
)

pub returns : goal.returns
returns g c =
    let told = c.carry_out-ended.ensures.told in
    inl (
      sym c.lacks_input.ensures ∙ c.if-lacks_input.false,
      c.carry_out-ended.result.outcome,
      told.0,
      c.carry_out-ended.ensures.done,
      told.1,
      (
        prompted g.E.Sink.contents g.E.Sink.has_failed c.args.console.now.errors c.requires.errors_ready
            c.carry_out-ended.new.console.errors c.tell-2.new.errors told.0 c.args.files.now.explains
            c.carry_out-ended.result.outcome told.2 c.tell-2.ensures.told,
        c.tell-2.ensures.status,
      ),
    )
