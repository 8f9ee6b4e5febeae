use Rattle.std.proofs.Common.{refl}
use Rattle.console.proofs.Cited.{then_more}
use Rattle.serving.specs.Telling.{joined_greeting, rows_told}
use Rattle.serving.proofs.jobs.check_joined.Goals as goal

pub returns-clause-told : goal.returns-clause-told
returns-clause-told g c =
    let rows = rows_told c.args.console.now.terminals.errors c.run_joined_with_text-result.result.result in (
      _,
      (
        rows,
        (
          c.run_joined_with_text-result.result.result,
          c.of_check.ensures,
          c.run_joined_with_text-result.ensures.ok,
          refl,
        ),
        refl,
      ),
      then_more g.E.Sink.contents g.E.Sink.has_failed c.args.console.now.errors c.greet.new.errors
          c.tell_rows.new.errors
          (joined_greeting c.args.console.now.terminals) rows c.greet.ensures c.tell_rows.ensures,
    )
