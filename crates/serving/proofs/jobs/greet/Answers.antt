use Rattle.std.proofs.Common.{sym, subst, ◌∙◌}
use Rattle.console.specs.Showing.{IsMore}
use Rattle.console.proofs.Cited.{none_more}
use Rattle.serving.proofs.Greetings.{greeted, ungreeted}
use Rattle.serving.proofs.jobs.greet.Goals as goal

pub returns-then-not-are_both : goal.returns-then-not-are_both
returns-then-not-are_both g c =
    subst (IsMore g.E.Sink.contents g.E.Sink.has_failed c.args.errors.now c.args.errors.now)
    (sym (ungreeted c.args.terminals (sym c.are_both.ensures ∙ c.if-not-are_both.true)))
    (none_more g.E.Sink.contents g.E.Sink.has_failed c.args.errors.now)

pub returns : goal.returns
returns g c =
    subst (IsMore g.E.Sink.contents g.E.Sink.has_failed c.args.errors.now c.write_line.new.errors)
    (sym (greeted c.args.terminals (sym c.are_both.ensures ∙ c.if-not-are_both.false))) c.write_line.ensures
