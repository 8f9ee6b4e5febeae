use Rattle.std.proofs.Common.{[], refl, sym, true≢false, ◌∙◌}
use Rattle.console.proofs.Cited.{none_more}
use Rattle.serving.proofs.jobs.carry_out.Goals as goal

pub returns-in-Joined-clause-done : goal.returns-in-Joined-clause-done
returns-in-Joined-clause-done g c =
    rw c.in-Joined.is record {
      does = c.check_joined.ensures.done;
      writes = c.check_joined.ensures.writes;
      reads = c.check_joined.ensures.reads.0;
      unread = c.check_joined.ensures.reads.1;
    }

pub returns-in-Check-clause-done : goal.returns-in-Check-clause-done
returns-in-Check-clause-done g c =
    rw c.in-Check.is record {
      does = (c.check.ensures.done, c.check.ensures.kept);
      writes = c.check.ensures.writes;
      reads = (λ failed. absurd (true≢false (sym (rw c.check.ensures.kept at failed) ∙ c.requires.ready.input)));
      unread = c.check.ensures.unread;
    }

pub returns-in-Nested-clause-done : goal.returns-in-Nested-clause-done
returns-in-Nested-clause-done g c =
    rw c.in-Nested.is record {
      does = (c.write_nested.ensures.done, refl);
      writes = c.write_nested.ensures.writes;
      reads = (λ failed. absurd (true≢false (sym failed ∙ c.requires.ready.input)));
      unread = c.write_nested.ensures.unread;
    }

pub returns-in-Solve-clause-done : goal.returns-in-Solve-clause-done
returns-in-Solve-clause-done g c =
    let run = c.carry_out.ensures in
    rw c.in-Solve.is record {
      does = (run.done, run.kept);
      writes = run.writes;
      reads = (λ failed. absurd (true≢false (sym (rw run.kept at failed) ∙ c.requires.ready.input)));
      unread = run.unread;
    }

pub returns-in-Report-clause-done : goal.returns-in-Report-clause-done
returns-in-Report-clause-done g c =
    let run = c.carry_out-in-Report.ensures in
    rw c.in-Report.is record {
      does = (run.done, run.kept);
      writes = run.writes;
      reads = (λ failed. absurd (true≢false (sym (rw run.kept at failed) ∙ c.requires.ready.input)));
      unread = run.unread;
    }

pub returns-in-Starts-clause-done : goal.returns-in-Starts-clause-done
returns-in-Starts-clause-done g c =
    let run = c.carry_out-in-Starts.ensures in
    rw c.in-Starts.is record {
      does = (run.done, run.kept);
      writes = run.writes;
      reads = (λ failed. absurd (true≢false (sym (rw run.kept at failed) ∙ c.requires.ready.input)));
      unread = run.unread;
    }

pub returns-in-Chains-clause-done : goal.returns-in-Chains-clause-done
returns-in-Chains-clause-done g c =
    rw c.in-Chains.is record {
      does = (c.chains.ensures.done, c.chains.ensures.kept);
      writes = c.chains.ensures.writes;
      reads = (λ failed. absurd (true≢false (sym (rw c.chains.ensures.kept at failed) ∙ c.requires.ready.input)));
      unread = c.chains.ensures.unread;
    }

pub returns-in-None-clause-done : goal.returns-in-None-clause-done
returns-in-None-clause-done g c =
    rw (c.in-Play.is, c.in-None.is) record {
      does = c.play.ensures.done;
      writes = c.play.ensures.writes;
      reads = c.play.ensures.reads;
      unread = c.play.ensures.unread;
    }

pub returns-in-Some-clause-done : goal.returns-in-Some-clause-done
returns-in-Some-clause-done g c =
    let run = c.play_up_to.ensures in
    rw (c.in-Play.is, c.in-Some.is) record {
      does = run.done;
      writes = run.writes;
      reads = run.reads;
      unread = run.unread;
    }

pub returns-in-Climb-clause-done : goal.returns-in-Climb-clause-done
returns-in-Climb-clause-done g c =
    rw c.in-Climb.is record {
      does = c.climb.ensures.done;
      writes = c.climb.ensures.writes;
      reads = c.climb.ensures.reads.0;
      unread = c.climb.ensures.reads.1;
    }

pub returns-in-Joined-clause-told : goal.returns-in-Joined-clause-told
returns-in-Joined-clause-told g c = rw c.in-Joined.is c.check_joined.ensures.told

pub returns-in-Check-clause-told : goal.returns-in-Check-clause-told
returns-in-Check-clause-told g c = rw c.in-Check.is c.check.ensures.told

pub returns-in-Nested-clause-told : goal.returns-in-Nested-clause-told
returns-in-Nested-clause-told g c =
    rw c.in-Nested.is ([], refl, none_more g.E.Sink.contents g.E.Sink.has_failed c.args.console.now.errors)

pub returns-in-Solve-clause-told : goal.returns-in-Solve-clause-told
returns-in-Solve-clause-told g c =
    rw c.in-Solve.is c.carry_out.ensures.told

pub returns-in-Report-clause-told : goal.returns-in-Report-clause-told
returns-in-Report-clause-told g c =
    rw c.in-Report.is c.carry_out-in-Report.ensures.told

pub returns-in-Starts-clause-told : goal.returns-in-Starts-clause-told
returns-in-Starts-clause-told g c =
    rw c.in-Starts.is c.carry_out-in-Starts.ensures.told

pub returns-in-Chains-clause-told : goal.returns-in-Chains-clause-told
returns-in-Chains-clause-told g c = rw c.in-Chains.is c.chains.ensures.told

pub returns-in-None-clause-told : goal.returns-in-None-clause-told
returns-in-None-clause-told g c =
    rw (c.in-Play.is, c.in-None.is, ← c.are_both.ensures) c.play.ensures.told

pub returns-in-Some-clause-told : goal.returns-in-Some-clause-told
returns-in-Some-clause-told g c =
    rw (c.in-Play.is, c.in-Some.is, ← c.are_both.ensures) c.play_up_to.ensures.told

pub returns-in-Climb-clause-told : goal.returns-in-Climb-clause-told
returns-in-Climb-clause-told g c = rw c.in-Climb.is c.climb.ensures.told
