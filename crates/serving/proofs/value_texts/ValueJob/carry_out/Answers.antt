use Rattle.std.proofs.Common.{[], refl}
use Rattle.console.proofs.Cited.{none_more}
use Rattle.serving.proofs.value_texts.ValueJob.carry_out.Goals as goal

pub returns-in-None-clause-done : goal.returns-in-None-clause-done
returns-in-None-clause-done g c = rw c.in-None.is c.write.ensures.done

pub returns-in-Some-clause-done : goal.returns-in-Some-clause-done
returns-in-Some-clause-done g c = rw c.in-Some.is c.write_up_to.ensures.done

pub returns-in-None-clause-unread : goal.returns-in-None-clause-unread
returns-in-None-clause-unread g c = rw c.in-None.is c.write.ensures.unread

pub returns-in-Some-clause-unread : goal.returns-in-Some-clause-unread
returns-in-Some-clause-unread g c = rw c.in-Some.is c.write_up_to.ensures.unread

pub returns-in-None-clause-told : goal.returns-in-None-clause-told
returns-in-None-clause-told g c = rw c.in-None.is c.write.ensures.told

pub returns-in-Some-clause-told : goal.returns-in-Some-clause-told
returns-in-Some-clause-told g c =
    rw c.in-Some.is ([], refl, none_more g.E.Sink.contents g.E.Sink.has_failed c.args.console.now.errors)
