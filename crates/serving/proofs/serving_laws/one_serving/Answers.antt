use Rattle.std.proofs.Common.{ap}
use Rattle.runs.specs.Run.{stream_of}
use Rattle.serving.specs.Consoles.{serving_of}
use Rattle.serving.proofs.OneServing.{both_given}
use Rattle.serving.proofs.serving_laws.one_serving.Goals as goal

pub returns : goal.returns
returns g c = λ at terminals before words old new other_old other_new status other is also.
    both_given at is.files terminals is.off before
    (serving_of (stream_of g.I.Source.remaining g.I.Source.has_failed old.input new.input)
    (stream_of g.O.Sink.contents g.O.Sink.has_failed old.output new.output)
    (stream_of g.E.Sink.contents g.E.Sink.has_failed old.errors new.errors) status)
    (serving_of (stream_of g.I.Source.remaining g.I.Source.has_failed other_old.input other_new.input)
    (stream_of g.O.Sink.contents g.O.Sink.has_failed other_old.output other_new.output)
    (stream_of g.E.Sink.contents g.E.Sink.has_failed other_old.errors other_new.errors) other)
    (record {
      had_input = record { old = is.had_input.old; kept = λ k. ap g.I.Source.remaining k; sound = is.had_input.sound };
      had_output = record { old = is.had_output.old; kept = λ k. ap g.O.Sink.contents k; sound = is.had_output.sound };
      had_errors = record { old = is.had_errors.old; kept = λ k. ap g.E.Sink.contents k; sound = is.had_errors.sound };
      given = is.given;
    })
    (record {
      had_input = record {
        old = also.had_input.old;
        kept = λ k. ap g.I.Source.remaining k;
        sound = also.had_input.sound;
      };
      had_output = record {
        old = also.had_output.old;
        kept = λ k. ap g.O.Sink.contents k;
        sound = also.had_output.sound;
      };
      had_errors = record {
        old = also.had_errors.old;
        kept = λ k. ap g.E.Sink.contents k;
        sound = also.had_errors.sound;
      };
      given = also.given;
    })
    words is.serves also.serves
