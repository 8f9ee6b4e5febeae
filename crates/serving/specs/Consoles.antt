-- The standard streams of a serving.
use Rattle.std.specs.Prelude.{◌≡◌, ℕ, Bool, false}
use Rattle.console.specs.declared.streams.Console.{Console}
use Rattle.runs.specs.Run.{Stream}

-- the streams of a serving, and its exit status
pub record Serving : Type 1 where
  pub input : Stream
  pub output : Stream
  pub errors : Stream
  pub status : ℕ

abbrev pub serving_of : Stream → Stream → Stream → ℕ → Serving
serving_of input output errors status =
    record { input = input; output = output; errors = errors; status = status }

-- neither the input nor the output has failed, and the end of the input wasn't reported
pub record IsReady {I O E : Type 0} (input_failed input_ended : I → Bool) (output_failed : O → Bool)
    (console : Console I O E) : Type 0 where
  pub input : input_failed console.input ≡ false
  pub unended : input_ended console.input ≡ false
  pub output : output_failed console.output ≡ false
