use Rattle.std.proofs.Common.{◌++◌, ◌∙◌, ap}
use Rattle.std.specs.Prelude.{string_bytes}
use Rattle.std.proofs.lemmas.List.{take_all}
use Rattle.runs.specs.StartText.{place_value_lines}
use Rattle.runs.proofs.StartTexts.{starts_more}
use Rattle.runs.proofs.starting.write_starts.Goals as goal

pub loop-place-preserved : goal.loop-place-preserved
loop-place-preserved c =
    starts_more c.args.labels c.args.values.now c.loop-place.place _ (string_bytes c.args.text.now) _ _
    c.loop-place-test.true c.loop-place.invariant c.in_ok-write_start.ensures

pub returns : goal.returns
returns c =
    c.loop-place.invariant ∙ ap (λ values. string_bytes c.args.text.now ++ place_value_lines c.args.labels 0 values)
    (take_all c.loop-place.place c.args.values.now c.loop-place-test.false)
