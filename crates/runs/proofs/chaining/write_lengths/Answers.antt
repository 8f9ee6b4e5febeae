use Rattle.std.proofs.Common.{◌++◌, ◌∙◌, ap}
use Rattle.std.specs.Prelude.{string_bytes}
use Rattle.std.proofs.lemmas.List.{take_all}
use Rattle.runs.specs.ChainText.{length_lines}
use Rattle.runs.proofs.ChainTexts.{lengths_more}
use Rattle.runs.proofs.chaining.write_lengths.Goals as goal

pub loop-index-preserved : goal.loop-index-preserved
loop-index-preserved c =
    lengths_more c.args.counts.now c.loop-index.index (string_bytes c.args.text.now) _ _ c.loop-index-test.true
    c.loop-index.invariant c.in_ok-write_length.ensures

pub returns : goal.returns
returns c =
    c.loop-index.invariant ∙ ap (λ counts. string_bytes c.args.text.now ++ length_lines 1 counts)
    (take_all c.loop-index.index c.args.counts.now c.loop-index-test.false)
