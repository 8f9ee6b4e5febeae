use Rattle.std.proofs.Common.{◌≡◌, ◌-◌, ◌+◌, ◌*◌, ◌<◌, ℕ, List, Result, subst, ap, ◌∙◌, arith, rules}
use Rattle.std.specs.Prelude.{IfOk}
use Rattle.std.specs.List.{AllZip, range_with_len}
use Rattle.board_text.specs.declared.memory.Memory.{Memory}
use Rattle.std.proofs.lemmas.List.FromFn.{get_or-range_with_len, length-range_with_len}
use Rattle.strategies.specs.declared.lines.Lines.{Lines}
use Rattle.strategies.specs.Inside.Lines.{AreLinesBetween}
use Rattle.strategies.specs.Inside.NumberedPositions.{over_ranks}
use Rattle.strategies.proofs.JoinedLines.{enough_spans, joined, within_spans}
use Rattle.strategies.proofs.lines.lines_of_spans.Goals as goal

pub collect-requires-clause-ready : goal.collect-requires-clause-ready
collect-requires-clause-ready g c = λ κs within.
    let start : c.into_par_iter.result.start ≡ 0 = search rules in
    let end : c.into_par_iter.result.end ≡ c.div_ceil-count.result = search rules in
    let all = rw c.space.ensures.value at c.configurations.ensures in
    rw (c.map.ensures.base, c.map.ensures.f, c.with_min_len.ensures.base, start, end) (λ k d low.
    let count = c.div_ceil-count.result in
    let below : k < count = omega (arith, low, length-range_with_len 0 (count - 0)) in
    let few = within_spans c.configurations.result c.args.size c.div_ceil-count.result k c.requires.some
    c.div_ceil-count.ensures below in (
      (
        c.requires.words,
        (
          (c.in_ok-marks.ensures c.args.start),
          rw (get_or-range_with_len 0 (c.div_ceil-count.result - 0) k d (omega arith))
              (omega (arith, few, c.requires.few, all.value, all.few)),
        ),
      ),
      λ y made. tt,
    ))

pub returns : goal.returns
returns g c =
    let start : c.into_par_iter.result.start ≡ 0 = search rules in
    let end : c.into_par_iter.result.end ≡ c.div_ceil-count.result = search rules in
    let all = rw c.space.ensures.value at c.configurations.ensures in
    let made = rw (c.map.ensures.base, c.map.ensures.f, c.with_min_len.ensures.base) at c.in_ok-lines.ensures in
    let board = c.args.moves.now in
    let side = g.R.SectionRow.side (over_ranks board) c.args.start in
    let line = g.R.LineRow.line board in
    let size = c.args.size in
    let enough = enough_spans c.configurations.result size c.div_ceil-count.result c.requires.some
    c.div_ceil-count.ensures in
    let marks = c.in_ok-marks.marks in
    let count = c.div_ceil-count.result in
    let chain = made.1 in
    let spans : chain.0 ≡ range_with_len 0 count = chain.1 ∙ (λ i. range_with_len (start i) (end i - start i))
    ∙ ap (range_with_len 0) (omega arith) in
    joined board side line marks (λ v. v.items) size count (c.in_ok-marks.ensures c.args.start) (omega
    (arith, enough, all.value)) made.0
    (subst (λ (numbers : List ℕ). AllZip (λ (span : ℕ) (lines : Result Lines Memory). IfOk lines
    (AreLinesBetween board side line marks (span * size) (span * size + size))) numbers made.0) spans chain.2)
    c.in_ok-lines.lines made.2
