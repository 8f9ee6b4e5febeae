use Rattle.std.proofs.Common.{◌≡◌, ◌-◌, ◌<◌, ◌≤◌, ◌∙◌, ◌+◌, ap, refl, subst, arith}
use Rattle.board_text.specs.PlainBoard.{PlainBoard, places}
use Rattle.classes.specs.Numbers.{ways}
use Rattle.graphs.specs.ClassGraph.{classes}
use Rattle.graphs.specs.Inside.Families.{family_size, IsFilledTo}
use Rattle.graphs.proofs.FilledFamilies.{at-first, at-inside, at-next}
use Rattle.graphs.proofs.by_classes.ByClasses.fill_struck.Goals as goal
use Rattle.graphs.proofs.by_classes.ByClasses.fill_struck.Goals.{After-family-family}

low : (c : After-family-family) → c.loop-gap.gap < ways (c.args.board.now.pebbles - 1) (places c.args.board.now)
low c = subst (λ (b : PlainBoard). c.loop-gap.gap < ways (b.pebbles - 1) (places b))
    c.requires.board
    (omega (arith, c.loop-gap-test.true, c.gap_count-gap-end.ensures.value))

size : (c : After-family-family) → c.family-family.result.size ≡ family_size c.args.board.now c.loop-gap.gap
size c = c.family-family.ensures.family.size_is ∙ ap (family_size c.args.board.now) c.family-family.ensures.gap

inside : (c : After-family-family)
    → c.loop-gap.start + c.family-family.result.size ≤ ways c.args.board.now.pebbles (places c.args.board.now)
inside c =
    at-inside c.args.board.now c.requires.is_board c.loop-gap.gap c.loop-gap.start c.family-family.result.size (low c)
    (size c) c.loop-gap.invariant.at

pub loop-gap-init : goal.loop-gap-init
loop-gap-init c = record {
  at = at-first c.args.board.now c.requires.is_board;
  size = refl;
  filled = λ x none. absurd (omega arith);
}

pub fill-requires-clause-inside : goal.fill-requires-clause-inside
fill-requires-clause-inside c =
    let at = (goal.at.fill-requires-clause-inside c).After-family-family in
    omega (arith, inside at, c.family-family.ensures.start, c.loop-gap.invariant.size, c.requires.size)

pub overflow_add-start : goal.overflow_add-start
overflow_add-start c =
    let at = (goal.at.overflow_add-start c).After-family-family in
    omega (arith, inside at, c.requires.few)

pub loop-gap-preserved : goal.loop-gap-preserved
loop-gap-preserved c =
    let at = (goal.at.loop-gap-preserved c).After-family-family in record {
      at = at-next c.args.board.now c.requires.is_board c.loop-gap.gap c.loop-gap.start c.family-family.result.size
          (low at) (size at) c.loop-gap.invariant.at;
      size = c.fill.ensures.size ∙ c.loop-gap.invariant.size;
      filled = subst (λ n. IsFilledTo (classes c.args.board.now) n c.fill.new.struck)
          (ap (λ n. n + c.family-family.result.size) c.family-family.ensures.start) c.fill.ensures.filled;
    }
