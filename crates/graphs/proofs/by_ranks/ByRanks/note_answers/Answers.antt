use Rattle.std.proofs.Common.{◌<◌, ◌≤◌, ℕ, length, sym, subst, arith, slice_set}
use Rattle.positions.proofs.Cited.{next_of, after_step}
use Rattle.graphs.specs.Graph.{PlainGraph}
use Rattle.graphs.specs.Answers.{IsAnswerIn}
use Rattle.graphs.specs.Inside.Filling.{IsGapNoted}
use Rattle.graphs.specs.Ordered.{ordered}
use Rattle.graphs.proofs.Filling.{noted-to, noted-more}
use Rattle.graphs.proofs.OrderedGraphs.{ordered-is}
use Rattle.graphs.specs.Numbered.{graph_by}
use Rattle.graphs.proofs.by_ranks.ByRanks.note_answers.Goals as goal
use Rattle.graphs.proofs.by_ranks.ByRanks.note_answers.Goals.{In-Some}

-- the label is an answer, and no answer comes between the walk's bound and it
record IsNext (a : PlainGraph) (gap : ℕ) (from label : ℕ) : Type 0 where
  answer : IsAnswerIn a gap label
  from_most : from ≤ label
  none : (v : ℕ) → from ≤ v → v < label → IsAnswerIn a gap v → ⊥

next : (c : In-Some) → IsNext (ordered c.args.self.now) c.args.gap c.loop-label.labels.from c.in-Some.label
unfolding graph_by
next c =
    let a : PlainGraph = ordered c.args.self.now in
    let smallest = next_of (IsAnswerIn a c.args.gap) c.answers.ensures.few c.loop-label.labels
    c.loop-label.invariant.left
    c.take_next.new.self c.in-Some.label c.in-Some.ensures in record {
      answer = smallest.0.1;
      from_most = smallest.0.0;
      none = λ v most below is. let least = smallest.1 v (most, is) in omega (arith, below, least);
    }

pub member-requires-clause-place : goal.member-requires-clause-place
unfolding graph_by
member-requires-clause-place c = (next (goal.at.member-requires-clause-place c).In-Some).answer.is_place

pub bounds-struck-member : goal.bounds-struck-member
unfolding graph_by
bounds-struck-member c =
    let at = (goal.at.bounds-struck-member c).In-Some in
    let inside = (ordered-is c.args.self.now c.requires.is_board).member_in c.args.gap c.in-Some.label
    c.requires.gap (next at).answer.is_place in
    omega (arith, inside, c.member.ensures, c.loop-label.invariant.noted.same_length, c.requires.size)

pub loop-label-preserved : goal.loop-label-preserved
unfolding graph_by
loop-label-preserved c =
    let a : PlainGraph = ordered c.args.self.now in
    let at = (goal.at.loop-label-preserved c).In-Some in
    let is = next at in
    let label : ℕ = c.in-Some.label in
    let rank : ℕ = c.member.result in
    let small = c.answers.ensures.few label is.answer in
    let before = noted-to a c.args.gap c.loop-label.labels.from label c.args.struck.now c.loop-label.struck
    c.loop-label.invariant.noted is.none in
    let inside = (ordered-is c.args.self.now c.requires.is_board).member_in c.args.gap label c.requires.gap
    is.answer.is_place in
    let low : rank < length c.loop-label.struck =
    omega (arith, inside, c.member.ensures, before.same_length, c.requires.size) in
    let more = noted-more a c.args.gap label rank c.args.struck.now c.loop-label.struck c.member.ensures is.answer low
    before in
    record {
      most = omega (arith, small, c.in-Some.ensures.from);
      left = after_step (IsAnswerIn a c.args.gap) c.answers.ensures.few c.loop-label.labels c.loop-label.invariant.left
          c.take_next.new.self label c.in-Some.ensures;
      noted = subst
          (λ m. IsGapNoted a c.args.gap m c.args.struck.now (slice_set c.loop-label.struck rank c.args.gap))
          (sym c.in-Some.ensures.from) more;
    }
