use Rattle.std.proofs.Common.{refl, ap, ◌∙◌}
use Rattle.std.proofs.lemmas.Bool.{both_ways}
use Rattle.std.proofs.lemmas.Result.{err_from_is_err_and}
use Rattle.positions.specs.declared.value.Value.{Value}
use Rattle.positions.specs.declared.value.Value.TheVariants.{Forever}
use Rattle.strategies.specs.Inside.NumberedPositions.{IsSideOf, over_kind}
use Rattle.strategies.specs.Inside.Reached.{Room}
use Rattle.strategies.proofs.Expanded.{none_expanded}
use Rattle.strategies.proofs.Spread.{no_section, side_is_reached, spread_begins, spread_ends, spread_more}
use Rattle.strategies.proofs.Spread.{start_added, start_not_added}
use Rattle.strategies.proofs.sections.reached.Given.{Over}
use Rattle.strategies.proofs.sections.reached.Goals as goal
use Rattle.strategies.proofs.sections.reached.Goals.{After-may_start, else-may_start, then-may_start+in_ok-add}

is_side : (g : Over) (c : After-may_start g) (start : Value)
    → IsSideOf (over_kind (g.W.PositionWalk.kind c.args.here.now))
    (g.R.SectionRow.moves (over_kind (g.W.PositionWalk.kind c.args.here.now)))
    (g.R.SectionRow.side (over_kind (g.W.PositionWalk.kind c.args.here.now)) start)
is_side g c start = rw c.go_to.ensures.kind at c.may_start.ensures.side start

pub loop-expanded-init : goal.loop-expanded-init
loop-expanded-init g c =
    let over = over_kind (g.W.PositionWalk.kind c.args.here.now) in
    let moves = g.R.SectionRow.moves over in
    let is = c.start-start.ensures.position.positions in
    let set = g.S.ReachedNumbers.reached c.args.reached in
    let holds = rw c.go_to.ensures.kind at c.may_start.ensures.holds in
    record {
      kind = c.go_to.ensures.kind;
      spread = elim c.if-may_start.branch [
        | then-may_start+in_ok-add w ↦ rw w.reached-is
            (spread_begins over moves is set (g.S.ReachedNumbers.reached w.add.new.self) c.requires.none
            (start_added over moves is c.start-start.result (g.W.PositionWalk.held c.go_to.new.self)
            c.start-start.ensures.number c.go_to.ensures.held set (g.S.ReachedNumbers.reached w.add.new.self)
            (holds.0 w.if-may_start.true) w.in_ok-add.ensures.reached))
        | else-may_start w ↦ rw w.reached-is
            (spread_begins over moves is set set c.requires.none
            (start_not_added over moves is c.start-start.result (g.W.PositionWalk.held c.go_to.new.self)
            c.start-start.ensures.number c.go_to.ensures.held set
            (λ is_held. both_ways c.may_start.result w.if-may_start.false (holds.1 is_held))))
      ];
      expanded = none_expanded over moves.Step (g.S.ReachedNumbers.reached c.args.expanded)
          (g.S.ReachedNumbers.reached c.if-may_start.reached).Among c.requires.none_expanded;
      bound = elim c.if-may_start.branch [
        | then-may_start+in_ok-add w ↦ rw w.reached-is (ap (λ (r : Room). r.bound) w.in_ok-add.ensures.room)
        | else-may_start w ↦ rw w.reached-is refl
      ];
      most = elim c.if-may_start.branch [
        | then-may_start+in_ok-add w ↦ rw w.reached-is (ap (λ (r : Room). r.most) w.in_ok-add.ensures.room)
        | else-may_start w ↦ rw w.reached-is refl
      ];
      gap_room = refl;
    }

pub loop-expanded-preserved : goal.loop-expanded-preserved
loop-expanded-preserved g c =
    let over = over_kind (g.W.PositionWalk.kind c.args.here.now) in
    let moves = g.R.SectionRow.moves over in
    let was = c.loop-expanded.invariant in
    let taken = rw c.in-Some.is at c.in_ok-number.ensures.taken in
    let held_is = rw was.kind at c.go_to-in-Some.ensures.held in
    let steps = c.in_ok-add_steps.ensures in
    record {
      kind = c.go_to-in-Some.ensures.kind ∙ was.kind;
      spread = spread_more over moves c.start-start.ensures.position.positions
          (is_side g (goal.at.loop-expanded-preserved g c).After-may_start Forever).are
          (g.S.ReachedNumbers.reached c.loop-expanded.reached) (g.S.ReachedNumbers.reached c.take_next.new.self)
          (g.S.ReachedNumbers.reached c.add_steps.new.reached) c.in-Some.number was.spread taken.0
          (rw (c.go_to-in-Some.ensures.kind, was.kind, held_is) at steps.added);
      expanded = rw (c.go_to-in-Some.ensures.kind, was.kind) at steps.expanded;
      bound = ap (λ (r : Room). r.bound) steps.room ∙ taken.1.bound ∙ was.bound;
      most = ap (λ (r : Room). r.most) steps.room ∙ taken.1.most ∙ was.most;
      gap_room = steps.gap_room ∙ was.gap_room;
    }

pub returns-clause-ok : goal.returns-clause-ok
returns-clause-ok g c = λ start.
    let over = over_kind (g.W.PositionWalk.kind c.args.here.now) in
    let moves = g.R.SectionRow.moves over in
    let side = is_side g (goal.at.returns-clause-ok g c).After-may_start start in
    let taken = rw c.in_default.is at c.in_ok-number.ensures.taken in
    rw taken.1 (side_is_reached over moves (g.R.SectionRow.side over start) side _
    (spread_ends over moves c.start-start.ensures.position.positions side.are
    (g.S.ReachedNumbers.reached c.loop-expanded.reached) c.loop-expanded.invariant.spread taken.0))

pub returns-in_err-number-clause-fault : goal.returns-in_err-number-clause-fault
returns-in_err-number-clause-fault g c =
    let over = over_kind (g.W.PositionWalk.kind c.args.here.now) in
    let p = err_from_is_err_and c.from_residual-in_err-number.result c.from_residual-in_err-number.ensures.1 in
    rw (p.1, p.2) (λ start. no_section over (g.R.SectionRow.moves over) (g.R.SectionRow.side over start)
    (is_side g (goal.at.returns-in_err-number-clause-fault g c).After-may_start start)
    (g.S.ReachedNumbers.reached c.loop-expanded.reached) _ _ c.loop-expanded.invariant.spread
    (rw c.loop-expanded.invariant.most at c.in_err-number.ensures.fault))
