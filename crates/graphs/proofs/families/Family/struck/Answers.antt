use Rattle.std.proofs.Common.{arith, subst}
use Rattle.board_text.specs.PlainBoard.{DominatesPlace}
use Rattle.graphs.specs.declared.families.Dominator.{Dominator}
use Rattle.graphs.proofs.FilledFamilies.{found-own, found-rest, found-none, rest-most, one-label}
use Rattle.graphs.proofs.families.Family.struck.Goals as goal
use Rattle.graphs.proofs.families.Family.struck.Goals.{in_default-via-in-Some+else-beats_place}
use Rattle.graphs.proofs.families.Family.struck.Goals.{in_default-via-in_default}

pub returns-then-is_answer : goal.returns-then-is_answer
returns-then-is_answer c =
    found-own c.args.board.now c.is_answer.ensures.is_board c.args.self.now c.requires.family c.args.place
    c.requires.place (c.is_answer.ensures.answers.0 c.if-is_answer.true)

pub overflow_add-result : goal.overflow_add-result
overflow_add-result c =
    let most = rest-most c.args.board.now c.is_answer.ensures.is_board c.args.self.now c.requires.family c.args.place
    c.requires.place c.in-Some.dominator c.in-Some.is (c.beats_place.ensures.0 c.if-beats_place.true) in
    omega (arith, most, c.requires.family.few)

pub returns-in-Some : goal.returns-in-Some
returns-in-Some c =
    found-rest c.args.board.now c.is_answer.ensures.is_board c.args.self.now c.requires.family c.args.place
    c.requires.place c.in-Some.dominator c.in-Some.is (c.beats_place.ensures.0 c.if-beats_place.true)

pub returns-in_default : goal.returns-in_default
returns-in_default c =
    found-none c.args.board.now c.is_answer.ensures.is_board c.args.self.now c.requires.family c.args.place
    c.requires.place (λ answer. let told = c.is_answer.ensures.answers.1 answer in let no = c.if-is_answer.false in cc)
    (λ (d : Dominator) is beaten. elim c.in_default.branch [
      | in_default-via-in-Some+else-beats_place w ↦
          let same = one-label c.args.self.now.dominator d w.in-Some.dominator is w.in-Some.is in
          let told = w.beats_place.ensures.1
          (subst (λ n. DominatesPlace c.args.board.now n c.args.place) same beaten) in
          let no = w.if-beats_place.false in
          cc
      | in_default-via-in_default w ↦ let none = w.in_default.is in cc
    ])
