use Rattle.std.proofs.Common.{arith}
use Rattle.board_text.proofs.Cited.{labels_and_places}
use Rattle.positions.proofs.SpaceNumbers.{numbers}
use Rattle.positions.proofs.space.Space.blank.Goals as goal

pub returns-then-value-self : goal.returns-then-value-self
returns-then-value-self c =
    let are = numbers c.args.self.now c.self.inside c.self.view_is c.self.invariant in
    omega (arith, are.base_is, c.value.ensures.value, are.labels_is, c.if-value-self.true)

pub returns : goal.returns
returns c =
    let are = numbers c.args.self.now c.self.inside c.self.view_is c.self.invariant in
    let both = labels_and_places c.args.self.now in (
      are.labels_is,
      omega (
        arith,
        are.base_is,
        c.value.ensures.value,
        are.labels_is,
        c.if-value-self.false,
        both.0,
        both.1,
      ),
    )
