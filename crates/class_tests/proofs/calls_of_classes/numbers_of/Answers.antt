use Rattle.std.proofs.Common.{arith}
use Rattle.board_text.specs.PlainBoard.{places}
use Rattle.class_tests.proofs.ListedClasses.{IsListedClass, listed}
use Rattle.class_tests.proofs.calls_of_classes.numbers_of.Goals as goal
use Rattle.class_tests.proofs.calls_of_classes.numbers_of.Goals.{After-as_slice-places}

held : (c : After-as_slice-places)
    → IsListedClass (places c.args.classes.now) c.args.classes.now.pebbles c.as_slice-places.result.now
held c =
    listed (places c.args.classes.now) c.args.classes.now.pebbles c.args.class c.args.lists.now
    c.index-lists-class.result c.as_slice-places.result.now c.requires.lists c.requires.class c.index-lists-class.is
    c.as_slice-places.ensures.value

pub gaps_of-gaps-requires-clause-size : goal.gaps_of-gaps-requires-clause-size
gaps_of-gaps-requires-clause-size c =
    let size = (held (goal.at.gaps_of-gaps-requires-clause-size c).After-as_slice-places).size in
    omega (arith, size)

pub gaps_of-gaps-requires-clause-is_class : goal.gaps_of-gaps-requires-clause-is_class
gaps_of-gaps-requires-clause-is_class c =
    (held (goal.at.gaps_of-gaps-requires-clause-is_class c).After-as_slice-places).is_class

pub number-number-requires-clause-size : goal.number-number-requires-clause-size
number-number-requires-clause-size c =
    let size = (held (goal.at.number-number-requires-clause-size c).After-as_slice-places).size in
    omega (arith, size)

pub number-number-requires-clause-is_class : goal.number-number-requires-clause-is_class
number-number-requires-clause-is_class c =
    (held (goal.at.number-number-requires-clause-is_class c).After-as_slice-places).is_class
