use Rattle.std.proofs.Common.{◌-◌, arith}
use Rattle.board_text.specs.PlainBoard.{places}
use Rattle.class_tests.proofs.ListedClasses.{IsListedClass, listed}
use Rattle.class_tests.proofs.calls_of_classes.walked.Goals as goal
use Rattle.class_tests.proofs.calls_of_classes.walked.Goals.{After-as_slice}

held : (c : After-as_slice)
    → IsListedClass (places c.args.classes.now) (c.args.classes.now.pebbles - 1) c.as_slice.result.now
held c =
    listed (places c.args.classes.now) (c.args.classes.now.pebbles - 1) c.args.gap c.args.lists.now
    c.index-lists-gap.result c.as_slice.result.now c.requires.lists c.requires.gap c.index-lists-gap.is
    c.as_slice.ensures.value

pub members-walk-requires-clause-small : goal.members-walk-requires-clause-small
members-walk-requires-clause-small c =
    let size = (held c).size in
    omega (arith, size, c.requires.some)

pub members-walk-requires-clause-is_class : goal.members-walk-requires-clause-is_class
members-walk-requires-clause-is_class c = (held c).is_class
