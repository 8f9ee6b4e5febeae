use Rattle.std.proofs.Common.{◌-◌, arith}
use Rattle.board_text.specs.PlainBoard.{places}
use Rattle.class_tests.proofs.ListedClasses.{IsListedClass, listed}
use Rattle.class_tests.proofs.calls_of_classes.member_of.Goals as goal
use Rattle.class_tests.proofs.calls_of_classes.member_of.Goals.{After-as_slice}

held : (c : After-as_slice)
    → IsListedClass (places c.args.classes.now) (c.args.classes.now.pebbles - 1) c.as_slice.result.now
held c =
    listed (places c.args.classes.now) (c.args.classes.now.pebbles - 1) c.args.gap c.args.lists.now
    c.index-lists-gap.result c.as_slice.result.now c.requires.lists c.requires.gap c.index-lists-gap.is
    c.as_slice.ensures.value

pub member-requires-clause-small : goal.member-requires-clause-small
member-requires-clause-small c =
    let size = (held c).size in
    omega (arith, size, c.requires.some)

pub member-requires-clause-is_class : goal.member-requires-clause-is_class
member-requires-clause-is_class c = (held c).is_class
