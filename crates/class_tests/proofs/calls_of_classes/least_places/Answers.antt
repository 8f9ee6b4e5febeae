use Rattle.std.proofs.Common.{◌-◌}
use Rattle.board_text.specs.PlainBoard.{places}
use Rattle.class_tests.proofs.ListedClasses.{listed}
use Rattle.class_tests.proofs.calls_of_classes.least_places.Goals as goal

pub least_places-requires : goal.least_places-requires
least_places-requires c =
    (listed (places c.args.classes.now) (c.args.classes.now.pebbles - 1) c.args.gap c.args.lists.now
    c.index-lists-gap.result c.as_slice.result.now c.requires.lists c.requires.gap c.index-lists-gap.is
    c.as_slice.ensures.value).is_class
