use Rattle.std.proofs.Common.{ℕ, refl, ap, sym, subst, arith, length}
use Rattle.board_text.specs.PlainBoard.{PlainBoard, places}
use Rattle.classes.specs.Classes.{IsClass}
use Rattle.graphs.proofs.FilledFamilies.{rest-small}
use Rattle.graphs.proofs.by_classes.ByClasses.dominator.Goals as goal

pub rests_of-rests-requires-clause-size : goal.rests_of-rests-requires-clause-size
rests_of-rests-requires-clause-size c =
    omega (arith, c.requires.small, ap (λ (b : PlainBoard). b.pebbles) c.numbers.ensures)

pub rests_of-rests-requires-clause-is_class : goal.rests_of-rests-requires-clause-is_class
rests_of-rests-requires-clause-is_class c =
    subst (λ (b : PlainBoard). IsClass (places b) (length c.args.held.now) c.args.held.now) (sym c.numbers.ensures)
    c.requires.is_class

pub overflow_cast-result : goal.overflow_cast-result
overflow_cast-result c =
    let found = c.in_ok-index.ensures in
    let few = rest-small c.args.self.now c.requires.is_board c.requires.few c.args.held.now c.requires.small
    c.requires.is_class c.in_ok-index.index found.0 _ (c.rests_of-rests.ensures c.in_ok-index.index found.0) in
    omega (arith, few)

pub returns : goal.returns
returns c =
    let index : ℕ = c.in_ok-index.index in
    let found = c.in_ok-index.ensures in
    record {
      index = index;
      inside = found.0;
      dominates = found.1;
      label_is = refl;
      rest_is = c.rests_of-rests.ensures index found.0;
    }
