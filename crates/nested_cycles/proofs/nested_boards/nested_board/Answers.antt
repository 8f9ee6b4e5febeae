use Rattle.std.proofs.Common.{take, sym, subst, ◌∙◌, arith}
use Rattle.std.proofs.lemmas.Bool.{false≢true}
use Rattle.board_text.specs.PlainBoard.{PlainBoard}
use Rattle.nested_cycles.specs.NestedBoard.{IsNestedBoard}
use Rattle.nested_cycles.proofs.NestedBoards.{six_zeros, parts_from, parts_are, is_nested, few_words}
use Rattle.nested_cycles.proofs.nested_boards.nested_board.Goals as goal
use Rattle.nested_cycles.proofs.nested_boards.nested_board.Goals.{in-Memory, in_default}

pub pow-labels-requires : goal.pow-labels-requires
pow-labels-requires c = few_words _ (omega arith)

pub returns-in-Ok : goal.returns-in-Ok
returns-in-Ok c =
    let labels = c.pow-labels.result in
    let pairs = c.deref.result.now in
    let parts = parts_from c.args.levels c.args.pebbles c.from.result c.from-2.result labels pairs
    c.in_ok-pairs.pairs.items c.requires.levels c.requires.pebbles c.from.ensures c.pow-labels.ensures
    c.from-2.ensures c.in_ok-pairs.ensures c.deref.ensures.value in
    subst (λ (b : PlainBoard). IsNestedBoard c.args.levels c.args.pebbles b) (sym c.in-Ok.ensures.found.1)
    (is_nested c.args.levels c.args.pebbles labels (take c.from-2.result six_zeros) pairs parts)

pub prove-unreachable-requires : goal.prove-unreachable-requires
prove-unreachable-requires c =
    let labels = c.pow-labels.result in
    let pairs = c.deref.result.now in
    let parts = parts_from c.args.levels c.args.pebbles c.from.result c.from-2.result labels pairs
    c.in_ok-pairs.pairs.items c.requires.levels c.requires.pebbles c.from.ensures c.pow-labels.ensures
    c.from-2.ensures c.in_ok-pairs.ensures c.deref.ensures.value in
    elim c.match-matches.branch [
      | in-Memory w ↦ absurd (false≢true (sym c.if-prove.true ∙ w.matches-is))
      | in_default w ↦ w.in_default.not-Memory
          (c.in-Err.ensures.only (parts_are c.args.levels c.args.pebbles labels
          (take c.from-2.result six_zeros) pairs parts))
    ]
