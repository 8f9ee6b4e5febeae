use Rattle.std.proofs.Common.{arith, ◌≡◌, ◌≤◌, ◌+◌, ◌*◌, ◌++◌, length, take, drop, ◌∙◌}
use Rattle.std.proofs.lemmas.Nat.{mul-le}
use Rattle.board_text.specs.PlainBoard.{AreLabels}
use Rattle.board_text.specs.Inside.Domination.{mark_of, SetsPair}
use Rattle.board_text.specs.declared.board.TheConstants.{MAX_LABELS}
use Rattle.board_text.proofs.DominationPairs.{few_pairs}
use Rattle.board_text.proofs.BitRows.{place_from_next, rows_pushed, pairs_pushed, written}
use Rattle.board_text.proofs.domination.Domination.push.Goals as goal

are : (c : goal.After-self-2-1) → AreLabels c.self.inside.labels (c.args.x, c.args.y)
are c = rw (← c.self.view_is) at c.requires.labels

le : (c : goal.After-self-2-1) → c.self.inside.next ≤ c.args.x * c.self.inside.labels + c.args.y
le c = place_from_next c.self.inside.labels c.self.inside.rows.items c.self.inside.next c.args.x c.args.y
    c.self.invariant (rw (← c.self.view_is) at c.requires.next)

sets : (c : goal.After-self-2-1)
    → SetsPair c.self.inside.labels c.self.inside.rows.items c.set_pair.new.rows c.args.x c.args.y
sets c = rw (c.as_mut_slice.ensures.value) at c.set_pair.ensures

same : (c : goal.After-self-2-1)
    → take c.self.inside.rows.len (c.set_pair.new.rows ++ drop (length c.set_pair.new.rows) c.self.inside.rows.items)
    ≡ c.set_pair.new.rows
same c = written c.self.inside.rows.len c.self.inside.rows.items c.set_pair.new.rows
    (c.set_pair.ensures.size ∙ c.as_mut_slice.ensures.len)

pub invariant_of-self : goal.invariant_of-self
invariant_of-self c =
    rw (same c, c.pair_number-number.ensures.number)
    (rows_pushed c.self.inside.labels c.self.inside.rows.items c.set_pair.new.rows c.self.inside.next c.args.x c.args.y
    c.self.invariant (are c) (le c) (sets c))

pub returns-clause-pairs : goal.returns-clause-pairs
returns-clause-pairs c =
    rw (same c, ← c.self.view_is)
    (pairs_pushed c.self.inside.labels c.self.inside.rows.items c.set_pair.new.rows c.self.inside.next c.args.x c.args.y
    c.self.invariant (are c) (le c) (sets c))

pub returns-clause-few : goal.returns-clause-few
returns-clause-few c =
    let labels = c.self.inside.labels in
    let in_range = c.self.invariant.in_range in
    rw (same c)
    (omega (
      arith,
      few_pairs labels (mark_of labels c.set_pair.new.rows) (labels * labels),
      mul-le labels labels MAX_LABELS MAX_LABELS in_range.1 in_range.1,
    ))
