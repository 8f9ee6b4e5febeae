use Rattle.std.proofs.Common.{◌≡◌, ◌-◌, min, length}
use Rattle.board_text.specs.PlainBoard.{places}
use Rattle.classes.specs.Numbers.{ways}
use Rattle.classes.specs.FamilyWalks.{IsAtFamily}
use Rattle.gap_values.specs.Inside.Sets.{ArePassed, AreSetsOf, IsOfRound}
use Rattle.gap_values.proofs.closing.Closing.close_gaps.Given as goal

abbrev pub invariant-loop-walk : goal.invariant-loop-walk
invariant-loop-walk g l = record {
  walk : IsAtFamily l.self.numbers.now l.walk.count l.number l.walk;
  count : l.walk.count ≡ l.self.board.now.pebbles - 2;
  passed : ArePassed l.self.board.now l.self.sets.now l.self.round l.first 0 (min (l.walk.start - l.first)
      (length l.fn.part))
      l.fn.part l.part;
  told : AreSetsOf l.self.board.now (IsOfRound l.self.round l.first l.part) l.told;
}

abbrev pub decreases-loop-walk : goal.decreases-loop-walk
decreases-loop-walk g l = ways (l.self.board.now.pebbles - 2) (places l.self.board.now) - l.number
