use Rattle.std.proofs.Common.{◌≡◌, ◌-◌, ◌*◌, ◌≤◌, ℕ, List, [], length}
use Rattle.board_text.specs.PlainBoard.{places}
use Rattle.classes.specs.Numbers.{ways}
use Rattle.console.specs.Watching.{AreStepsTold}
use Rattle.gap_values.specs.Inside.OpenWords.{AreClosedFrom}
use Rattle.gap_values.specs.Inside.Sets.{TellClosed, open_count}
use Rattle.gap_values.proofs.OpenCounts.{AreOpenSoFar}
use Rattle.gap_values.proofs.RoundSteps.{IsAtRound}
use Rattle.gap_values.proofs.rounds.rounds_of_gaps.Given as goal

abbrev pub invariant-loop-round : goal.invariant-loop-round
invariant-loop-round g l = record {
  at : IsAtRound l.board l.round l.words.items l.closed.items;
  shut : AreClosedFrom l.words.items l.end;
  tables : length l.tables.items
      ≡ g.M.RoundMaker.tables_of l.maker * ways (l.board.pebbles - 2) (places l.board);
  none : l.round ≡ 0 → l.first.items ≡ [];
  first : 1 ≤ l.round → TellClosed l.board l.words.items 1 l.first.items;
  told : (counts : List ℕ) × AreOpenSoFar l.board l.round l.words.items counts
      × AreStepsTold (g.W.Watch.tells l.watch) 1 counts l.fn.told l.told;
}

abbrev pub decreases-loop-round : goal.decreases-loop-round
decreases-loop-round g l = open_count l.words.items
