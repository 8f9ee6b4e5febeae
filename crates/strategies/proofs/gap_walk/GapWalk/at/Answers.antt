use Rattle.std.proofs.Common.{◌<◌, ℕ, subst, arith}
use Rattle.board_text.specs.PlainBoard.{IsConfiguration}
use Rattle.positions.proofs.Cited.{configuration_at_is}
use Rattle.strategies.specs.Inside.Walks.{AreGapNumbers, AreNumberRows}
use Rattle.strategies.proofs.SiblingRanks.{sibling-ranks}
use Rattle.strategies.proofs.gap_walk.GapWalk.at.Goals as goal
use Rattle.strategies.proofs.gap_walk.GapWalk.at.Goals.{After-as_slice-2}

is : (c : After-as_slice-2) → IsConfiguration c.args.space.now c.at-configuration.result
is c = rw c.at-configuration.ensures (configuration_at_is c.args.space.now c.args.rank c.requires.rank)

pub fill_rests-requires-clause-held : goal.fill_rests-requires-clause-held
fill_rests-requires-clause-held c =
    rw (c.as_slice-2.ensures.value, c.requires.same_board)
    (is (goal.at.fill_rests-requires-clause-held c).After-as_slice-2)

pub gaps_of-gaps-requires-clause-held : goal.gaps_of-gaps-requires-clause-held
gaps_of-gaps-requires-clause-held c =
    rw (c.as_slice-3.ensures.value, c.requires.same_board)
    (is (goal.at.gaps_of-gaps-requires-clause-held c).After-as_slice-2)

pub invariant_of-result : goal.invariant_of-result
invariant_of-result c =
    let board = c.args.space.now in
    let some : 0 < board.pebbles = omega (arith, c.first_near-first.ensures.is_board.pebbles) in
    let there = is (goal.at.invariant_of-result c).After-as_slice-2 in
    record {
      same_board = c.requires.same_board;
      is_configuration = there;
      ranks = λ place low. rw c.at-configuration.ensures
          (sibling-ranks board some c.args.rank c.first_near-first.result c.requires.rank
          c.first_near-first.ensures.first place low);
      numbers = subst (λ (n : ℕ). AreNumberRows c.at-configuration.result n c.fill_rests.new.rests) there.each_pebble
          (rw c.as_slice-2.ensures.value at c.fill_rests.ensures);
      gaps_are = subst (λ (n : ℕ). AreGapNumbers c.at-configuration.result n c.gaps_of-gaps.result) there.each_pebble
          (rw c.as_slice-3.ensures.value at c.gaps_of-gaps.ensures);
    }
