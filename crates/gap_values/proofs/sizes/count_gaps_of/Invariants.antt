use Rattle.std.proofs.Common.{◌≡◌, ◌+◌, ◌-◌, ◌<◌, ◌↔◌, ℕ, true, length}
use Rattle.board_text.specs.Domination.{has_bit}
use Rattle.board_text.specs.PlainBoard.{places}
use Rattle.board_text.specs.declared.board.TheConstants.{MAX_LABELS}
use Rattle.gap_values.specs.Inside.Counts.{AreSizesBetween}
use Rattle.gap_values.proofs.sizes.count_gaps_of.Given as goal

abbrev pub invariant-loop-number : goal.invariant-loop-number
invariant-loop-number g l = record {
  upto : (x : ℕ) → x < MAX_LABELS → (has_bit l.upto x ≡ true)
      ↔ ((x < l.number - l.family.start) × (x + 1 < places l.numbers));
  size : length l.sizes.finite.items ≡ length l.initial.sizes.finite.items;
  counted : (from : ℕ) → AreSizesBetween l.numbers l.rounds.words.items
      (length l.initial.sizes.finite.items) from l.low l.initial.sizes
      → AreSizesBetween l.numbers l.rounds.words.items
      (length l.initial.sizes.finite.items) from l.number l.sizes;
}
