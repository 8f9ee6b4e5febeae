use Rattle.std.proofs.Common.{◌≡◌, ℕ, ◌+◌, ◌*◌, ◌≤◌, suc, length, vec_capacity}
use Rattle.positions.specs.Inside.Tuples.{AreTupleWords, AreAllWords}
use Rattle.positions.proofs.column.with_one_more.Given as goal

abbrev pub invariant-loop-place : goal.invariant-loop-place
invariant-loop-place l = record {
  words : (count : ℕ) → AreAllWords l.board l.number count l.fewer
      → AreTupleWords l.board l.number (suc count) l.more.items;
  size : length l.more.items ≡ l.place * length l.fewer;
  room : l.places * length l.fewer ≤ vec_capacity l.more;
}

abbrev pub invariant-loop-word : goal.invariant-loop-word
invariant-loop-word l = record {
  words : (count : ℕ) → AreAllWords l.board l.number count l.fewer
      → AreTupleWords l.board l.number (suc count) l.more.items;
  size : length l.more.items ≡ l.place * length l.fewer + l.word-index;
  room : l.places * length l.fewer ≤ vec_capacity l.more;
}
