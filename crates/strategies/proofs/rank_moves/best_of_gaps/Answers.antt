use Rattle.std.proofs.Common.{◌≡◌, ◌-◌, ◌<◌, ◌++◌, ◌∷◌, [], ◌∙◌, arith, rules}
use Rattle.std.proofs.lemmas.List.{get_or_read}
use Rattle.board_text.specs.PlainBoard.{places}
use Rattle.board_text.proofs.Cited.{some_places}
use Rattle.classes.specs.Numbers.{class_with, ways}
use Rattle.classes.proofs.Cited.{with-is}
use Rattle.strategies.proofs.LeastValues.{small-value}
use Rattle.strategies.proofs.TabledAnswers.{asked, best-more}
use Rattle.strategies.proofs.rank_moves.best_of_gaps.Given.{Over}
use Rattle.strategies.proofs.rank_moves.best_of_gaps.Goals as goal
use Rattle.strategies.proofs.rank_moves.best_of_gaps.Goals.{After-places}

module _ (g : Over) (c : After-places g) where
  inside : c.loop-index.index < ways (c.args.space.now.pebbles - 1) (places c.args.space.now)
  inside = omega (arith, c.loop-index-test.true, c.requires.gaps.size)

  listed : c.index-gaps-index.result
      ≡ class_with (places c.args.space.now) (c.args.space.now.pebbles - 1) c.loop-index.index
  listed = get_or_read c.args.gaps.now c.loop-index.index c.index-gaps-index.result c.loop-index-test.true
      c.index-gaps-index.is [] ∙ c.requires.gaps.each c.loop-index.index [] inside

  some : 0 < c.args.space.now.pebbles
  some = omega (arith, c.places.ensures.is_board.pebbles)

  low : c.places.result - 1 < places c.args.space.now
  low = omega (arith, c.places.ensures.value, some_places c.args.space.now c.places.ensures.is_board)

pub with_first-held-requires : goal.with_first-held-requires
with_first-held-requires g c =
    let at = goal.at.with_first-held-requires g c in
    let board = c.args.space.now in
    let class = (with-is (places board) (board.pebbles - 1) c.loop-index.index (inside g c)).is in
    rw (listed g c) (omega (arith, class.size, c.places.ensures.is_board.pebbles))

pub best-requires-clause-held : goal.best-requires-clause-held
best-requires-clause-held g c =
    let at = (goal.at.best-requires-clause-held g c).After-places in
    rw (c.as_slice.ensures.value, c.with_first-held.ensures, listed g at, ← c.requires.same_board)
    (asked c.args.space.now (some g at) (c.places.result - 1) c.loop-index.index (low g at) (inside g at))

pub loop-index-preserved : goal.loop-index-preserved
loop-index-preserved g c =
    let at = (goal.at.loop-index-preserved g c).After-places in
    let board = c.args.space.now in
    let items : c.push.new.self.items ≡ c.loop-index.best.items ++ c.best.result ∷ [] = search rules in
    rw items
    (best-more board (some g at) (c.places.result - 1) c.loop-index.index c.loop-index.best.items c.best.result (low g
    at)
    (inside g at) c.loop-index.invariant
    (rw
    (c.as_slice.ensures.value, c.with_first-held.ensures, listed g at, ← c.requires.same_board) at c.best.ensures))

pub of-requires : goal.of-requires
of-requires g c =
    let at = (goal.at.of-requires g c).After-places in
    let board = c.args.space.now in
    small-value board ((c.places.result - 1) ∷ class_with (places board) (board.pebbles - 1) c.loop-index.index)
    (asked board (some g at) (c.places.result - 1) c.loop-index.index (low g at) (inside g at)) c.places.ensures.few 0
    c.best.result
    (rw (c.as_slice.ensures.value, c.with_first-held.ensures, listed g at, ← c.requires.same_board) at
    c.best.ensures)
