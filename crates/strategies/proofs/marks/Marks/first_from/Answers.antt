use Rattle.std.proofs.Common.{rules, ◌/◌, ◌^◌, ◌<◌, length, arith}
use Rattle.strategies.proofs.BitSearch.{first_in_word, pass_word, first_mark, no_mark}
use Rattle.strategies.proofs.marks.Marks.first_from.Goals as goal
use Rattle.strategies.proofs.marks.Marks.first_from.Goals.{After-index}

-- the word of the number is one of the words
in-words : (c : After-index) → c.loop-number.number / 64 < length c.self.inside.words.items
in-words c = omega (arith, c.loop-number-test.true, c.self.invariant)

pub returns-then-first-size-clause-first : goal.returns-then-first-size-clause-first
returns-then-first-size-clause-first c =
    let at = (goal.at.returns-then-first-size-clause-first c).After-index in
    let s = c.self.inside in
    let fits : c.index.result.now < 2 ^ 64 = search rules in
    let first = first_in_word s.words.items c.loop-number.number c.index.result.now
    (in-words at) c.index.ensures c.args.bound
    (omega (arith, c.if-rest-ne0.true)) fits c.loop-number.invariant.none in
    rw (← c.self.view_is) (first_mark s.size s.words.items c.args.bound _
    (omega (arith, c.loop-number.invariant.above)) c.if-first-size.true first.0 first.1)

pub returns-else-first-size-clause-first : goal.returns-else-first-size-clause-first
returns-else-first-size-clause-first c =
    let at = (goal.at.returns-else-first-size-clause-first c).After-index in
    let s = c.self.inside in
    let fits : c.index.result.now < 2 ^ 64 = search rules in
    let first = first_in_word s.words.items c.loop-number.number c.index.result.now
    (in-words at) c.index.ensures c.args.bound
    (omega (arith, c.if-rest-ne0.true)) fits c.loop-number.invariant.none in
    rw (← c.self.view_is) (no_mark s.size s.words.items c.args.bound _ c.if-first-size.false first.1)

pub loop-number-preserved : goal.loop-number-preserved
loop-number-preserved c = record {
  above = omega (arith, c.loop-number.invariant.above);
  none = pass_word c.self.inside.words.items c.loop-number.number c.index.result.now
      (in-words (goal.at.loop-number-preserved c).After-index)
      c.index.ensures c.args.bound c.if-rest-ne0.false c.loop-number.invariant.none;
}

pub returns-clause-first : goal.returns-clause-first
returns-clause-first c = let s = c.self.inside in
    rw (← c.self.view_is) (no_mark s.size s.words.items c.args.bound c.loop-number.number c.loop-number-test.false
    c.loop-number.invariant.none)
