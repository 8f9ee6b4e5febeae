use Rattle.std.proofs.Common.{◌≡◌, ◌<◌, ◌^◌, Some, slice_get, sym, ◌∙◌, arith, rules}
use Rattle.strategies.specs.Inside.ReachedLists.{ReachedList}
use Rattle.strategies.proofs.ListedSets.{less_room, number_taken, too_many}
use Rattle.strategies.proofs.listed_numbers.ListedNumbersReachedNumbers.take_next.Goals as goal

pub returns-then-len-self-clause-fault : goal.returns-then-len-self-clause-fault
returns-then-len-self-clause-fault c =
    let list : ReachedList = record {
      numbers = c.self.inside.numbers.keys;
      taken = c.self.inside.taken;
      most = c.self.inside.most;
    } in
    rw (← c.self.view_is)
    (too_many list (rw (← c.self.view_is) at c.first_left.ensures.once)
    (omega (arith, c.if-len-self.true, c.len.ensures.len)))

pub returns-clause-taken : goal.returns-clause-taken
returns-clause-taken c =
    let list : ReachedList = record {
      numbers = c.self.inside.numbers.keys;
      taken = c.self.inside.taken;
      most = c.self.inside.most;
    } in
    let once = rw (← c.self.view_is) at c.first_left.ensures.once in
    let got = rw (← c.self.view_is) at c.first_left.ensures.number in
    let there : slice_get c.self.inside.numbers.keys c.self.inside.taken ≡ Some c.in-Some.number =
    sym got ∙ c.in-Some.is in
    let low : c.self.inside.taken < 2 ^ 64 = search rules in
    rw (← c.self.view_is) (
      number_taken list once c.in-Some.number there,
      less_room list once c.in-Some.number there low,
    )
