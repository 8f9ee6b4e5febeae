use Rattle.std.proofs.Common.{refl}
use Rattle.strategies.specs.Inside.ReachedLists.{ReachedList}
use Rattle.strategies.proofs.ListedSets.{number_listed}
use Rattle.strategies.proofs.ReachedNumbers.{key_added}
use Rattle.strategies.proofs.listed_numbers.ListedNumbersReachedNumbers.add.Goals as goal
use Rattle.strategies.proofs.listed_numbers.ListedNumbersReachedNumbers.add.Goals.{in-Ok, in-Err}

pub returns-clause-reached : goal.returns-clause-reached
returns-clause-reached c = elim c.match-insert.branch [
  | in-Ok w ↦
      let list : ReachedList = record {
        numbers = c.self.inside.numbers.keys;
        taken = c.self.inside.taken;
        most = c.self.inside.most;
      } in
      rw (w.result-is, w.in-Ok.ensures.keys, ← c.self.view_is)
      (number_listed list c.args.number _ c.self.invariant (key_added c.self.inside.numbers.keys c.args.number))
  | in-Err w ↦ rw w.result-is tt
]

pub returns-clause-room : goal.returns-clause-room
returns-clause-room c = elim c.match-insert.branch [
  | in-Ok w ↦ rw (w.result-is, ← c.self.view_is) refl
  | in-Err w ↦ rw w.result-is tt
]
