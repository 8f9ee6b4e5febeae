use Rattle.std.proofs.Common.{◌<◌, ◌∙◌, sym, ap, arith, refl}
use Rattle.index_lists.specs.Lists.{times}
use Rattle.solver.proofs.FiledRanks.{filed-shown, push-shown}
use Rattle.solver.proofs.stage.Stage.list.Goals as goal

pub push_back-requires-clause-free : goal.push_back-requires-clause-free
push_back-requires-clause-free g c =
    record {
      free = λ l. ap (times c.args.rank) (sym (filed-shown _ _ _ _ _ _ _ c.self.view_is c.self.invariant.2.are_lists l))
          ∙ c.requires.free l;
    }

pub returns : goal.returns
returns g c =
    let inside : c.self.inside.value < (g.S.ListStore.state c.self.inside.buckets).lists = omega
    (arith, c.self.invariant.0.low, c.self.invariant.2.lists_is) in
    push-shown _ _ c.self.inside.value c.args.rank c.push_back.ensures.pushed _ _ _ _ _ _ refl inside c.self.view_is
