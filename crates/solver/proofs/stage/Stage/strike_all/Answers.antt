use Rattle.std.proofs.Common.{◌<◌, ◌-◌, ℕ, sym, subst}
use Rattle.std.specs.List.{filter}
use Rattle.index_lists.specs.Lists.{times}
use Rattle.graphs.specs.Numbered.{graph_of}
use Rattle.graphs.specs.Graph.{is_struck}
use Rattle.solver.specs.Inside.Stage.{PlainStage, due_strikes, IsKeptStage, IsStriking}
use Rattle.solver.proofs.StageStrikes.{striking-taken, kept-taken}
use Rattle.solver.proofs.stage.Stage.strike_all.Goals as goal

pub strike_taken-requires-clause-ranks : goal.strike_taken-requires-clause-ranks
strike_taken-requires-clause-ranks g c =
    let s : PlainStage = c.args.self.now in
    subst (λ (v : PlainStage). (rank : ℕ) → 0 < times rank v.strikes → rank < (graph_of v.game).configurations)
    (sym c.take_bucket.ensures)
    (c.requires.striking.stage.filed_are.below (s.value - 1))

pub strike_taken-requires-clause-striking : goal.strike_taken-requires-clause-striking
strike_taken-requires-clause-striking g c =
    let s : PlainStage = c.args.self.now in
    subst (λ (v : PlainStage). IsStriking v (filter (is_struck (graph_of v.game)) v.strikes))
    (sym c.take_bucket.ensures)
    (striking-taken s (due_strikes s) c.requires.striking)

pub returns-clause-kept : goal.returns-clause-kept
returns-clause-kept g c =
    let s : PlainStage = c.args.self.now in
    kept-taken s _ (subst (λ (v : PlainStage). IsKeptStage v c.strike_taken.new.self) c.take_bucket.ensures
    c.strike_taken.ensures.kept)
