use Rattle.std.proofs.Common.{◌≡◌, ◌<◌, ◌∙◌, ◌∷◌, subst, sym}
use Rattle.graphs.specs.Numbered.{graph_of}
use Rattle.solver.specs.Solving.{Solving, IsSolving, source}
use Rattle.solver.proofs.SourceSearches.{IsSearched, search-begins, search-more, search-there, search-found}
use Rattle.solver.proofs.SourceSearches.{search-over}
use Rattle.solver.proofs.States.{solving_of, source-shown}
use Rattle.solver.proofs.solver.Solver.next_source.Goals as goal

pub loop-member-init : goal.loop-member-init
loop-member-init g c =
    let i : c.args.gap < (graph_of c.self.inside.stage.game).gaps = rw (← c.self.view_is) at c.requires.gap in
    let here : c.sources-members.result ≡ source c.args.self.now c.args.gap =
    subst (λ (v : Solving). c.sources-members.result ≡ source v c.args.gap) c.self.view_is
    (c.sources-members.ensures ∙ sym
    (source-shown c.self.inside.stage _ c.self.inside.done c.self.invariant c.args.gap i)) in
    subst (λ l. IsSearched (source c.args.self.now c.args.gap) l c.args.rank) (sym here)
    (search-begins (source c.args.self.now c.args.gap) c.args.rank)

pub loop-member-preserved : goal.loop-member-preserved
loop-member-preserved g c = search-more _ _ _ _ _ c.loop-member.invariant c.in-Some.ensures c.if-member-rank.false

pub returns-then-member-rank-clause-behind : goal.returns-then-member-rank-clause-behind
returns-then-member-rank-clause-behind g c =
    let sol : IsSolving c.args.self.now =
    subst IsSolving c.self.view_is (solving_of c.self.inside.stage _ c.self.inside.done c.self.invariant) in
    let found : c.loop-member.members ≡ c.args.rank ∷ c.take_next.new.self =
    subst (λ m. c.loop-member.members ≡ m ∷ c.take_next.new.self) c.if-member-rank.true c.in-Some.ensures in
    search-found _ _ _ _ _ _ c.loop-member.invariant found
    (sol.sources.once c.args.gap c.args.rank c.requires.gap c.requires.rank) c.take_next-then-member-rank.ensures

pub returns-then-member-rank-clause-not_listed : goal.returns-then-member-rank-clause-not_listed
returns-then-member-rank-clause-not_listed g c = λ none.
    let found : c.loop-member.members ≡ c.args.rank ∷ c.take_next.new.self =
    subst (λ m. c.loop-member.members ≡ m ∷ c.take_next.new.self) c.if-member-rank.true c.in-Some.ensures in
    absurd (none _ (search-there _ _ _ _ c.loop-member.invariant found))

pub returns-clause-behind : goal.returns-clause-behind
returns-clause-behind g c =
    λ place stands. absurd (search-over _ _ _ place c.loop-member.invariant c.in_default.ensures.0 stands)
