use Rattle.std.proofs.Common.{◌≡◌, ◌≢◌, ◌<◌, ℕ, get_or, ap, subst, arith}
use Rattle.nested_cycles.specs.Domination.{labels_of, NestedDominates}
use Rattle.nested_cycles.specs.NestedGame.{PlainGame, other_words}
use Rattle.nested_cycles.proofs.NestedGames.{others_are, others_are_good, others_are_labels, request_keeps}
use Rattle.nested_cycles.proofs.NestedGames.{request_dominates}
use Rattle.nested_cycles.proofs.game.NestedGame.request.Goals as goal
use Rattle.nested_cycles.proofs.game.NestedGame.request.Goals.{After-as_slice}

others : (c : After-as_slice) → c.as_slice.result.now ≡ other_words c.from-index.result c.self.inside.words.items
others c =
    others_are c.from-index.result c.self.inside.words.items _ _ _ _ _ _ c.new-others.ensures c.deref.ensures.value
    c.append.ensures c.deref-2.ensures.value c.append-2.ensures c.as_slice.ensures

inside : (c : After-as_slice) → c.from-index.result < c.self.inside.levels
inside c = let level = ap (λ (g : PlainGame). g.levels) c.self.view_is in
    omega (arith, level, c.from-index.ensures, c.requires)

pub nested_reply-reply-requires-clause-labels : goal.nested_reply-reply-requires-clause-labels
nested_reply-reply-requires-clause-labels c =
    rw (others c) (others_are_labels
    (labels_of c.self.inside.levels) c.self.inside.words.items c.from-index.result c.self.invariant.labels)

pub nested_reply-reply-requires-clause-good : goal.nested_reply-reply-requires-clause-good
nested_reply-reply-requires-clause-good c =
    let low = inside c in
    rw (others c) (others_are_good c.self.inside.levels c.self.inside.words.items c.from-index.result
    (omega (arith, low, c.self.invariant.each_pebble)) c.self.invariant.good)

pub invariant_of-self : goal.invariant_of-self
invariant_of-self c =
    let s = (goal.at.invariant_of-self c).After-as_slice in
    request_keeps c.self.inside.levels c.self.inside.words.items c.as_slice.result.now c.from-index.result
    c.nested_reply-reply.result
    c.self.invariant (inside s) (others s) c.nested_reply-reply.ensures.label c.nested_reply-reply.ensures.good

pub returns-clause-dominates : goal.returns-clause-dominates
returns-clause-dominates c =
    subst (λ (g : PlainGame). (other : ℕ) → other < g.levels → other ≢ c.args.pebble
    → NestedDominates g.levels c.nested_reply-reply.result (get_or g.words other 0)) c.self.view_is
    (subst (λ (place : ℕ). (other : ℕ) → other < c.self.inside.levels → other ≢ place
    → NestedDominates c.self.inside.levels c.nested_reply-reply.result
    (get_or c.self.inside.words.items other 0)) c.from-index.ensures
    (request_dominates _ c.self.inside.words.items _ c.from-index.result c.nested_reply-reply.result
    c.self.invariant.each_pebble
    (others (goal.at.returns-clause-dominates c).After-as_slice) c.nested_reply-reply.ensures.dominates))

pub returns-clause-good : goal.returns-clause-good
returns-clause-good c = invariant_of-self c
