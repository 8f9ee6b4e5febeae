use Rattle.std.proofs.Common.{◌≡◌, List, ℕ, Option, Some, length, length-append, refl, sym, subst, ap, ◌∙◌, arith}
use Rattle.index_lists.proofs.Places.{stands-at}
use Rattle.index_lists.proofs.Walks.{IsPassed, passed-none, passed-length, passed-inside, passed-more, passed-all}
use Rattle.index_lists.proofs.store.ListStore.append_list.Given
use Rattle.index_lists.proofs.store.ListStore.append_list.Goals as goal

pub loop-next-init : goal.loop-next-init
loop-next-init g c = (passed-none _ _ _ c.first-next.ensures.first, refl, c.first-next.ensures.kept)

is-some : {xs before items : List ℕ} {next : Option ℕ} {node : ℕ} → IsPassed xs before items next → next ≡ Some node
    → IsPassed xs before items (Some node)
is-some {xs} {before} {items} is e = subst (λ o. IsPassed xs before items o) e is

pub push_reserved-requires : goal.push_reserved-requires
push_reserved-requires g c =
    let is = is-some c.loop-next.invariant.0 c.in-Some.is in
    let long = passed-length _ _ _ _ is in
    let low = passed-inside _ _ _ _ is in
    omega (arith, long, low, c.requires.room, c.loop-next.invariant.1, c.loop-next.to.ok.0)

pub next-next-requires : goal.next-next-requires
next-next-requires g c =
    let is = is-some c.loop-next.invariant.0 c.in-Some.is in
    c.loop-next.invariant.2.below c.args.of c.in-Some.node (stands-at is.count c.in-Some.node _ (sym is.next_is))

more : (g : Given.Over) (c : goal.After-next-next g)
    → IsPassed ((g.Self.ListStore.state c.args.self.now).list c.args.of) c.args.to.now.items
    c.push_reserved.new.self.items c.next-next.result
more g c =
    let is = is-some c.loop-next.invariant.0 c.in-Some.is in
    passed-more _ _ _ _ c.in-Some.node _ is c.push_reserved.ensures.items
    (c.next-next.ensures.behind c.args.of is.count (sym is.next_is))

pub loop-next-smaller : goal.loop-next-smaller
loop-next-smaller g c =
    let is = is-some c.loop-next.invariant.0 c.in-Some.is in
    let long = passed-length _ _ _ _ is in
    let low = passed-inside _ _ _ _ is in
    let longer = passed-length _ _ _ _ (more g c) in
    let step = ap length c.push_reserved.ensures.items ∙ length-append c.loop-next.to.items _ in
    omega (arith, long, low, step)

pub loop-next-preserved : goal.loop-next-preserved
loop-next-preserved g c =
    (more g c, c.push_reserved.ensures.capacity ∙ c.loop-next.invariant.1, c.loop-next.invariant.2)

pub returns-clause-appended : goal.returns-clause-appended
returns-clause-appended g c = passed-all _ _ _ _ c.loop-next.invariant.0 c.in_default.is

pub returns-clause-capacity : goal.returns-clause-capacity
returns-clause-capacity g c = omega (arith, c.loop-next.invariant.1)
