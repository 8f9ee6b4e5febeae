use Rattle.std.proofs.Common.{◌≡◌, ◌+◌, ◌-◌, ◌==◌, inl, inr, if◌then◌else◌, Some, None, subst, sym, ap, ◌∙◌, arith}
use Rattle.std.proofs.Common.{slice_get}
use Rattle.std.proofs.lemmas.Bool.{cases_eq}
use Rattle.index_lists.specs.Inside.Parts.{part}
use Rattle.index_lists.proofs.Times.{cond_same, cond_other}
use Rattle.index_lists.proofs.Places.{read-below, same-place, stands-at}
use Rattle.index_lists.proofs.plain_lists.PlainListsListStore.prev.Goals as goal
use Rattle.index_lists.proofs.plain_lists.PlainListsListStore.prev.Goals.{After-prev_in}

module _ (c : After-prev_in) where
  stands : slice_get (part c.args.self.now.parts c.in-Some.home) c.prev_in.ensures.0 ≡ Some c.args.node
  stands =
      subst (λ xs. slice_get xs c.prev_in.ensures.0 ≡ Some c.args.node) c.nodes_of.ensures.nodes c.prev_in.ensures.1

  shows : c.prev_in.result
      ≡ (if c.prev_in.ensures.0 == 0 then None else slice_get (part c.args.self.now.parts c.in-Some.home)
      (c.prev_in.ensures.0 - 1))
  shows = c.prev_in.ensures.2
      ∙ ap (λ xs. if c.prev_in.ensures.0 == 0 then None else slice_get xs
      (c.prev_in.ensures.0 - 1)) c.nodes_of.ensures.nodes

  shows-first : c.prev_in.ensures.0 ≡ 0 → c.prev_in.result ≡ None
  shows-first e = shows ∙ cond_same c.prev_in.ensures.0 0 None _ e

  shows-later : (c.prev_in.ensures.0 ≡ 0 → ⊥)
      → c.prev_in.result ≡ slice_get (part c.args.self.now.parts c.in-Some.home) (c.prev_in.ensures.0 - 1)
  shows-later d = shows ∙ cond_other c.prev_in.ensures.0 0 None _ d

pub returns-in-Some-clause-before : goal.returns-in-Some-clause-before
returns-in-Some-clause-before c = λ l place at.
    let same = same-place _ c.in-Some.home l c.args.node c.prev_in.ensures.0 (place + 1) c.nodes_of.ensures.kept
    (stands c) at in
    let back : c.prev_in.ensures.0 - 1 ≡ place = omega (arith, same.1) in
    rw (same.0, ← back) (shows-later c (λ e. omega (arith, e, same.1)))

pub returns-in-Some-clause-first : goal.returns-in-Some-clause-first
returns-in-Some-clause-first c = λ l at.
    let same = same-place _ c.in-Some.home l c.args.node c.prev_in.ensures.0 0 c.nodes_of.ensures.kept (stands c) at in
    shows-first c (sym same.1)

pub returns-in-Some-clause-below : goal.returns-in-Some-clause-below
returns-in-Some-clause-below c = elim (cases_eq c.prev_in.ensures.0 0) [
  | inl e ↦ rw (shows-first c e) tt
  | inr d ↦ read-below _ c.in-Some.home _ _ c.nodes_of.ensures.kept (shows-later c d)
]

pub returns-in-None-clause-before : goal.returns-in-None-clause-before
returns-in-None-clause-before c = λ l place at.
    let some = stands-at (place + 1) c.args.node _ at in
    absurd (omega (arith, some, c.in-None.ensures.home.free l))
