use Rattle.std.proofs.Common.{◌≡◌, ◌+◌, ◌<◌, ◌∙◌, ℕ, List, slice_get, sym, ap, arith, inl, inr}
use Rattle.std.proofs.lemmas.Bool.{cases_lt}
use Rattle.index_lists.specs.Lists.{times}
use Rattle.index_lists.proofs.Cited.{place-of}
use Rattle.solver.proofs.FiledRanks.{filed-shown}
use Rattle.solver.proofs.stage.Stage.next_filed.Goals as goal

pub returns-clause-behind : goal.returns-clause-behind
returns-clause-behind g c = λ value place here.
    let shown = filed-shown _ _ _ _ _ _ _ c.self.view_is c.self.invariant.2.are_lists value in
    c.next.ensures.behind value place (ap (λ (xs : List ℕ). slice_get xs place) (sym shown) ∙ here)
    ∙ ap (λ (xs : List ℕ). slice_get xs (place + 1)) (sym shown)

none-times : (n : ℕ) → (0 < n → ⊥) → n ≡ 0
none-times n none = elim (cases_lt 0 n) [ inl some ↦ absurd (none some) | inr nothing ↦ omega arith ]

pub returns-clause-not_filed : goal.returns-clause-not_filed
returns-clause-not_filed g c = λ none.
    let shown = filed-shown _ _ _ _ _ _ _ c.self.view_is c.self.invariant.2.are_lists in
    c.next.ensures.free (record {
      free = λ l. none-times (times c.args.rank ((g.S.ListStore.state c.self.inside.buckets).list l)) (λ some.
          let place = place-of c.args.rank _ some in
          none l place.0 (ap (λ (xs : List ℕ). slice_get xs place.0) (shown l) ∙ place.1));
    })
