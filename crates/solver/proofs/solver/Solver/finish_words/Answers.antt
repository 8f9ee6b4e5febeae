use Rattle.std.proofs.Common.{◌≡◌, ◌-◌, ◌∙◌, true, sym, ap, subst}
use Rattle.solver.specs.Solving.{Solving}
use Rattle.solver.specs.Words.{AreValueWords}
use Rattle.solver.specs.Inside.Stage.{PlainStage, IsState}
use Rattle.solver.proofs.FoundWords.{words-of}
use Rattle.solver.proofs.solver.Solver.finish_words.Goals as goal

pub returns-clause-values : goal.returns-clause-values
returns-clause-values g c =
    let s : PlainStage = c.self.inside.stage in
    let done : c.self.inside.done ≡ true = (let open_still = c.if-not-self.false in cc) in
    let state : IsState s (s.value - 1) true = subst (IsState s (s.value - 1)) done c.self.invariant in (
      sym (ap (λ (v : Solving). v.is_done) c.self.view_is) ∙ done,
      subst (λ game. AreValueWords game c.into_parts-words.result.2.items)
          (ap (λ (v : Solving). v.game) c.self.view_is)
          (subst (AreValueWords s.game) (sym c.into_parts-words.ensures.words)
          (words-of s (s.value - 1) state)),
    )
