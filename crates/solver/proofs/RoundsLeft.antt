-- The number of rounds left falls with each round.
use Rattle.std.proofs.Common.{◌≡◌, ◌<◌, ◌-◌, ◌∙◌, ℕ, suc, true, false, cond, refl, ap, subst, arith}
use Rattle.graphs.specs.Numbered.{Numbered, graph_of}
use Rattle.solver.specs.declared.progress.Progress.{Progress}
use Rattle.solver.specs.declared.progress.Progress.TheVariants.{Filed, Done}
use Rattle.solver.specs.Solving.{Solving, IsSolving, HasFiled, HasFoundNone}

-- a bound on the number of rounds left, with one more until the solver is done
abbrev pub rounds_left : Solving → ℕ
rounds_left solver = cond solver.is_done 0 (suc ((graph_of solver.game).configurations - solver.rounds))

-- a round that files configurations, or finds that none has the next value, leaves fewer rounds
pub fewer_left : (before held after : Solving) (result : Progress) → (before.is_done ≡ false) × (held ≡ before)
    → after.game ≡ held.game → IsSolving after
    → ((n : ℕ) → result ≡ Filed n → HasFiled held after n) → (result ≡ Done → HasFoundNone held after)
    → rounds_left after < rounds_left before
fewer_left before held after result unfinished same is filed none =
    subst (λ (s : Solving). rounds_left after < rounds_left s) unfinished.1
    (fewer result (ap (λ (s : Solving). s.is_done) unfinished.1 ∙ unfinished.0) filed (λ done. (none done).2))
  where
    fewer : (result : Progress) → held.is_done ≡ false → ((n : ℕ) → result ≡ Filed n → HasFiled held after n)
        → (result ≡ Done → after.is_done ≡ true)
        → rounds_left after < rounds_left held
    fewer (Filed n) going filed none =
        let here = filed n refl in
        let games : (graph_of after.game).configurations ≡ (graph_of held.game).configurations =
        ap (λ (n : Numbered). (graph_of n).configurations) same in
        rw (going, here.3) (omega (arith, here.2, is.below, games))
    fewer Done going filed none = rw (going, none refl) (omega arith)
