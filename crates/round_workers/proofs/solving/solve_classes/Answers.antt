use Rattle.std.proofs.Common.{◌∙◌, ◌≤◌, subst, sym}
use Rattle.gap_values.specs.ClassValues.{AreClassValues}
use Rattle.graphs.specs.Numbered.{graph_of}
use Rattle.solver.specs.Words.{AreValueWords}
use Rattle.round_workers.proofs.ClassValues.{class-values, each-class}
use Rattle.round_workers.specs.declared.solving.TheConstants.{MIN_SHARED}
use Rattle.round_workers.proofs.solving.solve_classes.Goals as goal

pub of_classes-requires : goal.of_classes-requires
of_classes-requires g c =
    let board = c.args.board.now in
    let words = c.in-Ok.words.items in
    subst (AreClassValues board) (sym c.as_slice.ensures.value)
    (class-values board words
    (subst (λ game. AreValueWords game words) (c.in_ok-run_rounds.ensures.game ∙ c.in_ok-solver.ensures.0)
    c.in-Ok.ensures.values.1))

pub returns-in_err-run_rounds-clause-enough : goal.returns-in_err-run_rounds-clause-enough
returns-in_err-run_rounds-clause-enough g c = λ refused.
    each-class c.args.board.now _
    (subst (λ game. MIN_SHARED ≤ (graph_of game).configurations) c.in_ok-solver.ensures.0
    c.in_err-run_rounds.ensures.shared)
