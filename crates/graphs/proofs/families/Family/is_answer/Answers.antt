use Rattle.std.proofs.Common.{sym, arith, ◌∙◌}
use Rattle.graphs.proofs.FilledFamilies.{answer-bit}
use Rattle.graphs.proofs.families.Family.is_answer.Goals as goal

pub returns-then-place-labels : goal.returns-then-place-labels
returns-then-place-labels c =
    let is = c.labels.ensures.is_board in
    let bit = answer-bit c.args.board.now is c.args.self.now.gap c.args.self.now.answers c.requires.is_gap
    c.requires.answers_are c.args.place (omega (arith, is.labels.1, c.if-place-labels.true, c.labels.ensures.value)) in
    record {
      answers = (λ e. bit.0 (sym c.contains.ensures ∙ e), λ answer. c.contains.ensures ∙ bit.1 answer);
      is_board = is;
    }
