use Rattle.std.proofs.Common.{◌≡◌, ◌<◌, true, arith}
use Rattle.board_text.specs.Domination.{has_bit}
use Rattle.board_text.specs.declared.board.TheConstants.{MAX_LABELS}
use Rattle.positions.specs.Gaps.{IsAnswer}
use Rattle.positions.proofs.FactCounts.{same_fact_size, size_at_most}
use Rattle.positions.proofs.space.Space.count_answers.Goals as goal

pub returns-clause-size : goal.returns-clause-size
returns-clause-size c =
    same_fact_size (λ label. (label < MAX_LABELS) × (has_bit c.answers.result label ≡ true))
    (IsAnswer c.args.self.now c.args.gap) c.len.result
    (λ label. (
      λ has. (c.answers.ensures.bits label has.0).0 has.1,
      λ answer. let small : label < MAX_LABELS = omega (arith, answer.is_label, c.answers.ensures.few) in
          (small, (c.answers.ensures.bits label small).1 answer),
    ))
    c.len.ensures

pub returns-clause-few : goal.returns-clause-few
returns-clause-few c =
    size_at_most (λ label. (label < MAX_LABELS)
    × (has_bit c.answers.result label ≡ true)) c.len.result c.args.self.now.labels c.len.ensures
    (λ label has. ((c.answers.ensures.bits label has.0).0 has.1).is_label)
