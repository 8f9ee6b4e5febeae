use Rattle.std.proofs.Common.{cond, nat_eq}
use Rattle.board_text.specs.Domination.{has_bit}
use Rattle.classes.specs.Sums.{sum_below}
use Rattle.gap_values.specs.Inside.Counts.{AreMore, class_word, weight_with}
use Rattle.gap_values.proofs.gap_sizes.count_among.Given as goal

abbrev pub invariant-loop-place : goal.invariant-loop-place
invariant-loop-place g l = AreMore l.initial.sizes l.sizes (λ wanted. sum_below l.place
    (λ place. cond (has_bit l.among place) (cond (nat_eq (class_word l.numbers l.words l.gap.held place) wanted)
    (weight_with l.weights l.gap.size place) 0) 0))
