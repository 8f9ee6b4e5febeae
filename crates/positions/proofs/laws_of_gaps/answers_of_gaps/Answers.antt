use Rattle.positions.proofs.GapLaws.{legal_is_answer, dominator_is_answer, one_gap as at_most_one}
use Rattle.positions.proofs.laws_of_gaps.answers_of_gaps.Goals as goal

pub returns : goal.returns
returns c = record { legal = legal_is_answer; dominator = dominator_is_answer; one_gap = at_most_one }
