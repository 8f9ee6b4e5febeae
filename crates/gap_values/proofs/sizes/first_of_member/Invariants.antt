use Rattle.classes.specs.Classes.{put}
use Rattle.gap_values.proofs.Words.{IsLeastBefore}
use Rattle.gap_values.proofs.sizes.first_of_member.Given as goal

abbrev pub invariant-loop-index : goal.invariant-loop-index
invariant-loop-index l = IsLeastBefore l.words (put l.least l.family.held) l.index l.first
