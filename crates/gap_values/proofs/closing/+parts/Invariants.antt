use Rattle.std.proofs.Common.{◌+◌, ◌-◌, ◌*◌}
use Rattle.gap_values.proofs.closing.+parts.Given as goal

-- fewer tables are left in each part; the numbers below order the calls between two of these steps
abbrev pub decreases-Closing::close_in_parts : goal.decreases-Closing::close_in_parts
decreases-Closing::close_in_parts g l = 4 * l.tables

abbrev pub decreases-Closing::close_both : goal.decreases-Closing::close_both
decreases-Closing::close_both g l = 4 * (l.fewer + l.more) - 1

abbrev pub decreases-Closing::close_both-close_front : goal.decreases-Closing::close_both-close_front
decreases-Closing::close_both-close_front g l = 4 * l.fewer + 1

abbrev pub decreases-Closing::close_both-close_back : goal.decreases-Closing::close_both-close_back
decreases-Closing::close_both-close_back g l = 4 * l.more + 1
