use Rattle.std.proofs.Common.{length}
use Rattle.command_tests.proofs.drawn_words.+read.Given as goal

abbrev pub decreases-read : goal.decreases-read
decreases-read l = length l.words.now
