use Rattle.player.proofs.nested_writing.+write_digits.Given as goal

abbrev pub decreases-write_digits : goal.decreases-write_digits
decreases-write_digits c = c.count
