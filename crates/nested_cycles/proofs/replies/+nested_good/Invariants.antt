use Rattle.nested_cycles.proofs.replies.+nested_good.Given as goal

abbrev pub decreases-nested_good : goal.decreases-nested_good
decreases-nested_good l = l.levels
