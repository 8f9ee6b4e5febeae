use Rattle.nested_cycles.proofs.replies.+nested_reply.Given as goal

abbrev pub decreases-nested_reply : goal.decreases-nested_reply
decreases-nested_reply l = l.levels
