use Rattle.nested_cycles.proofs.OneReply as replies
use Rattle.nested_cycles.proofs.laws.one_reply.Goals as goal

pub returns : goal.returns
returns c = record { words = replies.one_reply; labels = replies.one_label }
