use Rattle.player.proofs.adversary_side.play_adversary_side.Goals as goal

pub returns-clause-ok : goal.returns-clause-ok
returns-clause-ok g c = rw c.new-moves.ensures at c.play.ensures.ok

pub returns-clause-fault : goal.returns-clause-fault
returns-clause-fault g c = rw c.new-moves.ensures at c.play.ensures.fault

pub returns-clause-value : goal.returns-clause-value
returns-clause-value g c = rw c.new-moves.ensures at c.play.ensures.value
