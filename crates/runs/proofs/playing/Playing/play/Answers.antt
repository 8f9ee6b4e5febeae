use Rattle.runs.proofs.playing.Playing.play.Goals as goal

pub returns-in-Adversary-clause-fault : goal.returns-in-Adversary-clause-fault
returns-in-Adversary-clause-fault g c = rw c.in-Adversary.is c.play.ensures.fault

pub returns-in-Labeller-clause-fault : goal.returns-in-Labeller-clause-fault
returns-in-Labeller-clause-fault g c = rw c.in-Labeller.is c.play-in-Labeller.ensures.fault

pub returns-in-Adversary-clause-prompts : goal.returns-in-Adversary-clause-prompts
returns-in-Adversary-clause-prompts g c = rw c.in-Adversary.is c.play.ensures.prompts

pub returns-in-Labeller-clause-prompts : goal.returns-in-Labeller-clause-prompts
returns-in-Labeller-clause-prompts g c = rw c.in-Labeller.is c.play-in-Labeller.ensures.prompts
