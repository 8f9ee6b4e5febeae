use Rattle.serving.proofs.serving.write_ending.Goals as goal

pub returns-in-Broken : goal.returns-in-Broken
returns-in-Broken g c =
    rw c.in-Broken.is (rw (c.as_str.ensures.value, c.fault_line-line.ensures) at c.say-in-Broken.ensures)
