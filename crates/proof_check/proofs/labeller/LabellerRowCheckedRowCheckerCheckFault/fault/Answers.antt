use Rattle.std.proofs.Common.{arith}
use Rattle.proof_check.proofs.labeller.LabellerRowCheckedRowCheckerCheckFault.fault.Goals as goal

pub loop-pebble-init : goal.loop-pebble-init
loop-pebble-init c = λ earlier low. absurd (omega (arith, low))

pub returns-clause-fault : goal.returns-clause-fault
returns-clause-fault c = λ pebble below.
    c.loop-pebble.invariant pebble (omega (arith, below, c.pebbles-pebble-end.ensures, c.loop-pebble-test.false))
