use Rattle.proof_check.proofs.RowCounts.{enough_by_count, always_by_count}
use Rattle.proof_check.proofs.turns.least_count.Goals as goal

pub returns-in-Count-clause-enough : goal.returns-in-Count-clause-enough
returns-in-Count-clause-enough c = rw c.in-Count.is (λ turns most. enough_by_count c.in-Count.turns turns most)

pub returns-in-Always-clause-enough : goal.returns-in-Always-clause-enough
returns-in-Always-clause-enough c = rw c.in-Always.is (λ turns most. always_by_count turns most)
