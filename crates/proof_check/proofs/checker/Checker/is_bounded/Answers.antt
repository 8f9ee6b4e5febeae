use Rattle.std.proofs.Common.{◌≡◌, ◌<◌, ◌≤◌, length, slice_index, subst, arith, rules}
use Rattle.std.proofs.lemmas.Bool.{leb-true}
use Rattle.positions.specs.Ranks.{configuration_at}
use Rattle.positions.proofs.Cited.{configuration_at_is}
use Rattle.proof_check.specs.Inside.GapBounds.{IsBound}
use Rattle.proof_check.proofs.GapBounds.{listed_below_more, served_by_gap}
use Rattle.proof_check.proofs.checker.Checker.is_bounded.Goals as goal

pub returns-then-bound-lt-NO_BOUND : goal.returns-then-bound-lt-NO_BOUND
returns-then-bound-lt-NO_BOUND c = λ most.
    let v = c.args.self.now in
    let row = c.args.row.now in
    let is = configuration_at_is v.board row.at c.requires.is_rank in
    let within : c.gap-gap.result < length c.bounds.result.now = search rules in
    let held : c.in-Some.bound.now ≡ slice_index c.bounds.result.now c.gap-gap.result = search rules in
    let bound : IsBound v.board v.proof.adversary c.gap-gap.result c.in-Some.bound.now =
    rw held (c.bounds.ensures c.gap-gap.result within) in
    let gap_is = rw c.space.ensures at c.gap-gap.ensures.gap in
    let up : c.in-Some.bound.now ≤ row.left = leb-true c.in-Some.bound.now row.left most in
    record {
      asks = omega (arith, is.each_pebble, c.requires.is_pebble);
      each = λ label legal. listed_below_more v.proof.adversary _ c.in-Some.bound.now row.left up
          (served_by_gap v.board v.proof.adversary (configuration_at v.board row.at) row.ask c.in-Some.bound.now is
          c.requires.is_pebble (subst (λ g. IsBound v.board v.proof.adversary g c.in-Some.bound.now) gap_is bound)
          c.if-bound-lt-NO_BOUND.true label legal);
    }
