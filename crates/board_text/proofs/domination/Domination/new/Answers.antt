use Rattle.std.proofs.Common.{◌≡◌, ◌*◌, replicate, refl}
use Rattle.board_text.specs.Inside.Domination.{mark_of}
use Rattle.board_text.proofs.DominationPairs.{pairs_none}
use Rattle.board_text.proofs.BitRows.{rows_new, no_bit}
use Rattle.board_text.proofs.domination.Domination.new.Goals as goal

fresh : (c : goal.In_ok-vec) → c.in_ok-vec.field-0.items ≡ replicate (4 * c.args.labels) 0
fresh c = c.in_ok-vec.ensures.items_if_clones_equal (λ y e. e)

pub invariant_of-result : goal.invariant_of-result
invariant_of-result c = rw (fresh c) (rows_new c.args.labels c.requires)

pub returns : goal.returns
returns c = (
  refl,
  rw (fresh c) (pairs_none c.args.labels (mark_of c.args.labels (replicate (4 * c.args.labels) 0))
      (c.args.labels * c.args.labels) (λ place low high. no_bit (4 * c.args.labels) _ _)),
)
