use Rattle.std.proofs.Common.{◌^◌, ℕ, ap, ◌∙◌, arith}
use Rattle.nested_cycles.proofs.WordNumbers.{words_fit}
use Rattle.nested_cycles.proofs.copies.copy_size.Goals as goal

pub pow-requires : goal.pow-requires
pow-requires c = words_fit _ (omega arith)

pub returns : goal.returns
returns c = c.pow.ensures ∙ ap (λ (n : ℕ). 3 ^ n) (omega arith)
