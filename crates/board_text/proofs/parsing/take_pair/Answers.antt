use Rattle.std.proofs.Common.{[], ◌∷◌, ◌<◌, refl, arith}
use Rattle.std.proofs.lemmas.List.Elements.{All-nil, All-cons}
use Rattle.board_text.proofs.parsing.take_pair.Goals as goal

pub returns-in_err-numbers_line : goal.returns-in_err-numbers_line
returns-in_err-numbers_line c =
    rw c.from_residual.ensures (λ p more are e.
    c.in_err-numbers_line.ensures (p.0 ∷ p.1 ∷ []) more (
      refl,
      All-cons (λ n. n < c.args.labels) p.0 (p.1 ∷ []) (omega (arith, are.0))
          (All-cons (λ n. n < c.args.labels) p.1 [] (omega (arith, are.1)) (All-nil (λ n. n < c.args.labels))),
    ) e)
