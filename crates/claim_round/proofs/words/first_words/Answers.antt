use Rattle.std.proofs.Common.{◌++◌, ap, ◌∙◌}
use Rattle.claim_round.proofs.OpeningWords.{words-are}
use Rattle.claim_round.proofs.words.first_words.Goals as goal

pub returns : goal.returns
returns g c =
    words-are c.args.solver.now c.counts-counts.result.now c.words-values.result.now c.append-2.new.words.items
    c.counts-counts.ensures.size c.words-values.ensures.size
    c.counts-counts.ensures.counts c.words-values.ensures.values
    (c.append-2.ensures.items ∙ ap (λ xs. xs ++ c.words-values.result.now)
    (c.append.ensures.items ∙ ap (λ xs. xs ++ c.counts-counts.result.now) c.in_ok-words.ensures.items))
