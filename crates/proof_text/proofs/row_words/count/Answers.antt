use Rattle.std.proofs.Common.{refl}
use Rattle.proof_text.proofs.SpelledRows.{are_turns}
use Rattle.proof_text.proofs.row_words.count.Goals as goal

pub returns-in-Forever : goal.returns-in-Forever
returns-in-Forever c = rw c.in-Forever.is (λ n are same. are)

pub returns-in_ok-within-in_default : goal.returns-in_ok-within-in_default
returns-in_ok-within-in_default c =
    let is = c.in_ok-within-in_default.ensures in
    let turns = c.in_ok-within-in_default.field-0 in
    (are_turns c.args.claim turns c.in_default.not-Forever (is.0, is.1), (turns, refl, is.2))
