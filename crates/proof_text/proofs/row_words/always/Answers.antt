use Rattle.proof_text.proofs.SpelledRows.{no_star_turns}
use Rattle.proof_text.proofs.row_words.always.Goals as goal

pub returns-in_default : goal.returns-in_default
returns-in_default c = no_star_turns c.args.claim c.in_default.not-Forever
