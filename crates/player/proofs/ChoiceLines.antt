-- The words for what can be typed.
use Rattle.std.proofs.Common.{◌≡◌, ◌≢◌, ℕ, ◌-◌, List, ◌++◌, ◌∙◌, ap, append_assoc, codes, refl, subst, sym}
use Rattle.std.proofs.lemmas.Bool.{ne_eqb}
use Rattle.std.specs.Prelude.{if◌then◌else◌}
use Rattle.std.specs.Fmt.{decimal}
use Rattle.strategies.specs.Best.{IsBestRequest}
use Rattle.player.specs.Inside.PlayState.{PlayState}
use Rattle.player.specs.Inside.Prompts.{AreLegalAt}
use Rattle.player.specs.Prompts.{AreChoices, label_choices, pebble_choices}
use Rattle.player.specs.Transcript.{PersonAnswers}
use Rattle.player.proofs.AnswerLines.{legal_at, legal_there}

-- the labels that are legal for the pebble that is asked for are the choices
pub are_choices : (inside seat : PlayState) → inside ≡ seat → (asked : ℕ) (labels : List ℕ)
    → IsBestRequest inside.board inside.at asked → AreLegalAt seat labels
    → AreChoices (PersonAnswers seat.board) seat.at (label_choices asked labels)
are_choices inside seat same asked labels best (ascend, legal) =
    subst (λ (s : PlayState). AreChoices (PersonAnswers s.board) s.at (label_choices asked labels)) same (
      asked,
      labels,
      best,
      record {
        ascending = ascend;
        legal = λ label. (
          λ listed. legal_there inside seat same asked label best ((legal label).0 listed),
          λ is. (legal label).1 (legal_at inside seat same asked label best is),
        );
      },
      refl,
    )

-- the words for pebbles
pub one_pebble : (pebbles : ℕ) → pebbles ≡ 1 → codes "type 0, the only pebble, or quit" ≡ pebble_choices pebbles
one_pebble pebbles one = ap pebble_choices (sym one)

pub many_pebbles : (pebbles : ℕ) → pebbles ≢ 1
    → codes "type a pebble, 0 to " ++ (decimal (pebbles - 1) ++ codes ", or quit") ≡ pebble_choices pebbles
many_pebbles pebbles many =
    sym (append_assoc (codes "type a pebble, 0 to ") (decimal (pebbles - 1)) (codes ", or quit"))
    ∙ sym (ap (λ t. if t then codes "type 0, the only pebble, or quit"
    else codes "type a pebble, 0 to " ++ decimal (pebbles - 1) ++ codes ", or quit") (ne_eqb pebbles 1 many))

-- five texts as one
pub five : (a b c d e : List ℕ) → a ++ (b ++ (c ++ (d ++ e))) ≡ a ++ b ++ c ++ d ++ e
five a b c d e = simp append_assoc
