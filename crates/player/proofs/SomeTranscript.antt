-- Lines have a transcript.
use Rattle.std.proofs.Common.{◌≡◌, ◌≢◌, ℕ, suc, ◌<◌, ◌⊎◌, List, [], ◌∷◌, ◌++◌, replicate, inl, inr, refl, sym, subst}
use Rattle.std.proofs.Common.{arith}
use Rattle.std.specs.Fmt.{decimal}
use Rattle.std.proofs.lemmas.Bool.{cases_eq}
use Rattle.board_text.specs.PlainBoard.{PlainBoard, IsConfiguration}
use Rattle.positions.specs.declared.value.Value.TheVariants.{Finite}
use Rattle.positions.specs.Game.{Legal, moved}
use Rattle.positions.specs.Value.{HasValue}
use Rattle.positions.proofs.Cited.{each_or_some, dominates_or_not, moved_is_configuration, some_value}
use Rattle.nested_cycles.specs.NestedGame.{other_words}
use Rattle.nested_cycles.proofs.Cited.{others_are_good}
use Rattle.strategies.specs.Best.{IsBestRequest}
use Rattle.strategies.proofs.Cited.{best_answer, best_request, same_request}
use Rattle.player.specs.Words.{quit_line}
use Rattle.player.specs.Laws.{IsGame}
use Rattle.player.specs.NestedPlay.{IsNestedPlay, IsGoodConfiguration}
use Rattle.player.specs.Transcript.{Game, PersonAsks, PersonAnswers, PersonClimbs, Standing, Going, Over, RepliesToLine}
use Rattle.player.specs.Transcript.{Replies, NestedReplies, Asks, BeginsPlay, IsResponse, AreResponses, IsPlayed}
use Rattle.player.specs.Transcript.{IsTranscript, IsLegalLine, opening_lines, takes_line, at_line, stuck_line}
use Rattle.player.specs.Transcript.{stopped_line, no_request_line, no_answer_line, word_text, words_line}
use Rattle.player.specs.Transcript.{nested_opening_lines}
use Rattle.player.specs.declared.end.PlayEnd.{PlayEnd}
use Rattle.player.specs.declared.end.PlayEnd.TheVariants.{Stuck, Stopped}
use Rattle.player.proofs.AnswerLines.{some_legal_or_none, has_request, has_opening, finite_after}
use Rattle.player.proofs.NestedTrees.{after_request, has_board, has_label, zeros_are_good}

-- two lines are the same or not
same_line : (line other : List ℕ) → (line ≡ other) ⊎ (line ≢ other)
same_line [] [] = inl refl
same_line [] (second ∷ others) = inr (λ same. cc)
same_line (first ∷ rest) [] = inr (λ same. cc)
same_line (first ∷ rest) (second ∷ others) =
    elim (cases_eq first second) [
      | inl same ↦ elim (same_line rest others) [
        | inl too ↦ inl (rw (same, too) refl)
        | inr differ ↦ inr (λ all. let rests : rest ≡ others = cc in differ rests)
      ]
      | inr differ ↦ inr (λ all. let firsts : first ≡ second = cc in differ firsts)
    ]

-- a play that goes on is at a configuration of the board, of a finite value if the person answers, or at good words
abbrev StandsFor : Game → Standing → Type 0
StandsFor game (Over end) = Unit {0}
StandsFor (PersonAsks board) (Going at requests) = IsConfiguration board at
StandsFor (PersonAnswers board) (Going at requests) = (number : ℕ) × HasValue board at (Finite number)
StandsFor (PersonClimbs levels) (Going at requests) =
    (board : PlainBoard) × IsNestedPlay levels board × (board.pebbles ≡ levels) × IsGoodConfiguration levels board at

-- the response to a line, and the state of the play after it
record BringsSome (game : Game) (from : Standing) (line : List ℕ) : Type 0 where
  pub said : List ℕ
  pub to : Standing
  pub brings : IsResponse game from line said to
  pub stands : StandsFor game to

-- ---- one line

-- a line that names a pebble has a response if each request has an answer
module _ (pebbles : ℕ) (Answers : ℕ → List ℕ → Standing → Type 0) (Stands : Standing → Type 0) (at : List ℕ)
    (requests : ℕ)
    (stands : Stands (Going at requests)) (over : (end : PlayEnd) → Stands (Over end))
    (answer : (pebble : ℕ) → pebble < pebbles → (said : List ℕ) × (to : Standing) × Answers pebble said to
    × Stands to) where
  reply_to_line : (line : List ℕ)
      → (said : List ℕ) × (to : Standing) × RepliesToLine pebbles Answers (Going at requests) line said to × Stands to
  reply_to_line line =
      elim (same_line line quit_line) [
        | inl asked ↦ (
          stopped_line requests,
          Over (Stopped requests),
          inr (inl (asked, refl, refl)),
          over (Stopped requests),
        )
        | inr not ↦ elim (each_or_some (λ pebble. line ≢ decimal pebble) (λ pebble. line ≡ decimal pebble) pebbles
            (λ pebble inside.
            elim (same_line line (decimal pebble)) [ inl same ↦ inr same | inr differ ↦ inl differ ])) [
              | inl none ↦ (no_request_line, Going at requests, inr (inr ((not, none), refl, refl)), stands)
              | inr some ↦
                  let found = answer some.0 some.1 in
                  (found.0, found.1, inl (some.0, some.1, some.2, found.2), found.3)
            ]
      ]

module _ (board : PlainBoard) (at : List ℕ) (requests : ℕ) where
  some_reply : IsConfiguration board at → (pebble : ℕ)
      → (said : List ℕ) × (to : Standing) × Replies board at requests pebble said to × StandsFor (PersonAsks board) to
  some_reply is pebble =
      elim (some_legal_or_none board at pebble) [
        | inl some ↦
            let best = best_answer board at pebble is some.0 some.1 in
            let after = moved at pebble best.0 in (
              takes_line pebble (decimal best.0) ++ at_line board after,
              Going after (suc requests),
              inl (best.0, best.1, refl, refl),
              moved_is_configuration board at pebble best.0 best.1.0.legal.is_label is,
            )
        | inr none ↦ (stuck_line pebble requests, Over (Stuck requests), inr (none, refl, refl), tt)
      ]

  -- the line is a legal label for the best request, or not
  legal_line : (number : ℕ) → HasValue board at (Finite number) → (line : List ℕ)
      → ((pebble label : ℕ) × IsLegalLine board at line pebble label)
      ⊎ ((pebble label : ℕ) → IsLegalLine board at line pebble label → ⊥)
  legal_line number has line = by (best_request board number at has)
    where
      by : (pebble : ℕ) × IsBestRequest board at pebble
          → ((pebble label : ℕ) × IsLegalLine board at line pebble label)
          ⊎ ((pebble label : ℕ) → IsLegalLine board at line pebble label → ⊥)
      by (pebble, best) =
          elim (each_or_some (λ label. Legal board at pebble label × (line ≡ decimal label) → ⊥)
          (λ label. Legal board at pebble label × (line ≡ decimal label)) board.labels (λ label inside.
          elim (same_line line (decimal label)) [
            | inr differ ↦ inl (λ legal. differ legal.1)
            | inl same ↦ elim (dominates_or_not board at pebble label) [
              | inl dominates ↦ inr (record { is_label = inside; dominates = dominates }, same)
              | inr not ↦ inl (λ legal. not legal.0.dominates)
            ]
          ])) [
            | inr some ↦ inl (pebble, some.0, (best, some.2.0, some.2.1))
            | inl none ↦ inr (λ other label legal.
                let same : other ≡ pebble = same_request board at other pebble legal.0 best in
                none label legal.1.is_label (subst (λ p. Legal board at p label) same legal.1, legal.2))
          ]

-- after the program asks at a finite value the play is at a finite value, or over
stands_asked : (board : PlainBoard) (at : List ℕ) (number requests : ℕ) (said : List ℕ) (to : Standing)
    → HasValue board at (Finite number)
    → Asks board at requests said to → StandsFor (PersonAnswers board) to
stands_asked board at number requests said to has (pebble, best, inl asks) =
    subst (StandsFor (PersonAnswers board)) (sym asks.2) (number, has)
stands_asked board at number requests said to has (pebble, best, inr asks) =
    subst (StandsFor (PersonAnswers board)) (sym asks.2) tt

answer_line : (board : PlainBoard) (at : List ℕ) (requests : ℕ) → StandsFor (PersonAnswers board) (Going at requests)
    → (line : List ℕ)
    → BringsSome (PersonAnswers board) (Going at requests) line
answer_line board at requests (number, has) line =
    elim (same_line line quit_line) [
      | inl asked ↦ record {
        said = stopped_line requests;
        to = Over (Stopped requests);
        brings = inr (inl (asked, refl, refl));
        stands = tt;
      }
      | inr not ↦ elim (legal_line board at requests number has line) [
        | inr none ↦ record {
          said = no_answer_line;
          to = Going at requests;
          brings = inr (inr ((not, none), refl, refl));
          stands = (number, has);
        }
        | inl some ↦
            let after = moved at some.0 some.1 in
            let finite = finite_after board at some.0 some.1 some.2.0 some.2.1 in
            let asked = has_request board after finite.0 (suc requests) finite.1 in
            record {
              said = at_line board after ++ asked.said;
              to = asked.to;
              brings = inl (some.0, some.1, asked.said, some.2, asked.asks, refl);
              stands = stands_asked board after finite.0 (suc requests) asked.said asked.to finite.1 asked.asks;
            }
      ]
    ]

climb_on : (levels : ℕ) (board : PlainBoard) (at : List ℕ) (requests : ℕ) → IsNestedPlay levels board
    → board.pebbles ≡ levels → IsGoodConfiguration levels board at
    → (pebble : ℕ) → pebble < levels → (said : List ℕ) × (to : Standing)
    × NestedReplies levels at requests pebble said to × StandsFor (PersonClimbs levels) to
climb_on levels board at requests nested each good pebble inside =
    let below : pebble < board.pebbles = rw each inside in
    let found = has_label levels (other_words pebble at)
    (others_are_good levels at pebble (omega (arith, good.are_labels.0, below)) good.good) in (
      takes_line pebble (word_text levels found.label) ++ words_line levels (moved at pebble found.label),
      Going (moved at pebble found.label) (suc requests),
      (found.label, found.is_label, found.reply, refl, refl),
      (
        board,
        nested,
        each,
        after_request levels board at pebble found.label nested good below found.is_label found.reply,
      ),
    )

brings_some : (game : Game) (from : Standing) (line : List ℕ) → StandsFor game from → BringsSome game from line
brings_some (PersonAsks board) (Over end) line stands =
    record { said = []; to = Over end; brings = (refl, refl); stands = tt }
brings_some (PersonAnswers board) (Over end) line stands =
    record { said = []; to = Over end; brings = (refl, refl); stands = tt }
brings_some (PersonClimbs levels) (Over end) line stands =
    record { said = []; to = Over end; brings = (refl, refl); stands = tt }
brings_some (PersonAsks board) (Going at requests) line stands =
    let found = reply_to_line board.pebbles (Replies board at requests)
    (StandsFor (PersonAsks board)) at requests stands (λ end. tt)
    (λ pebble inside. some_reply board at requests stands pebble) line in
    record { said = found.0; to = found.1; brings = found.2; stands = found.3 }
brings_some (PersonAnswers board) (Going at requests) line stands = answer_line board at requests stands line
brings_some (PersonClimbs levels) (Going at requests) line (board, nested, each, good) =
    let found = reply_to_line levels (NestedReplies levels at requests) (StandsFor (PersonClimbs levels)) at requests
    (board, nested, each, good) (λ end. tt)
    (climb_on levels board at requests nested each good) line in
    record { said = found.0; to = found.1; brings = found.2; stands = found.3 }

-- ---- all lines

brings_all : (game : Game) (from : Standing) (lines : List (List ℕ)) → StandsFor game from
    → (text : List ℕ) × (to : Standing) × AreResponses game from lines text to
brings_all game from [] stands = ([], from, (refl, refl))
brings_all game from (line ∷ lines) stands =
    let one = brings_some game from line stands in
    let more = brings_all game one.to lines one.stands in
    (one.said ++ more.0, more.1, (one.said, more.0, one.to, one.brings, more.2, refl))

-- the text before the first line is read, and the state of the play after it
record OpensSome (game : Game) : Type 0 where
  pub said : List ℕ
  pub to : Standing
  pub opens : BeginsPlay game said to
  pub stands : StandsFor game to

answers_stand : (board : PlainBoard) (said : List ℕ) (to : Standing) → BeginsPlay (PersonAnswers board) said to
    → StandsFor (PersonAnswers board) to
answers_stand board said to (inl none) = subst (StandsFor (PersonAnswers board)) (sym none.2) tt
answers_stand board said to (inr (number, asked, has, text, asks)) =
    stands_asked board board.start number 0 asked to has asks

opens_some : (game : Game) → IsGame game → OpensSome game
opens_some (PersonAsks board) is =
    let value = some_value board board.start is.start in
    record {
      said = opening_lines board value.0 board.start;
      to = Going board.start 0;
      opens = (value.0, value.1, refl, refl);
      stands = is.start;
    }
opens_some (PersonAnswers board) is =
    let value = some_value board board.start is.start in
    let opening = has_opening board value.0 value.1 in
    record {
      said = opening.said;
      to = opening.to;
      opens = opening.opens;
      stands = answers_stand board opening.said opening.to opening.opens;
    }
opens_some (PersonClimbs levels) is =
    let nested = has_board levels levels (omega arith) in
    record {
      said = nested_opening_lines levels;
      to = Going (replicate levels 0) 0;
      opens = (refl, refl);
      stands = (nested.0, nested.1, nested.2, zeros_are_good levels nested.0 levels nested.2);
    }

transcribed : (game : Game) (lines : List (List ℕ)) (text : List ℕ) (to : Standing) → IsPlayed game lines text to
    → (whole : List ℕ) × (end : PlayEnd) × IsTranscript game lines whole end
transcribed game lines text (Going at requests) played =
    (text ++ stopped_line requests, Stopped requests, inr (at, text, requests, played, refl, refl))
transcribed game lines text (Over end) played = (text, end, inl played)

pub some_transcript : (game : Game) (lines : List (List ℕ)) → IsGame game
    → (text : List ℕ) × (end : PlayEnd) × IsTranscript game lines text end
some_transcript game lines is =
    let opening = opens_some game is in
    let rest = brings_all game opening.to lines opening.stands in
    transcribed game lines (opening.said ++ rest.0) rest.1
    (record {
      opening = opening.said;
      first = opening.to;
      more = rest.0;
      opens = opening.opens;
      brings = rest.2;
      text_is = refl;
    })
