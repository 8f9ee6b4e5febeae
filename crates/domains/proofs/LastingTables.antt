-- A configuration lasts for ever exactly if a closed table lists it, and finite values are below
-- their number.
use Rattle.std.proofs.Common.{◌≡◌, ℕ, suc, ◌<◌, List, [], get_or, refl, ◌∙◌, ap, subst, arith, inl, inr}
use Rattle.std.proofs.lemmas.Bool.{cases_lt}
use Rattle.board_text.specs.PlainBoard.{PlainBoard, plain_board, IsConfiguration}
use Rattle.board_text.proofs.Cited.{start_from_numbers, labels_and_places}
use Rattle.positions.specs.Value.{HasValue}
use Rattle.positions.specs.Table.{AnswerRow, IsClosed, IsListed}
use Rattle.positions.specs.Claim.{Shows, claim_of}
use Rattle.positions.specs.Ranks.{configurations}
use Rattle.positions.specs.declared.claim.Claim.TheVariants as claims
use Rattle.positions.specs.declared.value.Value.TheVariants.{Finite, Forever}
use Rattle.positions.proofs.Cited.{claim_holds, forever_from_count, lasts_at_most, not_both_trees, same_value}
use Rattle.strategies.proofs.Cited.{document_exists, shows_claim}
use Rattle.domains.proofs.ComparedValues.{LastsAsLong}
use Rattle.domains.proofs.Following.{itself, led_lasts}

-- the board with another start
abbrev from : PlainBoard → List ℕ → PlainBoard
from board configuration = plain_board board.labels board.pebbles configuration board.pairs

module _ (board : PlainBoard) (configuration : List ℕ) (is : IsConfiguration board configuration) where
  is_start : IsConfiguration (from board configuration) configuration
  is_start = start_from_numbers (from board configuration) (
    is.each_pebble,
    λ place d inside. omega (arith, is.each_place place d inside, (labels_and_places board).1),
  )

  same_game : (first second : PlainBoard) → first.labels ≡ second.labels → first.pairs ≡ second.pairs
      → first.pebbles ≡ second.pebbles → first.pebbles ≡ board.pebbles
      → LastsAsLong second configuration first configuration
  same_game first second labels pairs pebbles as_board depth =
      led_lasts first second (λ label. label) (λ pebble. pebble) (itself first second labels pairs pebbles)
      depth configuration configuration
      (record {
        long = omega (arith, is.each_pebble, pebbles, as_board);
        led_long = omega (arith, is.each_pebble, as_board);
        each = λ pebble below. elim (cases_lt (get_or configuration pebble 0) second.labels) [
          | inl low ↦ inl (low, refl)
          | inr none ↦ inr (omega (arith, none, labels))
        ];
      })

  pub table_from_forever : HasValue board configuration Forever
      → (table : List AnswerRow) × IsClosed board table × IsListed table configuration
  table_from_forever lasts =
      let start = from board configuration in
      let found = document_exists start is_start in
      let there : HasValue start configuration Forever = λ depth. same_game start board refl refl refl refl depth
      (lasts depth) in
      let value : found.1.value ≡ Forever = same_value start configuration found.1.value Forever found.1.has_value
      there in
      let claim : found.0.claim ≡ claims.Forever = found.1.claim ∙ ap claim_of value in
      let shown : Shows start found.0.labeller found.0.adversary claims.Forever
      = subst (Shows start found.0.labeller found.0.adversary) claim (shows_claim start found.0 is_start found.1) in (
        found.0.labeller,
        λ at listed pebble below.
            let answer = shown.0 at listed pebble below in (
              answer.0,
              record {
                answer = answer.1.answer;
                legal = record { is_label = answer.1.legal.is_label; dominates = answer.1.legal.dominates };
              },
              answer.2,
            ),
        shown.1,
      )

  pub forever_from_table : (table : List AnswerRow) → IsClosed board table → IsListed table configuration
      → HasValue board configuration Forever
  forever_from_table table closed listed =
      let start = from board configuration in
      let shown : Shows start table [] claims.Forever = (
        λ at here pebble below.
            let answer = closed at here pebble below in (
              answer.0,
              record {
                answer = answer.1.answer;
                legal = record { is_label = answer.1.legal.is_label; dominates = answer.1.legal.dominates };
              },
              answer.2,
            ),
        listed,
      ) in
      let there : HasValue start configuration Forever = claim_holds start table [] claims.Forever is_start shown in
      λ depth. same_game board start refl refl refl refl depth (there depth)

  pub finite_below : (number : ℕ) → HasValue board configuration (Finite number) → number < configurations board
  finite_below number has =
      elim (cases_lt number (configurations board)) [
        | inl below ↦ below
        | inr more ↦
            let lasts = forever_from_count board configuration is
            (lasts_at_most board configuration (configurations board) number more has.0) in
            absurd (not_both_trees board (suc number) configuration (lasts (suc number)) has.1)
      ]
