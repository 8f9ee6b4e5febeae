use Rattle.std.proofs.Common.{◌≡◌, ◌∙◌, ℕ, List, Option, sym, subst}
use Rattle.board_text.specs.PlainBoard.{PlainBoard, IsBoard}
use Rattle.positions.specs.Value.{HasValue}
use Rattle.gap_values.specs.BestOfGap.{IsFirstBelow}
use Rattle.gap_values.specs.Inside.Rounds.{round_words}
use Rattle.gap_values.specs.Inside.Words.{AreRounds, IsFirstGap}
use Rattle.gap_values.proofs.FirstGaps.{first-request, first-value}
use Rattle.gap_values.proofs.values.GapValuesValueTable.request.Goals as goal
use Rattle.gap_values.proofs.values.GapValuesValueTable.request.Goals.{After-value_with}

module _ (c : After-value_with) where
  abbrev b : PlainBoard
  b = c.args._board.now

  abbrev words : List ℕ
  words = round_words c.self.inside.rounds

  abbrev word : ℕ
  word = c.first_gap-word.result.0

  abbrev pebble : Option ℕ
  pebble = c.first_gap-word.result.1

  same : c.self.inside.numbers ≡ b
  same = c.self.view_is ∙ c.requires.board

  rounds : AreRounds b words
  rounds = subst (λ board. AreRounds board words) same c.self.invariant.words

  is_board : IsBoard b
  is_board = subst IsBoard same c.self.invariant.is_board

  first : IsFirstGap words c.args.held.now b.pebbles word pebble
  first = subst (λ (l : List ℕ). IsFirstGap l c.args.held.now b.pebbles word pebble) c.words.ensures
      (subst (λ (board : PlainBoard). IsFirstGap c.words.result.now c.args.held.now board.pebbles word pebble) same
      c.first_gap-word.ensures)

pub returns-clause-value : goal.returns-clause-value
returns-clause-value c =
    subst (HasValue (b c) c.args.held.now) (sym c.value_with.ensures)
    (first-value (b c) (words c) c.args.held.now (rounds c).table (is_board c) c.requires.held (word c) (pebble c)
    (first c))

pub returns-clause-request : goal.returns-clause-request
returns-clause-request c =
    subst (λ value. IsFirstBelow (b c) c.args.held.now value (pebble c)) (sym c.value_with.ensures)
    (first-request (b c) (words c) c.args.held.now (rounds c).table (is_board c) c.requires.held (word c) (pebble c)
    (first c))
