-- The document of the board with a lone pebble.
use Rattle.positions.specs.Ranks.{rank_of}
use Rattle.proof_text.specs.Positions.{configuration_positions}
use Rattle.std.proofs.Common.{◌≡◌, ℕ, zero, suc, ◌<◌, List, [], ◌∷◌, slice_index, refl, sym, subst, arith}
use Rattle.std.proofs.lemmas.List.Elements.{All-cons, All-nil}
use Rattle.board_text.specs.PlainBoard.{IsBoard}
use Rattle.board_text.proofs.Cited.{start_from_numbers}
use Rattle.positions.specs.declared.value.Value.TheVariants.{Forever}
use Rattle.positions.specs.declared.turns.Turns.TheVariants.{Always}
use Rattle.positions.specs.Game.{Legal, LabellerTree, moved}
use Rattle.positions.specs.Inside.Game.{HasAnswer}
use Rattle.positions.specs.Table.{AnswerRow, RequestRow}
use Rattle.strategies.specs.Best.{HasNoGreaterValue, IsBestAnswer}
use Rattle.strategies.specs.Document.{IsDocumentOf}
use Rattle.strategies.specs.DocumentMoves.{IsAnswerMove, LeadsOver}
use Rattle.strategies.specs.PositionDocument.{AsksAdversary, IsLabellerRowOver, IsAdversaryRowOver, AreExactlyOver}
use Rattle.strategies.specs.Example.{lone_board, lone_document}
use Rattle.strategies.proofs.OneList.{one_answer_row}
use Rattle.strategies.proofs.RowLists.{no_rows, one_row}

pub is_board : IsBoard lone_board
is_board = record {
  labels = (omega arith, omega arith);
  pebbles = (omega arith, omega arith);
  start = start_from_numbers lone_board
      (refl, All-cons (λ place. place < 2) 0 [] (omega arith) (All-nil (λ place. place < 2)));
  pairs = record {
    of_labels = λ k d inside. absurd (omega arith);
    ascending = λ i j d less inside. absurd (omega arith);
    one_way = λ x y one other. absurd (let inside : one.0 < 0 = one.1 in omega arith);
  };
}

abbrev start : List ℕ
start = 0 ∷ []

-- the pebble may stay on its label
stays : Legal lone_board start 0 0
stays = record { is_label = omega arith; dominates = λ other below differs. absurd (differs (omega arith)) }

answer : (depth pebble : ℕ) → pebble < 1 → LabellerTree lone_board depth start → HasAnswer lone_board depth start pebble
answer depth zero below lasts = (0, stays, lasts)
answer depth (suc pebble) below lasts = absurd (omega arith)

lasts : (depth : ℕ) → LabellerTree lone_board depth start
lasts zero = tt
lasts (suc depth) = λ pebble below. answer depth pebble below (lasts depth)

only_label : (label : ℕ) → Legal lone_board start 0 label → label ≡ 0
only_label label legal = let is_label : label < 1 = legal.is_label in omega arith

best_answer : IsBestAnswer lone_board start 0 0
best_answer = (
  record {
    legal = stays;
    greatest = λ other legal.
        subst (λ (l : ℕ). HasNoGreaterValue lone_board (moved start 0 l) start) (sym (only_label other legal))
        (record { value = Forever; bound = Forever; of_first = lasts; of_second = lasts; not_greater = λ less. less });
  },
  λ other best. omega arith,
)

abbrev answers : AnswerRow
answers = record { at = start; turns = Always; answers = 0 ∷ [] }

is_row : IsLabellerRowOver configuration_positions lone_board Forever answers
is_row = record {
  moves = [];
  reached = refl;
  value = Forever;
  has_value = lasts;
  some = tt;
  turns = refl;
  one_each = refl;
  best = best;
}
  where
    best : (pebble : ℕ) → pebble < 1 → IsBestAnswer lone_board start pebble (slice_index (0 ∷ []) pebble)
    best zero below = best_answer
    best (suc pebble) below = absurd (omega arith)

only_start : (moves : List (ℕ × ℕ)) (to : List ℕ) → LeadsOver configuration_positions (IsAnswerMove lone_board) start
    moves to → start ≡ to
only_start [] to leads = leads
only_start ((zero, label) ∷ moves) to leads =
    only_start moves to (subst
    (λ (l : ℕ). LeadsOver configuration_positions (IsAnswerMove lone_board) (moved start 0 l) moves to)
    (only_label label leads.0.best.0.legal) leads.1)
only_start ((suc pebble, label) ∷ moves) to leads = absurd (omega (arith, leads.0.is_pebble))

labeller_rows : AreExactlyOver (rank_of lone_board) (IsLabellerRowOver configuration_positions lone_board Forever)
    (λ (row : AnswerRow). row.at) lone_document.labeller
labeller_rows = one_row (rank_of lone_board) (λ (row : AnswerRow). row.at)
    (IsLabellerRowOver configuration_positions lone_board Forever) answers is_row
    (λ row is. one_answer_row lone_board configuration_positions Forever answers row is_row is
    (only_start is.moves row.at is.reached))

adversary_rows : AreExactlyOver (rank_of lone_board)
    (λ (row : RequestRow). AsksAdversary Forever × IsAdversaryRowOver configuration_positions lone_board row)
    (λ (row : RequestRow). row.at) lone_document.adversary
adversary_rows = no_rows (rank_of lone_board) (λ (row : RequestRow). row.at) _ (λ row asked. asked.0)

pub is_document : IsDocumentOf lone_board lone_document
is_document =
    record { value = Forever; has_value = lasts; claim = refl; labeller = labeller_rows; adversary = adversary_rows }
