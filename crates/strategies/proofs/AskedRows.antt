-- The adversary's rows of a document, which has none if the start lasts forever.
use Rattle.positions.specs.Ranks.{rank_of}
use Rattle.proof_text.specs.Positions.{configuration_positions}
use Rattle.std.proofs.Common.{List, map, sym, subst}
use Rattle.board_text.specs.PlainBoard.{PlainBoard}
use Rattle.positions.specs.declared.value.Value.{Value}
use Rattle.positions.specs.declared.value.Value.TheVariants.{Finite, Forever}
use Rattle.positions.specs.Table.{RequestRow}
use Rattle.proof_text.specs.declared.proof.AdversaryRow.{AdversaryRow}
use Rattle.proof_text.specs.Proof.{request_row}
use Rattle.strategies.specs.Inside.Side.{AreAdversaryRows}
use Rattle.strategies.specs.PositionDocument.{AsksAdversary, IsAdversaryRowOver, AreExactlyOver}
use Rattle.strategies.proofs.RowLists.{no_rows, same_fact}

pub asked_rows : (board : PlainBoard) (value : Value) (rows : List AdversaryRow) → AreAdversaryRows board value rows
    → AreExactlyOver (rank_of board) (λ row. AsksAdversary value × IsAdversaryRowOver configuration_positions board row)
    (λ row. row.at) (map (request_row board)
    rows)
asked_rows board (Finite number) rows are =
    same_fact (rank_of board) (λ row. row.at) _ _ (map (request_row board) rows)
    (λ row. (λ is_row. (tt, is_row), λ asked. asked.1)) are.exactly
asked_rows board Forever rows none =
    subst (λ (l : List AdversaryRow). AreExactlyOver (rank_of board)
    (λ (row : RequestRow). AsksAdversary Forever × IsAdversaryRowOver configuration_positions
    board row) (λ row. row.at) (map (request_row board) l))
    (sym none) (no_rows (rank_of board) (λ row. row.at) _ (λ row asked. asked.0))
