use Rattle.strategies.proofs.SmallBoard as small
use Rattle.strategies.proofs.LonePebble as lone
use Rattle.strategies.proofs.laws_of_documents.documents_of_small_boards.Goals as goal

pub returns : goal.returns
returns c = record { finite = small.is_document; forever = lone.is_document; boards = (small.is_board, lone.is_board) }
