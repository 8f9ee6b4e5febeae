-- The reasons why a joined text has no answer.
use Rattle.std.proofs.Common.{◌≡◌, ℕ, List, ◌++◌, take, drop, sym, ap, ◌∙◌, take-append-drop}
use Rattle.board_text.specs.PlainBoard.{PlainBoard, IsBoard}
use Rattle.board_text.specs.BoardText.{board_text}
use Rattle.runs.specs.Verdicts.{CannotAnswer, BeginsWithBoard}
use Rattle.runs.specs.Joined.{IsBoardLength}
use Rattle.runs.specs.Texts.{HasNoneAmong, HasNoProof, IsBoardAmong, OfAnySize}
use Rattle.runs.specs.declared.fault.RunFault.{RunFault}
use Rattle.runs.specs.declared.fault.RunFault.TheVariants.{Board, TooLarge, Proof, Memory}

pub begins_with : (text front rest : List ℕ) (board : PlainBoard) → IsBoard board → text ≡ front ++ rest
    → front ≡ board_text board
    → BeginsWithBoard text board rest
begins_with text front rest board is whole spelled =
    record { is_board = is; text_is = whole ∙ ap (λ (f : List ℕ). f ++ rest) spelled }

pub no_board : (text front rest : List ℕ) (size : ℕ) (fault : RunFault) → IsBoardLength text size
    → front ≡ take size text
    → text ≡ front ++ rest → HasNoneAmong OfAnySize front fault → CannotAnswer text fault
no_board text front rest size (Board fault) first is whole (has, no_memory) = (size, first, rw (← is) has, no_memory)
no_board text front rest size Memory first is whole h = tt
no_board text front rest size TooLarge first is whole (board, is_board, spelled, many) = absurd (many tt)
no_board text front rest size fault first is whole h = absurd h

pub no_proof : (text front rest : List ℕ) (board : PlainBoard) (fault : RunFault)
    → IsBoardAmong OfAnySize front board
    → text ≡ front ++ rest
    → HasNoProof board rest fault → CannotAnswer text fault
no_proof text front rest board (Proof fault) is whole h =
    (board, rest, begins_with text front rest board is.is_board whole is.spelled, h)
no_proof text front rest board TooLarge is whole h =
    (board, rest, begins_with text front rest board is.is_board whole is.spelled, h)
no_proof text front rest board Memory is whole h = tt
no_proof text front rest board fault is whole h = absurd h

pub two_parts : (text front rest : List ℕ) (size : ℕ) → front ≡ take size text → rest ≡ drop size text
    → text ≡ front ++ rest
two_parts text front rest size before behind = sym (rw (before, behind) (take-append-drop size text))
