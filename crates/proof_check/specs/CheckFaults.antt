-- Why a document by configurations is refused.
use Rattle.std.specs.Prelude.{◌≡◌, ◌<◌, ◌⊎◌}
use Rattle.board_text.specs.PlainBoard.{PlainBoard}
use Rattle.positions.specs.Ranks.{rank_of, configurations}
use Rattle.proof_text.specs.Positions.{configuration_positions}
use Rattle.proof_text.specs.Proof.{PlainProof}
use Rattle.proof_check.specs.Refusals.{Refusals, IsFirstFault}
use Rattle.proof_check.specs.declared.fault.CheckFault.{CheckFault}
use Rattle.proof_check.specs.declared.fault.CheckFault.TheVariants as faults

-- faults that name rows by their ranks
abbrev pub rank_refusals : PlainBoard → Refusals CheckFault
rank_refusals board = record {
  positions = configuration_positions;
  start_missing = faults.StartMissing;
  start_number = faults.StartNumber;
  illegal_answer = λ at pebble. faults.IllegalAnswer (rank_of board at) pebble;
  unlisted = λ side at turn. faults.Unlisted side (rank_of board at) turn;
  too_small = λ at pebble. faults.TooSmall (rank_of board at) pebble;
  not_stuck = λ at label. faults.NotStuck (rank_of board at) label;
  too_large = λ at label. faults.TooLarge (rank_of board at) label;
}

-- The fault is the first one, or out of memory, at any place.
abbrev pub IsCheckFault : PlainBoard → PlainProof → CheckFault → Type 0
IsCheckFault board proof fault =
    (fault ≡ faults.Memory) ⊎ IsFirstFault (rank_refusals board) board proof fault

-- the rank of a row that the fault names is one of the board's
abbrev pub NamesRanks : PlainBoard → CheckFault → Type 0
NamesRanks board (faults.IllegalAnswer at pebble) = at < configurations board
NamesRanks board (faults.Unlisted side at turn) = at < configurations board
NamesRanks board (faults.TooSmall at pebble) = at < configurations board
NamesRanks board (faults.NotStuck at label) = at < configurations board
NamesRanks board (faults.TooLarge at label) = at < configurations board
NamesRanks board fault = Unit {0}
