-- Why a document whose rows have normal places is refused.
use Rattle.std.specs.Prelude.{◌≡◌, ℕ, List}
use Rattle.board_text.specs.PlainBoard.{PlainBoard, IsConfiguration}
use Rattle.proof_text.specs.Arranged.{arranged, document_number}
use Rattle.proof_text.specs.Positions.{normal_positions}
use Rattle.proof_text.specs.Proof.{PlainProof}
use Rattle.proof_check.specs.Refusals.{Refusals, IsFirstFault}
use Rattle.proof_check.specs.declared.class_fault.ClassFault.{ClassFault}
use Rattle.proof_check.specs.declared.class_fault.ClassFault.TheVariants as faults

-- faults that name rows by the numbers of their places in the order of documents
abbrev pub order_refusals : ℕ → (List ℕ → List ℕ) → Refusals ClassFault
order_refusals labels normal = record {
  positions = normal_positions normal;
  start_missing = faults.StartMissing;
  start_number = faults.StartNumber;
  illegal_answer = λ at pebble. faults.IllegalAnswer (document_number labels at) pebble;
  unlisted = λ side at turn. faults.Unlisted side (document_number labels at) turn;
  too_small = λ at pebble. faults.TooSmall (document_number labels at) pebble;
  not_stuck = λ at label. faults.NotStuck (document_number labels at) label;
  too_large = λ at label. faults.TooLarge (document_number labels at) label;
}

-- the fault is the first one of a document by classes
abbrev pub IsFirstClassFault : PlainBoard → PlainProof → ClassFault → Type 0
IsFirstClassFault board proof fault =
    IsFirstFault (order_refusals board.labels (arranged board.labels)) board proof fault

-- the number is that of a configuration of the board
abbrev pub IsOrderNumber : PlainBoard → ℕ → Type 0
IsOrderNumber board number =
    (at : List ℕ) × IsConfiguration board at × (document_number board.labels at ≡ number)

-- if the fault names a row, it is by the number of a configuration
abbrev pub NamesClass : PlainBoard → ClassFault → Type 0
NamesClass board (faults.IllegalAnswer at pebble) = IsOrderNumber board at
NamesClass board (faults.Unlisted side at turn) = IsOrderNumber board at
NamesClass board (faults.TooSmall at pebble) = IsOrderNumber board at
NamesClass board (faults.NotStuck at label) = IsOrderNumber board at
NamesClass board (faults.TooLarge at label) = IsOrderNumber board at
NamesClass board fault = Unit {0}
