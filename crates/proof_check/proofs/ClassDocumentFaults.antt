-- The fault of a document whose rows have normal places: it has one at most, which names places of the board.
use Rattle.std.proofs.Common.{◌≡◌, ℕ, List, refl}
use Rattle.board_text.specs.PlainBoard.{PlainBoard}
use Rattle.proof_text.specs.Documents.{IsClassProof}
use Rattle.proof_text.specs.Positions.{normal_positions}
use Rattle.proof_text.specs.Proof.{PlainProof}
use Rattle.proof_text.specs.Rules.{BreaksNoRule}
use Rattle.proof_check.specs.ClassFaults.{NamesClass, order_refusals}
use Rattle.proof_check.specs.Refusals.{IsFirstFault}
use Rattle.proof_check.specs.declared.class_fault.ClassFault.{ClassFault}
use Rattle.proof_check.proofs.DocumentFaults.{AreNamed, HasPlaces, document}
use Rattle.proof_check.proofs.Steps.{IsStep}

named : (board : PlainBoard) (normal : List ℕ → List ℕ)
    → AreNamed (order_refusals board.labels normal) board (NamesClass board)
named board normal = record {
  missing = λ side. tt;
  number = λ side. tt;
  illegal = λ at pebble is. (at, is, refl);
  unlisted = λ side at turn is. (at, is, refl);
  small = λ at pebble is. (at, is, refl);
  stuck = λ at label is. (at, is, refl);
  large = λ at label is. (at, is, refl);
}

pub has_places : (board : PlainBoard) (proof : PlainProof) → IsClassProof board proof → HasPlaces board proof
has_places board proof is =
    record { labeller = λ k d lt. (is.labeller.each k d lt).at; adversary = λ k d lt. (is.adversary.each k d lt).at }

module _ (normal : List ℕ → List ℕ) (board : PlainBoard) (proof : PlainProof) where
  step : IsStep (NamesClass board) (HasPlaces board proof) (BreaksNoRule (normal_positions normal) board proof)
      (IsFirstFault (order_refusals board.labels normal) board proof)
  step = document (order_refusals board.labels normal) board (named board normal) proof

  pub no_fault : (fault : ClassFault) → BreaksNoRule (normal_positions normal) board proof
      → IsFirstFault (order_refusals board.labels normal) board proof fault → ⊥
  no_fault fault rules wrong = step.apart fault wrong rules

  pub one_fault : (fault other : ClassFault) → IsFirstFault (order_refusals board.labels normal) board proof fault
      → IsFirstFault (order_refusals board.labels normal) board proof other → fault ≡ other
  one_fault fault other wrong too = step.one fault other wrong too

  pub names_class : (fault : ClassFault) → IsClassProof board proof
      → IsFirstFault (order_refusals board.labels normal) board proof fault → NamesClass board fault
  names_class fault is wrong = step.named fault (has_places board proof is) wrong
