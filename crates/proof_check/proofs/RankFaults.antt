-- The fault of a document by configurations: it has one at most, apart from out of memory, which names ranks of the
-- board.
use Rattle.std.proofs.Common.{◌≡◌, ◌≢◌, sym, subst, inl, inr}
use Rattle.board_text.specs.PlainBoard.{PlainBoard}
use Rattle.positions.proofs.Cited.{rank_below}
use Rattle.proof_text.specs.Documents.{IsProof}
use Rattle.proof_text.specs.Positions.{configuration_positions}
use Rattle.proof_text.specs.Proof.{PlainProof}
use Rattle.proof_text.specs.Rules.{BreaksNoRule}
use Rattle.proof_check.specs.CheckFaults.{IsCheckFault, NamesRanks, rank_refusals}
use Rattle.proof_check.specs.Refusals.{IsFirstFault}
use Rattle.proof_check.specs.declared.fault.CheckFault.{CheckFault}
use Rattle.proof_check.specs.declared.fault.CheckFault.TheVariants as faults
use Rattle.proof_check.proofs.DocumentFaults.{AreNamed, HasPlaces, document}
use Rattle.proof_check.proofs.Steps.{IsStep}

named : (board : PlainBoard) → AreNamed (rank_refusals board) board (NamesRanks board)
named board = record {
  missing = λ side. tt;
  number = λ side. tt;
  illegal = λ at pebble is. rank_below board at is;
  unlisted = λ side at turn is. rank_below board at is;
  small = λ at pebble is. rank_below board at is;
  stuck = λ at label is. rank_below board at is;
  large = λ at label is. rank_below board at is;
}

has_places : (board : PlainBoard) (proof : PlainProof) → IsProof board proof → HasPlaces board proof
has_places board proof is =
    record { labeller = λ k d lt. (is.labeller.each k d lt).at; adversary = λ k d lt. (is.adversary.each k d lt).at }

module _ (board : PlainBoard) (proof : PlainProof) where
  step : IsStep (NamesRanks board) (HasPlaces board proof) (BreaksNoRule configuration_positions board proof)
      (IsFirstFault (rank_refusals board) board proof)
  step = document (rank_refusals board) board (named board) proof

  pub only_memory : (fault : CheckFault) → BreaksNoRule configuration_positions board proof
      → IsCheckFault board proof fault → fault ≡ faults.Memory
  only_memory fault rules (inl is) = is
  only_memory fault rules (inr wrong) = absurd (step.apart fault wrong rules)

  pub names_ranks : (fault : CheckFault) → IsProof board proof → IsCheckFault board proof fault → NamesRanks board fault
  names_ranks fault is (inl memory) = subst (NamesRanks board) (sym memory) tt
  names_ranks fault is (inr wrong) = step.named fault (has_places board proof is) wrong

  pub one_fault : (fault other : CheckFault) → fault ≢ faults.Memory → other ≢ faults.Memory
      → IsCheckFault board proof fault → IsCheckFault board proof other → fault ≡ other
  one_fault fault other not not_too (inl memory) is = absurd (not memory)
  one_fault fault other not not_too (inr wrong) (inl memory) = absurd (not_too memory)
  one_fault fault other not not_too (inr wrong) (inr too) = step.one fault other wrong too
