-- The lemmas that crates above cite, passed on from one place. Declares nothing.
pub use Rattle.runs.proofs.AcceptedDocuments.{not_wrong, not_wrong_among}
pub use Rattle.runs.proofs.ClassSolutions.{class_solution_or_fault, one_class_solution, one_unsolved}
pub use Rattle.runs.proofs.EndLines.{one_length}
pub use Rattle.runs.proofs.OneOutcome.{one_solution, one_wrong, one_wrong_among}
pub use Rattle.runs.proofs.OneVerdict.{one_verdict, one_wrong_proof, verdict_or_fault}
pub use Rattle.runs.proofs.ChainTexts.{chains_or_fault, one_chain_fault, one_chains, wrong_counting}
pub use Rattle.runs.proofs.OneSummary.{one_summary, one_summary_of_text}
pub use Rattle.runs.proofs.SymmetricSolutions.{given_or_lacking, one_lacking, one_symmetric_solution}
pub use Rattle.runs.proofs.SymmetricSolutions.{one_unsolved_up_to, symmetric_solution_or_fault}
pub use Rattle.runs.proofs.SideSolutions.{one_side_solution, one_unsolved_for, side_solution_or_fault}
