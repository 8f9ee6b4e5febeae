-- The lemmas that crates above cite, passed on from one place. Declares nothing.
pub use Rattle.proof_check.proofs.ClassClaims.{start_claim_holds}
pub use Rattle.proof_check.proofs.ClassDocumentFaults.{has_places}
pub use Rattle.proof_check.proofs.ClassDocumentFaults.{no_fault as no_class_fault, one_fault as one_class_fault}
pub use Rattle.proof_check.proofs.RankFaults.{only_memory, one_fault as one_check_fault}
pub use Rattle.proof_check.proofs.ShownClaims.{shows, shows_ascending}
pub use Rattle.proof_check.proofs.SymmetryDocumentFaults.{one as one_symmetry_fault}
pub use Rattle.proof_check.proofs.SymmetryDocumentFaults.{only_memory as only_symmetry_memory}
pub use Rattle.proof_check.proofs.SymmetryDocumentFaults.{symmetries_held, symmetries_keep, wrong_map_apart}
