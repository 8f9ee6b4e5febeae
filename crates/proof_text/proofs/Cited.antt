-- The lemmas that crates above cite, passed on from one place. Declares nothing.
pub use Rattle.proof_text.proofs.ArrangedAgain.{arranged-again, arranged-class, one-arranged}
pub use Rattle.proof_text.proofs.ArrangedPlaces.{arranged_is, class-arranged, inserted-here, inserted-none}
pub use Rattle.proof_text.proofs.ArrangedPlaces.{inserted-past, length-arranged}
pub use Rattle.proof_text.proofs.AskedPlaces.{asked_below, asked_is, asked_place}
pub use Rattle.proof_text.proofs.HeldImages.{zeros}
pub use Rattle.proof_text.proofs.NamedPlaces.{class_at_number, class_at_order}
pub use Rattle.proof_text.proofs.NumberedPlaces.{places-few, same-places}
pub use Rattle.proof_text.proofs.Placings.{as-unlabelled, of-unlabelled, placed, unlabelled}
pub use Rattle.proof_text.proofs.OneDocument.{no_fault, one_document}
pub use Rattle.proof_text.proofs.OneDocument.{no_class_text_fault, one_class_document, one_class_text_fault}
pub use Rattle.proof_text.proofs.OneDocument.{no_symmetry_text_fault, one_symmetry_document, one_symmetry_text_fault}
pub use Rattle.proof_text.proofs.OneDocument.{no_symmetries_fault, one_symmetries, one_symmetries_fault}
pub use Rattle.proof_text.proofs.OrderNumbers.{order-none, order-label, orders-below}
pub use Rattle.proof_text.proofs.RankedRows.{rank_small}
pub use Rattle.proof_text.proofs.ReadMaps.{held_maps}
pub use Rattle.proof_text.proofs.ReadSymmetric.{symmetry_proof}
