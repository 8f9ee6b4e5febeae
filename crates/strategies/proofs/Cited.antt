-- The lemmas that crates above cite, passed on from one place. Declares nothing.
pub use Rattle.strategies.proofs.BestAnswers.{best_answer, lasts_after, same_answer}
pub use Rattle.strategies.proofs.ValueOrder.{IsLess-irrefl, cases_value, less_than_finite}
pub use Rattle.strategies.proofs.SomeDocument.{class_document_exists, document_exists}
pub use Rattle.strategies.proofs.DocumentForm.{is_formed}
pub use Rattle.strategies.proofs.KeptRules.{breaks_no_class_rule, breaks_no_rule}
pub use Rattle.strategies.proofs.OneList.{one_class_document, one_document}
pub use Rattle.strategies.proofs.BestRequests.{best_request, least, same_request}
pub use Rattle.strategies.proofs.DocumentRows.{each_number}
pub use Rattle.strategies.proofs.Meanings.{means_value}
pub use Rattle.strategies.proofs.ShownClaims.{shows_claim}
pub use Rattle.strategies.proofs.StartRanks.{start_value}
pub use Rattle.strategies.proofs.ClassDocumentForm.{few_gaps_claim, has_class_form}
pub use Rattle.strategies.proofs.LongTexts.{short_text_fits}
pub use Rattle.strategies.proofs.ShownClassClaims.{claims_shown}
pub use Rattle.strategies.proofs.SymmetricDocuments.{breaks_no_rule_up_to, has_symmetry_form, one_symmetry_document}
pub use Rattle.strategies.proofs.SymmetricDocuments.{short_symmetry_text_fits, symmetry_document_exists}
