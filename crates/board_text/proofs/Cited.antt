-- The lemmas that crates above cite, passed on from one place. Declares nothing.
pub use Rattle.board_text.proofs.Lines.{after, number_line_unique, small_numbers}
pub use Rattle.board_text.proofs.StreamMoves.{Appends-kept, Appends-trans, Consumes-kept, Consumes-trans, front_taken}
pub use Rattle.board_text.proofs.StreamMoves.{between, take_more}
pub use Rattle.board_text.proofs.Numbers.{digits_split}
pub use Rattle.board_text.proofs.NumeralLemmas.{spells_none, spells_number}
pub use Rattle.board_text.proofs.OneReading.{no_fault, not_both, one_board, one_fault}
pub use Rattle.board_text.proofs.PlaceLemmas.{same_words, texts_unique, words_are_texts, words_spell}
pub use Rattle.board_text.proofs.Places.{board_from_parts, few_places, label_is_place, labels_and_places, some_places}
pub use Rattle.board_text.proofs.Places.{start_from_numbers}
pub use Rattle.board_text.proofs.SomeReading.{board_or_fault}
