-- The lemmas that crates above cite, passed on from one place. Declares nothing.
pub use Rattle.nested_cycles.proofs.Dominations.{each_other, from_one_copy, in_one_copy, of_two_copies}
pub use Rattle.nested_cycles.proofs.Dominations.{one_of_two_labels}
pub use Rattle.nested_cycles.proofs.NestedGames.{fewer_others, in_others, others_are_good, others_are_labels}
pub use Rattle.nested_cycles.proofs.NestedGames.{parts_after, same_words_are_good}
pub use Rattle.nested_cycles.proofs.CopyRests.{contains_cases, contains_here, contains_later, contains_map}
pub use Rattle.nested_cycles.proofs.CopyRests.{contains_none, each_of}
pub use Rattle.nested_cycles.proofs.GoodReplies.{good_have_reply}
pub use Rattle.nested_cycles.proofs.Levels.{good_with, reply_beats}
pub use Rattle.nested_cycles.proofs.NestedBoards.{same_pairs}
pub use Rattle.nested_cycles.proofs.NestedPairs.{beats_exactly, next_pair, no_pair, pair_at, pairs_none}
pub use Rattle.nested_cycles.proofs.OneReply.{one_label}
pub use Rattle.nested_cycles.proofs.WordNumbers.{number_of_word, word_of-number_of, words_fit}
