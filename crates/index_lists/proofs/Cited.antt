-- The lemmas that crates above cite, passed on from one place. Declares nothing.
pub use Rattle.index_lists.proofs.KeptLists.{fits}
pub use Rattle.index_lists.proofs.Places.{one-place, place-of, stands-at}
pub use Rattle.index_lists.proofs.Times.{cond_other, cond_same, differ_is, distinct-length, length-without, same_is}
pub use Rattle.index_lists.proofs.Times.{times-append}
pub use Rattle.index_lists.proofs.Times.{times-here, times-later, times-more, times-without_other, times-without_same}
