-- The lemmas that crates above cite, passed on from one place. Declares nothing.
pub use Rattle.classes.proofs.CountedValues.{counted-values}
pub use Rattle.classes.proofs.FamilyNumbers.{first-family, last-family, least-below, least-some}
pub use Rattle.classes.proofs.FamilyNumbers.{least-within, next-family, number-of-least, put-least, some-ways}
pub use Rattle.classes.proofs.FamilyWeights.{no-copies, weight-before, weight-last, weight-small}
pub use Rattle.classes.proofs.Numbers.{is-below, with-is, with-number}
pub use Rattle.classes.proofs.OrderCounts.{orders, orders-is, orders-weigh, size_of_sum, weight-orders}
pub use Rattle.classes.proofs.PutPlaces.{all-class_of, of-all-class_of, class_of-own, class_of-set, falls-class_of}
pub use Rattle.classes.proofs.PutPlaces.{length-class_of, length-put, place-cancel, put-cancel, put-here, put-is}
pub use Rattle.classes.proofs.PutPlaces.{put-none, put-past, HasPebble, IsIn, in-put, pebble_of_place, all-put}
pub use Rattle.classes.proofs.PutPlaces.{falls-more, gap_at-class, index-here, index-none, index-past, index-put}
pub use Rattle.classes.proofs.PutPlaces.{of-all-put}
pub use Rattle.classes.proofs.PlacesWithout.{all-remove, class-push, remove-last, remove-past}
pub use Rattle.classes.proofs.Sums.{sum-add, sum-none, sum-same, sum-suc, sum-swap, sum-zero}
pub use Rattle.classes.proofs.TableNumbers.{few-of-small, place-below, ways-fit}
pub use Rattle.classes.proofs.Values.{AreLike, class_of-class, dominator-answers, labeller-like, legal-answers}
pub use Rattle.classes.proofs.Values.{one-gap, partner_of, value-of-class}
pub use Rattle.classes.proofs.Ways.{ways-more, ways-suc, ways-zero, ways-within}
pub use Rattle.classes.proofs.WaysRows.{IsRow, row-begins, row-first, row-more}
pub use Rattle.classes.proofs.WeightProducts.{copies-same}
pub use Rattle.classes.proofs.FamilyMembers.{IsOwnFamily, IsPart, at-end, edge-begins, edge-is, edge-next, edge-only}
pub use Rattle.classes.proofs.FamilyMembers.{edge-start, edge-within, family-of, family-size, held-class, held-long}
pub use Rattle.classes.proofs.FamilyMembers.{member-below, member-class, member-few, member-long, member-number}
pub use Rattle.classes.proofs.FamilyMembers.{member-with, next-start, number-last-others, others-class, others-number}
pub use Rattle.classes.proofs.FamilyMembers.{own-family, part-of, place-before, place-last, place-low, put-back}
pub use Rattle.classes.proofs.FamilyMembers.{rest-below, rest-few, size-of, some-lists, some-place, walk-all, walk-of}
pub use Rattle.classes.proofs.FamilyMembers.{walk-start, walk-within, walk-zero}
pub use Rattle.classes.proofs.FamilyRests.{places-end}
pub use Rattle.classes.proofs.TableNumbers.{ways-small, falls-remove, gap-below, remove-is}
