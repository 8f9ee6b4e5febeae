use Rattle.std.proofs.Common.{◌≡◌, ℕ, ◌+◌, ◌<◌, ◌≤◌, List, length, get_or, Ok, Err, ◌∙◌, sym, subst, arith}
use Rattle.std.proofs.lemmas.List.{get_or_default}
use Rattle.std.proofs.lemmas.List.Sorted.{searched}
use Rattle.proof_check.specs.Inside.PartedNumbers.{Ascends, AreStarts, IsPartStart}
use Rattle.proof_check.proofs.PartedNumbers.{between, in_order, between-ascends, place_between, none_between}
use Rattle.proof_check.proofs.searched_numbers.SearchedNumbers.place.Goals as goal
use Rattle.proof_check.proofs.searched_numbers.SearchedNumbers.place.Goals.{After-index}

-- the start that stands at a part
start_read : (numbers : List ℕ) (shift part start : ℕ) (starts : List ℕ) → AreStarts numbers shift starts
    → part < length starts → start ≡ get_or starts part start → IsPartStart numbers shift part start
start_read numbers shift part start starts are low is =
    subst (IsPartStart numbers shift part) (get_or_default starts part 0 start low ∙ sym is) (are part low)

-- the starts of the part that is searched, and of the part after it
module _ (c : After-index) where
  below : c.part_of-part.result + 1 < length c.self.inside.starts.items
  below = omega (arith, c.if-len-part.false, c.len.ensures, c.self.inside.starts.ok.0)

  first : IsPartStart c.self.inside.items.items c.self.inside.shift c.part_of-part.result c.index-first.result.now
  first =
      start_read _ _ _ _ c.self.inside.starts.items c.self.invariant.each (omega (arith, below)) c.index-first.ensures

  next : IsPartStart c.self.inside.items.items c.self.inside.shift (c.part_of-part.result + 1) c.index.result.now
  next = start_read _ _ _ _ c.self.inside.starts.items c.self.invariant.each below c.index.ensures

  ordered : c.index-first.result.now ≤ c.index.result.now
  ordered = in_order _ _ _ _ _ first next

  ascending : Ascends (between c.self.inside.items.items c.self.inside.shift c.part_of-part.result
      c.index-first.result.now c.index.result.now first next)
  ascending = between-ascends _ _ _ _ _ first next c.self.invariant.ascends

pub slice_bounds-binary_search-start : goal.slice_bounds-binary_search-start
slice_bounds-binary_search-start c = ordered (goal.at.slice_bounds-binary_search-start c).After-index

pub slice_bounds-binary_search-count : goal.slice_bounds-binary_search-count
slice_bounds-binary_search-count c = ordered (goal.at.slice_bounds-binary_search-count c).After-index

pub returns-in-Ok : goal.returns-in-Ok
returns-in-Ok c =
    let s = (goal.at.returns-in-Ok c).After-index in
    let found = searched _ c.args.number (Ok c.in-Ok.index) c.in-Ok.ensures.position
    (rw c.deref.ensures.value (ascending s)) in
    rw (← c.self.view_is) (place_between _ _ _ _ _ (first s) (next s) c.args.number (sym c.part_of-part.ensures.part)
    c.in-Ok.index (rw c.deref.ensures.value at found.0) (rw c.deref.ensures.value at found.1))

pub returns-in-Err : goal.returns-in-Err
returns-in-Err c =
    let s = (goal.at.returns-in-Err c).After-index in
    let found = searched _ c.args.number (Err c.in-Err.field-0) c.in-Err.ensures.position
    (rw c.deref.ensures.value (ascending s)) in
    rw (← c.self.view_is) (none_between _ _ _ _ _ (first s) (next s) c.args.number (sym c.part_of-part.ensures.part)
    c.in-Err.field-0 (rw c.deref.ensures.value at found.1) (rw c.deref.ensures.value at found.2))
