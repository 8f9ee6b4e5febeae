-- Marks that are set and cleared.
use Rattle.std.proofs.Common.{◌≡◌, ◌≢◌, ℕ, ◌<◌, inl, inr, sym, ◌∙◌, arith}
use Rattle.std.proofs.Common.{Bool, true, false, List, length, slice_index_or, slice_set}
use Rattle.std.proofs.Math.ListN.{replicate, length-replicate}
use Rattle.std.proofs.lemmas.Bool.{both_ways, cases_lt}
use Rattle.std.proofs.lemmas.List.{get_or-replicate, get_or-set_other, get_or-set_same, get_or_past}
use Rattle.strategies.specs.Inside.Marks.{IsMarked}

-- ---- marks

pub none_is_marked : (size rank : ℕ) → IsMarked (replicate size false) rank → ⊥
none_is_marked size rank is = both_ways (slice_index_or (replicate size false) rank false) (no_mark_at size rank) is
  where
    no_mark_at : (size rank : ℕ) → slice_index_or (replicate size false) rank false ≡ false
    no_mark_at size rank = elim (cases_lt rank size) [
      | inl inside ↦ get_or-replicate {A = Bool} size rank false false inside
      | inr past ↦ get_or_past (replicate size false) rank false (omega (
        arith,
        past,
        length-replicate {A = Bool} size
            false,
      ))
    ]

pub marked_inside : (marks : List Bool) (rank : ℕ) → IsMarked marks rank → rank < length marks
marked_inside marks rank is = elim (cases_lt rank (length marks)) [
  | inl inside ↦ inside
  | inr past ↦ absurd (both_ways (slice_index_or marks rank false) (get_or_past marks rank false past) is)
]

pub is_set : (marks : List Bool) (rank : ℕ) → rank < length marks → IsMarked (slice_set marks rank true) rank
is_set marks rank inside = get_or-set_same marks rank true false inside

pub is_cleared : (marks : List Bool) (rank : ℕ) → rank < length marks → IsMarked (slice_set marks rank false) rank → ⊥
is_cleared marks rank inside is =
    both_ways (slice_index_or (slice_set marks rank false) rank false) (get_or-set_same marks rank false false inside)
    is

module _ (marks : List Bool) (rank other : ℕ) (bit : Bool) (differ : other ≢ rank) where
  pub still_set : IsMarked marks other → IsMarked (slice_set marks rank bit) other
  still_set is = get_or-set_other marks rank other bit false differ ∙ is

  pub was_set : IsMarked (slice_set marks rank bit) other → IsMarked marks other
  was_set is = sym (get_or-set_other marks rank other bit false differ) ∙ is
