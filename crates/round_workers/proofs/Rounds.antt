-- Bounds on finite values, and on the configurations that have one.
use Rattle.std.proofs.Common.{◌≡◌, ◌⊎◌, ℕ, ◌<◌, ◌≤◌, inl, inr, List, length, arith}
use Rattle.std.proofs.lemmas.Bool.{cases_lt}
use Rattle.board_text.specs.PlainBoard.{PlainBoard, IsConfiguration}
use Rattle.positions.specs.declared.value.Value.TheVariants.{Finite, Forever}
use Rattle.positions.specs.Ranks.{configurations}
use Rattle.positions.specs.Value.{HasValue}
use Rattle.index_lists.specs.Lists.{times}
use Rattle.index_lists.proofs.Cited.{distinct-length}
use Rattle.graphs.specs.Numbered.{graph_of}
use Rattle.solver.specs.Solving.{Solving, IsSolving, bucket}
use Rattle.positions.proofs.Cited.{forever_from_count, lasts_at_most, same_value}

-- a finite value is no greater than the number of configurations
pub value_few : (board : PlainBoard) (configuration : List ℕ) (value : ℕ) → IsConfiguration board configuration
    → HasValue board configuration (Finite value)
    → value ≤ configurations board
value_few board configuration value is has = elim (cases_lt (configurations board) value) [
  | inr few ↦ few
  | inl many ↦
      let forever = forever_from_count board configuration is
      (lasts_at_most board configuration (configurations board) value (omega arith) has.0) in
      let same : Forever ≡ Finite value = same_value board configuration Forever (Finite value) forever has in absurd cc
]

-- no more configurations are filed at a value than there are
pub bucket_few : (s : Solving) (value : ℕ) → IsSolving s → length (bucket s value) ≤ (graph_of s.game).configurations
bucket_few s value is =
    distinct-length _ (bucket s value) (λ x. is.buckets.once value x)
    (λ x far. none x far (cases_lt 0 (times x (bucket s value))))
  where
    none : (x : ℕ) → (graph_of s.game).configurations ≤ x
        → (0 < times x (bucket s value)) ⊎ (times x (bucket s value) ≤ 0)
        → times x (bucket s value) ≡ 0
    none x far (inl some) = absurd (omega (arith, far, is.buckets.ranks value x some))
    none x far (inr few) = omega (arith, few)
