-- How long a configuration of a graph lasts.
use Rattle.std.specs.Prelude.{◌≡◌, ℕ, suc, ◌<◌, true, false}
use Rattle.graphs.specs.Graph.{PlainGraph, lasts}

-- `value` requests are answered from the configuration, and not one more
pub record LastsExactly (a : PlainGraph) (x value : ℕ) : Type 0 where
  pub is_rank : x < a.configurations
  pub lasting : lasts a value x ≡ true
  pub stopping : lasts a (suc value) x ≡ false

-- any number of requests is answered from the configuration
abbrev pub LastsForever : PlainGraph → ℕ → Type 0
LastsForever a x = (depth : ℕ) → lasts a depth x ≡ true
