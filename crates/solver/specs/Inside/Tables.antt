-- The meaning of a machine's tables and lists in the graph.
use Rattle.std.specs.Prelude.{◌≡◌, ℕ, ◌<◌, ◌==◌, not, Bool, true, false, cond, suc, List, length}
use Rattle.std.specs.Prelude.{slice_index, map, filter}
use Rattle.std.specs.List.{range_with_len}
use Rattle.index_lists.specs.Lists.{times}
use Rattle.graphs.specs.Graph.{PlainGraph, is_member, live_answers, is_answered, lasts}
use Rattle.gap_values.specs.declared.closing.TheConstants.{OPEN}

-- nothing that lasts r requests fails to last one more
pub record IsLast (a : PlainGraph) (r : ℕ) : Type 0 where
  pub lasting : (x : ℕ) → x < a.configurations → lasts a r x ≡ true → lasts a (suc r) x ≡ true

-- the word of a configuration that has no value yet
abbrev pub is_open : List ℕ → ℕ → Bool
is_open values x = slice_index values x == OPEN

-- the members of a gap that pass the test, for `count` places from `from` on
abbrev pub members_from : PlainGraph → (ℕ → Bool) → ℕ → ℕ → ℕ → List ℕ
members_from a test g from count = filter test (map (a.member g) (range_with_len from count))

-- the members of a gap that have no value yet, by place
abbrev pub open_members : PlainGraph → List ℕ → ℕ → List ℕ
open_members a values g = members_from a (is_open values) g 0 a.places

-- each gap's count is the number of its answers that pass the test
pub record IsCounted (a : PlainGraph) (test : ℕ → Bool) (counts : List ℕ) : Type 0 where
  pub counts_length : length counts ≡ a.gaps
  pub counted : (g : ℕ) → g < a.gaps → slice_index counts g ≡ live_answers a test g

-- a configuration is open exactly if each of its gaps has an answer
-- that passes the test, and any other word is a value
pub record AreWords (a : PlainGraph) (test : ℕ → Bool) (values : List ℕ) : Type 0 where
  pub values_length : length values ≡ a.configurations
  pub opened : (x : ℕ) → x < a.configurations → is_open values x ≡ is_answered a test x
  pub lasting : (x : ℕ) → x < a.configurations → is_open values x ≡ false
      → lasts a (slice_index values x) x ≡ true
  pub stopping : (x : ℕ) → x < a.configurations → is_open values x ≡ false
      → lasts a (suc (slice_index values x)) x ≡ false

-- a configuration is open if each request has an answer, and else has the value 0
pub record AreFirstWords (a : PlainGraph) (words : List ℕ) : Type 0 where
  pub words_length : length words ≡ a.configurations
  pub each : (x : ℕ) → x < a.configurations
      → slice_index words x ≡ cond (is_answered a (lasts a 0) x) OPEN 0

-- it lasts more than r requests, or is in the list of configurations to strike
abbrev pub is_unstruck : PlainGraph → ℕ → List ℕ → ℕ → Bool
is_unstruck a r todo x = cond (lasts a (suc r) x) true (not (times x todo == 0))

-- the open members of a gap are filed at a value, and nothing else changes
pub record GapIsClosed (a : PlainGraph) (g value : ℕ) (values values' : List ℕ) : Type 0 where
  pub same_length : length values' ≡ length values
  pub filed : (x : ℕ) → x < a.configurations → is_member a g x ≡ true → is_open values x ≡ true
      → slice_index values' x ≡ value
  pub outside : (x : ℕ) → x < a.configurations → is_member a g x ≡ false
      → slice_index values' x ≡ slice_index values x
  pub kept : (x : ℕ) → x < a.configurations → is_open values x ≡ false
      → slice_index values' x ≡ slice_index values x

-- the number of rounds that have struck their value
abbrev pub struck_rounds : Bool → ℕ → ℕ
struck_rounds is_done round = cond is_done (suc round) round
