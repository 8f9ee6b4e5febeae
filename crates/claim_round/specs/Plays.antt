-- The contract of each kind of step on a round's table.
use Rattle.std.specs.Prelude.{◌≡◌, ℕ, suc, ◌*◌, ◌<◌, ◌≤◌, ◌==◌, cond, [], ◌∷◌, ◌++◌, length, Some}
use Rattle.std.specs.Prelude.{None}
use Rattle.atomic_table.specs.Table.{Me, Step}
use Rattle.index_lists.specs.Lists.{times}
use Rattle.retro_core.specs.declared.step.Seen.TheVariants as seen
use Rattle.retro_core.specs.Round.{first_of, seat_struck, seat_tried}
use Rattle.claim_round.specs.Shared.{View}
use Rattle.claim_round.specs.Rule.{Unit0, most_members, size, entry_bound}
use Rattle.claim_round.specs.declared.words.TheConstants.{OPEN}

-- the seat after a strike in a gap whose count was n, at this index of the history
abbrev pub view_struck : View → ℕ → ℕ → ℕ → View
view_struck v gap n index = record {
  key = v.key;
  has = seat_struck v.key.solving gap n v.has;
  made = v.made ++ (index, seen.Struck (first_of v.has.todo) (cond (n == 1) (Some gap) None)) ∷ [];
  since = suc index;
}

-- the seat after a claim that found the word n, at this index of the history
abbrev pub view_tried : View → ℕ → ℕ → View
view_tried v n index = record {
  key = v.key;
  has = seat_tried (n == OPEN) v.has;
  made = v.made ++ (index, seen.Tried (first_of v.has.owed) (n == OPEN)) ∷ [];
  since = suc index;
}

-- a strike returns the count that it found, and stands at an
-- index that is not before the seat's earlier ones
abbrev pub TableStrikes : Step Unit0 → Me Unit0 View → ℕ → Me Unit0 View → Type 0
TableStrikes s m n m' = (index : ℕ) × (m.0.since ≤ index) × (m'.0 ≡ view_struck m.0 s.word n index)
    × (m'.1 ≡ m.1) × (0 < n)

-- a claim returns the word that it found, and stands at such an index
abbrev pub TableTries : Step Unit0 → Me Unit0 View → ℕ → Me Unit0 View → Type 0
TableTries s m n m' = (index : ℕ) × (m.0.since ≤ index) × (m'.0 ≡ view_tried m.0 n index)
    × (m'.1 ≡ m.1)
    × (length m'.0.has.won ≤ size m'.0.key)

-- the bounds of a seat in any state of the round: its width is at most the round's, and its lists
-- are no longer than they can be
pub record IsBounded (v : View) : Type 0 where
  pub width : v.has.width ≤ v.key.width
  pub once : (x : ℕ) → times x v.has.won ≤ 1
  pub won : length v.has.won ≤ size v.key
  pub load : entry_bound (most_members v.key) v ≤ most_members v.key * size v.key

-- a look is no step of the machine: nothing changes
abbrev pub Looks : Step Unit0 → Me Unit0 View → ℕ → Me Unit0 View → Type 0
Looks s m n m' = (m' ≡ m) × IsBounded m.0
