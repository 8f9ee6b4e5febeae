-- The rule of a round's table, which holds between any two steps of any threads.
use Rattle.std.specs.Prelude.{◌≡◌, ℕ, ◌+◌, ◌*◌, ◌<◌, ◌≤◌, Bool, [], length}
use Rattle.graphs.specs.Numbered.{numbered, graph_of, Ordered}
use Rattle.std.specs.List.{All, sum_by}
use Rattle.atomic_table.specs.Table.{State}
use Rattle.solver.specs.Solving.{IsSolving}
use Rattle.retro_core.specs.Round.{spent_seat}
use Rattle.claim_round.specs.Shared.{Key, View}
use Rattle.claim_round.specs.History.{IsHistory}

abbrev pub Unit0 : Type 0
Unit0 = Unit {0}

-- no gap has more members
abbrev pub most_members : Key → ℕ
most_members k = (graph_of k.solving.game).places

-- no round wins more configurations
abbrev pub size : Key → ℕ
size k = (graph_of k.solving.game).configurations

-- a bound on the entries that a seat may still owe: those that it owes, and `most` members of a gap
-- for each configuration that it has to strike
abbrev pub entry_bound : ℕ → View → ℕ
entry_bound most v = length v.has.owed + most * length v.has.todo

-- a seat with a width knows the round, and a seat without was told nothing
pub record KnowsRound (k : Key) (v : View) : Type 0 where
  pub round : 0 < v.has.width → v.key ≡ k
  pub nothing : v.has.width ≡ 0 → v.made ≡ []

-- the words and the seats have a history from an opening on, and the entries that all seats may
-- still owe are at most `most_members` for each configuration
pub record Kept (k : Key) (s : State Unit0 View) : Type 0 where
  pub solving : IsSolving k.solving
  pub history : IsHistory k s.words s.views
  pub knows : All (KnowsRound k) s.views
  pub few : sum_by (entry_bound (most_members k)) s.views ≤ most_members k * size k

-- the view of a seat that was joined into another, of no round
abbrev pub no_key : Key
no_key = record {
  solving = record {
    game = numbered (record { labels = 0; pebbles = 0; start = []; pairs = [] }) Ordered;
    rounds = 0;
    is_done = Bool.false;
    buckets = [];
    sources = [];
    due = [];
  };
  width = 0;
}

abbrev pub spent_view : View
spent_view = record { key = no_key; has = spent_seat; made = []; since = 0 }
