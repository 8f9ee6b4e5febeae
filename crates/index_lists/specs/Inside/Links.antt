-- Definitions for this crate's own functions, beside `Links`.
use Rattle.std.specs.Prelude.{◌≡◌, ℕ, ◌+◌, ◌-◌, ◌<◌, ◌≤◌, ◌==◌, cond, List, [], ◌∷◌, zero, suc}
use Rattle.std.specs.Prelude.{length, slice_index, slice_set, Option, None, Some}
use Rattle.index_lists.specs.Lists.{Lists, times, lists_of}
use Rattle.index_lists.specs.Links.{Chains}

-- n nodes from a node on, along the links
abbrev pub nodes_from : (ℕ → ℕ) → ℕ → ℕ → List ℕ
nodes_from next at zero = []
nodes_from next at (suc n) = at ∷ nodes_from next (next at) n

-- the list is linked both ways: `at` is its first node, `before` stands before it, `last` is its
-- last node (`before` if it is empty)
abbrev pub IsLinked : ℕ → (ℕ → ℕ) → (ℕ → ℕ) → ℕ → ℕ → ℕ → List ℕ → Type 0
IsLinked none next prev last before at [] = (at ≡ none) × (before ≡ last)
IsLinked none next prev last before at (x ∷ xs) =
    (at ≡ x) × (x < none) × (prev x ≡ before) × IsLinked none next prev last x (next x) xs

-- the notes of each node (the node after it, the one before it,
-- its list), and of each list (its ends, its length)
pub record PlainLinks : Type 0 where
  pub next : List ℕ
  pub prev : List ℕ
  pub home : List ℕ
  pub first : List ℕ
  pub last : List ℕ
  pub len : List ℕ

-- the links as callers see them
abbrev pub chains_of : ℕ → ℕ → PlainLinks → Chains
chains_of nodes lists s =
    record { nodes = nodes; lists = lists; next = s.next; first = s.first; len = s.len }

-- the nodes of a list, along the links
abbrev pub chain_list : Chains → ℕ → List ℕ
chain_list c l = nodes_from (slice_index c.next) (slice_index c.first l) (slice_index c.len l)

-- all lists that the links lead through
abbrev pub chained_lists : Chains → Lists
chained_lists c = lists_of c.nodes c.lists (chain_list c)

-- the links are those of the lists
pub record AreLinksOf (nodes lists : ℕ) (s : PlainLinks) (list : ℕ → List ℕ) : Type 0 where
  pub linked : (l : ℕ) → l < lists
      → IsLinked nodes (slice_index s.next) (slice_index s.prev) (slice_index s.last l) nodes
      (slice_index s.first l) (list l)
  pub sized : (l : ℕ) → l < lists → slice_index s.len l ≡ length (list l)
  pub beyond : (l : ℕ) → lists ≤ l → list l ≡ []
  pub held : (l x : ℕ) → l < lists → x < nodes
      → times x (list l) ≡ cond (slice_index s.home x == l) 1 0
  pub homes : (x : ℕ) → x < nodes → slice_index s.home x ≤ lists
  pub loose : (x : ℕ) → x < nodes → slice_index s.home x ≡ lists
      → (slice_index s.next x ≡ nodes) × (slice_index s.prev x ≡ nodes)

-- there are links for each node and list, and they are those of the lists that they lead through
pub record IsLinks (nodes lists : ℕ) (s : PlainLinks) : Type 0 where
  pub next_length : length s.next ≡ nodes
  pub prev_length : length s.prev ≡ nodes
  pub home_length : length s.home ≡ nodes
  pub first_length : length s.first ≡ lists
  pub last_length : length s.last ≡ lists
  pub len_length : length s.len ≡ lists
  pub store : AreLinksOf nodes lists s (chain_list (chains_of nodes lists s))

-- the link of a node leads to the one after it, or, if the node is none, the list begins there
abbrev pub next_pointed : PlainLinks → ℕ → ℕ → ℕ → PlainLinks
next_pointed s node list to =
    record s {
      next = slice_set s.next node to;
      first = cond (node == length s.next) (slice_set s.first list to) s.first;
    }

-- the link of a node leads to the one before it, or, if the node is none, the list ends there
abbrev pub prev_pointed : PlainLinks → ℕ → ℕ → ℕ → PlainLinks
prev_pointed s node list to =
    record s {
      prev = slice_set s.prev node to;
      last = cond (node == length s.prev) (slice_set s.last list to) s.last;
    }

-- a node has a list and a node before it
abbrev pub node_placed : PlainLinks → ℕ → ℕ → ℕ → PlainLinks
node_placed s node prev home =
    record s { prev = slice_set s.prev node prev; home = slice_set s.home node home }

-- a node is in no list
abbrev pub node_loosened : PlainLinks → ℕ → ℕ → ℕ → PlainLinks
node_loosened s node none nowhere =
    record s {
      next = slice_set s.next node none;
      prev = slice_set s.prev node none;
      home = slice_set s.home node nowhere;
    }

-- a list has one node more, which is its last
abbrev pub list_appended : PlainLinks → ℕ → ℕ → PlainLinks
list_appended s list node =
    record s {
      last = slice_set s.last list node;
      len = slice_set s.len list (slice_index s.len list + 1);
    }

-- a list has one node less
abbrev pub list_shortened : PlainLinks → ℕ → PlainLinks
list_shortened s list = record s { len = slice_set s.len list (slice_index s.len list - 1) }

-- a number that may stand for none
abbrev pub unless_none : ℕ → ℕ → Option ℕ
unless_none none x = cond (x == none) None (Some x)
