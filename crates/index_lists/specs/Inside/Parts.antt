-- Definitions for this crate's own functions, beside `PlainParts`.
use Rattle.std.specs.Prelude.{◌≡◌, ℕ, ◌^◌, ◌<◌, ◌≤◌, List, [], ◌∷◌, length, map, take, drop}
use Rattle.std.specs.Prelude.{slice_index_or}
use Rattle.std.specs.List.{concat}
use Rattle.index_lists.specs.Lists.{Lists, times, lists_of}
use Rattle.index_lists.specs.Parts.{PlainParts}

-- a list that is cut into parts of these lengths, from the start
abbrev pub parts_of : List ℕ → List ℕ → List (List ℕ)
parts_of [] nodes = []
parts_of (len ∷ lens) nodes = take len nodes ∷ parts_of lens (drop len nodes)

-- the part of a number, empty past the last
abbrev pub part : List (List ℕ) → ℕ → List ℕ
part parts l = slice_index_or parts l []

-- the parts as lists
abbrev pub lists_of_parts : PlainParts → Lists
lists_of_parts p = lists_of p.nodes p.lists (part p.parts)

-- each node once, each of them a node that there is, in no more lists than there are
pub record ArePlain (p : PlainParts) : Type 0 where
  pub few : p.nodes < 2 ^ 32
  pub once : (x : ℕ) → times x (concat p.parts) ≤ 1
  pub below : (x : ℕ) → p.nodes ≤ x → times x (concat p.parts) ≡ 0
  pub short : length p.parts ≤ p.lists

-- the parts are all nodes, of these lengths, and there is room for each node and each length
pub record AreCut (node_count list_count node_room len_room : ℕ)
    (lens nodes : List ℕ) : Type 0 where
  pub lens_are : map length (parts_of lens nodes) ≡ lens
  pub nodes_are : concat (parts_of lens nodes) ≡ nodes
  pub for_nodes : node_count ≤ node_room
  pub for_lens : list_count ≤ len_room
