-- A node is moved out of the list that it is in, if any, to another.
use Rattle.std.proofs.Common.{◌≡◌, ℕ, ◌==◌, ◌++◌, ◌∷◌, [], Bool, true, false, if◌then◌else◌, Option, Some, None}
use Rattle.std.proofs.Common.{MatchOption, is_some, refl, sym, ap, ◌∙◌, arith}
use Rattle.index_lists.specs.Lists.{Lists, times, IsFree, IsIn, IsHome, AreSame, node_pushed, node_unlinked, node_moved}
use Rattle.index_lists.proofs.Times.{times-without_same, without-absent, cond_same}

pub free-after : (s s' : Lists) (node : ℕ) → AreSame s' (node_unlinked s node) → IsFree s' node
free-after s s' node same =
    record { free = λ l. ap (times node) (same.same_list l) ∙ times-without_same node (s.list l) }

-- a node that is in no list need not be taken out
pub same-without : (s : Lists) (node : ℕ) → IsFree s node → AreSame s (node_unlinked s node)
same-without s node f = record {
  same_nodes = refl;
  same_lists = refl;
  same_list = λ l. sym (without-absent node (s.list l) (f.free l));
}

-- a node that was taken out is pushed
pub moved-same : (s s' s'' : Lists) (node to : ℕ) → AreSame s' (node_unlinked s node)
    → AreSame s'' (node_pushed s' to node)
    → AreSame s'' (node_moved s node to)
moved-same s s' s'' node to out in-again = record {
  same_nodes = in-again.same_nodes ∙ out.same_nodes;
  same_lists = in-again.same_lists ∙ out.same_lists;
  same_list = λ l. in-again.same_list l ∙ ap (λ xs. if l == to then xs ++ node ∷ [] else xs) (out.same_list l);
}

pub free-at_none : (s : Lists) (node : ℕ) (home : Option ℕ) (b : Bool)
    → MatchOption home (IsFree s node) (λ h. IsHome s node h)
    → b ≡ is_some home → b ≡ false → IsFree s node
free-at_none s node None b m e f = m
free-at_none s node (Some h) b m e f = absurd (let d : true ≡ false = sym e ∙ f in cc)

pub in-at_home : (s : Lists) (node home : ℕ) → IsHome s node home → IsIn s node
in-at_home s node home h = (home, (let t = h.times_is home ∙ cond_same home home 1 0 refl in omega arith))

pub in-at_some : (s : Lists) (node : ℕ) (home : Option ℕ) (b : Bool)
    → MatchOption home (IsFree s node) (λ h. IsHome s node h)
    → b ≡ is_some home → b ≡ true → IsIn s node
in-at_some s node None b m e f = absurd (let d : false ≡ true = sym e ∙ f in cc)
in-at_some s node (Some h) b m e f = in-at_home s node h m
