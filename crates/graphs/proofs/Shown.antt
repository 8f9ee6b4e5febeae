-- A graph that shows a board has its values: from the laws of `ShowsGame` alone.
use Rattle.std.proofs.Common.{◌≡◌, ℕ, ◌<◌, ◌==◌, ◌&&◌, ◌↔◌, inl, inr, true, false, zero, suc, refl, arith, subst, List}
use Rattle.std.proofs.lemmas.Bool.Decides.{nat_tests}
use Rattle.board_text.specs.PlainBoard.{PlainBoard}
use Rattle.positions.specs.declared.value.Value.TheVariants.{Finite, Forever}
use Rattle.positions.specs.Game.{LabellerTree, AdversaryTree}
use Rattle.positions.specs.Value.{HasValue}
use Rattle.positions.proofs.Cited.{some_tree, not_both_trees}
use Rattle.graphs.specs.Graph.{PlainGraph, IsGraph, lasts}
use Rattle.graphs.specs.Lasting.{LastsExactly, LastsForever}
use Rattle.graphs.specs.Shows.{IsAsked, ShowsGame}
use Rattle.graphs.proofs.Counts.{some_below, count_below-some}
use Rattle.graphs.proofs.LastingRanks.{both_true, and_true, true_or_false, true_not_false, next-gives, next-from}
use Rattle.graphs.proofs.LastingRanks.{same_is}

test_same : (m n : ℕ) → (m == n) ≡ true → m ≡ n
test_same m n e = grind (arith, nat_tests)

module _ (b : PlainBoard) (a : PlainGraph) (at : ℕ → List ℕ) (is : IsGraph a) (shows : ShowsGame b a at) where
  pub tree-of-lasts : (k c : ℕ) → c < a.configurations → lasts a k c ≡ true → LabellerTree b k (at c)
  tree-of-lasts zero c i e = tt
  tree-of-lasts (suc k) c i e = λ p j.
      let g = shows.gap_of c p i j in
      let some = next-gives a (lasts a k) c g.0 g.2.0 e g.1 g.2.1 g.2.2 in
      let w = some_below a.places (λ v. a.struck (a.member g.0 v) == g.0 && lasts a k (a.member g.0 v)) some in
      let both = both_true _ _ w.2 in
      let legal = (g.3.legal w.0).1
      (record { is_place = w.1; struck = test_same (a.struck (a.member g.0 w.0)) g.0 both.0 }) in
      (w.0, legal, (g.3.after k w.0 legal).1 (tree-of-lasts k (a.member g.0 w.0) (is.member_in g.0 w.0 g.1 w.1) both.1))

  pub lasts-of-tree : (k c : ℕ) → c < a.configurations → LabellerTree b k (at c) → lasts a k c ≡ true
  lasts-of-tree zero c i tree = refl
  lasts-of-tree (suc k) c i tree = next-from a (lasts a k) c (λ g v j m e.
      let p = shows.pebble_of g v j m in
      let asked : IsAsked b a at (at c) p.0 g = subst (λ x. IsAsked b a at (at x) p.0 g) e p.2 in
      let t = tree p.0 p.1 in
      let answer = (asked.legal t.0).0 t.1 in
      count_below-some a.places (λ w. a.struck (a.member g w) == g && lasts a k (a.member g w)) t.0 answer.is_place
      (and_true _ _ (same_is (a.struck (a.member g t.0)) g answer.struck)
      (lasts-of-tree k (a.member g t.0) (is.member_in g t.0 j answer.is_place) ((asked.after k t.0 t.1).0 t.2))))

  stops-of-fails : (k c : ℕ) → c < a.configurations → lasts a k c ≡ false → AdversaryTree b k (at c)
  stops-of-fails k c i e = elim (some_tree b k (at c)) [
    | inr stops ↦ stops
    | inl tree ↦ absurd (true_not_false (lasts a k c) (lasts-of-tree k c i tree) e)
  ]

  fails-of-stops : (k c : ℕ) → c < a.configurations → AdversaryTree b k (at c) → lasts a k c ≡ false
  fails-of-stops k c i stops = elim (true_or_false (lasts a k c)) [
    | inr fails ↦ fails
    | inl e ↦ absurd (not_both_trees b k (at c) (tree-of-lasts k c i e) stops)
  ]

  pub worth-is : (x value : ℕ) → x < a.configurations → LastsExactly a x value ↔ HasValue b (at x) (Finite value)
  worth-is x value i = (
    λ w. (tree-of-lasts value x i w.lasting, stops-of-fails (suc value) x i w.stopping),
    λ has. record {
      is_rank = i;
      lasting = lasts-of-tree value x i has.0;
      stopping =
          fails-of-stops (suc value) x i has.1;
    },
  )

  pub forever-is : (x : ℕ) → x < a.configurations → LastsForever a x ↔ HasValue b (at x) Forever
  forever-is x i = (λ e depth. tree-of-lasts depth x i (e depth), λ trees depth. lasts-of-tree depth x i (trees depth))
