-- In the graph of ranks, the gap that is struck is that of the dominating pebble.
use Rattle.std.proofs.Common.{◌≡◌, ℕ, ◌<◌, ◌≤◌, refl, sym, ap, ◌∙◌, subst, arith, List, Some, None}
use Rattle.board_text.specs.PlainBoard.{PlainBoard, IsBoard, IsConfiguration}
use Rattle.positions.specs.Counts.{IsSmallest}
use Rattle.positions.specs.Gaps.{gaps, gap_of, pebble_of, IsDominator}
use Rattle.positions.specs.Ranks.{configurations, configuration_at}
use Rattle.positions.proofs.Cited.{configuration_at_is, gap_below, pebble_of-gap_of}
use Rattle.positions.proofs.Dominators.{same_dominator}
use Rattle.graphs.specs.Numbered.{Numbered, GraphNumbering, Ordered, Classes}
use Rattle.graphs.specs.Numbered.{graph_by, graph_of, configuration_by, configuration_of}
use Rattle.graphs.specs.Struck.{struck_among}
use Rattle.graphs.proofs.DominatingPebbles.{is_dominator_is, struck-found, dominator-found}

module _ (b : PlainBoard) (is : IsBoard b) (x : ℕ) (i : x < configurations b) where
  abbrev conf : List ℕ
  conf = configuration_at b x

  abbrev struck : ℕ
  struck = struck_among b conf (gap_of b conf) (gaps b) b.pebbles

  ok : IsConfiguration b conf
  ok = configuration_at_is b x i

  some-dominator : struck < gaps b → IsDominator b conf (pebble_of b struck)
  some-dominator low =
      let f = struck-found b conf (gap_of b conf) (gaps b) b.pebbles low in
      let pebble : f.pebble ≡ pebble_of b struck =
      sym (ap (pebble_of b) f.is ∙ pebble_of-gap_of b conf f.pebble ok f.below) in
      subst (IsDominator b conf) pebble ((is_dominator_is b conf f.pebble ok.each_pebble f.below).0 f.test)

  no-dominator : gaps b ≤ struck → (p : ℕ) → IsDominator b conf p → ⊥
  no-dominator none p dominator =
      let test = (is_dominator_is b conf p ok.each_pebble dominator.is_pebble).1 dominator in
      let f = dominator-found b conf (gap_of b conf) (gaps b) b.pebbles p dominator.is_pebble test in
      let below = gap_below b conf f.pebble ok f.below in
      let same = f.is in
      omega arith

  one-dominator : (p q : ℕ) → IsDominator b conf p → IsDominator b conf q → p ≤ q
  one-dominator p q one other = let same = same_dominator b conf p q is.pairs.one_way one other in omega arith

not-ordered : Classes ≡ Ordered → ⊥
not-ordered e = cc

gaps-by : (k : GraphNumbering) (b : PlainBoard) → k ≡ Ordered → (graph_by k b).gaps ≡ gaps b
unfolding graph_by
gaps-by Ordered b e = refl
gaps-by Classes b e = absurd (not-ordered e)

pub ordered-gaps : (n : Numbered) → n.numbering ≡ Ordered → (graph_of n).gaps ≡ gaps n.board
ordered-gaps n e = gaps-by n.numbering n.board e

some-by : (k : GraphNumbering) (b : PlainBoard) → k ≡ Ordered → IsBoard b → (x : ℕ) → x < (graph_by k b).configurations
    → (graph_by k b).struck x < (graph_by k b).gaps
    → IsSmallest (IsDominator b (configuration_by k b x)) (Some (pebble_of b ((graph_by k b).struck x)))
unfolding graph_by configuration_by
some-by Ordered b e is x i low =
    let one = some-dominator b is x i low in
    (one, λ q other. one-dominator b is x i _ q one other)
some-by Classes b e is x i low = absurd (not-ordered e)

-- a gap that is struck is that of the smallest dominating pebble
pub dominator-some : (n : Numbered) → n.numbering ≡ Ordered → IsBoard n.board → (x gap : ℕ)
    → x < (graph_of n).configurations
    → gap ≡ (graph_of n).struck x → gap < (graph_of n).gaps
    → IsSmallest (IsDominator n.board (configuration_of n x)) (Some (pebble_of n.board gap))
dominator-some n e is x gap i same low =
    subst (λ g. IsSmallest (IsDominator n.board (configuration_of n x)) (Some (pebble_of n.board g))) (sym same)
    (some-by n.numbering n.board e is x i (subst (λ g. g < (graph_of n).gaps) same low))

none-by : (k : GraphNumbering) (b : PlainBoard) → k ≡ Ordered → IsBoard b → (x : ℕ) → x < (graph_by k b).configurations
    → (graph_by k b).gaps ≤ (graph_by k b).struck x
    → IsSmallest (IsDominator b (configuration_by k b x)) None
unfolding graph_by configuration_by
none-by Ordered b e is x i none = no-dominator b is x i none
none-by Classes b e is x i none = absurd (not-ordered e)

pub dominator-none : (n : Numbered) → n.numbering ≡ Ordered → IsBoard n.board → (x : ℕ)
    → x < (graph_of n).configurations
    → (graph_of n).gaps ≤ (graph_of n).struck x → IsSmallest (IsDominator n.board (configuration_of n x)) None
dominator-none n e is x i none = none-by n.numbering n.board e is x i none
