-- The numbers of configurations and of their gaps, by either numbering.
use Rattle.std.proofs.Common.{◌≡◌, ◌<◌, ◌↔◌, ◌∙◌, ℕ, List, get_or, ap, sym, subst}
use Rattle.board_text.specs.PlainBoard.{PlainBoard, IsBoard, IsConfiguration, places}
use Rattle.positions.specs.Game.{Legal, moved}
use Rattle.positions.specs.Ranks.{rank_of}
use Rattle.positions.specs.Value.{HasValue}
use Rattle.positions.specs.declared.value.Value.{Value}
use Rattle.positions.proofs.Cited.{rank_below, rank_of-configuration_at, configuration_at-rank_of, configuration_at_is}
use Rattle.positions.proofs.Cited.{gap_below, member_of-gap_of, own_member}
use Rattle.classes.specs.Classes.{class_of}
use Rattle.classes.specs.Numbers.{number_by_greatest}
use Rattle.classes.proofs.Cited.{is-below, with-is, value-of-class}
use Rattle.graphs.specs.ClassGraph.{class_at}
use Rattle.graphs.specs.Answers.{IsAnswerIn}
use Rattle.graphs.specs.Numbered.{Numbered, GraphNumbering, Ordered, Classes}
use Rattle.graphs.specs.Numbered.{graph_by, graph_of, configuration_by, configuration_of}
use Rattle.graphs.specs.NumberedRanks.{number_by, number_in, gap_by, gap_in}
use Rattle.graphs.proofs.OrderedGraphs as ranks
use Rattle.graphs.proofs.ClassGraphs as kinds

-- ---- laws by cases

number-below-by : (k : GraphNumbering) (b : PlainBoard) → IsBoard b → (c : List ℕ) → IsConfiguration b c
    → number_by k b c < (graph_by k b).configurations
unfolding graph_by number_by
number-below-by Ordered b is c ok = rank_below b c ok
number-below-by Classes b is c ok = is-below (places b) b.pebbles (class_of c) (kinds.configuration-class b is c ok)

configuration-is-by : (k : GraphNumbering) (b : PlainBoard) → IsBoard b → (x : ℕ) → x < (graph_by k b).configurations
    → IsConfiguration b (configuration_by k b x)
unfolding graph_by configuration_by
configuration-is-by Ordered b is x i = configuration_at_is b x i
configuration-is-by Classes b is x i =
    kinds.class-configuration b is (class_at b x) (with-is (places b) b.pebbles x i).is

number-again-by : (k : GraphNumbering) (b : PlainBoard) → IsBoard b → (x : ℕ) → x < (graph_by k b).configurations
    → number_by k b (configuration_by k b x) ≡ x
unfolding graph_by number_by configuration_by
number-again-by Ordered b is x i = rank_of-configuration_at b x i
number-again-by Classes b is x i =
    ap number_by_greatest (kinds.own-class b is (class_at b x) (with-is (places b) b.pebbles x i).is)
    ∙ (with-is (places b) b.pebbles x i).number_is

value-by : (k : GraphNumbering) (b : PlainBoard) → IsBoard b → (c : List ℕ) → IsConfiguration b c → (value : Value)
    → HasValue b c value ↔ HasValue b (configuration_by k b (number_by k b c)) value
unfolding number_by configuration_by
value-by Ordered b is c ok value =
    let same = configuration_at-rank_of b c ok in (
      subst (λ (d : List ℕ). HasValue b d value) (sym same),
      subst (λ (d : List ℕ). HasValue b d value) same,
    )
value-by Classes b is c ok value =
    subst (λ (d : List ℕ). HasValue b c value ↔ HasValue b d value) (sym (kinds.class-at-number b is c ok))
    (value-of-class b c ok value)

gap-below-by : (k : GraphNumbering) (b : PlainBoard) → IsBoard b → (c : List ℕ) (p : ℕ) → IsConfiguration b c
    → p < b.pebbles
    → gap_by k b c p < (graph_by k b).gaps
unfolding graph_by gap_by
gap-below-by Ordered b is c p ok low = gap_below b c p ok low
gap-below-by Classes b is c p ok low = kinds.gap-below b is c p ok low

gap-own-by : (k : GraphNumbering) (b : PlainBoard) → IsBoard b → (c : List ℕ) (p : ℕ) → IsConfiguration b c
    → p < b.pebbles
    → (graph_by k b).member (gap_by k b c p) (get_or c p 0) ≡ number_by k b c
unfolding graph_by gap_by number_by
gap-own-by Ordered b is c p ok low = ap (rank_of b) (own_member b c p ok low)
gap-own-by Classes b is c p ok low = ap number_by_greatest (kinds.member-own b is c p ok low)

gap-moved-by : (k : GraphNumbering) (b : PlainBoard) → IsBoard b → (c : List ℕ) (p v : ℕ) → IsConfiguration b c
    → p < b.pebbles
    → (graph_by k b).member (gap_by k b c p) v ≡ number_by k b (moved c p v)
unfolding graph_by gap_by number_by
gap-moved-by Ordered b is c p v ok low = ap (rank_of b) (member_of-gap_of b c p v ok low)
gap-moved-by Classes b is c p v ok low = ap number_by_greatest (kinds.member-moved b is c p v ok low)

gap-legal-by : (k : GraphNumbering) (b : PlainBoard) → IsBoard b → (c : List ℕ) (p v : ℕ) → IsConfiguration b c
    → p < b.pebbles
    → Legal b c p v ↔ IsAnswerIn (graph_by k b) (gap_by k b c p) v
unfolding graph_by gap_by
gap-legal-by Ordered b is c p v ok low = (ranks.asked-in-gap b is c p ok low).legal v
gap-legal-by Classes b is c p v ok low = (kinds.asked-in-gap b is c p ok low).legal v

-- ---- the same of a numbered board

module _ (n : Numbered) (is : IsBoard n.board) where
  pub number-below : (c : List ℕ) → IsConfiguration n.board c → number_in n c < (graph_of n).configurations
  number-below c ok = number-below-by n.numbering n.board is c ok

  pub configuration-is : (x : ℕ) → x < (graph_of n).configurations → IsConfiguration n.board (configuration_of n x)
  configuration-is x i = configuration-is-by n.numbering n.board is x i

  pub number-again : (x : ℕ) → x < (graph_of n).configurations → number_in n (configuration_of n x) ≡ x
  number-again x i = number-again-by n.numbering n.board is x i

  pub number-value : (c : List ℕ) → IsConfiguration n.board c → (value : Value)
      → HasValue n.board c value ↔ HasValue n.board (configuration_of n (number_in n c)) value
  number-value c ok value = value-by n.numbering n.board is c ok value

  module _ (c : List ℕ) (p : ℕ) (ok : IsConfiguration n.board c) (low : p < n.board.pebbles) where
    pub gap-in-below : gap_in n c p < (graph_of n).gaps
    gap-in-below = gap-below-by n.numbering n.board is c p ok low

    pub gap-in-own : (graph_of n).member (gap_in n c p) (get_or c p 0) ≡ number_in n c
    gap-in-own = gap-own-by n.numbering n.board is c p ok low

    pub gap-in-moved : (v : ℕ) → (graph_of n).member (gap_in n c p) v ≡ number_in n (moved c p v)
    gap-in-moved v = gap-moved-by n.numbering n.board is c p v ok low

    pub gap-in-legal : (v : ℕ) → Legal n.board c p v ↔ IsAnswerIn (graph_of n) (gap_in n c p) v
    gap-in-legal v = gap-legal-by n.numbering n.board is c p v ok low
