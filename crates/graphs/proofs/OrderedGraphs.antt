-- The graph of ordered configurations is a graph, and shows its board.
use Rattle.std.proofs.Common.{◌≡◌, ℕ, ◌<◌, ◌≤◌, ◌+◌, ◌*◌, ◌^◌, zero, suc, refl, sym, ap, ◌∙◌, subst, arith}
use Rattle.std.proofs.Common.{List, [], ◌∷◌, length, get_or, mul-le-mul_left}
use Rattle.std.proofs.Math.Nat.{one-le-pow}
use Rattle.std.specs.List.{insert}
use Rattle.std.proofs.lemmas.List.Elements.{All-get_or}
use Rattle.board_text.specs.PlainBoard.{PlainBoard, IsBoard, IsConfiguration, places}
use Rattle.positions.specs.Game.{LabellerTree, moved}
use Rattle.positions.specs.Ranks.{number_of, configurations, rank_of, configuration_at}
use Rattle.positions.specs.Gaps.{gaps, gap_of, pebble_of, others_of, member_of, IsAnswer, IsDominator}
use Rattle.board_text.proofs.Cited.{label_is_place, some_places}
use Rattle.positions.proofs.Cited.{rank_below, rank_of-configuration_at, configuration_at-rank_of}
use Rattle.positions.proofs.Cited.{configuration_at_is, gap_below, pebble_of-gap_of, member_of-gap_of, own_member}
use Rattle.positions.proofs.Cited.{pebble_below, member_is, label_of_member, gap_of-member_of, legal_is_answer, one_gap}
use Rattle.graphs.specs.Graph.{IsGraph}
use Rattle.graphs.specs.Ordered.{ordered}
use Rattle.graphs.specs.Shows.{IsAsked, ShowsGame}
use Rattle.graphs.proofs.DominatingPebbles.{is_dominator_is, dominator-legal, legal-dominator, IsStruckBy}
use Rattle.graphs.proofs.DominatingPebbles.{struck-found, dominator-found, struck-most}

-- ---- ranks and gaps

place_below : (b : PlainBoard) (c : List ℕ) (p : ℕ) → IsConfiguration b c → p < b.pebbles → get_or c p 0 < places b
place_below b c p is i =
    All-get_or (λ place. place < places b) c p 0 (omega (arith, is.each_pebble)) is.each_place

at_member : (b : PlainBoard) (g v : ℕ) → g < gaps b → v < places b
    → configuration_at b (rank_of b (member_of b g v)) ≡ member_of b g v
at_member b g v i j = configuration_at-rank_of b (member_of b g v) (member_is b g v i j)

-- a larger digit makes a larger number
larger-first : (weight rest y z : ℕ) → 1 ≤ weight → y < z → y * weight + rest < z * weight + rest
larger-first weight rest y z some less =
    let product : weight * (y + 1) ≤ weight * z =
    mul-le-mul_left weight (let h : y + 1 ≤ z = omega (arith, less) in h) in
    omega (arith, product, some)

same-length : (xs : List ℕ) (place y z : ℕ) → length (insert xs place y) ≡ length (insert xs place z)
same-length xs zero y z = refl
same-length [] (suc place) y z = refl
same-length (x ∷ xs) (suc place) y z = ap suc (same-length xs place y z)

larger-digit : (base : ℕ) (xs : List ℕ) (place y z : ℕ) → 1 ≤ base → y < z
    → number_of base (insert xs place y) < number_of base (insert xs place z)
larger-digit base xs zero y z some less =
    larger-first (base ^ length xs) (number_of base xs) y z (one-le-pow (length xs) base some) less
larger-digit base [] (suc place) y z some less = larger-first (base ^ 0) 0 y z (one-le-pow 0 base some) less
larger-digit base (x ∷ xs) (suc place) y z some less =
    let rest = larger-digit base xs place y z some less in
    let same = ap (λ n. x * base ^ n) (same-length xs place y z) in
    omega (arith, rest, same)

-- a larger place makes a larger rank
larger-place : (b : PlainBoard) → IsBoard b → (gap v w : ℕ) → v < w
    → rank_of b (member_of b gap v) < rank_of b (member_of b gap w)
larger-place b is gap v w less =
    larger-digit (places b) (others_of b gap) (pebble_of b gap) v w (some_places b is) less

-- ---- the gap that is struck

abbrev StruckAt : PlainBoard → ℕ → Type 0
StruckAt b x = IsStruckBy b (configuration_at b x) (gap_of b (configuration_at b x)) (gaps b) b.pebbles

-- the pebble of a gap that is struck has an answer of that gap
dominating : (b : PlainBoard) (x p : ℕ) → x < configurations b → p < b.pebbles → IsDominator b (configuration_at b x) p
    → IsAnswer b (gap_of b (configuration_at b x) p) (get_or (configuration_at b x) p 0)
dominating b x p i low is =
    let c = configuration_at b x in
    (legal_is_answer b c p (get_or c p 0) (configuration_at_is b x i) low).0 (dominator-legal b c p is)

dominator-at : (b : PlainBoard) (x : ℕ) → x < configurations b → (struck : StruckAt b x)
    → IsDominator b (configuration_at b x) struck.pebble
dominator-at b x i struck =
    let c = configuration_at b x in
    (is_dominator_is b c struck.pebble (configuration_at_is b x i).each_pebble struck.below).0 struck.test

pub ordered-is : (b : PlainBoard) → IsBoard b → IsGraph (ordered b)
ordered-is b is = record {
  member_in = λ g v i j. rank_below b (member_of b g v) (member_is b g v i j);
  ascending = λ g v w i less j. larger-place b is g v w less;
  struck_most = λ x i.
      let c = configuration_at b x in
      struck-most b c (gap_of b c) (gaps b) b.pebbles (λ pebble low.
      let below = gap_below b c pebble (configuration_at_is b x i) low in omega (arith, below));
  struck_in = λ x i low.
      let c = configuration_at b x in
      let ok = configuration_at_is b x i in
      let f = struck-found b c (gap_of b c) (gaps b) b.pebbles low in (
        get_or c f.pebble 0,
        place_below b c f.pebble ok f.below,
        ap (λ g. rank_of b (member_of b g (get_or c f.pebble 0))) f.is
            ∙ ap (rank_of b) (own_member b c f.pebble ok f.below)
            ∙ rank_of-configuration_at b x i,
      );
}

module _ (b : PlainBoard) (is : IsBoard b) (g v : ℕ) (i : g < gaps b) (j : v < places b) where
  abbrev x : ℕ
  x = rank_of b (member_of b g v)

  abbrev c : List ℕ
  c = configuration_at b x

  x-below : x < configurations b
  x-below = rank_below b (member_of b g v) (member_is b g v i j)

  c-is : c ≡ member_of b g v
  c-is = at_member b g v i j

  ok : IsConfiguration b c
  ok = configuration_at_is b x x-below

  own-place : get_or c (pebble_of b g) 0 ≡ v
  own-place = ap (λ (d : List ℕ). get_or d (pebble_of b g) 0) c-is ∙ label_of_member b g v i

  own-gap : gap_of b c (pebble_of b g) ≡ g
  own-gap = ap (λ (d : List ℕ). gap_of b d (pebble_of b g)) c-is ∙ gap_of-member_of b g v i

  -- a member with an answer is struck in its gap
  pub struck-there : IsAnswer b g v → (ordered b).struck ((ordered b).member g v) ≡ g
  struck-there answer =
      let q = pebble_of b g in
      let low = pebble_below b g i in
      let legal = (legal_is_answer b c q (get_or c q 0) ok low).1
      (subst (λ h. IsAnswer b h (get_or c q 0)) (sym own-gap) (subst (IsAnswer b g) (sym own-place) answer)) in
      let test = (is_dominator_is b c q ok.each_pebble low).1 (legal-dominator b c q low legal) in
      let f = dominator-found b c (gap_of b c) (gaps b) b.pebbles q low test in
      let other = dominating b x f.pebble x-below f.below (dominator-at b x x-below f) in
      f.is ∙ one_gap b (gap_of b c f.pebble) g (get_or c f.pebble 0) v is.pairs.one_way
      (gap_below b c f.pebble ok f.below) i
      other answer (own_member b c f.pebble ok f.below ∙ c-is)

  -- a place with which a member is struck in the gap is an answer
  pub there-struck : (ordered b).struck ((ordered b).member g v) ≡ g → IsAnswer b g v
  there-struck e =
      let f = struck-found b c (gap_of b c) (gaps b) b.pebbles (omega (arith, e, i)) in
      let gap_is : gap_of b c f.pebble ≡ g = sym f.is ∙ e in
      let pebble_is : f.pebble ≡ pebble_of b g = sym (pebble_of-gap_of b c f.pebble ok f.below)
      ∙ ap (pebble_of b) gap_is in
      let place_is : get_or c f.pebble 0 ≡ v = ap (λ p. get_or c p 0) pebble_is ∙ own-place in
      let answer = dominating b x f.pebble x-below f.below (dominator-at b x x-below f) in
      subst (IsAnswer b g) place_is (subst (λ h. IsAnswer b h (get_or c f.pebble 0)) gap_is answer)

-- a request of a pebble is answered in its gap
asked : (b : PlainBoard) → IsBoard b → (c : List ℕ) (p g : ℕ) → IsConfiguration b c → p < b.pebbles → g ≡ gap_of b c p
    → g < gaps b → IsAsked b (ordered b) (configuration_at b) c p g
asked b is c p g ok low g_is i = record {
  legal = λ label.
      let own = legal_is_answer b c p label ok low in (
        λ legal.
            let place = label_is_place b label legal.is_label in
            record {
              is_place = place;
              struck = struck-there b is g label i place (subst (λ h. IsAnswer b h label) (sym g_is) (own.0 legal));
            },
        λ has. own.1 (subst (λ h. IsAnswer b h label) g_is (there-struck b is g label i has.is_place has.struck)),
      );
  after = λ depth label legal.
      let place = label_is_place b label legal.is_label in
      let same : configuration_at b (rank_of b (member_of b g label)) ≡ moved c p label =
      at_member b g label i place ∙ ap (λ h. member_of b h label) g_is ∙ member_of-gap_of b c p label ok low in
      (subst (LabellerTree b depth) (sym same), subst (LabellerTree b depth) same);
}

-- the gap of a pebble at a configuration is asked there
pub asked-in-gap : (b : PlainBoard) → IsBoard b → (c : List ℕ) (p : ℕ) → IsConfiguration b c → p < b.pebbles
    → IsAsked b (ordered b) (configuration_at b) c p (gap_of b c p)
asked-in-gap b is c p ok low = asked b is c p (gap_of b c p) ok low refl (gap_below b c p ok low)

pub ordered-shows : (b : PlainBoard) → IsBoard b → ShowsGame b (ordered b) (configuration_at b)
ordered-shows b is = record {
  gap_of = λ x p i low.
      let c = configuration_at b x in
      let ok = configuration_at_is b x i in (
        gap_of b c p,
        gap_below b c p ok low,
        (
          get_or c p 0,
          place_below b c p ok low,
          ap (rank_of b) (own_member b c p ok low) ∙ rank_of-configuration_at b x i,
        ),
        asked-in-gap b is c p ok low,
      );
  pebble_of = λ g v i j.
      let low = pebble_below b g i in (
        pebble_of b g,
        low,
        subst (λ (c : List ℕ). IsAsked b (ordered b) (configuration_at b) c (pebble_of b g) g)
            (sym (at_member b g v i j))
            (asked b is (member_of b g v) (pebble_of b g) g (member_is b g v i j) low (sym (gap_of-member_of b g v i))
            i),
      );
}
