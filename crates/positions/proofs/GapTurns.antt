-- Gaps as numbers, by the weights of a space.
use Rattle.std.proofs.Common.{◌≡◌, ℕ, ◌+◌, ◌-◌, ◌*◌, ◌/◌, ◌%◌, ◌^◌, ◌<◌, ◌≤◌, List, get_or, refl, sym, ap, ◌∙◌, subst}
use Rattle.std.proofs.Common.{arith, mod-lt, mul-le-mul_right}
use Rattle.std.proofs.Math.Nat.{pow-le-pow_right}
use Rattle.board_text.specs.PlainBoard.{PlainBoard, IsBoard, places}
use Rattle.board_text.specs.declared.board.TheConstants.{MAX_PEBBLES}
use Rattle.board_text.proofs.Cited.{some_places}
use Rattle.positions.specs.Ranks.{configurations, rank_of, configuration_at}
use Rattle.positions.specs.Gaps.{gaps_each, gaps, gap_of, pebble_of, others_of, member_of}
use Rattle.positions.specs.Inside.Weights.{AreNumbersOf, weight_of}
use Rattle.positions.specs.declared.space.TheConstants.{MAX_CONFIGURATIONS}
use Rattle.positions.proofs.Digits.{number_of-digits_of}
use Rattle.positions.proofs.NumberParts.{Room, room_at, quotient, remainder}
use Rattle.positions.proofs.Ranks.{rank_of-configuration_at, rank_below}
use Rattle.positions.proofs.GapLaws.{positive_each, pebble_below, others_of_gap, member_is}
use Rattle.positions.proofs.RankTurns.{rank_parts}

-- the first weight is the number of gaps of each pebble
pub first_weight : {labels pebbles size : ℕ} {words : List ℕ} (board : PlainBoard) (base : ℕ) (weights : List ℕ)
    → AreNumbersOf board labels pebbles base size weights words → get_or weights 0 0 ≡ gaps_each board
first_weight board base weights are =
    let some : 1 ≤ board.pebbles = are.is_board.pebbles.0 in
    let all : board.pebbles - 1 - 0 ≡ board.pebbles - 1 = omega arith in
    are.weighs 0 some ∙ ap (λ n. places board ^ n) all

pub gaps_few : {labels pebbles size : ℕ} {words : List ℕ} (board : PlainBoard) (base : ℕ) (weights : List ℕ)
    → AreNumbersOf board labels pebbles base size weights words → gaps board ≤ MAX_PEBBLES * MAX_CONFIGURATIONS
gaps_few board base weights are =
    let most : gaps_each board ≤ configurations board =
    pow-le-pow_right (some_places board are.is_board) (omega arith) in
    let few : configurations board ≤ MAX_CONFIGURATIONS = are.few in
    let product : board.pebbles * gaps_each board ≤ MAX_PEBBLES * gaps_each board =
    mul-le-mul_right (gaps_each board) are.is_board.pebbles.1 in
    omega arith

pub tuples_few : (board : PlainBoard) → IsBoard board → configurations board ≤ MAX_CONFIGURATIONS
    → gaps_each board ≤ MAX_CONFIGURATIONS
tuples_few board is few =
    let most : gaps_each board ≤ configurations board = pow-le-pow_right (some_places board is) (omega arith) in
    omega arith

-- a gap is small enough to be divided by the number of tuples
pub gap_divides : (board : PlainBoard) (gap : ℕ) → IsBoard board → configurations board ≤ MAX_CONFIGURATIONS
    → gap < gaps board → (gap ≤ MAX_PEBBLES * MAX_CONFIGURATIONS) × (gap ≤ MAX_CONFIGURATIONS * gaps_each board)
gap_divides board gap is few below =
    let each : gaps_each board ≤ MAX_CONFIGURATIONS = tuples_few board is few in
    let product : board.pebbles * gaps_each board ≤ MAX_PEBBLES * gaps_each board =
    mul-le-mul_right (gaps_each board) is.pebbles.1 in
    (omega arith, omega arith)

-- a pebble and a rank without the pebble's label give the number of their gap
pub gap_is : {labels pebbles size : ℕ} {words : List ℕ} (board : PlainBoard) (base : ℕ) (weights : List ℕ)
    (rank pebble : ℕ)
    → AreNumbersOf board labels pebbles base size weights words → rank < configurations board → pebble < board.pebbles
    → pebble * get_or weights 0 0 + rank / get_or weights pebble 0 / base * get_or weights pebble 0 + rank % get_or
    weights pebble 0
    ≡ gap_of board (configuration_at board rank) pebble
gap_is board base weights rank pebble are below inside =
    let weight : ℕ = get_or weights pebble 0 in
    let held : ℕ = get_or (configuration_at board rank) pebble 0 in
    let parts = rank_parts board base weights rank pebble are below inside in
    let whole : rank ≡ (parts.before * places board + held) * weight + parts.behind =
    sym (rank_of-configuration_at board rank below) ∙ parts.whole in
    let before : rank / weight / base ≡ parts.before =
    ap (λ n. rank / weight / n) are.base_is
    ∙ ap (λ n. n / places board) (quotient rank
    (parts.before * places board + held) weight parts.behind whole parts.small)
    ∙ quotient (parts.before * places board + held) parts.before (places board) held refl parts.low in
    let behind : rank % weight ≡ parts.behind =
    remainder rank (parts.before * places board + held) weight parts.behind whole parts.small in
    let first : pebble * get_or weights 0 0 ≡ pebble * gaps_each board =
    ap (λ n. pebble * n) (first_weight board base weights are) in
    let product : rank / weight / base * weight ≡ parts.before * weight = ap (λ n. n * weight) before in
    let both : gap_of board (configuration_at board rank) pebble
    ≡ pebble * gaps_each board + (parts.before * weight + parts.behind) =
    ap (λ n. pebble * gaps_each board + n) parts.removed in
    omega arith

-- a gap's pebble, and the rank of its member with a label
pub record IsMember (board : PlainBoard) (base each : ℕ) (weights : List ℕ) (gap label : ℕ) : Type 0 where
  pub pebble_is : gap / each ≡ pebble_of board gap
  pub inside : gap / each < board.pebbles
  pub rank_is : (gap % each / get_or weights (gap / each) 0 * base + label) * get_or weights
      (gap / each) 0 + gap % each % get_or weights (gap / each) 0
      ≡ rank_of board (member_of board gap label)
  pub below : (gap % each / get_or weights (gap / each) 0 * base + label) * get_or weights
      (gap / each) 0 + gap % each % get_or weights (gap / each) 0
      < configurations board

pub pebble_is : {labels pebbles size : ℕ} {words : List ℕ} (board : PlainBoard) (base : ℕ) (weights : List ℕ) (gap : ℕ)
    → AreNumbersOf board labels pebbles base size weights words → gap / get_or weights 0 0 ≡ pebble_of board gap
pebble_is board base weights gap are = ap (λ n. gap / n) (first_weight board base weights are)

pub member_is_rank : {labels pebbles size : ℕ} {words : List ℕ} (board : PlainBoard) (base : ℕ) (weights : List ℕ)
    (gap label : ℕ)
    → AreNumbersOf board labels pebbles base size weights words → gap < gaps board → label < places board
    → IsMember board base (get_or weights 0 0) weights gap label
member_is_rank board base weights gap label are below low =
    let each : ℕ = gaps_each board in
    let pebble : ℕ = pebble_of board gap in
    let inside : pebble < board.pebbles = pebble_below board gap below in
    let others = others_of_gap board gap below in
    let weight : ℕ = get_or weights pebble 0 in
    let weighs : weight_of board pebble ≡ weight = sym (are.weighs pebble inside) in
    let room : Room (places board) (others_of board gap) pebble weight =
    subst (λ w. Room (places board) (others_of board gap) pebble w) weighs
    (room_at (places board) (others_of board gap) pebble (board.pebbles - 1) others.below others.size (omega arith)) in
    let whole : gap % each ≡ room.before * weight + room.behind =
    sym (number_of-digits_of (places board) (board.pebbles - 1) (gap % each)
    (mod-lt gap (positive_each board gap below))) ∙ room.whole in
    let same : (gap % each / weight * base + label) * weight + gap % each % weight
    ≡ rank_of board (member_of board gap label) =
    ap (λ n. (gap % each / weight * n + label) * weight + gap % each % weight) are.base_is
    ∙ ap (λ n. (n * places board + label) * weight + gap % each % weight)
    (quotient (gap % each) room.before weight room.behind whole room.small)
    ∙ ap (λ n. (room.before * places board + label) * weight + n)
    (remainder (gap % each) room.before weight room.behind whole room.small)
    ∙ sym (room.filled label) in
    subst (λ n. IsMember board base n weights gap label) (sym (first_weight board base weights are)) (record {
      pebble_is = refl;
      inside = inside;
      rank_is = same;
      below = subst (λ n. n < configurations board) (sym same)
          (rank_below board (member_of board gap label) (member_is board gap label below low));
    })

-- the rank of a member by the pebble and the tuple of its gap, and the weight of the pebble
pub member_by_parts : {labels pebbles size : ℕ} {words : List ℕ} (board : PlainBoard) (base : ℕ) (weights : List ℕ)
    (gap place pebble tuple weight : ℕ)
    → AreNumbersOf board labels pebbles base size weights words → gap < gaps board → place < places board
    → pebble ≡ gap / gaps_each board → pebble < board.pebbles → tuple ≡ gap % gaps_each board
    → weight ≡ weight_of board pebble
    → ((tuple / weight * base + place) * weight + tuple % weight ≡ rank_of board (member_of board gap place))
    × ((tuple / weight * base + place) * weight + tuple % weight < configurations board)
member_by_parts board base weights gap place pebble tuple weight are below low pebble_is inside tuple_is weight_is =
    let first = first_weight board base weights are in
    let member = member_is_rank board base weights gap place are below low in
    rw (weight_is ∙ sym (are.weighs pebble inside)) (rw (tuple_is ∙ ap (λ n. gap % n) (sym first))
    (rw (pebble_is ∙ ap (λ n. gap / n) (sym first)) (member.rank_is, member.below)))

-- each step of the place adds the weight of the gap's pebble to the rank of its member
pub member_line : {labels pebbles size : ℕ} {words : List ℕ} (board : PlainBoard) (base : ℕ) (weights : List ℕ)
    (gap place : ℕ)
    → AreNumbersOf board labels pebbles base size weights words → gap < gaps board → place < places board
    → rank_of board (member_of board gap 0) + place * get_or weights (pebble_of board gap) 0
    ≡ rank_of board (member_of board gap place)
member_line board base weights gap place are below low =
    let each : ℕ = get_or weights 0 0 in
    let weight : ℕ = get_or weights (gap / each) 0 in
    let before : ℕ = gap % each / weight in
    let behind : ℕ = gap % each % weight in
    let first : (before * base + 0) * weight + behind ≡ rank_of board (member_of board gap 0) =
    (member_is_rank board base weights gap 0 are below (some_places board are.is_board)).rank_is in
    let here : (before * base + place) * weight + behind ≡ rank_of board (member_of board gap place) =
    (member_is_rank board base weights gap place are below low).rank_is in
    let same : place * get_or weights (pebble_of board gap) 0 ≡ place * weight =
    ap (λ p. place * get_or weights p 0) (sym (pebble_is board base weights gap are)) in
    omega arith
