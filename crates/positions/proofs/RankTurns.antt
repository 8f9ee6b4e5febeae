-- Ranks as numbers, by the weights of a space.
use Rattle.std.proofs.Common.{◌≡◌, ℕ, ◌+◌, ◌-◌, ◌*◌, ◌/◌, ◌%◌, ◌^◌, ◌<◌, ◌≤◌, List, [], ◌∷◌, ◌++◌, length, get_or, take}
use Rattle.std.proofs.Common.{refl, sym, ap, ◌∙◌, subst, arith}
use Rattle.std.proofs.Math.Nat.{one-le-pow, pow-le-pow_right}
use Rattle.std.proofs.lemmas.List.{take_more, length-take-le, take_all, get_or_default}
use Rattle.std.proofs.lemmas.List.Elements.{All-take}
use Rattle.board_text.specs.PlainBoard.{PlainBoard, IsBoard, IsConfiguration, places}
use Rattle.board_text.specs.declared.board.TheConstants.{MAX_PEBBLES}
use Rattle.board_text.proofs.Cited.{some_places}
use Rattle.positions.specs.Game.{moved}
use Rattle.positions.specs.Ranks.{number_of, configurations, rank_of, configuration_at}
use Rattle.positions.specs.Inside.Weights.{AreNumbersOf, weight_of}
use Rattle.positions.specs.declared.space.TheConstants.{MAX_CONFIGURATIONS}
use Rattle.positions.proofs.Configurations.{moved_is_configuration}
use Rattle.positions.proofs.Digits.{length-digits_of, number_of-push, number_below}
use Rattle.positions.proofs.NumberParts.{Parts, parts_at, quotient, remainder}
use Rattle.positions.proofs.DigitRests.{IsRest, IsNextRest, rest_next}
use Rattle.positions.proofs.Ranks.{rank_of-configuration_at, configuration_at_is, rank_below}

pub weight_positive : {labels pebbles size : ℕ} {words : List ℕ} (board : PlainBoard) (base : ℕ) (weights : List ℕ)
    (pebble : ℕ)
    → AreNumbersOf board labels pebbles base size weights words → pebble < board.pebbles → 0 < get_or weights pebble 0
weight_positive board base weights pebble are inside =
    subst (λ w. 0 < w) (sym (are.weighs pebble inside))
    (one-le-pow (board.pebbles - 1 - pebble) (places board) (some_places board are.is_board))

-- the weight of a pebble is read alike with any default
pub read_weight : {labels pebbles size : ℕ} {words : List ℕ} (board : PlainBoard) (base : ℕ) (weights : List ℕ)
    (pebble none : ℕ)
    → AreNumbersOf board labels pebbles base size weights words → length weights ≡ MAX_PEBBLES → pebble < board.pebbles
    → get_or weights pebble none ≡ get_or weights pebble 0
read_weight board base weights pebble none are six inside =
    get_or_default weights pebble none 0 (omega (arith, six, are.is_board.pebbles.1))

pub rank_parts : {labels pebbles size : ℕ} {words : List ℕ} (board : PlainBoard) (base : ℕ) (weights : List ℕ)
    (rank pebble : ℕ)
    → AreNumbersOf board labels pebbles base size weights words → rank < configurations board → pebble < board.pebbles
    → Parts (places board) (configuration_at board rank) pebble (get_or weights pebble 0)
rank_parts board base weights rank pebble are below inside =
    let is = configuration_at_is board rank below in
    subst (λ w. Parts (places board) (configuration_at board rank) pebble w) (sym (are.weighs pebble inside))
    (parts_at (places board) (configuration_at board rank) pebble board.pebbles is.each_place is.each_pebble inside)

-- the label of a pebble
pub held_is : {labels pebbles size : ℕ} {words : List ℕ} (board : PlainBoard) (base : ℕ) (weights : List ℕ)
    (rank pebble : ℕ)
    → AreNumbersOf board labels pebbles base size weights words → rank < configurations board → pebble < board.pebbles
    → rank / get_or weights pebble 0 % base ≡ get_or (configuration_at board rank) pebble 0
held_is board base weights rank pebble are below inside =
    let held : ℕ = get_or (configuration_at board rank) pebble 0 in
    let parts = rank_parts board base weights rank pebble are below inside in
    let whole = sym (rank_of-configuration_at board rank below) ∙ parts.whole in
    ap (λ n. rank / get_or weights pebble 0 % n) are.base_is
    ∙ ap (λ n. n % places board) (quotient rank (parts.before * places board + held)
    (get_or weights pebble 0) parts.behind whole parts.small)
    ∙ remainder (parts.before * places board + held) parts.before (places board) held refl parts.low

-- the rank with another label of a pebble
pub record IsWith (board : PlainBoard) (base : ℕ) (weight rank pebble label : ℕ) : Type 0 where
  pub rank_is : rank - rank / weight % base * weight + label * weight
      ≡ rank_of board (moved (configuration_at board rank) pebble label)
  pub below : rank - rank / weight % base * weight + label * weight < configurations board
  pub few : rank - rank / weight % base * weight + label * weight ≤ MAX_CONFIGURATIONS

pub with_label : {labels pebbles size : ℕ} {words : List ℕ} (board : PlainBoard) (base : ℕ) (weights : List ℕ)
    (rank pebble label : ℕ)
    → AreNumbersOf board labels pebbles base size weights words → rank < configurations board → pebble < board.pebbles
    → label < board.labels
    → IsWith board base (get_or weights pebble 0) rank pebble label
with_label board base weights rank pebble label are below inside low =
    let held : ℕ = get_or (configuration_at board rank) pebble 0 in
    let weight : ℕ = get_or weights pebble 0 in
    let parts = rank_parts board base weights rank pebble are below inside in
    let whole : rank ≡ (parts.before * places board + held) * weight + parts.behind =
    sym (rank_of-configuration_at board rank below) ∙ parts.whole in
    let is : rank / weight % base ≡ held = held_is board base weights rank pebble are below inside in
    let product : rank / weight % base * weight ≡ held * weight = ap (λ n. n * weight) is in
    let changed : rank_of board (moved (configuration_at board rank) pebble label)
    ≡ (parts.before * places board + label) * weight + parts.behind = parts.changed label in
    let same : rank - rank / weight % base * weight + label * weight
    ≡ rank_of board (moved (configuration_at board rank) pebble label) = omega arith in
    let small : rank_of board (moved (configuration_at board rank) pebble label) < configurations board =
    rank_below board (moved (configuration_at board rank) pebble label)
    (moved_is_configuration board (configuration_at board rank) pebble label low
    (configuration_at_is board rank below)) in
    let few : configurations board ≤ MAX_CONFIGURATIONS = are.few in
    record {
      rank_is = same;
      below = subst (λ n. n < configurations board) (sym same) small;
      few = omega arith;
    }

-- ---- the labels of a rank, from the first pebble to the last

-- a number has the labels from a place on
abbrev pub IsRankRest : PlainBoard → ℕ → ℕ → ℕ → Type 0
IsRankRest board rank place rest = IsRest (places board) board.pebbles (configuration_at board rank) place rest

pub rank_rest_next : (board : PlainBoard) (rank place rest weight : ℕ) → IsBoard board → weight ≡ weight_of board place
    → place < board.pebbles → IsRankRest board rank place rest
    → IsNextRest (places board) board.pebbles (configuration_at board rank) place (rest / weight) (rest % weight)
rank_rest_next board rank place rest weight is_board weighs inside is =
    rest_next (places board) board.pebbles (configuration_at board rank) place rest weight (some_places board is_board)
    (length-digits_of (places board) board.pebbles rank) inside weighs is

-- ---- the rank of a list, label by label

pub record IsFrontNumber (board : PlainBoard) (configuration : List ℕ) (index number : ℕ) : Type 0 where
  pub number_is : number ≡ number_of (places board) (take index configuration)
  pub few : number ≤ MAX_CONFIGURATIONS

pub record IsNextFront (board : PlainBoard) (configuration : List ℕ) (index number : ℕ) : Type 0 where
  pub below : number < configurations board
  pub front : IsFrontNumber board configuration (index + 1) number

pub front_more : {labels pebbles size : ℕ} {words : List ℕ} (board : PlainBoard) (base : ℕ)
    (weights configuration : List ℕ) (index number : ℕ)
    → AreNumbersOf board labels pebbles base size weights words → IsConfiguration board configuration
    → index < length configuration
    → IsFrontNumber board configuration index number
    → IsNextFront board configuration index (number * base + get_or configuration index 0)
front_more board base weights configuration index number are is inside front =
    let label : ℕ = get_or configuration index 0 in
    let some : 1 ≤ places board = some_places board are.is_board in
    let front_list : List ℕ = take (index + 1) configuration in
    let longer : front_list ≡ take index configuration ++ label ∷ [] = take_more configuration index 0 inside in
    let same : number * base + label ≡ number_of (places board) front_list =
    ap (λ b. number * b + label) are.base_is
    ∙ ap (λ n. n * places board + label) front.number_is
    ∙ sym (ap (number_of (places board)) longer ∙ number_of-push (places board) (take index configuration) label) in
    let short : length front_list ≡ index + 1 = length-take-le (index + 1) configuration (omega arith) in
    let low : number_of (places board) front_list < places board ^ length front_list =
    number_below (places board) front_list (All-take (λ l. l < places board) (index + 1) configuration is.each_place) in
    let long : length front_list ≤ board.pebbles = omega (arith, is.each_pebble) in
    let most : places board ^ length front_list ≤ configurations board = pow-le-pow_right some long in
    let few : configurations board ≤ MAX_CONFIGURATIONS = are.few in
    record { below = omega arith; front = record { number_is = same; few = omega arith } }

pub front_all : (board : PlainBoard) (configuration : List ℕ) (index number : ℕ) → length configuration ≤ index
    → IsFrontNumber board configuration index number → number ≡ rank_of board configuration
front_all board configuration index number all front =
    front.number_is ∙ ap (number_of (places board)) (take_all index configuration all)
