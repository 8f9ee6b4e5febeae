-- Tables give trees.
use Rattle.std.proofs.Common.{◌≡◌, ℕ, zero, suc, ◌<◌, ◌≤◌, List, [], ◌∷◌, length, Some, refl, sym, ◌∙◌, subst, arith}
use Rattle.std.specs.List.{All}
use Rattle.std.proofs.lemmas.List.Elements.{All-from_recursion, recursion_from_All}
use Rattle.board_text.specs.PlainBoard.{PlainBoard}
use Rattle.positions.specs.Game.{Legal, LabellerTree, AdversaryTree, moved}
use Rattle.positions.specs.Table.{AnswerRow, RequestRow, AnswersLegally, AnswersAll, Answers, IsListed, IsClosed}
use Rattle.positions.specs.Table.{Requests, StopsAfter}

-- equal options hold equal things
some_is : (a b : ℕ) → Some a ≡ Some b → a ≡ b
some_is a b same = cc

-- after a request that a table answers, it answers one request less
answers_after : (board : PlainBoard) (table : List AnswerRow) (most : ℕ) (configuration : List ℕ) (pebble label : ℕ)
    → Answers board table (suc most) configuration → pebble < board.pebbles
    → AnswersLegally board table configuration pebble label
    → Answers board table most (moved configuration pebble label)
answers_after board table most configuration pebble label answers below answer requests short pebbles =
    let all : All (λ p. p < board.pebbles) (pebble ∷ requests) =
    All-from_recursion (λ p. p < board.pebbles) (pebble ∷ requests)
    (below, recursion_from_All (λ p. p < board.pebbles) requests pebbles) in
    let play = answers (pebble ∷ requests) (omega arith) all in
    let same : play.0 ≡ label = some_is play.0 label (sym play.1.answer ∙ answer.answer) in
    subst (λ (l : ℕ). AnswersAll board table (moved configuration pebble l) requests) same play.2

-- a table that answers some number of requests gives a labeller's tree of that depth
pub tree_from_answers : (board : PlainBoard) (table : List AnswerRow) (most : ℕ) (configuration : List ℕ)
    → Answers board table most configuration → LabellerTree board most configuration
tree_from_answers board table zero configuration answers = tt
tree_from_answers board table (suc most) configuration answers = λ pebble below.
    let all : All (λ p. p < board.pebbles) (pebble ∷ []) =
    All-from_recursion (λ p. p < board.pebbles) (pebble ∷ []) (below, tt) in
    let play = answers (pebble ∷ []) (omega arith) all in (
      play.0,
      play.1.legal,
      tree_from_answers board table most (moved configuration pebble play.0)
          (answers_after board table most configuration pebble play.0 answers below play.1),
    )

-- a closed table gives trees of every depth
pub tree_from_closed : (board : PlainBoard) (table : List AnswerRow) (depth : ℕ) (configuration : List ℕ)
    → IsClosed board table → IsListed table configuration → LabellerTree board depth configuration
tree_from_closed board table zero configuration closed listed = tt
tree_from_closed board table (suc depth) configuration closed listed = λ pebble below.
    let answer = closed configuration listed pebble below in
    (answer.0, answer.1.legal, tree_from_closed board table depth (moved configuration pebble answer.0) closed answer.2)

-- after a legal answer a table that stops after some number stops after one less
stops_after : (board : PlainBoard) (table : List RequestRow) (most : ℕ) (configuration : List ℕ) (pebble label : ℕ)
    → StopsAfter board table (suc most) configuration → Requests board table configuration pebble
    → Legal board configuration pebble label
    → StopsAfter board table most (moved configuration pebble label)
stops_after board table most configuration pebble label stops requests legal labels to leads =
    let whole = stops (label ∷ labels) to (pebble, requests, legal, leads) in
    let bound : suc (length labels) ≤ suc most = whole.1 in
    (whole.0, omega arith)

-- a table that stops after some number of answers gives an adversary's tree of one more depth
pub tree_from_stops : (board : PlainBoard) (table : List RequestRow) (most : ℕ) (configuration : List ℕ)
    → StopsAfter board table most configuration → AdversaryTree board (suc most) configuration
tree_from_stops board table zero configuration stops =
    let here = stops [] configuration refl in
    let requests = here.0 in (
      requests.0,
      requests.1.is_pebble,
      λ label legal.
          let more = stops (label ∷ []) (moved configuration requests.0 label) (requests.0, requests.1, legal, refl) in
          let none : 1 ≤ 0 = more.1 in absurd (omega arith),
    )
tree_from_stops board table (suc most) configuration stops =
    let requests = (stops [] configuration refl).0 in (
      requests.0,
      requests.1.is_pebble,
      λ label legal.
          tree_from_stops board table most (moved configuration requests.0 label)
          (stops_after board table most configuration requests.0 label stops requests.1 legal),
    )
