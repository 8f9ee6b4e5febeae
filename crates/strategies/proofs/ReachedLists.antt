-- Moves of one kind lead from the start's normal places to exactly the places of some list.
use Rattle.std.proofs.Common.{◌≡◌, ◌≢◌, ℕ, zero, suc, ◌+◌, ◌<◌, ◌≤◌, ◌⊎◌, inl, inr, List, [], ◌∷◌, ◌++◌}
use Rattle.std.proofs.Common.{refl, ap, ◌∙◌, subst, arith}
use Rattle.std.specs.List.{AllPairs, Contains}
use Rattle.std.proofs.lemmas.List.Elements.{Contains-get_or}
use Rattle.std.proofs.lemmas.List.Quantifiers.{all_pairs_push}
use Rattle.std.proofs.lemmas.Option.{slice_get_cases}
use Rattle.board_text.specs.PlainBoard.{PlainBoard, IsConfiguration}
use Rattle.positions.specs.declared.value.Value.{Value}
use Rattle.positions.specs.declared.value.Value.TheVariants.{Finite, Forever}
use Rattle.positions.specs.Game.{Legal, moved}
use Rattle.positions.specs.Value.{HasValue}
use Rattle.positions.proofs.Cited.{dominates_or_not, moved_is_configuration, some_value}
use Rattle.proof_text.specs.Positions.{Positions}
use Rattle.strategies.specs.Best.{IsBestAnswer, IsBestRequest}
use Rattle.strategies.specs.DocumentMoves.{IsAnswerable}
use Rattle.strategies.specs.Inside.Numbering.{Numbering, AreAll, IsNumbering}
use Rattle.strategies.specs.Inside.ReachedOver.{number_over, IsAnswerStepOver, AnswerLeadsOver, IsRequestStepOver}
use Rattle.strategies.specs.Inside.ReachedOver.{RequestLeadsOver, IsReachedOver, IsReachedByAnswersOver}
use Rattle.strategies.specs.Inside.ReachedOver.{IsReachedByRequestsOver}
use Rattle.strategies.proofs.AddedRanks.{IsWith, IsWithAll, Below, added_known, added_one, added_same, added_start}
use Rattle.strategies.proofs.AddedRanks.{added_more, below_all, contains_or_not, few_apart}
use Rattle.strategies.proofs.BestAnswers.{best_answer, same_answer}
use Rattle.strategies.proofs.BestRequests.{best_request, same_request, not_lowered}
use Rattle.strategies.proofs.DocumentRows.{answers_one}
use Rattle.strategies.specs.Inside.NumberedPositions.{ArePositions}
use Rattle.strategies.proofs.SpreadMoves.{AreMoves, IsSpreadBy, IsStart, answer_moves, get_there, request_moves}
use Rattle.strategies.proofs.SpreadMoves.{spread_begins, spread_ends, spread_more}
use Rattle.strategies.proofs.DocumentForm.{not_answerable}

-- ---- the numbers that each number below a bound leads to are added

-- no number is in the list twice
abbrev AreApart : List ℕ → Type 0
AreApart numbers = AllPairs (λ first second. first ≢ second) numbers

-- the list with the numbers of which the fact holds added at its end
abbrev CanAdd : List ℕ → (ℕ → Type 0) → Type 0
CanAdd numbers P = (more : List ℕ) × IsWithAll numbers P more × AreApart more

-- the fact holds of just one number, or of none
abbrev OneOrNone : (ℕ → Type 0) → Type 0
OneOrNone P = ((number : ℕ) × P number × ((other : ℕ) → P other → other ≡ number)) ⊎ ((number : ℕ) → P number → ⊥)

none_apart : AreApart []
none_apart i j d less inside = absurd (omega arith)

with_number : (numbers : List ℕ) (number : ℕ) → AreApart numbers
    → (more : List ℕ) × IsWith numbers number more × AreApart more
with_number numbers number apart = elim (contains_or_not numbers number) [
  | inl among ↦ (numbers, record { known = λ there. refl; other = λ new. absurd (new among) }, apart)
  | inr new ↦ (
    numbers ++ number ∷ [],
    record { known = λ among. absurd (new among); other = λ there. refl },
    all_pairs_push (λ first second. first ≢ second) numbers number apart
        (λ k d within same. new (subst (Contains numbers) same (Contains-get_or numbers k d within))),
  )
]

add_one : (P : ℕ → Type 0) → OneOrNone P → (numbers : List ℕ) → AreApart numbers → CanAdd numbers P
add_one P (inl (number, is, only)) numbers apart =
    let with = with_number numbers number apart in
    (with.0, added_one numbers with.0 number P with.1 is only, with.2)
add_one P (inr none) numbers apart = (numbers, added_known numbers P (λ number is. absurd (none number is)), apart)

add_below : (P : ℕ → ℕ → Type 0) (bound : ℕ) → ((key : ℕ) → key < bound → OneOrNone (P key)) → (numbers : List ℕ)
    → AreApart numbers → CanAdd numbers (Below P bound)
add_below P zero one numbers apart = (numbers, added_start numbers P, apart)
add_below P (suc bound) one numbers apart =
    let first = add_below P bound (λ key below. one key (omega arith)) numbers apart in
    let last = add_one (P bound) (one bound (omega arith)) first.0 first.2 in
    let next : bound + 1 ≡ suc bound = omega arith in (
      last.0,
      subst (λ (n : ℕ). IsWithAll numbers (Below P n) last.0) next
          (added_more numbers first.0 last.0 P bound first.1 last.1),
      last.2,
    )

-- the numbers to which any key leads can be added
add_all : (P : ℕ → ℕ → Type 0) (bound : ℕ) → ((key number : ℕ) → P key number → key < bound)
    → ((key : ℕ) → key < bound → OneOrNone (P key)) → (numbers : List ℕ) → AreApart numbers
    → CanAdd numbers (λ number. (key : ℕ) × P key number)
add_all P bound low one numbers apart =
    let added = add_below P bound one numbers apart in (
      added.0,
      added_same numbers added.0 (Below P bound) (λ number. (key : ℕ) × P key number)
          (λ number. below_all P bound number (λ key is. low key number is)) added.1,
      added.2,
    )

-- ---- a list that is worked off comes to an end

module _ (board : PlainBoard) (positions : Positions) (are_positions : ArePositions board positions)
    (numbering : Numbering) (are_numbers : IsNumbering board numbering) (IsMove : List ℕ → ℕ → ℕ → Type 0)
    (Holds : List ℕ → Type 0) (Leads : ℕ → ℕ → Type 0)
    (is : IsConfiguration board board.start) (are : AreMoves board positions numbering IsMove Holds Leads)
    (add : (number : ℕ) → numbering.IsNumber number → Holds (numbering.places number)
    → (numbers : List ℕ) → AreApart numbers → CanAdd numbers (Leads number)) where
  works_off : (left place : ℕ) (numbers : List ℕ) → are_numbers.end ≤ place + left
      → IsSpreadBy board positions numbering IsMove Holds Leads place numbers
      → AreApart numbers → (all : List ℕ) × AreAll numbering (IsReachedOver positions numbering board IsMove Holds)
      (Contains all)
  works_off zero place numbers enough spread apart = elim (slice_get_cases numbers place).1 [
    | inr end ↦ (
      numbers,
      spread_ends board positions are_positions numbering are_numbers IsMove Holds Leads is are
          place numbers spread end.1,
    )
    | inl there ↦
        let few = few_apart numbers (are_numbers.end) apart
        (λ number among. are_numbers.below number (spread.on.sound number among).0) in
        absurd (omega (arith, few, there.1, enough))
  ]
  works_off (suc left) place numbers enough spread apart = elim (slice_get_cases numbers place).1 [
    | inr end ↦ (
      numbers,
      spread_ends board positions are_positions numbering are_numbers IsMove Holds Leads is are
          place numbers spread end.1,
    )
    | inl there ↦
        let found = spread.on.sound there.0 (get_there numbers place there.0 there.2) in
        let added = add there.0 found.0 found.1.holds numbers apart in
        works_off left (place + 1) added.0 (omega (arith, enough))
        (spread_more board positions are_positions numbering are_numbers IsMove Holds Leads is are place there.0 numbers
        added.0 spread there.2
        added.1) added.2
  ]

  all_reached : Holds (positions.normal board.start) ⊎ ¬ Holds (positions.normal board.start)
      → (all : List ℕ) × AreAll numbering (IsReachedOver positions numbering board IsMove Holds)
      (Contains all)
  all_reached either =
      let one : OneOrNone (IsStart board positions are_positions numbering are_numbers IsMove Holds Leads is) = elim
      either [
        | inl holds ↦ inl (number_over positions numbering board.start, (holds, refl), λ number starts. starts.1)
        | inr not ↦ inr (λ number starts. not starts.0)
      ] in
      let begun = add_one (IsStart board positions are_positions numbering are_numbers IsMove Holds Leads is) one []
      none_apart in
      works_off (are_numbers.end) 0 begun.0 (omega arith)
      (spread_begins board positions are_positions numbering are_numbers IsMove Holds Leads is begun.0 begun.1) begun.2

-- ---- best answers

pub answerable_or_not : (board : PlainBoard) (configuration : List ℕ) → IsConfiguration board configuration
    → IsAnswerable board configuration ⊎ ¬ IsAnswerable board configuration
answerable_or_not board configuration is = let value = some_value board configuration is in by value.0 value.1
  where
    by : (value : Value) → HasValue board configuration value
        → IsAnswerable board configuration ⊎ ¬ IsAnswerable board configuration
    by (Finite zero) has = inr (λ some. not_answerable board configuration some has)
    by (Finite (suc number)) has = inl (record { value = Finite (suc number); has_value = has; some = omega arith })
    by Forever has = inl (record { value = Forever; has_value = has; some = tt })

-- a request of a pebble leads to one class, or to none
answer_step : (board : PlainBoard) (positions : Positions) (are : ArePositions board positions)
    (numbering : Numbering) (c : List ℕ) (pebble : ℕ) → IsConfiguration board c → IsAnswerable board c
    → pebble < board.pebbles → OneOrNone (IsAnswerStepOver positions numbering board c pebble)
answer_step board positions are numbering c pebble is some is_pebble =
    let answer = answers_one board c some.value some.has_value some.some pebble is_pebble in
    let best = best_answer board c pebble is answer.0 answer.1 in
    let next : List ℕ = moved c pebble best.0 in
    let is_next : IsConfiguration board next =
    moved_is_configuration board c pebble best.0 best.1.0.legal.is_label is in
    let one : (label : ℕ) → IsBestAnswer board c pebble label → label ≡ best.0 =
    λ label is_best. same_answer board c pebble label best.0 is_best best.1 in
    elim (answerable_or_not board (positions.normal next) (are.is next is_next)) [
      | inl holds ↦ inl (
        number_over positions numbering next,
        record { is_pebble = is_pebble; label = best.0; best = best.1; to_is = refl; some = holds },
        λ other step. step.to_is ∙ ap (λ (l : ℕ). number_over positions numbering (moved c pebble l))
            (one step.label step.best),
      )
      | inr not ↦ inr (λ other step. not
          (subst (λ (l : ℕ). IsAnswerable board (positions.normal (moved c pebble l))) (one step.label step.best)
          step.some))
    ]

pub answers_reach : (board : PlainBoard) (positions : Positions) → ArePositions board positions
    → (numbering : Numbering)
    → IsNumbering board numbering → IsConfiguration board board.start
    → (numbers : List ℕ) × AreAll numbering (IsReachedByAnswersOver positions numbering board) (Contains numbers)
answers_reach board positions are numbering are_numbers is =
    all_reached board positions are numbering are_numbers _ (IsAnswerable board)
    (AnswerLeadsOver positions numbering board) is (answer_moves board positions numbering)
    (λ number is_number some. add_all (IsAnswerStepOver positions numbering board (numbering.places number))
    board.pebbles
    (λ pebble to step. step.is_pebble)
    (λ pebble. answer_step board positions are numbering (numbering.places number) pebble
    (are_numbers.is number is_number) some))
    (answerable_or_not board (positions.normal board.start) (are.is board.start is))

-- ---- best requests

-- a label leads to one class, or to none
request_step : (board : PlainBoard) (positions : Positions) (numbering : Numbering) (c : List ℕ) (label : ℕ)
    → IsConfiguration board c →
    label < board.labels
    → OneOrNone (IsRequestStepOver positions numbering board c label)
request_step board positions numbering c label is is_label = let value = some_value board c is in by value.0 value.1
  where
    by : (value : Value) → HasValue board c value → OneOrNone (IsRequestStepOver positions numbering board c label)
    by Forever has = inr (λ to step. not_lowered board c step.pebble is has step.best.0)
    by (Finite number) has =
        let best = best_request board number c has in
        let one : (pebble : ℕ) → IsBestRequest board c pebble → pebble ≡ best.0 =
        λ pebble is_best. same_request board c pebble best.0 is_best best.1 in
        elim (dominates_or_not board c best.0 label) [
          | inl dominates ↦ inl (
            number_over positions numbering (moved c best.0 label),
            record {
              pebble = best.0;
              best = best.1;
              legal = record { is_label = is_label; dominates = dominates };
              to_is = refl;
            },
            λ other step. step.to_is ∙ ap (λ (p : ℕ). number_over positions numbering (moved c p label))
                (one step.pebble step.best),
          )
          | inr not ↦ inr (λ other step. not
              (subst (λ (p : ℕ). Legal board c p label) (one step.pebble step.best) step.legal).dominates)
        ]

pub requests_reach : (board : PlainBoard) (positions : Positions) → ArePositions board positions
    → (numbering : Numbering)
    → IsNumbering board numbering → IsConfiguration board board.start
    → (numbers : List ℕ) × AreAll numbering (IsReachedByRequestsOver positions numbering board) (Contains numbers)
requests_reach board positions are numbering are_numbers is =
    all_reached board positions are numbering are_numbers _ (λ c. Unit {0})
    (RequestLeadsOver positions numbering board) is (request_moves board positions numbering)
    (λ number is_number holds. add_all (IsRequestStepOver positions numbering board (numbering.places number))
    board.labels
    (λ label to step. step.legal.is_label)
    (λ label. request_step board positions numbering (numbering.places number) label (are_numbers.is number is_number)))
    (inl tt)
