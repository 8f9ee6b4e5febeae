-- The document of the small board.
use Rattle.positions.specs.Ranks.{rank_of}
use Rattle.proof_text.specs.Positions.{configuration_positions}
use Rattle.std.proofs.Common.{◌≡◌, ℕ, zero, suc, ◌-◌, ◌<◌, ◌≤◌, List, [], ◌∷◌, slice_index, refl, sym, ap, ◌∙◌, subst}
use Rattle.std.proofs.Common.{arith}
use Rattle.std.specs.List.{Contains}
use Rattle.std.proofs.lemmas.List.Elements.{All-cons, All-nil}
use Rattle.std.proofs.lemmas.List.Kept.{AllPairs-cons}
use Rattle.board_text.specs.PlainBoard.{Dominates, AreLabels, IsBoard, places}
use Rattle.board_text.proofs.Cited.{start_from_numbers}
use Rattle.positions.specs.declared.value.Value.TheVariants.{Finite}
use Rattle.positions.specs.declared.turns.Turns.TheVariants.{Count}
use Rattle.positions.specs.Game.{Legal, AdversaryTree, moved}
use Rattle.positions.specs.Value.{HasValue}
use Rattle.positions.specs.Table.{AnswerRow, RequestRow}
use Rattle.proof_text.specs.Proof.{IsBefore}
use Rattle.strategies.specs.Best.{HasSmallerValue, HasNoGreaterValue, IsBestAnswer, LowersValue, IsBestRequest}
use Rattle.strategies.specs.Document.{IsDocumentOf}
use Rattle.strategies.specs.DocumentMoves.{IsAnswerable, IsAnswerMove, IsRequestMove, LeadsOver}
use Rattle.strategies.specs.PositionDocument.{AsksAdversary, IsLabellerRowOver, IsAdversaryRowOver, AreExactlyOver}
use Rattle.strategies.specs.Example.{small_board, small_document}
use Rattle.strategies.proofs.ValueOrder.{not_less}
use Rattle.strategies.proofs.BestRequests as requests
use Rattle.strategies.proofs.DocumentForm.{not_answerable}
use Rattle.strategies.proofs.FormedRows.{start_answerable}
use Rattle.strategies.proofs.OneList.{one_answer_row, one_request_row}
use Rattle.strategies.proofs.PositionLaws.{are_plain}
use Rattle.strategies.proofs.RowLists.{one_row}

-- ---- moves

-- label 1 beats label 0, and nothing else
beats_is : (x y : ℕ) → Dominates small_board x y → (x ≡ 1) × (y ≡ 0)
beats_is x y (zero, inside, same) = (sym (ap (λ (p : ℕ × ℕ). p.0) same), sym (ap (λ (p : ℕ × ℕ). p.1) same))
beats_is x y (suc place, inside, same) = absurd (omega arith)

pub is_board : IsBoard small_board
is_board = record {
  labels = (omega arith, omega arith);
  pebbles = (omega arith, omega arith);
  start = start_from_numbers small_board (
    refl,
    All-cons (λ place. place < 3) 0 (0 ∷ []) (omega arith)
        (All-cons (λ place. place < 3) 0 [] (omega arith) (All-nil (λ place. place < 3))),
  );
  pairs = record {
    of_labels = All-cons (AreLabels 2) (1, 0) [] (omega arith, omega arith) (All-nil (AreLabels 2));
    ascending = λ i j d less inside. absurd (omega arith);
    one_way = λ x y one other. omega (arith, (beats_is x y one).0, (beats_is y x other).1);
  };
}

-- the other pebble
abbrev another : ℕ → ℕ
another pebble = 1 - pebble

legal_is : (configuration : List ℕ) (pebble : ℕ) → slice_index configuration (another pebble) < 2 → (label : ℕ)
    → Legal small_board configuration pebble label
    → (label ≡ 1) × (slice_index configuration (another pebble) ≡ 0)
legal_is configuration pebble held label legal =
    beats_is label (slice_index configuration (another pebble))
    (legal.dominates (another pebble) (omega arith) (λ same. omega (arith, same)) held)

legal_from : (configuration : List ℕ) (pebble : ℕ) → pebble < 2 → slice_index configuration (another pebble) ≡ 0
    → Legal small_board configuration pebble 1
legal_from configuration pebble below free = record {
  is_label = omega arith;
  dominates = λ other within differs held.
      let same : other ≡ another pebble = omega (arith, differs) in
      (0, omega arith, ap (λ (n : ℕ). (1, n)) (sym (ap (slice_index configuration) same ∙ free)));
}

-- ---- values

abbrev start : List ℕ
start = 0 ∷ 0 ∷ []

-- a pebble has been moved
abbrev after : ℕ → List ℕ
after pebble = moved start pebble 1

none_after : (pebble : ℕ) → pebble < 2 → (label : ℕ) → Legal small_board (after pebble) (another pebble) label → ⊥
none_after zero below label legal =
    let taken : 1 ≡ 0 = (legal_is (1 ∷ 0 ∷ []) 1 (omega arith) label legal).1 in omega (arith, taken)
none_after (suc zero) below label legal =
    let taken : 1 ≡ 0 = (legal_is (0 ∷ 1 ∷ []) 0 (omega arith) label legal).1 in omega (arith, taken)
none_after (suc (suc pebble)) below label legal = omega arith

after_value : (pebble : ℕ) → pebble < 2 → HasValue small_board (after pebble) (Finite 0)
after_value pebble below = (tt, (another pebble, omega arith, λ label legal. none_after pebble below label legal))

start_free : (pebble : ℕ) → slice_index start pebble ≡ 0
start_free zero = refl
start_free (suc zero) = refl
start_free (suc (suc pebble)) = refl

start_held : (pebble : ℕ) → slice_index start (another pebble) < 2
start_held pebble = omega (arith, start_free (another pebble))

start_value : HasValue small_board start (Finite 1)
start_value = (
  λ pebble below. (1, legal_from start pebble below (start_free (another pebble)), tt),
  (
    0,
    omega arith,
    λ label legal.
        subst (λ (l : ℕ). AdversaryTree small_board 1 (moved start 0 l))
        (sym (legal_is start 0 (start_held 0) label legal).0) (after_value 0 (omega arith)).1,
  ),
)

-- ---- best answers and best requests

best_answer : (pebble : ℕ) → pebble < 2 → IsBestAnswer small_board start pebble 1
best_answer pebble below = (
  record {
    legal = legal_from start pebble below (start_free (another pebble));
    greatest = λ other legal.
        subst (λ (l : ℕ). HasNoGreaterValue small_board (moved start pebble l) (after pebble))
        (sym (legal_is start pebble (start_held pebble) other legal).0)
        (record {
          value = Finite 0;
          bound = Finite 0;
          of_first = after_value pebble below;
          of_second = after_value pebble below;
          not_greater = λ less. omega (arith, less);
        });
  },
  λ other best. omega (arith, (legal_is start pebble (start_held pebble) other best.legal).0),
)

best_at_start : IsBestRequest small_board start 0
best_at_start = (
  record {
    is_pebble = omega arith;
    lowers = λ label legal.
        subst (λ (l : ℕ). HasSmallerValue small_board (moved start 0 l) start)
        (sym (legal_is start 0 (start_held 0) label legal).0)
        (record {
          smaller = Finite 0;
          greater = Finite 1;
          of_first = after_value 0 (omega arith);
          of_second = start_value;
          less = omega arith;
        });
  },
  λ other lowers. omega arith,
)

best_after : IsBestRequest small_board (after 0) 1
best_after = (
  record { is_pebble = omega arith; lowers = λ label legal. absurd (none_after 0 (omega arith) label legal) },
  smallest,
)
  where
    smallest : (other : ℕ) → LowersValue small_board (after 0) other → 1 ≤ other
    smallest zero lowers = absurd (not_less small_board 0 (after 0) (after 0) tt (after_value 0 (omega arith))
        (lowers.lowers 1 (legal_from (after 0) 0 (omega arith) refl)))
    smallest (suc other) lowers = omega arith

-- ---- the labeller's row

abbrev answers : AnswerRow
answers = record { at = start; turns = Count 1; answers = 1 ∷ 1 ∷ [] }

is_labeller_row : IsLabellerRowOver configuration_positions small_board (Finite 1) answers
is_labeller_row = record {
  moves = [];
  reached = refl;
  value = Finite 1;
  has_value = start_value;
  some = omega arith;
  turns = refl;
  one_each = refl;
  best = best;
}
  where
    best : (pebble : ℕ) → pebble < 2 → IsBestAnswer small_board start pebble (slice_index (1 ∷ 1 ∷ []) pebble)
    best zero below = best_answer 0 below
    best (suc zero) below = best_answer 1 below
    best (suc (suc pebble)) below = absurd (omega arith)

abbrev Leads : (List ℕ → ℕ → ℕ → Type 0) → List ℕ → List (ℕ × ℕ) → List ℕ → Type 0
Leads = LeadsOver configuration_positions

only_start : (moves : List (ℕ × ℕ)) (to : List ℕ) → Leads (IsAnswerMove small_board) start moves to
    → IsAnswerable small_board to → start ≡ to
only_start [] to leads some = leads
only_start ((pebble, label) ∷ moves) to leads some =
    let reached : IsAnswerable small_board (moved start pebble label) =
    start_answerable small_board configuration_positions (moved start pebble label) moves to leads.1 some in
    absurd (not_answerable small_board (after pebble)
    (subst (λ (l : ℕ). IsAnswerable small_board (moved start pebble l))
    (legal_is start pebble (start_held pebble) label leads.0.best.0.legal).0 reached)
    (after_value pebble leads.0.is_pebble))

labeller_rows : AreExactlyOver (rank_of small_board) (IsLabellerRowOver configuration_positions small_board (Finite 1))
    (λ (row : AnswerRow). row.at) small_document.labeller
labeller_rows =
    one_row (rank_of small_board) (λ (row : AnswerRow). row.at)
    (IsLabellerRowOver configuration_positions small_board (Finite 1)) answers is_labeller_row
    (λ row is. one_answer_row small_board configuration_positions (Finite 1) answers row is_labeller_row is
    (only_start is.moves row.at is.reached (record { value = is.value; has_value = is.has_value; some = is.some })))

-- ---- the adversary's rows

abbrev first_request : RequestRow
first_request = record { at = start; left = 1; request = 0 }

abbrev second_request : RequestRow
second_request = record { at = after 0; left = 0; request = 1 }

abbrev IsAsked : RequestRow → Type 0
IsAsked = IsAdversaryRowOver configuration_positions small_board

is_first : IsAsked first_request
is_first = record { moves = []; reached = refl; has_value = start_value; asks = omega arith; best = best_at_start }

is_second : IsAsked second_request
is_second = record {
  moves = (0, 1) ∷ [];
  reached = (record { best = best_at_start; legal = legal_from start 0 (omega arith) (start_free 1) }, refl);
  has_value = after_value 0 (omega arith);
  asks = omega arith;
  best = best_after;
}

-- after the first move best requests lead nowhere else
then_after : (moves : List (ℕ × ℕ)) (to : List ℕ) → Leads (IsRequestMove small_board) (after 0) moves to
    → after 0 ≡ to
then_after [] to leads = leads
then_after ((pebble, label) ∷ moves) to leads =
    let asked : pebble ≡ 1 = requests.same_request small_board (after 0) pebble 1 leads.0.best best_after in
    absurd (none_after 0 (omega arith) label
    (subst (λ (p : ℕ). Legal small_board (after 0) p label) asked leads.0.legal))

one_of_two : (row : RequestRow) → IsAsked row → Contains small_document.adversary row
one_of_two row is = by is.moves is.reached
  where
    by : (moves : List (ℕ × ℕ)) → Leads (IsRequestMove small_board) start moves row.at
        → Contains (first_request ∷ second_request ∷ []) row
    by [] leads = (
      0,
      omega arith,
      one_request_row small_board configuration_positions (are_plain small_board)
          first_request row is_first is leads,
    )
    by ((pebble, label) ∷ moves) leads =
        let asked : pebble ≡ 0 = requests.same_request small_board start pebble 0 leads.0.best best_at_start in
        let taken : label ≡ 1 = (legal_is start pebble (start_held pebble) label leads.0.legal).0 in
        let rest : Leads (IsRequestMove small_board) (after 0) moves row.at =
        subst (λ (l : ℕ). Leads (IsRequestMove small_board) (moved start 0 l) moves row.at) taken
        (subst (λ (p : ℕ). Leads (IsRequestMove small_board) (moved start p label) moves row.at) asked leads.1) in (
          1,
          omega arith,
          one_request_row small_board configuration_positions (are_plain small_board) second_request row
              is_second is (then_after moves row.at rest),
        )

adversary_rows : AreExactlyOver (rank_of small_board)
    (λ (row : RequestRow). AsksAdversary (Finite 1) × IsAsked row)
    (λ (row : RequestRow). row.at) small_document.adversary
unfolding places
adversary_rows = record {
  each = λ row. (λ among. (tt, either row among), λ is. one_of_two row is.1);
  ascending = AllPairs-cons Ascends first_request (second_request ∷ [])
      (All-cons (Ascends first_request) second_request [] (omega arith) (All-nil (Ascends first_request)))
      (λ i j d less inside. absurd (omega arith));
}
  where
    Ascends : RequestRow → RequestRow → Type 0
    Ascends first second = IsBefore small_board first.at second.at

    either : (row : RequestRow) → Contains (first_request ∷ second_request ∷ []) row → IsAsked row
    either row (zero, inside, same) = subst (IsAsked) same is_first
    either row (suc zero, inside, same) = subst (IsAsked) same is_second
    either row (suc (suc place), inside, same) = absurd (omega arith)

pub is_document : IsDocumentOf small_board small_document
is_document = record {
  value = Finite 1;
  has_value = start_value;
  claim = refl;
  labeller = labeller_rows;
  adversary = adversary_rows;
}
