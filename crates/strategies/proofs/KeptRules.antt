-- The document of a board breaks no rule of checking.
use Rattle.std.proofs.Common.{◌≡◌, ℕ, zero, suc, ◌<◌, ◌≤◌, List, [], get_or, slice_index, refl, sym, subst, arith}
use Rattle.std.proofs.lemmas.List.Elements.{Contains-get_or}
use Rattle.std.proofs.lemmas.Option.{slice_get-get_or}
use Rattle.board_text.specs.PlainBoard.{PlainBoard, IsConfiguration}
use Rattle.positions.specs.declared.value.Value.{Value}
use Rattle.positions.specs.declared.value.Value.TheVariants.{Finite, Forever}
use Rattle.positions.specs.declared.claim.Claim.{Claim}
use Rattle.positions.specs.declared.turns.Turns.{Turns}
use Rattle.positions.specs.Game.{LabellerTree, moved}
use Rattle.positions.specs.Value.{HasValue}
use Rattle.positions.specs.Claim.{Holds, claim_of}
use Rattle.positions.specs.Ranks.{rank_of}
use Rattle.positions.specs.Table.{AnswerRow, RequestRow}
use Rattle.positions.proofs.Cited.{moved_is_configuration, some_value, same_value}
use Rattle.proof_text.specs.Proof.{PlainProof}
use Rattle.proof_text.specs.Rules.{IsEnough, one_less, IsListedFor, Serves, IsListedBelow, wanted_of, StartIsBelow}
use Rattle.proof_text.specs.Arranged.{arranged, document_number}
use Rattle.proof_text.specs.Positions.{Positions, class_positions, configuration_positions}
use Rattle.proof_text.specs.Rules.{MeetsRequests, MeetsAnswers, BreaksNoRule}
use Rattle.strategies.specs.Best.{IsLess}
use Rattle.strategies.specs.ClassDocument.{IsClassDocumentOf}
use Rattle.strategies.specs.Document.{IsDocumentOf}
use Rattle.strategies.specs.DocumentMoves.{IsAnswerMove, IsRequestMove, LeadsOver}
use Rattle.strategies.specs.PositionDocument.{turns_of, AsksAdversary, IsLabellerRowOver, IsAdversaryRowOver}
use Rattle.strategies.specs.PositionDocument.{IsDocumentOver}
use Rattle.strategies.proofs.ValueOrder.{at_least, less_than_finite}
use Rattle.strategies.proofs.BestAnswers.{lasts_after}
use Rattle.strategies.proofs.DocumentRows.{answer_row_for, request_row_for}
use Rattle.strategies.proofs.NormalForms.{arranged_form}
use Rattle.strategies.proofs.PositionLaws.{are_normal, are_plain}
use Rattle.strategies.specs.Inside.NumberedPositions.{ArePositions}
use Rattle.strategies.proofs.ReachedByMoves.{answers_lead_to, one_more, requests_lead_to, stays_forever}
use Rattle.strategies.proofs.RowTurns.{Keeps, enough_left, enough_at_start}

-- if a tree for the first configuration leaves one less for the second, the value is at most one less there
pub keeps : (board : PlainBoard) (from to : List ℕ)
    → ((number : ℕ) → LabellerTree board (suc number) from → LabellerTree board number to)
    → (value after : Value) → HasValue board from value → HasValue board to after → Keeps value after
keeps board from to lasts (Finite zero) (Finite after) one other = omega arith
keeps board from to lasts (Finite (suc value)) (Finite after) one other =
    let most : value ≤ after = at_least board value after to (lasts value one.0) other in omega arith
keeps board from to lasts (Finite value) Forever one other = tt
keeps board from to lasts Forever (Finite after) one other =
    let most : suc after ≤ after =
    at_least board (suc after) after to (lasts (suc after) (one (suc (suc after)))) other in absurd (omega arith)
keeps board from to lasts Forever Forever one other = tt

pub claims_what_holds : (board : PlainBoard) (proof : PlainProof) → IsDocumentOf board proof → Holds board proof.claim
claims_what_holds board proof is = subst (Holds board) (sym is.claim) (by is.value is.has_value)
  where
    by : (start : Value) → HasValue board board.start start → Holds board (claim_of start)
    by (Finite number) has = has
    by Forever has = has

module _ (board : PlainBoard) (positions : Positions) (are : ArePositions board positions) (number : List ℕ → ℕ)
    (proof : PlainProof) (is_start : IsConfiguration board board.start)
    (is : IsDocumentOver positions number board proof) where
  abbrev start : List ℕ
  start = positions.normal board.start

  pub start_is : IsConfiguration board start
  start_is = are.is board.start is_start

  pub start_value : HasValue board start is.value
  start_value = are.same_value board.start is_start is.value is.has_value

  abbrev Answered : List (ℕ × ℕ) → List ℕ → Type 0
  Answered moves to = LeadsOver positions (IsAnswerMove board) start moves to

  abbrev Requested : List (ℕ × ℕ) → List ℕ → Type 0
  Requested moves to = LeadsOver positions (IsRequestMove board) start moves to

  pub answered_is : (moves : List (ℕ × ℕ)) (to : List ℕ) → Answered moves to → IsConfiguration board to
  answered_is moves to leads = answers_lead_to board positions are start moves to start_is leads

  pub requested_is : (moves : List (ℕ × ℕ)) (to : List ℕ) → Requested moves to → IsConfiguration board to
  requested_is moves to leads = requests_lead_to board positions are start moves to start_is leads

  -- ---- the labeller's rows

  -- a class that best answers lead to is listed for the turns of its value
  listed : (moves : List (ℕ × ℕ)) (to : List ℕ) → Answered moves to → (value : Value) → HasValue board to value
      → (wanted : Turns) → IsLess (Finite 0) value × IsEnough wanted (turns_of is.value value)
      → IsListedFor proof.labeller to wanted
  listed moves to leads value has wanted (some, enough) =
      let found = answer_row_for board positions is.value value moves to (answered_is moves to leads) leads has some in
      record {
        row = found.0;
        among = (is.labeller.each found.0).1 found.1;
        at = found.2;
        enough = subst (IsEnough wanted) (sym found.3) enough;
      }

  -- each row meets each request
  meets : (row : AnswerRow) → IsLabellerRowOver positions board is.value row
      → MeetsRequests positions board proof.labeller row
  meets row is_row pebble below =
      let label = slice_index row.answers pebble in
      let best = is_row.best pebble below in
      let next : List ℕ = moved row.at pebble label in
      let to : List ℕ = positions.normal next in
      let is_at : IsConfiguration board row.at = answered_is is_row.moves row.at is_row.reached in
      let is_next : IsConfiguration board next =
      moved_is_configuration board row.at pebble label best.0.legal.is_label is_at in
      let after = some_value board next is_next in
      let has : HasValue board to after.0 = are.same_value next is_next after.0 after.1 in
      let leads = one_more positions (IsAnswerMove board) start is_row.moves row.at pebble label is_row.reached
      (record {
        is_pebble = below;
        answerable = record { value = is_row.value; has_value = is_row.has_value; some = is_row.some };
        best = best;
      }) in
      let still : Keeps is_row.value after.0 = keeps board row.at next
      (λ number. lasts_after board number row.at pebble label below best) is_row.value after.0 is_row.has_value
      after.1 in
      let stays : is.value ≡ Forever → after.0 ≡ Forever = λ same.
      same_value board to after.0 Forever has (stays_forever board positions are start _ to start_is
      (subst (HasValue board start) same start_value) leads) in
      let turns = one_less (turns_of is.value is_row.value) in
      let serves : Serves proof.labeller to turns = λ wanted.
      listed _ to leads after.0 has turns (enough_left is.value is_row.value after.0 stays still wanted) in
      record {
        label = label;
        answer = slice_get-get_or row.answers pebble 0 (omega (arith, below, is_row.one_each));
        legal = best.0.legal;
        serves = subst (λ (turns : Turns). Serves proof.labeller to (one_less turns)) (sym is_row.turns) serves;
      }

  -- ---- the adversary's rows

  -- a class that best requests lead to is listed with its value
  listed_below : AsksAdversary is.value → (moves : List (ℕ × ℕ)) (to : List ℕ) → Requested moves to
      → (number bound : ℕ)
      → HasValue board to (Finite number) → number < bound → IsListedBelow proof.adversary to bound
  listed_below asks moves to leads number bound has below =
      let found = request_row_for board positions are number moves to (requested_is moves to leads) leads has in
      record {
        row = found.0;
        among = (is.adversary.each found.0).1 (asks, found.1);
        at = found.2;
        below = omega (arith, found.3, below);
      }

  meets_answers : (row : RequestRow) → AsksAdversary is.value → IsAdversaryRowOver positions board row
      → MeetsAnswers positions board proof.adversary row
  meets_answers row asks is_row = record {
    asks = is_row.asks;
    each = λ label legal.
        let pebble : ℕ = positions.asked row in
        let next : List ℕ = moved row.at pebble label in
        let to : List ℕ = positions.normal next in
        let is_next : IsConfiguration board next =
        moved_is_configuration board row.at pebble label legal.is_label
        (requested_is is_row.moves row.at is_row.reached) in
        let less = less_than_finite board row.left next row.at is_row.has_value (is_row.best.0.lowers label legal) in
        listed_below asks _ to
        (one_more positions (IsRequestMove board) start is_row.moves row.at pebble label is_row.reached
        (record { best = is_row.best; legal = legal }))
        less.0 row.left (are.same_value next is_next (Finite less.0) less.2) less.1;
  }

  -- ---- the document

  start_below : (value : Value) → HasValue board start value → (AsksAdversary value → AsksAdversary is.value)
      → StartIsBelow proof.adversary start (claim_of value)
  start_below (Finite number) has asks =
      listed_below (asks tt) [] start refl number (suc number) has (omega arith)
  start_below Forever has asks = tt

  pub breaks_no_rule_over : BreaksNoRule positions board proof
  breaks_no_rule_over = record {
    start_serves = subst (λ (claim : Claim). Serves proof.labeller start (wanted_of claim)) (sym is.claim)
        (λ wanted. listed [] start refl is.value start_value (wanted_of (claim_of is.value))
        (enough_at_start is.value wanted));
    start_below = subst (λ (claim : Claim). StartIsBelow proof.adversary start claim) (sym is.claim)
        (start_below is.value start_value (λ asks. asks));
    labeller = λ k d inside. meets (get_or proof.labeller k d)
        ((is.labeller.each (get_or proof.labeller k d)).0 (Contains-get_or proof.labeller k d inside));
    adversary = λ k d inside.
        let is_row = (is.adversary.each (get_or proof.adversary k d)).0 (Contains-get_or proof.adversary k d inside) in
        meets_answers (get_or proof.adversary k d) is_row.0 is_row.1;
  }

-- each configuration for itself
pub breaks_no_rule : (board : PlainBoard) (proof : PlainProof) → IsConfiguration board board.start
    → IsDocumentOf board proof → BreaksNoRule configuration_positions board proof
breaks_no_rule board = breaks_no_rule_over board configuration_positions (are_plain board) (rank_of board)

-- the document by classes
pub breaks_no_class_rule : (board : PlainBoard) (proof : PlainProof) → IsConfiguration board board.start
    → IsClassDocumentOf board proof → BreaksNoRule (class_positions board.labels) board proof
breaks_no_class_rule board = breaks_no_rule_over board (class_positions board.labels)
    (are_normal board (arranged board.labels) (arranged_form board)) (document_number board.labels)
