-- A document that breaks no rule shows its claim.
use Rattle.std.proofs.Common.{◌≡◌, ℕ, ◌<◌, ◌≤◌, List, suc, length, map, get_or, take, refl, ap, ◌∙◌, subst, arith}
use Rattle.std.specs.List.{All, AllPairs}
use Rattle.std.proofs.lemmas.List.{length-map, get_or-map, get_or-take}
use Rattle.board_text.specs.PlainBoard.{PlainBoard, IsBoard, IsConfiguration}
use Rattle.positions.specs.Ranks.{rank_of, configuration_at, configurations}
use Rattle.positions.specs.Table.{AnswerRow, RequestRow, IsListed}
use Rattle.positions.specs.Claim.{Shows}
use Rattle.positions.specs.declared.claim.Claim.{Claim}
use Rattle.positions.specs.declared.claim.Claim.TheVariants.{Exactly, AtLeast, AtMost, Forever}
use Rattle.positions.specs.declared.turns.Turns.{Turns}
use Rattle.positions.specs.declared.turns.Turns.TheVariants.{Count, Always}
use Rattle.positions.proofs.Cited.{rank_of-configuration_at}
use Rattle.proof_text.specs.declared.proof.LabellerRow.{LabellerRow}
use Rattle.proof_text.specs.declared.proof.AdversaryRow.{AdversaryRow}
use Rattle.proof_text.specs.Documents.{IsProof, IsClassProof}
use Rattle.proof_text.specs.Proof.{PlainProof, IsAnswerRow, IsRequestRow, IsBefore, AreTurns, answer_row}
use Rattle.proof_text.specs.Proof.{request_row, answer_rows, request_rows}
use Rattle.proof_text.specs.Arranged.{document_number}
use Rattle.proof_text.specs.RowForm.{AreRows}
use Rattle.proof_text.specs.Versions.{answers_by_configurations, requests_by_configurations}
use Rattle.positions.specs.declared.space.TheConstants.{MAX_CONFIGURATIONS}
use Rattle.proof_text.proofs.Cited.{rank_small}
use Rattle.proof_text.specs.Positions.{Positions, configuration_positions, normal_positions}
use Rattle.proof_check.specs.PositionTables.{AnswersOver, ShowsOver, StopsOver}
use Rattle.proof_text.specs.Rules.{BreaksNoRule, Serves, wanted_of, StartIsBelow, IsListedBelow}
use Rattle.proof_check.specs.Inside.Checker.{AreReady, IsAnswering, AreAnswering, IsRequesting, AreRequesting}
use Rattle.proof_check.specs.Inside.Checker.{IsChecker}
use Rattle.proof_check.specs.Inside.GapBounds.{AreBounds}
use Rattle.proof_check.proofs.FirstRows.{AreApart}
use Rattle.proof_check.proofs.LabellerTables as answering
use Rattle.proof_check.proofs.PlainTables.{shows_plainly}
use Rattle.proof_check.proofs.AdversaryTables as stopping

-- rows of which each has a number above that of the row before it are apart
apart : {X : Type 0} (number : List ℕ → ℕ) (at : X → List ℕ) (rows : List X)
    → AllPairs (λ first second. number (at first) < number (at second)) rows → AreApart at rows
apart number at rows ascending i j d less below same =
    let lower : number (at (get_or rows i d)) < number (at (get_or rows j d)) = ascending i j d less below in
    omega (arith, lower, ap number same)

turns_always : (turns : Turns) → AreTurns Forever turns → turns ≡ Always
turns_always Always are = refl
turns_always (Count n) are = absurd are

-- rows that are apart, which list configurations always if the claim is forever
record AreShown (board : PlainBoard) (proof : PlainProof) : Type 0 where
  labeller : AreApart (λ (r : AnswerRow). r.at) proof.labeller
  adversary : AreApart (λ (r : RequestRow). r.at) proof.adversary
  turns : proof.claim ≡ Forever → All (λ (r : AnswerRow). r.turns ≡ Always) proof.labeller
  places : All (λ (r : RequestRow). IsConfiguration board r.at) proof.adversary

shows_over : (positions : Positions) (board : PlainBoard) (proof : PlainProof) → AreShown board proof
    → BreaksNoRule positions board proof → ShowsOver positions board proof.labeller proof.adversary proof.claim
shows_over positions board proof are rules = by proof.claim are.turns rules.start_serves rules.start_below
  where
    answers : (number : ℕ) → Serves proof.labeller (positions.normal board.start) (Count number)
        → AnswersOver positions board proof.labeller number (positions.normal board.start)
    answers number serves =
        answering.answers_as_served positions board proof.labeller are.labeller rules.labeller
        (positions.normal board.start) number serves

    stops : (number : ℕ) → IsListedBelow proof.adversary (positions.normal board.start) (suc number)
        → StopsOver positions board proof.adversary number (positions.normal board.start)
    stops number listed =
        stopping.stops_below positions board proof.adversary are.adversary are.places rules.adversary
        (positions.normal board.start) number listed

    by : (claim : Claim) → (claim ≡ Forever → All (λ (r : AnswerRow). r.turns ≡ Always) proof.labeller)
        → Serves proof.labeller (positions.normal board.start) (wanted_of claim)
        → StartIsBelow proof.adversary (positions.normal board.start) claim
        → ShowsOver positions board proof.labeller proof.adversary claim
    by (Exactly number) each serves below = (answers number serves, stops number below)
    by (AtLeast number) each serves below = answers number serves
    by (AtMost number) each serves below = stops number below
    by Forever each serves below =
        let listed = serves tt in
        let own = answering.listed_by_row positions board proof.labeller are.labeller rules.labeller listed.row
        listed.among in (
          answering.closed_by_rows positions board proof.labeller are.labeller rules.labeller
              (each refl),
          subst (IsListed proof.labeller) listed.at own,
        )

-- rows as the format has them list configurations always if the claim is forever
always : (board : PlainBoard) (claim : Claim) (rows : List AnswerRow) → All (IsAnswerRow board claim) rows
    → claim ≡ Forever → All (λ (r : AnswerRow). r.turns ≡ Always) rows
always board claim rows each same k d lt =
    turns_always (get_or rows k d).turns (subst (λ c. AreTurns c (get_or rows k d).turns) same (each k d lt).turns)

-- the rows of a document with arranged places show its claim, whatever they stand for
pub shows_normally : (normal : List ℕ → List ℕ) (board : PlainBoard) (proof : PlainProof) → IsClassProof board proof
    → BreaksNoRule (normal_positions normal) board proof
    → ShowsOver (normal_positions normal) board proof.labeller proof.adversary proof.claim
shows_normally normal board proof is rules = shows_over (normal_positions normal) board proof (record {
  labeller = apart (document_number board.labels) (λ r. r.at) proof.labeller is.labeller.ascending;
  adversary = apart (document_number board.labels) (λ r. r.at) proof.adversary is.adversary.ascending;
  turns = always board proof.claim proof.labeller is.labeller.each;
  places = λ k d lt. (is.adversary.each k d lt).at;
}) rules

-- the rows of a document by configurations that ascend by any numbers show its claim
pub shows_ascending : (number : List ℕ → ℕ) (board : PlainBoard) (proof : PlainProof)
    → AllPairs (λ (first second : AnswerRow). number first.at < number second.at) proof.labeller
    → AllPairs (λ (first second : RequestRow). number first.at < number second.at) proof.adversary
    → (proof.claim ≡ Forever → All (λ (r : AnswerRow). r.turns ≡ Always) proof.labeller)
    → All (λ (r : RequestRow). IsConfiguration board r.at) proof.adversary
    → BreaksNoRule configuration_positions board proof → Shows board proof.labeller proof.adversary proof.claim
shows_ascending number board proof labeller adversary turns places rules =
    shows_plainly board proof.labeller proof.adversary proof.claim (shows_over configuration_positions board proof
    (record {
      labeller = apart number (λ r. r.at) proof.labeller labeller;
      adversary = apart number (λ r. r.at) proof.adversary adversary;
      turns = turns;
      places = places;
    })
    rules)

pub shows : (board : PlainBoard) (proof : PlainProof) → IsProof board proof
    → BreaksNoRule configuration_positions board proof
    → Shows board proof.labeller proof.adversary proof.claim
shows board proof is = shows_ascending (rank_of board) board proof is.labeller.ascending is.adversary.ascending
    (always board proof.claim proof.labeller is.labeller.each) (λ k d lt. (is.adversary.each k d lt).at)

-- ---- rows with ranks

-- if the rows shown are in ascending order, their rows are in order of their ranks
are_ready : {R X : Type 0} (board : PlainBoard) (f : R → X) (at : X → List ℕ) (rank : R → ℕ) (IsRow : X → Type 0)
    (IsReady : R → Type 0)
    (rows : List R) → ((row : R) → at (f row) ≡ configuration_at board (rank row))
    → ((row : R) → IsRow (f row) → IsReady row)
    → ((row : R) → IsReady row → rank row < configurations board) → length (map f rows) ≤ MAX_CONFIGURATIONS
    → All IsRow (map f rows) → AllPairs (λ first second. IsBefore board (at first) (at second)) (map f rows)
    → AreReady board IsReady rank rows
are_ready {R} {X} board f at rank IsRow IsReady rows shown ready low few are ascending = record {
  ranked = record {
    few = omega (arith, few, length-map rows f);
    each = λ k d lt. low (get_or rows k d) (each k d lt);
    ascending = λ i j d less below.
        let lower : rank_at i d < rank_at j d =
        ascending i j (f d) less (omega (arith, below, length-map rows f)) in
        omega (arith, lower, rank_is i d (omega (arith, less, below)), rank_is j d below);
  };
  each = each;
}
  where
    each : All IsReady rows
    each = λ k d lt.
        let is = are k (f d) (omega (arith, lt, length-map rows f)) in
        ready (get_or rows k d) (subst IsRow (get_or-map f rows k d (f d) lt) is)

    rank_at : ℕ → R → ℕ
    rank_at k d = rank_of board (at (get_or (map f rows) k (f d)))

    rank_is : (k : ℕ) (d : R) → k < length rows → rank_at k d ≡ rank (get_or rows k d)
    rank_is k d lt =
        ap (λ (x : X). rank_of board (at x)) (get_or-map f rows k d (f d) lt)
        ∙ ap (rank_of board) (shown (get_or rows k d))
        ∙ rank_of-configuration_at board (rank (get_or rows k d)) (low (get_or rows k d) (each k d lt))

module _ (board : PlainBoard) (is_board : IsBoard board) where
  answering_row : (claim : Claim) (row : LabellerRow) → IsAnswerRow board claim (answer_row board row)
      → IsAnswering board row
  answering_row claim row is = record {
    is_board = is_board;
    is_rank = rank_small board row.at is_board is.at;
    gives = λ pebble below.
        let label : get_or (take board.pebbles row.take) pebble 0 < board.labels =
        is.answers.1 pebble 0 (omega (arith, is.answers.0, below)) in
        subst (λ n. n < board.labels) (get_or-take board.pebbles row.take pebble 0 below) label;
  }

  pub are_answering : (claim : Claim) (rows : List LabellerRow)
      → AreRows (answers_by_configurations board claim) (answer_rows board rows)
      → AreAnswering board rows
  are_answering claim rows are =
      are_ready board (answer_row board) (λ r. r.at) (λ r. r.at) (IsAnswerRow board claim) (IsAnswering board) rows
      (λ r. refl)
      (answering_row claim) (λ r is. is.is_rank) are.few are.each are.ascending

  pub are_requesting : (claim : Claim) (rows : List AdversaryRow)
      → AreRows (requests_by_configurations board claim) (request_rows board rows)
      → AreRequesting board rows
  are_requesting claim rows are =
      are_ready board (request_row board) (λ r. r.at) (λ r. r.at) (IsRequestRow board) (IsRequesting board) rows
      (λ r. refl)
      (λ r is. record { is_board = is_board; is_rank = rank_small board r.at is_board is.at; is_pebble = is.request })
      (λ r is. is.is_rank) are.few are.each are.ascending

  -- the space, the rows of a document and bounds of gaps make a checker
  pub checker_of : (claim : Claim) (space : PlainBoard) (labeller : List LabellerRow) (adversary : List AdversaryRow)
      (bounds : List ℕ) → space ≡ board
      → AreRows (answers_by_configurations board claim) (answer_rows board labeller)
      → AreRows (requests_by_configurations board claim) (request_rows board adversary)
      → AreBounds board (request_rows board adversary) bounds
      → IsChecker board space labeller adversary bounds
  checker_of claim space labeller adversary bounds same answers requests are = record {
    same_board = same;
    answering = are_answering claim labeller answers;
    requesting = are_requesting claim adversary requests;
    bounded = are;
  }
