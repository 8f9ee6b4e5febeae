-- The claim that an accepted line says of the board.
use Rattle.std.proofs.Common.{◌≤◌, arith, get_or, ◌≡◌, ℕ, List, [], ◌∷◌, ◌++◌, codes, sym, ap, ◌∙◌, subst, inl, inr}
use Rattle.std.specs.Fmt.{decimal}
use Rattle.board_text.specs.LineForms.{with_line_feed}
use Rattle.board_text.specs.PlainBoard.{PlainBoard, IsBoard}
use Rattle.positions.specs.Claim.{Shows, Holds}
use Rattle.positions.specs.declared.claim.Claim.{Claim}
use Rattle.positions.specs.declared.claim.Claim.TheVariants.{Exactly, AtLeast, AtMost, Forever}
use Rattle.std.proofs.lemmas.Fmt.{decimal_injective}
use Rattle.std.proofs.lemmas.List.{append_cancel_right, append_cancel_left}
use Rattle.positions.proofs.Cited.{lasts_at_most, tree_from_answers, claim_holds as shown_holds}
use Rattle.proof_text.specs.ProofText.{claim_words}
use Rattle.proof_text.specs.Proof.{PlainProof, IsClaim}
use Rattle.proof_text.specs.declared.proof.TheConstants.{MAX_TURNS}
use Rattle.proof_check.specs.declared.checking.Shown.{Shown}
use Rattle.proof_text.specs.SymmetryProof.{PlainSymmetryProof}
use Rattle.positions.specs.Game.{LabellerTree}
use Rattle.runs.proofs.DocumentKinds.{begins_as}
use Rattle.runs.specs.Output.{class_fault_words, fault_words, line_of, symmetry_fault_words}
use Rattle.runs.specs.Texts.{BeginsAs}
use Rattle.runs.specs.Verdicts.{BeginsWithBoard, IsChecked, IsClassVerdict, IsProofOf, IsSymmetryVerdict, IsVerdict}
use Rattle.runs.specs.Verdicts.{IsVerdictOf, text_of_proof}
use Rattle.runs.specs.declared.verdicts.DocumentVersion.{DocumentVersion}
use Rattle.runs.specs.declared.verdicts.DocumentVersion.TheVariants.{ByClasses, ByConfigurations, UpToSymmetries}
use Rattle.runs.specs.Meaning.{AcceptsLeast, CanAnswer}
use Rattle.runs.specs.declared.verdicts.Verdict.{Verdict}
use Rattle.runs.specs.declared.verdicts.Verdict.TheVariants.{Accepted, Refused, RefusedByClasses, RefusedUpToSymmetries}

-- a line that says `least` is that of a claim `least`
least_only : (claim : Claim) (number : ℕ) → IsClaim claim → number ≤ MAX_TURNS
    → with_line_feed (codes "accepted " ++ claim_words claim)
    ≡ with_line_feed (codes "accepted least " ++ decimal number)
    → claim ≡ AtLeast number
least_only (Exactly n) number is few same = absurd (other (ap (λ (l : List ℕ). get_or l 9 0) same))
  where
    other : ◌≡◌ {A = ℕ} 118 108 → ⊥
    other is = absurd (omega (arith, is))
least_only (AtMost n) number is few same = absurd (other (ap (λ (l : List ℕ). get_or l 9 0) same))
  where
    other : ◌≡◌ {A = ℕ} 109 108 → ⊥
    other is = absurd (omega (arith, is))
least_only Forever number is few same = absurd (other (ap (λ (l : List ℕ). get_or l 9 0) same))
  where
    other : ◌≡◌ {A = ℕ} 102 108 → ⊥
    other is = absurd (omega (arith, is))
least_only (AtLeast n) number is few same =
    let words : codes "accepted least " ++ decimal n ≡ codes "accepted least " ++ decimal number =
    append_cancel_right (codes "accepted least " ++ decimal n) (codes "accepted least " ++ decimal number)
    (10 ∷ []) same in
    let digits : decimal n ≡ decimal number =
    append_cancel_left (codes "accepted least ") (decimal n) (decimal number) words in
    ap AtLeast (decimal_injective n number (omega (arith, is)) (omega (arith, few)) digits)

refused_differs : (words : List ℕ) (number : ℕ)
    → with_line_feed (codes "refused " ++ words) ≡ with_line_feed (codes "accepted least " ++ decimal number) → ⊥
refused_differs words number same = other (ap (λ (l : List ℕ). get_or l 0 0) same)
  where
    other : ◌≡◌ {A = ℕ} 114 97 → ⊥
    other is = absurd (omega (arith, is))

-- a value of at least this number has a tree of that depth
tree_of_least : (board : PlainBoard) (number : ℕ) → Holds board (AtLeast number)
    → LabellerTree board number board.start
tree_of_least board number (inl forever) = forever number
tree_of_least board number (inr (depth, least, value)) =
    lasts_at_most board board.start number depth least value.0

module _ (text : List ℕ) (number : ℕ) (board : PlainBoard) (rest : List ℕ) (few : number ≤ MAX_TURNS)
    (begins : BeginsWithBoard text board rest) where
  -- an accepted document whose claim holds, and which isn't by configurations
  accepted_as : (claim : Claim) (shown : Shown) (rows : ℕ) → IsClaim claim → shown.claim ≡ claim → Holds board claim
      → with_line_feed (codes "accepted least " ++ decimal number) ≡ line_of board (Accepted shown rows)
      → ¬ BeginsAs ByConfigurations rest → CanAnswer text number
  accepted_as claim shown rows is same holds line other =
      let least = least_only shown.claim number (subst IsClaim (sym same) is) few (sym line) in
      record {
        board = board;
        rest = rest;
        is_board = begins.is_board;
        text_is = begins.text_is;
        tree = tree_of_least board number (subst (Holds board) (sym same ∙ least) holds);
        answers = λ ranked. absurd (other ranked);
      }

  -- an accepted document of any version
  accepted : (version : DocumentVersion) (proof : PlainSymmetryProof) (shown : Shown) (rows : ℕ)
      → IsProofOf version board proof
      → rest ≡ text_of_proof version board proof → IsVerdictOf version board proof (Accepted shown rows)
      → with_line_feed (codes "accepted least " ++ decimal number) ≡ line_of board (Accepted shown rows)
      → CanAnswer text number
  accepted ByConfigurations proof shown rows (small, is) spelled verdict line =
      let claim : shown.claim ≡ proof.rows.claim = verdict.0 in
      let least = least_only shown.claim number (subst IsClaim (sym claim) is.claim) few (sym line) in
      let shows : Shows board proof.rows.labeller proof.rows.adversary (AtLeast number) =
      subst (Shows board proof.rows.labeller proof.rows.adversary) (sym claim ∙ least) verdict.2 in
      record {
        board = board;
        rest = rest;
        is_board = begins.is_board;
        text_is = begins.text_is;
        tree = tree_from_answers board proof.rows.labeller number board.start shows;
        answers = λ ranked. (proof.rows.labeller, shows);
      }
  accepted ByClasses proof shown rows is spelled verdict line =
      accepted_as proof.rows.claim shown rows is.claim verdict.0 verdict.2 line (λ ranked.
      ranked (inl (begins_as ByClasses rest board proof spelled)))
  accepted UpToSymmetries proof shown rows is spelled verdict line =
      accepted_as proof.rows.claim shown rows is.rows.claim verdict.0 verdict.2 line (λ ranked.
      ranked (inr (begins_as UpToSymmetries rest board proof spelled)))

  can_answer_by : (verdict : Verdict)
      → IsChecked board rest verdict (with_line_feed (codes "accepted least " ++ decimal number))
      → CanAnswer text number
  can_answer_by (Refused fault) is = absurd (refused_differs (fault_words board fault) number (sym is.line_is))
  can_answer_by (RefusedByClasses fault) is =
      absurd (refused_differs (class_fault_words board fault) number (sym is.line_is))
  can_answer_by (RefusedUpToSymmetries fault) is =
      absurd (refused_differs (symmetry_fault_words board fault) number (sym is.line_is))
  can_answer_by (Accepted shown rows) is =
      accepted is.version is.proof shown rows is.is_proof is.text_is is.verdict_is is.line_is

pub can_answer : (text : List ℕ) (number : ℕ) → AcceptsLeast text number → CanAnswer text number
can_answer text number (
  few,
  verdict,
  (board, rest, begins, is),
) = can_answer_by text number board rest few begins verdict is

pub claim_holds : (board : PlainBoard) (proof : PlainProof) (shown : Shown) (rows : ℕ) → IsBoard board
    → IsVerdict board proof (Accepted shown rows) → Holds board shown.claim
claim_holds board proof shown rows is (claim, rules, shows, many) =
    subst (Holds board) (sym claim) (shown_holds board proof.labeller proof.adversary proof.claim is.start shows)

pub class_claim_holds : (board : PlainBoard) (proof : PlainProof) (shown : Shown) (rows : ℕ)
    → IsClassVerdict board proof (Accepted shown rows) → Holds board shown.claim
class_claim_holds board proof shown rows (claim, rules, holds, each, many) = subst (Holds board) (sym claim) holds

pub symmetry_claim_holds : (board : PlainBoard) (proof : PlainSymmetryProof) (shown : Shown) (rows : ℕ)
    → IsSymmetryVerdict board proof (Accepted shown rows) → Holds board shown.claim
symmetry_claim_holds board proof shown rows (claim, rules, holds, each, many) = subst (Holds board) (sym claim) holds
