-- A solution shows its value, its document is accepted, and its text is that of no other document.
use Rattle.std.proofs.Common.{◌≡◌, ℕ, List, sym, ◌∙◌, subst}
use Rattle.board_text.specs.PlainBoard.{PlainBoard, IsBoard}
use Rattle.board_text.specs.BoardText.{board_text}
use Rattle.board_text.proofs.Cited.{one_board}
use Rattle.positions.specs.declared.value.Value.{Value}
use Rattle.proof_text.specs.Proof.{PlainProof}
use Rattle.proof_text.specs.Documents.{IsProof}
use Rattle.proof_text.specs.ProofText.{proof_text}
use Rattle.proof_text.proofs.Cited.{one_document}
use Rattle.strategies.specs.Meaning.{Means}
use Rattle.strategies.proofs.Cited.{is_formed, breaks_no_rule, means_value}
use Rattle.runs.specs.Headline.{ShowsValue, IsAccepted}
use Rattle.runs.specs.SolveRun.{IsSolution}

pub accepted : (text : List ℕ) (value : Value) (written : List ℕ) → IsSolution text value written
    → IsAccepted text value written
accepted text value written (board, small, solved) =
    let is = solved.is_document in
    let start = small.is_board.start in
    record {
      shows = record {
        board = board;
        document = solved.document;
        is_board = small.is_board;
        text_is = small.spelled;
        written_is = solved.text_is;
        means = means_value board solved.document value start is solved.has_value;
      };
      is_proof = is_formed board solved.document start small.few is;
      rules = breaks_no_rule board solved.document start is;
    }

pub shows_value : (text : List ℕ) (value : Value) (written : List ℕ) → IsSolution text value written
    → ShowsValue text value written
shows_value text value written solution = (accepted text value written solution).shows

-- a text is that of one board and of one document
pub written_means : (text : List ℕ) (value : Value) (written : List ℕ) (board : PlainBoard) (document : PlainProof)
    → IsAccepted text value written
    → IsBoard board → IsProof board document → text ≡ board_text board → written ≡ proof_text board document
    → Means board document value
written_means text value written board document is is_board is_proof text_is written_is =
    let shows = is.shows in
    let boards : shows.board ≡ board = one_board shows.board board shows.is_board is_board (sym shows.text_is ∙ text_is)
    in
    let kept : IsProof board shows.document = subst (λ b. IsProof b shows.document) boards is.is_proof in
    let texts : written ≡ proof_text board shows.document =
    subst (λ b. written ≡ proof_text b shows.document) boards shows.written_is in
    let documents : shows.document ≡ document =
    one_document board shows.document document is_board kept is_proof (sym texts ∙ written_is) in
    subst (λ d. Means board d value) documents (subst (λ b. Means b shows.document value) boards shows.means)
