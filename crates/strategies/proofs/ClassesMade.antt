-- The document by classes that is made of its rows: its form, and the rules that it doesn't break.
use Rattle.std.proofs.Common.{Option, Result, Ok, Err, subst, sym}
use Rattle.std.specs.Prelude.{IfOk}
use Rattle.board_text.specs.PlainBoard.{PlainBoard, IsConfiguration}
use Rattle.positions.specs.Value.{HasValue}
use Rattle.positions.specs.declared.side.Side.{Side}
use Rattle.positions.specs.declared.value.Value.{Value}
use Rattle.proof_text.specs.ClassProof.{plain_class_proof}
use Rattle.proof_text.specs.Documents.{IsClassDocument, IsClassProof}
use Rattle.proof_text.specs.Positions.{class_positions}
use Rattle.proof_text.specs.Rules.{BreaksNoRule}
use Rattle.proof_text.specs.declared.class_proof.ClassProof.{ClassProof}
use Rattle.strategies.specs.ClassDocument.{FitsFormat, IsClassDocumentFor}
use Rattle.strategies.specs.Inside.ClassSide.{AreClassPadded}
use Rattle.strategies.specs.Sides.{HasStrategy}
use Rattle.strategies.proofs.KeptRules.{breaks_no_class_rule}
use Rattle.strategies.proofs.OneSide.{breaks_no_rule_for, class_form_for}

-- facts of a result together
pub all_ok : {A E : Type 0} {P Q R S : A → Type 0} (result : Result A E) → ((a : A) → P a → Q a → R a → S a)
    → IfOk result P → IfOk result Q → IfOk result R → IfOk result S
all_ok (Ok a) all p q r = all a p q r
all_ok (Err e) all p q r = tt

module _ (board : PlainBoard) (side : Option Side)
    (strategy : (value : Value) → HasValue board board.start value → HasStrategy side value) (proof : ClassProof)
    (made : IsClassDocumentFor side board (plain_class_proof board proof))
    (start : IsConfiguration board board.start) where
  pub class_rules_made : BreaksNoRule (class_positions board.labels) board (plain_class_proof board proof)
  class_rules_made = subst (BreaksNoRule (class_positions board.labels) board) (sym made.2)
      (breaks_no_rule_for board made.0 made.1.value made.1.claim (class_positions board.labels) side
      (strategy made.1.value made.1.has_value) (breaks_no_class_rule board made.0 start made.1))

  pub class_form_made : AreClassPadded board proof → FitsFormat (plain_class_proof board proof)
      → IsClassDocument board proof
  class_form_made padded fits = record {
    is_proof = subst (IsClassProof board) (sym made.2)
        (class_form_for board made.0 made.1.value made.1.claim side (strategy made.1.value made.1.has_value) start
        made.1 (subst FitsFormat made.2 fits));
    places_padded = padded.places;
    answers_padded = padded.answers;
    asked_padded = padded.asked;
  }
