-- A claim holds exactly if some document by classes breaks no rule and makes it.
use Rattle.std.proofs.Common.{◌≡◌, ◌↔◌, ◌≤◌, sym, subst, arith}
use Rattle.board_text.specs.PlainBoard.{PlainBoard, IsConfiguration}
use Rattle.positions.specs.declared.claim.Claim.{Claim}
use Rattle.positions.specs.Claim.{Holds}
use Rattle.positions.specs.Table.{AnswerRow, RequestRow}
use Rattle.classes.specs.Numbers.{class_count}
use Rattle.proof_text.specs.Documents.{IsClassProof}
use Rattle.proof_text.specs.Positions.{class_positions}
use Rattle.proof_text.specs.Proof.{IsClaim, PlainProof}
use Rattle.proof_text.specs.Rules.{BreaksNoRule}
use Rattle.proof_text.specs.declared.class_proof.TheConstants.{MAX_CLASS_ROWS}
use Rattle.proof_check.proofs.Cited.{start_claim_holds}
use Rattle.symmetries.proofs.Cited.{has_class_document}
use Rattle.strategies.proofs.FewClasses.{rows-few}

module _ (board : PlainBoard) (is : IsConfiguration board board.start) (few : class_count board ≤ MAX_CLASS_ROWS) where
  shown : (claim : Claim) → IsClaim claim → Holds board claim
      → (proof : PlainProof) × IsClassProof board proof × BreaksNoRule (class_positions board.labels) board proof
      × (proof.claim ≡ claim)
  shown claim small holds =
      let (proof, rows, rules, same, asked) = has_class_document board claim is small holds in (
        proof,
        record {
          claim = subst IsClaim (sym same) small;
          labeller = record {
            few = omega (
              arith,
              few,
              rows-few board (λ (row : AnswerRow). row.at) proof.labeller
                  (λ k d low. record {
                    is = (rows.labeller.each k d low).at;
                    arranged_is = rows.labeller.in_order k d low;
                  })
                  rows.labeller.ascending,
            );
            each = rows.labeller.each;
            in_order = rows.labeller.in_order;
            ascending = rows.labeller.ascending;
          };
          adversary = record {
            few = omega (
              arith,
              few,
              rows-few board (λ (row : RequestRow). row.at) proof.adversary
                  (λ k d low. record {
                    is = (rows.adversary.each k d low).at;
                    arranged_is = rows.adversary.in_order k d low;
                  })
                  rows.adversary.ascending,
            );
            each = rows.adversary.each;
            in_order = rows.adversary.in_order;
            ascending = rows.adversary.ascending;
          };
          no_labeller = asked.labeller;
          no_adversary = asked.adversary;
        },
        rules,
        same,
      )

pub claims_shown : (board : PlainBoard) (claim : Claim) → IsConfiguration board board.start
    → class_count board ≤ MAX_CLASS_ROWS → IsClaim claim
    → Holds board claim
    ↔ ((proof : PlainProof) × IsClassProof board proof
    × BreaksNoRule (class_positions board.labels) board proof × (proof.claim ≡ claim))
claims_shown board claim is few small = (
  shown board is few claim small,
  λ (proof, form, rules, same). subst (Holds board) same (start_claim_holds board proof is rules),
)
