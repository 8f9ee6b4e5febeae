use Rattle.std.proofs.Common.{◌<◌, ap, arith, length, rules, subst}
use Rattle.proof_check.proofs.Cited.{symmetries_held}
use Rattle.proof_text.specs.ProofText.{symmetry_text}
use Rattle.proof_text.specs.SymmetryProof.{plain_symmetry_proof}
use Rattle.runs.specs.declared.checking.TheConstants.{MAX_PROOF_BYTES}
use Rattle.runs.proofs.symmetric_solving.solution_up_to.Goals as goal

pub document_up_to_symmetries-requires-clause-symmetries : goal.document_up_to_symmetries-requires-clause-symmetries
document_up_to_symmetries-requires-clause-symmetries g c = λ lifetimes lives.
    rw c.deref.ensures.value (symmetries_held c.args.moves.now c.args.symmetries.now.maps.items
    c.requires.given.1.are_made.symmetries)

pub returns-then-len-gt-MAX_PROOF_BYTES-clause-fault : goal.returns-then-len-gt-MAX_PROOF_BYTES-clause-fault
returns-then-len-gt-MAX_PROOF_BYTES-clause-fault g c =
    let board = c.args.moves.now in
    let document = rw c.deref.ensures.value at c.in_ok-made.ensures.document in
    let spelled = rw c.board.ensures at c.in_ok-text.ensures in
    let long : MAX_PROOF_BYTES < length (symmetry_text board (plain_symmetry_proof board c.in_ok-made.made.proof)) =
    omega (arith, c.if-len-gt-MAX_PROOF_BYTES.true, c.len.ensures, ap length spelled) in (
      c.in_ok-expect_strategy.ensures.ok,
      (
        document.0,
        document.1,
        subst (λ proof. MAX_PROOF_BYTES < length (symmetry_text board proof)) document.2 long,
      ),
    )

pub returns-clause-ok : goal.returns-clause-ok
returns-clause-ok g c =
    let made = c.in_ok-made.ensures in
    record {
      has_value = made.has_value;
      strategy = c.in_ok-expect_strategy.ensures.ok _ made.has_value;
      document = plain_symmetry_proof c.args.moves.now c.in_ok-made.made.proof;
      is_document = rw c.deref.ensures.value at made.document;
      written_is = search rules;
      short = search rules;
    }
