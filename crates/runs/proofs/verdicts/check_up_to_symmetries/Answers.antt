use Rattle.proof_text.specs.SymmetryProof.{plain_symmetry_proof}
use Rattle.proof_text.proofs.Cited.{symmetry_proof}
use Rattle.runs.specs.declared.verdicts.DocumentVersion.TheVariants.{UpToSymmetries}
use Rattle.runs.proofs.verdicts.check_up_to_symmetries.Goals as goal

pub returns-clause-checked : goal.returns-clause-checked
returns-clause-checked g c = record {
  version = UpToSymmetries;
  proof = plain_symmetry_proof c.args.board.now c.in_ok-proof.proof;
  is_proof = symmetry_proof c.args.board.now c.requires.board c.in_ok-proof.proof c.in_ok-proof.ensures.found.0;
  text_is = c.in_ok-proof.ensures.found.1;
  verdict_is = c.in_ok-verdict.ensures.verdict;
  line_is = c.in_ok-line.ensures;
}
