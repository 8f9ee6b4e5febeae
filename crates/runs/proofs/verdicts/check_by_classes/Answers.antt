use Rattle.proof_text.specs.ClassProof.{plain_class_proof}
use Rattle.runs.specs.declared.verdicts.DocumentVersion.TheVariants.{ByClasses}
use Rattle.runs.proofs.DocumentKinds.{without_maps}
use Rattle.runs.proofs.verdicts.check_by_classes.Goals as goal

pub returns-clause-checked : goal.returns-clause-checked
returns-clause-checked g c = record {
  version = ByClasses;
  proof = without_maps (plain_class_proof c.args.board.now c.in_ok-proof.proof);
  is_proof = c.in_ok-proof.ensures.found.0.is_proof;
  text_is = c.in_ok-proof.ensures.found.1;
  verdict_is = c.class_verdict_on-verdict.ensures.verdict;
  line_is = c.in_ok-line.ensures;
}
