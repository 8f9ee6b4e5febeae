use Rattle.proof_text.specs.Proof.{plain_proof}
use Rattle.runs.specs.declared.verdicts.DocumentVersion.TheVariants.{ByConfigurations}
use Rattle.runs.proofs.DocumentKinds.{without_maps}
use Rattle.runs.proofs.verdicts.check_by_ranks.Goals as goal

pub returns-clause-checked : goal.returns-clause-checked
returns-clause-checked g c = record {
  version = ByConfigurations;
  proof = without_maps (plain_proof c.args.board.now c.in_ok-proof.proof);
  is_proof = (c.requires.few, rw c.new-space.ensures.same_board at c.in_ok-proof.ensures.found.0.is_proof);
  text_is = rw c.new-space.ensures.same_board at c.in_ok-proof.ensures.found.1;
  verdict_is = c.in_ok-verdict.ensures.verdict;
  line_is = c.in_ok-line.ensures;
}
