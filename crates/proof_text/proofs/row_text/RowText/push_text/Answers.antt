use Rattle.proof_text.proofs.GatheredWords.{utf8_more}
use Rattle.proof_text.proofs.row_text.RowText.push_text.Goals as goal

pub invariant_of-self : goal.invariant_of-self
invariant_of-self c = record {
  size = c.self.invariant.size;
  inside = c.self.invariant.inside;
  whole = utf8_more c.extend_from_slice.result _ _ _ c.extend_from_slice.ensures.items c.self.invariant.whole
      c.as_bytes.ensures.utf8;
  gathered = c.self.invariant.gathered;
}
