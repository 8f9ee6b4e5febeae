use Rattle.proof_text.proofs.GatheredWords.{utf8_more}
use Rattle.proof_text.proofs.row_text.RowText.push_all.Goals as goal

pub invariant_of-self-2 : goal.invariant_of-self-2
invariant_of-self-2 c = record {
  size = c.self.invariant.size;
  inside = c.self.invariant.inside;
  whole = utf8_more c.extend_from_slice-2.result _ _ _ c.extend_from_slice-2.ensures.items
      (utf8_more c.extend_from_slice.result _ _ _ c.extend_from_slice.ensures.items c.self.invariant.whole
      (rw c.deref.ensures.value c.other.invariant.whole)) c.other.invariant.gathered;
  gathered = c.self.invariant.gathered;
}
