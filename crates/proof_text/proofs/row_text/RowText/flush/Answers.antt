use Rattle.std.proofs.Common.{arith}
use Rattle.std.proofs.lemmas.Str.{IsUtf8-nil}
use Rattle.proof_text.proofs.GatheredWords.{utf8_more}
use Rattle.proof_text.proofs.row_text.RowText.flush.Goals as goal

pub invariant_of-self-2 : goal.invariant_of-self-2
invariant_of-self-2 c = record {
  size = c.self.invariant.size;
  inside = omega arith;
  whole = utf8_more c.extend_from_slice.result _ _ _ c.extend_from_slice.ensures.items c.self.invariant.whole
      c.self.invariant.gathered;
  gathered = IsUtf8-nil;
}
