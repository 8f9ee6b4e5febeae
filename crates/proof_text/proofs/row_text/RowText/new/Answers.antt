use Rattle.std.proofs.Common.{rules, arith}
use Rattle.std.proofs.lemmas.Str.{IsUtf8-nil, IsUtf8-string_bytes}
use Rattle.proof_text.proofs.row_text.RowText.new.Goals as goal

pub invariant_of-result : goal.invariant_of-result
invariant_of-result c = record {
  size = search rules;
  inside = omega arith;
  whole = rw c.into_bytes.ensures.value (IsUtf8-string_bytes c.args.text);
  gathered = IsUtf8-nil;
}
