use Rattle.std.proofs.Common.{◌≡◌, ◌+◌, ◌-◌, ◌≤◌, ◌++◌, length, take, sym, ap, ◌∙◌, subst, arith}
use Rattle.std.specs.Str.{IsUtf8}
use Rattle.std.proofs.lemmas.List.{take_all}
use Rattle.proof_text.proofs.GatheredWords.{gathered_more, bytes_more}
use Rattle.proof_text.proofs.row_text.RowText.put_str.Goals as goal
use Rattle.proof_text.proofs.row_text.RowText.put_str.Goals.{After-copy_from_slice}

fits : (c : After-copy_from_slice) → c.self.inside.count + length c.as_bytes-bytes.result.now ≤ 1024
fits c = omega (arith, ap (λ r. r.count) c.self.view_is, c.requires, c.as_bytes-bytes.ensures.len)

-- all bytes are taken
whole : (c : After-copy_from_slice)
    → take (length c.as_bytes-bytes.result.now) c.copy_from_slice.new.self ≡ c.as_bytes-bytes.result.now
whole c =
    ap (take (length c.as_bytes-bytes.result.now)) c.copy_from_slice.ensures.after
    ∙ take_all (length c.as_bytes-bytes.result.now) c.as_bytes-bytes.result.now (omega arith)

pub invariant_of-self : goal.invariant_of-self
invariant_of-self c =
    let at = (goal.at.invariant_of-self c).After-copy_from_slice in
    let s = c.self.inside in
    let n = length c.as_bytes-bytes.result.now in
    let room = fits at in
    gathered_more s.count (s.count + n - s.count) n s.written.items s.room c.copy_from_slice.new.self c.self.invariant
    (omega (arith, room)) c.copy_from_slice.ensures.len (omega arith)
    (subst IsUtf8 (sym (whole at)) c.as_bytes-bytes.ensures.utf8)

pub returns-clause-bytes : goal.returns-clause-bytes
returns-clause-bytes c =
    let at = (goal.at.returns-clause-bytes c).After-copy_from_slice in
    let s = c.self.inside in
    let n = length c.as_bytes-bytes.result.now in
    let room = fits at in
    bytes_more s.count (s.count + n - s.count) n s.written.items s.room c.copy_from_slice.new.self
    c.args.self.now.bytes c.self.invariant (omega (arith, room)) c.copy_from_slice.ensures.len (omega arith)
    (ap (λ r. r.bytes) c.self.view_is)
    ∙ ap (λ l. c.args.self.now.bytes ++ l) (whole at ∙ c.as_bytes-bytes.ensures.value)
