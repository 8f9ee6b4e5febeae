use Rattle.std.proofs.Common.{◌≡◌, ◌+◌, ◌-◌, ◌≤◌, ◌++◌, take, sym, ap, ◌∙◌, subst, arith}
use Rattle.std.specs.Str.{IsUtf8}
use Rattle.std.proofs.lemmas.Str.{IsUtf8-from_ascii}
use Rattle.proof_text.proofs.GatheredWords.{gathered_more, bytes_more}
use Rattle.proof_text.proofs.row_text.RowText.put_head.Goals as goal
use Rattle.proof_text.proofs.row_text.RowText.put_head.Goals.{After-len}

fits : (c : After-len) → c.self.inside.count + 32 ≤ 1024
fits c = omega (arith, c.requires, ap (λ r. r.count) c.self.view_is)

-- the bytes of the head
whole : (c : After-len) → take c.len.result c.copy_from_slice.new.self ≡ c.args.head.now
whole c = rw (c.len.ensures.value, c.copy_from_slice.ensures.after) c.room.ensures

pub invariant_of-self : goal.invariant_of-self
invariant_of-self c =
    let at = (goal.at.invariant_of-self c).After-len in
    let s = c.self.inside in
    gathered_more s.count (s.count + 32 - s.count) c.len.result s.written.items s.room c.copy_from_slice.new.self
    c.self.invariant (let room = fits at in omega (arith, room)) c.copy_from_slice.ensures.len
    (omega (arith, c.len.ensures.few))
    (subst IsUtf8 (sym (whole at)) (IsUtf8-from_ascii c.args.head.now c.len.ensures.ascii))

pub returns-clause-bytes : goal.returns-clause-bytes
returns-clause-bytes c =
    let at = (goal.at.returns-clause-bytes c).After-len in
    let s = c.self.inside in
    bytes_more s.count (s.count + 32 - s.count) c.len.result s.written.items s.room c.copy_from_slice.new.self
    c.args.self.now.bytes c.self.invariant (let room = fits at in omega (arith, room)) c.copy_from_slice.ensures.len
    (omega (arith, c.len.ensures.few)) (ap (λ r. r.bytes) c.self.view_is)
    ∙ ap (λ l. c.args.self.now.bytes ++ l) (whole at)
