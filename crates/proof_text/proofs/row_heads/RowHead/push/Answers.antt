use Rattle.std.proofs.Common.{◌≡◌, ◌+◌, ◌-◌, ◌≤◌, ◌++◌, length, take, sym, ap, ◌∙◌, subst, arith}
use Rattle.std.specs.Str.{IsAscii}
use Rattle.std.proofs.lemmas.List.{length-take-le}
use Rattle.proof_text.proofs.RowHeads.{head-bytes, head-more}
use Rattle.proof_text.proofs.row_heads.RowHead.push.Goals as goal
use Rattle.proof_text.proofs.row_heads.RowHead.push.Goals.{After-copy_from_slice}

fits : (c : After-copy_from_slice) → c.self.inside.size + 4 ≤ 32
fits c =
    let h = c.self.inside in
    let long : length (take h.size h.bytes) ≡ h.size =
    length-take-le h.size h.bytes (omega (arith, c.self.invariant.room, c.self.invariant.inside)) in
    omega (arith, long, rw (← c.self.view_is) at c.requires.room)

pub invariant_of-self : goal.invariant_of-self
invariant_of-self c =
    let h = c.self.inside in
    let room = fits (goal.at.invariant_of-self c).After-copy_from_slice in
    head-more h.size (h.size + 4 - h.size) c.args.word.size h.bytes c.copy_from_slice.new.self c.self.invariant
    (omega (arith, room)) c.copy_from_slice.ensures.len (omega (arith, c.requires.few))
    (subst (λ l. IsAscii (take c.args.word.size l)) (sym c.copy_from_slice.ensures.after) c.requires.ascii)

pub returns : goal.returns
returns c =
    let h = c.self.inside in
    let room = fits (goal.at.returns c).After-copy_from_slice in
    head-bytes h.size (h.size + 4 - h.size) c.args.word.size h.bytes c.copy_from_slice.new.self c.self.invariant
    (omega (arith, room)) c.copy_from_slice.ensures.len (omega (arith, c.requires.few))
    ∙ ap (λ l. l ++ take c.args.word.size c.copy_from_slice.new.self) c.self.view_is
    ∙ ap (λ l. c.args.self.now ++ take c.args.word.size l) c.copy_from_slice.ensures.after
