use Rattle.std.proofs.Common.{◌+◌, ◌-◌, ◌≤◌, ◌++◌, take, sym, ap, ◌∙◌, subst, arith}
use Rattle.std.specs.Str.{IsUtf8}
use Rattle.std.proofs.lemmas.Str.{IsUtf8-from_ascii}
use Rattle.proof_text.specs.Inside.RowText.{bytes_of_word}
use Rattle.proof_text.proofs.GatheredWords.{gathered_more, bytes_more}
use Rattle.proof_text.proofs.row_text.RowText.put.Goals as goal

pub invariant_of-self : goal.invariant_of-self
invariant_of-self c =
    let s = c.self.inside in
    let room : s.count + 4 ≤ 1024 = omega (arith, c.requires.room, ap (λ r. r.count) c.self.view_is) in
    gathered_more s.count (s.count + 4 - s.count) c.args.word.size s.written.items s.room
    c.copy_from_slice.new.self c.self.invariant
    (omega (arith, room)) c.copy_from_slice.ensures.len (omega (arith, c.requires.few))
    (subst (λ l. IsUtf8 (take c.args.word.size l)) (sym c.copy_from_slice.ensures.after)
    (IsUtf8-from_ascii (bytes_of_word c.args.word) c.requires.ascii))

pub returns-clause-bytes : goal.returns-clause-bytes
returns-clause-bytes c =
    let s = c.self.inside in
    let room : s.count + 4 ≤ 1024 = omega (arith, c.requires.room, ap (λ r. r.count) c.self.view_is) in
    bytes_more s.count (s.count + 4 - s.count) c.args.word.size s.written.items s.room c.copy_from_slice.new.self
    c.args.self.now.bytes c.self.invariant (omega (arith, room)) c.copy_from_slice.ensures.len (omega (
      arith,
      c.requires.few,
    ))
    (ap (λ r. r.bytes) c.self.view_is)
    ∙ ap (λ l. c.args.self.now.bytes ++ take c.args.word.size l) c.copy_from_slice.ensures.after
