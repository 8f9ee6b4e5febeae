use Rattle.std.proofs.Common.{rules, ◌≡◌, ◌+◌, ◌++◌, ◌∷◌, List, [], ℕ, length, refl, sym, ap, ◌∙◌, arith, inr}
use Rattle.std.proofs.lemmas.List.{length_push}
use Rattle.std.proofs.lemmas.Result.{err_from_is_err_and}
use Rattle.board_text.specs.LineForms.{number_line}
use Rattle.proof_text.proofs.SectionLemmas.{come_none, row_push, part_read, line_fault_in}
use Rattle.proof_text.proofs.sections.read_part.Goals as goal

pub returns-clause-read : goal.returns-clause-read
returns-clause-read g c =
    let board = g.B.BoardOfRows.board c.args.board.now in
    let i = c.loop-come.invariant in
    part_read (g.R.Row.reading board c.args.claim) _ c.in-Some.count c.loop-come.rows.items _
    (sym (c.is_asked.ensures board) ∙ c.if-not-is_asked.false)
    (omega (arith, i.number, i.come.come, c.loop-come-test.false)) i.come

pub returns-in-Err-clause-fault : goal.returns-in-Err-clause-fault
returns-in-Err-clause-fault g c =
    let board = g.B.BoardOfRows.board c.args.board.now in
    let i = c.loop-come.invariant in
    rw c.at-in-Err.ensures (
      sym (c.is_asked.ensures board) ∙ c.if-not-is_asked.false,
      line_fault_in (g.R.Row.reading board c.args.claim) (g.met.R.Row.kinds board c.args.claim) _ c.args.line _
          c.in-Some.count c.loop-come.least _ _ c.in-Err.kind
          i.come (omega (arith, i.number, c.loop-come-test.true)) (omega (arith, i.number)) i.from c.in-Err.ensures,
    )

pub read-requires : goal.read-requires
read-requires g c = c.loop-come.invariant.start

pub loop-come-preserved : goal.loop-come-preserved
loop-come-preserved g c =
    let board = g.B.BoardOfRows.board c.args.board.now in
    let i = c.loop-come.invariant in
    let next = c.in-Ok.ensures in
    let items : c.push.new.self.items ≡ c.loop-come.rows.items ++ c.in-Ok.row ∷ [] = search rules in
    let step = row_push (g.R.Row.reading board c.args.claim) _ c.in-Some.count c.loop-come.least c.read.new.least _ _
    c.in-Ok.row _ c.read.new.text items
    i.come (omega (arith, i.number, c.loop-come-test.true)) i.from next in
    record {
      come = step.0;
      number = ap length items ∙ length_push c.loop-come.rows.items c.in-Ok.row ∙ ap (λ (n : ℕ). n + 1) i.number;
      from = step.1;
      least = omega (arith, next.3);
      start = inr (c.in-Ok.row, next.2);
    }

pub returns-in_err-rows-clause-fault : goal.returns-in_err-rows-clause-fault
returns-in_err-rows-clause-fault g c =
    let board = g.B.BoardOfRows.board c.args.board.now in
    let reading = g.R.Row.reading board c.args.claim in
    let p = err_from_is_err_and c.from_residual.result c.from_residual.ensures.1 in
    let word : c.as_bytes.result.now ≡ reading.form.word =
    c.as_bytes.ensures.value ∙ c.word.ensures board c.args.claim in
    let head : c.args.text.now ≡ number_line reading.form.word c.in-Some.count ++ c.number_line.new.self =
    c.in-Some.ensures.1 ∙ ap (λ (w : List ℕ). number_line w c.in-Some.count ++ c.number_line.new.self) word in
    rw (p.1, p.2) (
      sym (c.is_asked.ensures board) ∙ c.if-not-is_asked.false,
      (
        refl,
        (
          c.in-Some.count,
          [],
          c.number_line.new.self,
          come_none reading c.args.text.now c.in-Some.count c.number_line.new.self
              (omega (arith, c.in-Some.ensures.0.1, c.most.ensures.value board c.args.claim)) head,
        ),
      ),
    )
