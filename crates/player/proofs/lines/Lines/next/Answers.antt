use Rattle.std.proofs.Common.{subst, sym, ap, ◌∙◌, arith}
use Rattle.std.proofs.lemmas.Result.{err_from_is_err_and}
use Rattle.board_text.proofs.Cited.{Consumes-kept}
use Rattle.player.specs.Words.{IsLine, BeginsTooLong}
use Rattle.player.proofs.CutLines.{too_long, whole_line, closed_line, last_line}
use Rattle.player.proofs.lines.Lines.next.Goals as goal

pub returns-then-size-gt-MOST_BYTES-clause-fault : goal.returns-then-size-gt-MOST_BYTES-clause-fault
returns-then-size-gt-MOST_BYTES-clause-fault g c =
    let i = c.loop-size.invariant in
    let long = too_long _ _ (omega
    (arith, c.if-size-gt-MOST_BYTES.true)) c.line_size-size.ensures.within c.line_size-size.ensures.inside in (
      i.more,
      (ap (λ u. u.has_ended) (sym c.self.view_is) ∙ c.if-self.false),
      i.read,
      subst BeginsTooLong i.grown (rw c.unread.ensures at long),
    )

pub returns-then-size-unread-clause-line : goal.returns-then-size-unread-clause-line
returns-then-size-unread-clause-line g c =
    let i = c.loop-size.invariant in
    let found = rw c.unread.ensures at c.line_size-size.ensures in
    let inside = rw c.unread-in-loop-size.ensures at c.if-size-unread.true in
    closed_line _ c.loop-size.self _ _ i.more c.line_size-size.result _
    (ap (λ u. u.has_ended) (sym c.self.view_is) ∙ c.if-self.false) i.grown i.read i.goes_on
    (omega (arith, c.if-size-gt-MOST_BYTES.false)) inside found.inside (found.feed inside)
    c.take_line.ensures.meaning c.take_line.ensures.rest c.take_line.ensures.same

pub returns-then-not-branch-clause-line : goal.returns-then-not-branch-clause-line
returns-then-not-branch-clause-line g c =
    let i = c.loop-size.invariant in
    let found = rw c.unread.ensures at c.line_size-size.ensures in
    let all = rw c.unread-in-loop-size.ensures at c.if-size-unread.false in
    let filled = rw c.if-not-branch.true at c.in_ok-fill.ensures.filled in
    last_line _ c.loop-size.self _ _ _ _ _ i.more _
    (ap (λ u. u.has_ended) (sym c.self.view_is) ∙ c.if-self.false) i.grown i.read
    (whole_line _ _ (omega (arith, c.if-size-gt-MOST_BYTES.false)) all found.inside) filled.0 filled.1 filled.2
    c.take_last.ensures.nothing_left c.take_last.ensures.same c.take_last.ensures.meaning

pub returns-in_err-fill-clause-fault : goal.returns-in_err-fill-clause-fault
returns-in_err-fill-clause-fault g c =
    let i = c.loop-size.invariant in
    let found = rw c.unread.ensures at c.line_size-size.ensures in
    let all = rw c.unread-in-loop-size.ensures at c.if-size-unread.false in
    let is_line = whole_line _ _ (omega (arith, c.if-size-gt-MOST_BYTES.false)) all found.inside in
    let p = err_from_is_err_and c.from_residual.result c.from_residual.ensures.1 in
    let goes_on = ap (λ u. u.has_ended) (sym c.self.view_is) ∙ c.if-self.false in
    rw (p.1, p.2, c.in_err-fill.ensures.read.0)
    (i.more, goes_on, Consumes-kept _ _ _ i.more i.read c.in_err-fill.ensures.kept, subst IsLine i.grown is_line)
