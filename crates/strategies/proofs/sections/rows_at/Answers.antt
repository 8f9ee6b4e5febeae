use Rattle.std.proofs.Common.{◌≡◌, ◌++◌, ◌∷◌, ◌∙◌, [], List, ℕ, Some, None, get_or, sym, take, subst, rules}
use Rattle.std.proofs.lemmas.List.{take_more, append-nil}
use Rattle.strategies.specs.Inside.NumberedPositions.{PositionKind, over_kind}
use Rattle.strategies.specs.Inside.Side.{AreRowsAt}
use Rattle.strategies.proofs.RowsAt.{rows_push}
use Rattle.strategies.proofs.sections.rows_at.Goals as goal
use Rattle.strategies.proofs.sections.rows_at.Goals.{in-Some+in_ok-push, in_default}

pub go_to-requires : goal.go_to-requires
go_to-requires g c =
    subst (λ (k : PositionKind). (over_kind k).numbering.IsNumber (get_or c.args.numbers.now c.loop-number.number-index
    0))
    (sym c.loop-number.invariant.kind) (c.requires.numbers c.loop-number.number-index 0 c.loop-number-test.true).0

pub at-requires-clause-may_stand : goal.at-requires-clause-may_stand
at-requires-clause-may_stand g c =
    rw (c.go_to.ensures.kind, c.loop-number.invariant.kind)
    (c.requires.numbers c.loop-number.number-index 0 c.loop-number-test.true)

pub loop-number-preserved : goal.loop-number-preserved
loop-number-preserved g c =
    let over = over_kind (g.W.PositionWalk.kind c.args.here.now) in
    let side = g.R.SectionRow.side over c.args.start in
    let was = c.loop-number.invariant in
    let numbers : List ℕ = c.args.numbers.now in
    let index : ℕ = c.loop-number.number-index in
    let more = take_more numbers index 0 c.loop-number-test.true in
    record {
      kind = c.go_to.ensures.kind ∙ was.kind;
      rows = elim c.match-at.branch [
        | in-Some+in_ok-push w ↦
            let items : w.push.new.self.items ≡ c.loop-number.rows.items ++ w.in-Some.row ∷ [] = search rules in
            rw (w.rows-is, items, more)
            (rows_push over.numbering side (take index numbers) (get_or numbers index 0) c.loop-number.rows.items
            (Some w.in-Some.row) was.rows
            (rw (c.go_to.ensures.kind, was.kind, w.in-Some.is) at c.at.ensures))
        | in_default w ↦
            rw (w.rows-is, more) (subst
            (AreRowsAt over.numbering side (take index numbers ++ get_or numbers index 0 ∷ []))
            (append-nil c.loop-number.rows.items)
            (rows_push over.numbering side (take index numbers) (get_or numbers index 0) c.loop-number.rows.items None
            was.rows (rw (c.go_to.ensures.kind, was.kind, w.in_default.is) at c.at.ensures)))
      ];
    }
