use Rattle.std.proofs.Common.{◌≡◌, ◌∷◌, ◌++◌, [], List, ℕ, refl, ap, ◌∙◌, arith}
use Rattle.strategies.specs.Inside.Marks.{IsMarked}
use Rattle.strategies.specs.Inside.MovesAt.{HeldPosition}
use Rattle.strategies.specs.Inside.NumberedPositions.{over_ranks}
use Rattle.strategies.proofs.ListedNumbers.{all_listed, next_listed}
use Rattle.strategies.proofs.WrittenLines.{first_of_all, no_line, one_line}
use Rattle.strategies.proofs.lines.lines_between.Goals as goal
use Rattle.strategies.proofs.lines.lines_between.Goals.{in-Some-at+in_ok-write, in_default-at}

pub loop-rank-preserved : goal.loop-rank-preserved
loop-rank-preserved g c =
    let board = c.args.moves.now in
    let side = g.R.SectionRow.side (over_ranks board) c.args.start in
    let line = g.R.LineRow.line board in
    let marks = c.args.marks.now in
    let was = c.loop-rank.invariant in
    let there : c.go_to.new.self.board ≡ board = ap (λ (p : HeldPosition). p.board) c.go_to.ensures ∙ was.here in
    let here : c.walk.result.now.board ≡ board = ap (λ (p : HeldPosition). p.board) c.walk.ensures ∙ there in
    let first = c.in-Some.ensures.first.0 in
    let ranks : List ℕ = was.ranks ++ c.in-Some.rank ∷ [] in
    let listed = next_listed (IsMarked marks) c.args.span.start c.loop-rank.from was.ranks c.in-Some.rank was.after
    was.listed (first_of_all (IsMarked marks) c.loop-rank.from c.args.span.end c.in-Some.rank c.in-Some.ensures.first)
    in
    elim c.match-at.branch [
      | in-Some-at+in_ok-write w ↦ rw (w.text-is, w.rows-is) (record {
        here = there;
        ranks = ranks;
        listed = listed;
        lines = one_line board side line was.ranks c.loop-rank.text.bytes _ c.loop-rank.rows c.in-Some.rank
            w.in-Some-at.row was.lines (rw here at w.in-Some-at.ensures) (rw there at w.in_ok-write.ensures);
        after = omega (arith, was.after, first.0);
        before = omega (arith, first.1);
        few = omega (arith, was.few, first.0);
      })
      | in_default-at w ↦ rw (w.text-is, w.rows-is) (record {
        here = there;
        ranks = ranks;
        listed = listed;
        lines = no_line board side line was.ranks c.loop-rank.text.bytes c.loop-rank.rows c.in-Some.rank was.lines
            (rw here at w.in_default-at.ensures);
        after = omega (arith, was.after, first.0);
        before = omega (arith, first.1);
        few = omega (arith, was.few, first.0);
      })
    ]

pub returns : goal.returns
returns g c =
    let marks = c.args.marks.now in
    let was = c.loop-rank.invariant in record {
      ranks = was.ranks;
      listed = all_listed (IsMarked marks) c.args.span.start c.loop-rank.from c.args.span.end was.ranks was.before
          was.listed
          (λ number above below is. c.in_default.ensures.first number (above, below, is));
      are_lines = rw (c.in_ok-finish.ensures) was.lines;
    }

pub at-requires-clause-kind : goal.at-requires-clause-kind
at-requires-clause-kind g c =
    let here : c.walk.result.now.board ≡ c.args.moves.now =
    ap (λ (p : HeldPosition). p.board) (c.walk.ensures ∙ c.go_to.ensures) ∙ c.loop-rank.invariant.here in
    rw here (g.met.R.LineRow.ranked _ (record { ranks = refl; few = c.at_start-here.ensures.few }))
