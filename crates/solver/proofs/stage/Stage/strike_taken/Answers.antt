use Rattle.std.proofs.Common.{◌≡◌, ◌<◌, ◌≤◌, ◌∙◌, ℕ, Bool, true, false, List, ◌∷◌, cond, drop, length, suc, sym, ap}
use Rattle.std.proofs.Common.{subst, arith, slice_index, add-one}
use Rattle.std.specs.List.{filter}
use Rattle.std.proofs.Math.Seq.{drop-cons}
use Rattle.std.proofs.lemmas.Bool.{le-ltb}
use Rattle.std.proofs.lemmas.List.{get_or_read}
use Rattle.index_lists.specs.Lists.{times}
use Rattle.graphs.specs.Numbered.{Numbered, graph_of}
use Rattle.graphs.specs.Graph.{is_struck}
use Rattle.solver.specs.Inside.Stage.{PlainStage, IsStriking}
use Rattle.solver.proofs.StruckRanks.{struck-is, in_list}
use Rattle.solver.proofs.StageStrikes.{kept-on}
use Rattle.solver.proofs.stage.Stage.strike_taken.Given
use Rattle.solver.proofs.stage.Stage.strike_taken.Goals as goal
use Rattle.solver.proofs.stage.Stage.strike_taken.Goals.{in-Some, in_default, After-index-rank}

-- a list from a place on is the element there and the rest
from-index : (xs now : List ℕ) (place rank : ℕ) → now ≡ xs → place < length xs → rank ≡ slice_index now place
    → drop place xs ≡ rank ∷ drop (suc place) xs
from-index xs now place rank same inside is =
    drop-cons xs place 0 inside ∙ ap (λ n. n ∷ drop (suc place) xs)
    (sym (is ∙ ap (λ (ys : List ℕ). slice_index ys place) same))

-- a first number that passes the test comes first in the filtered list
front-passes : (test : ℕ → Bool) (xs rest : List ℕ) (rank : ℕ) → xs ≡ rank ∷ rest → test rank ≡ true
    → filter test xs ≡ rank ∷ filter test rest
front-passes test xs rest rank e holds =
    ap (filter test) e ∙ ap (λ t. cond t (rank ∷ filter test rest) (filter test rest)) holds

front-fails : (test : ℕ → Bool) (xs rest : List ℕ) (rank : ℕ) → xs ≡ rank ∷ rest → test rank ≡ false
    → filter test xs ≡ filter test rest
front-fails test xs rest rank e fails =
    ap (filter test) e ∙ ap (λ t. cond t (rank ∷ filter test rest) (filter test rest)) fails

module _ (g : Given.Over) (c : After-index-rank g) where
  abbrev s : PlainStage
  s = c.args.self.now

  abbrev rank : ℕ
  rank = c.index-rank.result.now

  abbrev test : ℕ → Bool
  test = is_struck (graph_of s.game)

  now : c.self-in-loop-index.inside.strikes.items ≡ s.strikes
  now = ap (λ (v : PlainStage). v.strikes) c.self-in-loop-index.view_is ∙ c.loop-index.invariant.strikes

  inside : c.loop-index.index < length s.strikes
  inside = let all = ap (λ (v : PlainStage). length v.strikes) c.self.view_is in
      omega (arith, all, c.len-index-end.ensures, c.loop-index-test.true, c.self.inside.strikes.ok.0)

  read : rank ≡ slice_index c.self-in-loop-index.inside.strikes.items c.loop-index.index
  read = get_or_read c.self-in-loop-index.inside.strikes.items c.loop-index.index c.index-rank.result.now
      (let size = ap length now in let low = inside in omega (arith, low, size)) c.index-rank.ensures 0

  front : drop c.loop-index.index s.strikes ≡ rank ∷ drop (suc c.loop-index.index) s.strikes
  front = from-index s.strikes _ c.loop-index.index rank now inside read

  low : rank < (graph_of s.game).configurations
  low = c.requires.ranks rank (subst (λ n. 0 < times n s.strikes)
      (sym (read ∙ ap (λ (ys : List ℕ). slice_index ys c.loop-index.index) now))
      (in_list s.strikes c.loop-index.index 0 inside))

  tables : c.self-in-loop-index.inside.graph ≡ s.game
  tables = ap (λ (v : PlainStage). v.game) c.self-in-loop-index.view_is ∙ c.loop-index.invariant.kept.game_is

  passes : test rank ≡ true
      → filter test (drop c.loop-index.index s.strikes) ≡ rank ∷ filter test (drop (suc c.loop-index.index) s.strikes)
  passes holds = front-passes test _ _ rank front holds

  fails : test rank ≡ false
      → filter test (drop c.loop-index.index s.strikes) ≡ filter test (drop (suc c.loop-index.index) s.strikes)
  fails none = front-fails test _ _ rank front none

  -- the table read says whether the configuration is an answer
  module _ (t : Numbered) (same : t ≡ s.game) where
    holds : (gap : ℕ) → gap ≡ (graph_of t).struck rank → gap < (graph_of t).gaps → test rank ≡ true
    holds gap is in_gaps =
        subst (λ (u : Numbered). is_struck (graph_of u) rank ≡ true) same (struck-is (graph_of t) rank (omega arith))

    nothing : (graph_of t).gaps ≤ (graph_of t).struck rank → test rank ≡ false
    nothing high = subst (λ (u : Numbered). is_struck (graph_of u) rank ≡ false) same
        (le-ltb ((graph_of t).struck rank) (graph_of t).gaps high)

pub answered_gap-requires : goal.answered_gap-requires
answered_gap-requires g c =
    let b = (goal.at.answered_gap-requires g c).After-index-rank in
    let i = low g b in
    let size = ap (λ (t : Numbered). (graph_of t).configurations) (tables g b) in
    omega (arith, i, size)

pub strike-requires-clause-striking : goal.strike-requires-clause-striking
strike-requires-clause-striking g c =
    let b = (goal.at.strike-requires-clause-striking g c).After-index-rank in (
      filter (test g b) (drop (suc c.loop-index.index) c.args.self.now.strikes),
      subst (IsStriking c.loop-index.self)
          (passes g b
          (holds g b _
          (tables g b) c.in-Some.gap c.in-Some.ensures.0 c.in-Some.ensures.1)) c.loop-index.invariant.striking,
    )

pub strike-requires-clause-gap : goal.strike-requires-clause-gap
strike-requires-clause-gap g c =
    c.in-Some.ensures.0 ∙ ap (λ (v : PlainStage).
    (graph_of v.game).struck c.index-rank.result.now) c.self-in-loop-index.view_is

pub loop-index-preserved : goal.loop-index-preserved
loop-index-preserved g c =
    let b = (goal.at.loop-index-preserved g c).After-index-rank in
    let s : PlainStage = c.args.self.now in
    let test : ℕ → Bool = test g b in
    let rest : List ℕ = filter test (drop (suc c.loop-index.index) s.strikes) in
    elim c.match-answered_gap.branch [
      | in-Some w ↦ rw w.self-is (record {
        striking = subst (λ n. IsStriking w.strike.new.self (filter test (drop n s.strikes)))
            (sym (add-one c.loop-index.index))
            (w.strike.ensures.struck rest
            (subst (IsStriking c.loop-index.self)
            (passes g b
            (holds g b _
            (tables g b) w.in-Some.gap w.in-Some.ensures.0 w.in-Some.ensures.1)) c.loop-index.invariant.striking));
        kept = kept-on s c.loop-index.self w.strike.new.self c.loop-index.invariant.kept w.strike.ensures.kept;
        strikes = w.strike.ensures.strikes ∙ c.loop-index.invariant.strikes;
      })
      | in_default w ↦ rw w.self-is (record {
        striking = subst (λ n. IsStriking c.loop-index.self (filter test (drop n s.strikes)))
            (sym (add-one c.loop-index.index))
            (subst (IsStriking c.loop-index.self)
            (fails g b (nothing g b _ (tables g b) w.in_default.ensures)) c.loop-index.invariant.striking);
        kept = c.loop-index.invariant.kept;
        strikes = c.loop-index.invariant.strikes;
      })
    ]
