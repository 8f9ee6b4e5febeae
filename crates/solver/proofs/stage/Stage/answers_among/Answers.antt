use Rattle.std.proofs.Common.{◌≡◌, ◌≤◌, ◌∙◌, ℕ, Bool, List, take, length, get_or, ap, arith}
use Rattle.std.specs.List.{filter}
use Rattle.std.proofs.lemmas.List.{length-take-le}
use Rattle.std.proofs.lemmas.List.Sums.{length-filter, count_by-le-length}
use Rattle.graphs.specs.Graph.{is_struck}
use Rattle.graphs.specs.Numbered.{graph_of}
use Rattle.solver.specs.Inside.Stage.{PlainStage}
use Rattle.solver.proofs.StruckRanks.{in_list}
use Rattle.solver.proofs.stage.Stage.answers_among.Goals as goal

pub answered_gap-requires : goal.answered_gap-requires
answered_gap-requires g c =
    let low = c.requires (get_or c.args.ranks.now c.loop-rank.rank-index 0)
    (in_list c.args.ranks.now c.loop-rank.rank-index 0 c.loop-rank-test.true) in
    let same = ap (λ (v : PlainStage). (graph_of v.game).configurations) c.self.view_is in
    omega (arith, low, same)

-- a filtered list is no longer than the list
few-filtered : (test : ℕ → Bool) (xs ys : List ℕ) → ys ≡ filter test xs → length ys ≤ length xs
few-filtered test xs ys is = let size = ap length is ∙ length-filter test xs in let most = count_by-le-length test xs in
    omega (arith, size, most)

pub push_reserved-requires : goal.push_reserved-requires
push_reserved-requires g c =
    let xs : List ℕ = take c.loop-rank.rank-index c.args.ranks.now in
    let few = few-filtered (is_struck
    (graph_of c.args.self.now.game)) xs c.loop-rank.found.items c.loop-rank.invariant.found in
    let front = length-take-le c.loop-rank.rank-index c.args.ranks.now (omega (arith, c.loop-rank-test.true)) in
    omega (arith, few, front, c.loop-rank-test.true, c.loop-rank.invariant.room, c.loop-rank.found.ok.0)
