use Rattle.std.proofs.Common.{ℕ, refl, sym, ap, ◌∙◌, subst, arith, append-nil, List, [], ◌∷◌, ◌++◌, take, get_or}
use Rattle.graphs.specs.Numbered.{Numbered, graph_of}
use Rattle.solver.specs.Inside.Stage.{FilesAll, filed_at}
use Rattle.solver.proofs.StruckTables.{same-open}
use Rattle.solver.proofs.FiledRounds.{files-more, is-next}
use Rattle.solver.proofs.stage.Stage.file_all.Goals as goal

pub loop-rank-init : goal.loop-rank-init
loop-rank-init g c = record {
  kept = record { game_is = refl; value_is = refl; others = λ v d. refl };
  counts_is = refl;
  there = λ x some. absurd (omega (arith, some));
  elsewhere = λ x none. refl;
  listed = sym (append-nil (filed_at c.args.self.now c.args.self.now.value));
  filed_are = c.requires.filed;
}

pub file-requires-clause-rank_in : goal.file-requires-clause-rank_in
file-requires-clause-rank_in g c =
    let next = is-next c.args.ranks.now c.loop-rank.rank-index c.loop-rank-test.true c.requires.once in
    let same = ap (λ (n : Numbered). (graph_of n).configurations) c.loop-rank.invariant.kept.game_is in
    let low = (c.requires.open (get_or c.args.ranks.now c.loop-rank.rank-index 0) next.there).0 in
    omega arith

pub file-requires-clause-was_open : goal.file-requires-clause-was_open
file-requires-clause-was_open g c =
    let rank : ℕ = get_or c.args.ranks.now c.loop-rank.rank-index 0 in
    let next = is-next c.args.ranks.now c.loop-rank.rank-index c.loop-rank-test.true c.requires.once in
    same-open _ _ (c.loop-rank.invariant.elsewhere rank next.new) ∙ (c.requires.open rank next.there).1

pub loop-rank-preserved : goal.loop-rank-preserved
loop-rank-preserved g c =
    let xs : List ℕ = c.args.ranks.now in
    let i : ℕ = c.loop-rank.rank-index in
    let rank : ℕ = get_or xs i 0 in
    let next = is-next xs i c.loop-rank-test.true c.requires.once in
    let is_open_there = c.requires.open rank next.there in
    let more = files-more c.args.self.now
    (take i xs) rank c.loop-rank.self c.requires.small.few c.requires.small.low is_open_there.0 is_open_there.1
    next.new c.loop-rank.invariant in
    subst (λ (l : List ℕ). FilesAll c.args.self.now l c.file.new.self) (sym next.front)
    (subst (FilesAll c.args.self.now (take i xs ++ rank ∷ [])) (sym c.file.ensures) more)
