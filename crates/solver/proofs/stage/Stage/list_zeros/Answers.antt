use Rattle.std.proofs.Common.{◌≡◌, ◌∙◌, ℕ, List, length, slice_index, sym, ap, arith}
use Rattle.std.proofs.lemmas.List.{get_or_read}
use Rattle.graphs.specs.Numbered.{graph_of}
use Rattle.solver.specs.Inside.Stage.{PlainStage}
use Rattle.solver.proofs.FirstLists.{listing-skip, listing-more, all-listed}
use Rattle.solver.proofs.stage.Stage.list_zeros.Goals as goal
use Rattle.solver.proofs.stage.Stage.list_zeros.Goals.{then-index-eq0, else-index-eq0}

pub loop-rank-preserved : goal.loop-rank-preserved
loop-rank-preserved g c =
    let s : PlainStage = c.args.self.now in
    let size = ap (λ (v : PlainStage). (graph_of v.game).configurations) c.self.view_is in
    let words : c.self-in-loop-rank.inside.values.items ≡ s.values =
    ap (λ (v : PlainStage). v.values) c.self-in-loop-rank.view_is ∙ c.loop-rank.invariant.values_is in
    let many = ap length words in
    let read = get_or_read c.self-in-loop-rank.inside.values.items c.loop-rank.rank c.index.result.now
    (omega (
      arith,
      size,
      many,
      c.requires.words_are.words_length,
      c.configurations-rank-end.ensures.value,
      c.loop-rank-test.true,
    )) c.index.ensures 0 in
    let word : c.index.result.now ≡ slice_index s.values c.loop-rank.rank =
    read ∙ ap (λ (xs : List ℕ). slice_index xs c.loop-rank.rank) words in
    elim c.if-index-eq0.branch [
      | then-index-eq0 w ↦ rw (w.self-is, w.list.ensures)
          (listing-more s c.loop-rank.rank c.loop-rank.self c.loop-rank.invariant (sym word ∙ w.if-index-eq0.true))
      | else-index-eq0 w ↦ rw w.self-is
          (listing-skip s c.loop-rank.rank c.loop-rank.self c.loop-rank.invariant
          (λ e. w.if-index-eq0.false (word ∙ e)))
    ]

pub returns-clause-opened : goal.returns-clause-opened
returns-clause-opened g c =
    let s : PlainStage = c.args.self.now in
    let size = ap (λ (v : PlainStage). (graph_of v.game).configurations) c.self.view_is in
    let few = c.configurations-rank-end.ensures.few in
    let most = c.loop-rank.auto.rank-end in
    all-listed s c.loop-rank.rank c.loop-rank.self c.requires
    (omega (arith, size, few, c.configurations-rank-end.ensures.value))
    (omega (
      arith,
      size,
      most,
      c.configurations-rank-end.ensures.value,
      c.loop-rank-test.false,
    )) c.loop-rank.invariant
