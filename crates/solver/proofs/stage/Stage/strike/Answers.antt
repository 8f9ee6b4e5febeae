use Rattle.std.proofs.Common.{◌≡◌, ◌+◌, ◌-◌, ◌<◌, ℕ, List, ◌∷◌, length, get_or, slice_index, slice_set, sym, ap, ◌∙◌}
use Rattle.std.proofs.Common.{subst, arith}
use Rattle.std.proofs.lemmas.List.{get_or_read}
use Rattle.graphs.specs.Numbered.{graph_of}
use Rattle.solver.specs.Inside.Stage.{PlainStage, IsSmall, with_counts, IsStriking, Closes}
use Rattle.solver.proofs.StageStrikes.{count-left, struck-some, struck-closed, gap-in}
use Rattle.solver.proofs.stage.Stage.strike.Given
use Rattle.solver.proofs.stage.Stage.strike.Goals as goal
use Rattle.solver.proofs.stage.Stage.strike.Goals.{After-index}

-- the count of the gap of a strike
record FindsCount (s : PlainStage) (gap count : ℕ) : Type 0 where
  small : IsSmall (graph_of s.game) s.value
  some : 0 < count
  one_more : slice_index s.counts gap ≡ count - 1 + 1

finds_count : (s v : PlainStage) → v ≡ s → IsSmall (graph_of v.game) v.value → (rank gap count : ℕ) (rest : List ℕ)
    → IsStriking s (rank ∷ rest)
    → gap ≡ (graph_of s.game).struck rank → length v.counts ≡ (graph_of v.game).gaps → count ≡ get_or v.counts gap count
    → FindsCount s gap count
finds_count s v view small rank gap count rest k gap_is long counted =
    let here : IsSmall (graph_of s.game) s.value =
    subst (λ (w : PlainStage). IsSmall (graph_of w.game) w.value) view small in
    let left = count-left s here.is_graph rank rest k gap 0 gap_is in
    let low = gap-in s here.is_graph rank rest k gap 0 gap_is in
    let wide : length s.counts ≡ (graph_of s.game).gaps =
    subst (λ (w : PlainStage). length w.counts ≡ (graph_of w.game).gaps) view long in
    let inside : gap < length v.counts =
    (let same = ap (λ (w : PlainStage). length w.counts) view in omega (arith, low, wide, same)) in
    let count_is : count ≡ slice_index s.counts gap =
    get_or_read v.counts gap count inside counted 0 ∙ ap (λ (w : PlainStage). slice_index w.counts gap) view in
    record { small = here; some = omega (arith, left, count_is); one_more = omega (arith, left, count_is) }

module _ (g : Given.Over) (c : After-index g) where
  abbrev s : PlainStage
  s = c.args.self.now

  found : (rest : List ℕ) → IsStriking s (c.args.rank ∷ rest) → FindsCount s c.args.gap c.index.result.now
  found rest k = finds_count s _ c.self.view_is c.self.invariant.0 c.args.rank c.args.gap c.index.result.now rest k
      c.requires.gap c.self.invariant.1.counts_length c.index.ensures

pub overflow_sub-left : goal.overflow_sub-left
overflow_sub-left g c =
    let count = found g (goal.at.overflow_sub-left g c).After-index c.requires.striking.0 c.requires.striking.1 in
    omega (arith, count.some)

pub returns-then-left-eq0-clause-struck : goal.returns-then-left-eq0-clause-struck
returns-then-left-eq0-clause-struck g c = λ rest k.
    let count = found g (goal.at.returns-then-left-eq0-clause-struck g c).After-index rest k in
    let counted = ap (λ (v : PlainStage). with_counts v
    (slice_set v.counts c.args.gap (c.index.result.now - 1))) c.self.view_is in
    struck-closed c.args.self.now count.small.is_graph c.args.rank rest k c.args.gap (c.index.result.now - 1)
    c.requires.gap count.one_more c.close_gap.new.self c.if-left-eq0.true count.small.few count.small.low
    (subst (λ (v : PlainStage). Closes v c.args.gap c.close_gap.new.self) counted c.close_gap.ensures)

pub returns-else-left-eq0-clause-struck : goal.returns-else-left-eq0-clause-struck
returns-else-left-eq0-clause-struck g c = λ rest k.
    let count = found g (goal.at.returns-else-left-eq0-clause-struck g c).After-index rest k in
    let some = c.if-left-eq0.false in
    let counted = ap (λ (v : PlainStage). with_counts v
    (slice_set v.counts c.args.gap (c.index.result.now - 1))) c.self.view_is in
    subst (λ (v : PlainStage). IsStriking v rest) (sym counted)
    (struck-some c.args.self.now count.small.is_graph c.args.rank rest k c.args.gap (c.index.result.now - 1)
    c.requires.gap count.one_more (omega arith))
