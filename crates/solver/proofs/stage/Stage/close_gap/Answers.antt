use Rattle.std.proofs.Common.{◌≡◌, ◌<◌, ℕ, slice_index, sym, ap, ◌∙◌, subst, arith}
use Rattle.std.proofs.lemmas.List.{get_or_read}
use Rattle.graphs.specs.Numbered.{Numbered, graph_of}
use Rattle.solver.specs.Inside.Stage.{PlainStage, IsSmall}
use Rattle.gap_values.specs.declared.closing.TheConstants.{OPEN}
use Rattle.solver.proofs.ClosingGaps.{IsToClose, in_words, gap-takes, gap-skips, gap-closed}
use Rattle.graphs.proofs.Cited.{same_is}
use Rattle.solver.proofs.ListedWords.{valued_word}
use Rattle.solver.proofs.stage.Stage.close_gap.Goals as goal
use Rattle.solver.proofs.stage.Stage.close_gap.Goals.{then-index, else-index}

-- the contract's facts of the graph, the value and the gap
known : (s v : PlainStage) (gap : ℕ) → v ≡ s → IsSmall (graph_of v.game) v.value → gap < (graph_of s.game).gaps
    → IsToClose s gap
known s v gap same small is_gap =
    let here : IsSmall (graph_of s.game) s.value =
    subst (λ (w : PlainStage). IsSmall (graph_of w.game) w.value) same small in
    record { is_graph = here.is_graph; few = here.few; low = here.low; is_gap = is_gap }

pub loop-place-preserved : goal.loop-place-preserved
loop-place-preserved g c =
    let s : PlainStage = c.args.self.now in
    let now : PlainStage = c.loop-place.self in
    let to_close = known s _ c.args.gap c.self.view_is c.self.invariant.0 c.requires.gap_in in
    let places_is = ap (λ (v : PlainStage). (graph_of v.game).places) c.self.view_is in
    let inside : c.loop-place.place < (graph_of s.game).places =
    omega (arith, c.loop-place-test.true, c.places-place-end.ensures, places_is) in
    let game_is : c.self.inside.graph ≡ s.game = ap (λ (v : PlainStage). v.game) c.self.view_is in
    let rank : ℕ = slice_index c.write_members.new.members c.loop-place.place in
    let there : c.loop-place.place < (graph_of c.self.inside.graph).places =
    omega (arith, c.loop-place-test.true, c.places-place-end.ensures) in
    let rank_is : (graph_of s.game).member c.args.gap c.loop-place.place ≡ rank
    = sym (c.write_members.ensures.members c.loop-place.place there
    ∙ ap (λ (t : Numbered). (graph_of t).member c.args.gap c.loop-place.place) game_is) in
    let words : c.self-in-loop-place.inside.values.items ≡ now.values =
    ap (λ (v : PlainStage). v.values) c.self-in-loop-place.view_is in
    let low = in_words s c.args.gap c.loop-place.place rank now to_close inside rank_is c.loop-place.invariant in
    let word = get_or_read now.values rank c.index.result.now low (rw words at c.index.ensures) 0 in
    elim c.if-index.branch [
      | then-index w ↦ rw (w.self-is, w.file.ensures)
          (gap-takes s c.args.gap c.loop-place.place rank now to_close inside rank_is c.loop-place.invariant
          (same_is (slice_index now.values rank) OPEN (sym word ∙ w.if-index.true)))
      | else-index w ↦ rw w.self-is
          (gap-skips s c.args.gap c.loop-place.place rank now to_close inside rank_is c.loop-place.invariant
          (valued_word now.values rank (λ e. w.if-index.false (word ∙ e))))
    ]

pub returns : goal.returns
returns g c =
    let s : PlainStage = c.args.self.now in
    let to_close = known s _ c.args.gap c.self.view_is c.self.invariant.0 c.requires.gap_in in
    let places_is = ap (λ (v : PlainStage). (graph_of v.game).places) c.self.view_is in
    gap-closed s c.args.gap c.loop-place.place c.loop-place.self to_close
    (omega (arith, c.loop-place-test.false, c.places-place-end.ensures, places_is)) c.loop-place.invariant
