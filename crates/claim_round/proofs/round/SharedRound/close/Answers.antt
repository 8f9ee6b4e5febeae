use Rattle.std.proofs.Common.{◌≡◌, ℕ, ◌^◌, ◌<◌, ◌+◌, ◌-◌, List, [], map, length, take, drop, sym, ap, ◌∙◌, subst, arith}
use Rattle.std.proofs.Common.{get_or-take, get_or-drop, length-drop}
use Rattle.graphs.specs.Numbered.{Numbered, graph_of}
use Rattle.std.specs.Prelude.{slice_index}
use Rattle.std.specs.Slots.{slots_items, slots_len, slots_counts}
use Rattle.solver.specs.Solving.{Solving}
use Rattle.claim_round.specs.Shared.{Key, View, RoundId, SeatId, Ended, Finishes}
use Rattle.claim_round.specs.History.{HasHistory, LostWereWon, TellsClosedGaps}
use Rattle.claim_round.specs.Inside.ClosedTable.{end_of}
use Rattle.solver.specs.Words.{value_of_word}
use Rattle.claim_round.proofs.ClosedRounds.{IsClosed, end_of_words, closed_fields, small_counts, small_value}
use Rattle.claim_round.proofs.round.SharedRound.close.Given.{Over}
use Rattle.claim_round.proofs.round.SharedRound.close.Goals as goal
use Rattle.claim_round.proofs.round.SharedRound.close.Goals.{After-close_with}

-- facts after the table is closed
module _ (g : Over) (c : After-close_with g) where
  abbrev k : Key
  k = c.self.inside.table.shared.key

  abbrev v : View
  v = c.seat.inside.seat.me.0

  abbrev words : List ℕ
  words = slots_items c.close_with.result.words

  same : k ≡ c.args.self.key
  same = ap (λ (r : RoundId). r.key) c.self.view_is

  view : v ≡ c.args.seat.view
  view = ap (λ (p : SeatId). p.view) c.seat.view_is

  gaps_are : (graph_of k.solving.game).gaps ≡ c.gaps.result
  gaps_are =
      let given : k.solving ≡ c.self.inside.solver.now = ap (λ (q : Key). q.solving) c.self.invariant.key_is in
      sym (c.gaps.ensures ∙ ap (λ (n : Numbered). (graph_of n).gaps) c.graph.ensures
      ∙ ap (λ (s : Solving). (graph_of s.game).gaps) (sym given))

  closed : IsClosed k words v × (v.has.todo ≡ []) × (v.has.owed ≡ [])
  closed =
      let l = c.len.ensures in
      let l' = c.len-else-len-gt0.ensures in
      let ok = c.seat.inside.todo.ok.0 in
      let ok' = c.seat.inside.owed.ok.0 in
      closed_fields k _ c.self.inside.width _ c.seat.inside _ _ c.self.invariant c.seat.invariant
      (omega arith) (omega arith) (omega arith) c.close_with.ensures.values.2

  ended : end_of_words k words v.has.won
      ≡ end_of (record { rows = c.close_with.result; gaps = c.gaps.result; won = c.seat.inside.won })
  ended =
      ap (λ (p : ℕ × List ℕ).
      let e : Ended = record { counts = take p.0 words; values = map value_of_word (drop p.0 words); won = p.1 } in e)
      (λ j. (gaps_are j, sym c.seat.invariant.won j))

pub returns-clause-ok : goal.returns-clause-ok
returns-clause-ok g c =
    let b = (goal.at.returns-clause-ok g c).After-close_with in
    let end = closed g b in
    let seen = view g b in (
      sym (ap (λ (x : View). x.has.width) seen) ∙ end.0.wide ∙ ap (λ (t : Key). t.width) (same g b),
      sym (ap (λ (x : View). x.has.todo) seen) ∙ end.1,
      sym (ap (λ (x : View). x.has.owed) seen) ∙ end.2,
      c.seat.invariant.won ∙ ap (λ (x : View). x.has.won) seen,
    )

pub returns-clause-finished : goal.returns-clause-finished
returns-clause-finished g c =
    let b = (goal.at.returns-clause-finished g c).After-close_with in
    subst (λ (p : Key × Ended). Finishes p.0.solving p.1) (λ j. (same g b j, ended g b j)) (closed g b).0.finishes

pub returns-clause-history : goal.returns-clause-history
returns-clause-history g c =
    let b = (goal.at.returns-clause-history g c).After-close_with in
    subst (λ (p : Key × View × Ended). HasHistory p.0 p.1.made p.2)
    (λ j. (same g b j, view g b j, ended g b j)) (closed g b).0.history

pub returns-clause-lost : goal.returns-clause-lost
returns-clause-lost g c =
    let b = (goal.at.returns-clause-lost g c).After-close_with in
    subst (λ (p : View × List ℕ). LostWereWon p.0.made p.1)
    (λ j. (view g b j, sym c.seat.invariant.won j)) (closed g b).0.lost

pub returns-clause-closed : goal.returns-clause-closed
returns-clause-closed g c =
    let b = (goal.at.returns-clause-closed g c).After-close_with in
    subst (λ (p : Key × View × ℕ). TellsClosedGaps p.0.solving p.1.made (take p.2 (words g b)))
    (λ j. (same g b j, view g b j, gaps_are g b j)) (closed g b).0.closed

pub invariant_of-result : goal.invariant_of-result
invariant_of-result g c =
    let b = (goal.at.invariant_of-result g c).After-close_with in
    let end = closed g b in
    let solving : Solving = (k g b).solving in
    let all : List ℕ = words g b in
    let G : ℕ = (graph_of solving.game).gaps in
    let gaps_same : G ≡ c.gaps.result = gaps_are g b in
    let size_is = end.0.long in
    let counts = c.close_with.ensures.counts in
    let of_words = c.self.invariant.words in
    let slots = c.self.invariant.slots in
    let long : slots_len c.close_with.result.words ≡ length all = (slots_counts c.close_with.result.words).0 in
    record {
      full = c.close_with.ensures.values.0;
      slots = counts.1 ∙ slots;
      gaps = omega arith;
      counts = λ g small. subst (λ n. n < 2 ^ 32) (get_or-take G all g 0 (omega arith))
          (small_counts solving _ c.self.invariant.sound end.0.finishes g (omega arith));
      values = λ j low high.
          let e : G + (j - G) ≡ j = omega arith in
          let read : slice_index (drop G all) (j - G) ≡ slice_index all j =
          get_or-drop G all (j - G) 0 ∙ ap (slice_index all) e in
          subst (λ n. n < 2 ^ 32) read
          (small_value solving (drop G all) (take G all)
          (v g b).has.won c.self.invariant.sound.below c.self.invariant.sound.few end.0.finishes (j - G)
          (let d = length-drop G all in omega arith));
    }
