use Rattle.std.proofs.Common.{◌<◌, arith, ap, sym, subst, ◌∙◌}
use Rattle.std.proofs.lemmas.List.{get_or_read}
use Rattle.board_text.specs.PlainBoard.{PlainBoard}
use Rattle.gap_values.specs.RoundWords.{round_of_word}
use Rattle.positions.specs.Ranks.{configurations, configuration_at}
use Rattle.positions.specs.Value.{HasValue}
use Rattle.solver.proofs.RankValues.{rank-inside, rank-value}
use Rattle.solver.proofs.values.Values.of.Goals as goal

pub index-requires : goal.index-requires
index-requires c =
    let low : c.args.rank < configurations c.self.inside.numbers = rw (← c.self.view_is) at c.requires in
    omega (arith, rank-inside _ _ _ _ c.self.invariant c.args.rank low, c.self.inside.words.ok.0)

pub returns : goal.returns
returns c =
    let low : c.args.rank < configurations c.self.inside.numbers = rw (← c.self.view_is) at c.requires in
    let inside = rank-inside _ _ _ _ c.self.invariant c.args.rank low in
    let read = get_or_read c.self.inside.words.items c.args.rank c.index.result.now inside c.index.ensures 0 in
    subst (λ (b : PlainBoard). HasValue b (configuration_at b c.args.rank) c.value_with.result) c.self.view_is
    (subst (HasValue c.self.inside.numbers (configuration_at c.self.inside.numbers c.args.rank))
    (ap round_of_word (sym read) ∙ sym c.value_with.ensures)
    (rank-value _ _ _ _ c.self.invariant c.args.rank low))
