use Rattle.std.proofs.Common.{ℕ, List, ap, subst, ◌∙◌}
use Rattle.board_text.specs.PlainBoard.{PlainBoard}
use Rattle.positions.specs.Ranks.{configuration_at, rank_of}
use Rattle.positions.specs.Value.{HasValue}
use Rattle.positions.proofs.Cited.{configuration_at-rank_of}
use Rattle.solver.proofs.values.ValuesValueTable.value.Goals as goal

pub returns : goal.returns
returns c =
    let board : PlainBoard = c.args.self.now in
    let held : List ℕ = c.args.held.now in
    let rank = c.rank.ensures.rank ∙ ap (λ (b : PlainBoard). rank_of b held) c.space.ensures.value in
    subst (λ (l : List ℕ). HasValue board l c.of.result)
    (ap (configuration_at board) rank ∙ configuration_at-rank_of board held c.requires) c.of.ensures
