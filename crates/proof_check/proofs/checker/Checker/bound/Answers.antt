use Rattle.std.proofs.Common.{ℕ, ◌<◌, ◌≤◌, ◌∙◌, refl, arith}
use Rattle.board_text.specs.declared.board.TheConstants.{MAX_LABELS}
use Rattle.positions.specs.Game.{Legal, moved}
use Rattle.positions.specs.Ranks.{configuration_at}
use Rattle.positions.proofs.Cited.{configuration_at_is}
use Rattle.proof_text.specs.Proof.{request_row}
use Rattle.proof_check.proofs.AdversarySteps.{legal_few, next_legal, met_on, all_met}
use Rattle.proof_check.proofs.FoundRows.{row_for}
use Rattle.proof_check.proofs.GapBounds.{IsServed, bound_of_gap, served_more}
use Rattle.proof_check.proofs.RowCounts.{below_count}
use Rattle.proof_check.proofs.RowTests.{result_is}
use Rattle.proof_check.proofs.checker.Checker.bound.Goals as goal

pub loop-label-preserved : goal.loop-label-preserved
loop-label-preserved c =
    let v = c.args.self.now in
    let at = c.args.row.now.at in
    let ask = c.args.row.now.ask in
    let configuration = configuration_at v.board at in
    let IsLegal : ℕ → Type 0 = Legal v.board configuration ask in
    let few : (label : ℕ) → IsLegal label → label < MAX_LABELS =
    legal_few v.board c.moves-moves.result at ask c.moves-moves.ensures c.answers.ensures.few in
    let larger : c.loop-label.bound ≤ c.raised-bound.result = c.raised-bound.ensures.kept in
    let bound = c.raised-bound.result in
    let Meets : ℕ → Type 0 = IsServed v.board v.proof.adversary configuration ask bound in
    let skipped : (label : ℕ) → ¬ IsLegal label → Meets label = λ label not small legal. absurd (not legal) in
    let before = served_more v.board v.proof.adversary configuration ask c.loop-label.bound bound IsLegal
    c.loop-label.answers larger c.loop-label.invariant in
    let label = c.in-Some.label in
    let legal : IsLegal label =
    next_legal IsLegal Meets few skipped c.loop-label.answers before c.take_next.new.self label c.in-Some.ensures in
    let all = c.adversary.ensures in
    let is = result_is v.board at ask label c.requires.is_rank legal.is_label in
    let ranks = rw c.moves-moves.ensures at c.results-results.ensures.ranks in
    let held = c.count-above.ensures (omega (arith, c.if-above-eq0.false)) in
    let found = row_for v.board (request_row v.board) (λ r. r.at) (λ r. r.at)
    (λ r. refl) c.adversary.result.now v.proof.adversary
    all.rows all.ready.ranked _ (moved configuration ask label) is
    (c.rank.ensures ∙ ranks label legal.is_label) held.0 held.1 in
    met_on IsLegal Meets few skipped c.loop-label.answers before c.take_next.new.self label c.in-Some.ensures
    (λ small _. record {
      row = request_row v.board held.0;
      among = found.among;
      at = found.at_is;
      below = below_count held.0.left c.count-above.result bound held.2 c.raised-bound.ensures.above small;
    })

pub returns : goal.returns
returns c =
    let v = c.args.self.now in
    let at = c.args.row.now.at in
    let ask = c.args.row.now.ask in
    let configuration = configuration_at v.board at in
    let IsLegal : ℕ → Type 0 = Legal v.board configuration ask in
    let Meets : ℕ → Type 0 = IsServed v.board v.proof.adversary configuration ask c.loop-label.bound in
    let few : (label : ℕ) → IsLegal label → label < MAX_LABELS =
    legal_few v.board c.moves-moves.result at ask c.moves-moves.ensures c.answers.ensures.few in
    let skipped : (label : ℕ) → ¬ IsLegal label → Meets label = λ label not small legal. absurd (not legal) in
    bound_of_gap v.board v.proof.adversary configuration ask c.loop-label.bound
    (configuration_at_is v.board at c.requires.is_rank) c.requires.is_pebble
    (all_met IsLegal Meets few skipped c.loop-label.answers c.loop-label.invariant c.in_default.ensures)
