use Rattle.std.proofs.Common.{◌≡◌, suc, inl, inr, sym, ap, subst, arith, ◌-◌, ◌<◌}
use Rattle.positions.specs.Game.{moved}
use Rattle.positions.specs.Ranks.{configuration_at}
use Rattle.positions.proofs.Cited.{rank_of-configuration_at}
use Rattle.proof_text.specs.Rules.{IsListedBelow}
use Rattle.proof_check.specs.declared.fault.CheckFault.TheVariants as faults
use Rattle.proof_check.proofs.RowTests.{result_is, match_then}
use Rattle.proof_check.proofs.checker.Checker.label_fault.Goals as goal

pub returns-then-row-eq0 : goal.returns-then-row-eq0
returns-then-row-eq0 c =
    let rank_is = sym (rank_of-configuration_at c.args.self.now.board c.args.row.now.at c.requires.row.is_rank) in
    inl (c.if-row-eq0.true, ap (λ at. faults.NotStuck at c.args.label) rank_is)

pub returns : goal.returns
returns c =
    let v = c.args.self.now in
    let row = c.args.row.now in
    let result = moved (configuration_at v.board row.at) row.ask c.args.label in
    let is = result_is v.board row.at row.ask c.args.label c.requires.row.is_rank c.requires.legal.is_label in
    let some : 0 < row.left = omega (arith, c.if-row-eq0.false) in
    let one : suc (row.left - 1) ≡ row.left = omega (arith, some) in
    let rank_is = rank_of-configuration_at v.board row.at c.requires.row.is_rank in
    match_then c.number_fault.result
    (λ listed _. subst (IsListedBelow v.proof.adversary result) one listed)
    (λ fault wrong. rw rank_is (inr (some, rw one at wrong)))
    (c.number_fault.ensures result is c.requires.rank)
