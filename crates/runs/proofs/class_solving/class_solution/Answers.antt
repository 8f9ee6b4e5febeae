use Rattle.std.proofs.Common.{◌≡◌, ◌<◌, Option, length, rules, sym, subst}
use Rattle.std.proofs.lemmas.Result.{err_from_is_err_and}
use Rattle.board_text.specs.PlainBoard.{PlainBoard}
use Rattle.positions.specs.declared.side.Side.{Side}
use Rattle.positions.specs.declared.value.Value.{Value}
use Rattle.positions.specs.Value.{HasValue}
use Rattle.proof_text.specs.ProofText.{class_text}
use Rattle.strategies.specs.ClassDocument.{CannotBeMade}
use Rattle.strategies.specs.Sides.{HasStrategy}
use Rattle.strategies.specs.declared.unmade.Unmade.{Unmade}
use Rattle.strategies.specs.declared.unmade.Unmade.TheVariants as unmade
use Rattle.runs.specs.Inside.Faults.{fault_of_making}
use Rattle.runs.specs.Inside.SolveRun.{IsUnshown}
use Rattle.runs.specs.declared.checking.TheConstants.{MAX_PROOF_BYTES}
use Rattle.runs.specs.declared.fault.RunFault.{RunFault}
use Rattle.runs.proofs.class_solving.class_solution.Goals as goal

-- why a document by classes wasn't made
unshown_made : (side : Option Side) (board : PlainBoard) (fault : Unmade) (told : RunFault)
    → ((value : Value) → HasValue board board.start value → HasStrategy side value)
    → told ≡ fault_of_making fault → CannotBeMade side board MAX_PROOF_BYTES fault → IsUnshown side board told
unshown_made side board unmade.Memory told strategy is made = subst (IsUnshown side board) (sym is) tt
unshown_made side board unmade.TooLong told strategy is made = subst (IsUnshown side board) (sym is) (strategy, made)

pub returns-in_err-made-clause-fault : goal.returns-in_err-made-clause-fault
returns-in_err-made-clause-fault g c =
    let refused = err_from_is_err_and c.from_residual-in_err-made.result
    c.from_residual-in_err-made.ensures.1 in
    rw refused.1 (unshown_made c.args.side c.args.moves.now c.in_err-made.field-0.0 refused.0
    c.in_ok-expect_strategy.ensures.ok refused.2
    c.in_err-made.ensures.fault)

pub returns-then-len-gt-MAX_PROOF_BYTES-clause-fault : goal.returns-then-len-gt-MAX_PROOF_BYTES-clause-fault
returns-then-len-gt-MAX_PROOF_BYTES-clause-fault g c =
    let made = c.in_ok-made.ensures in
    let document = made.document in (
      c.in_ok-expect_strategy.ensures.ok,
      (
        document.0,
        document.1,
        subst (λ proof. MAX_PROOF_BYTES < length (class_text c.args.moves.now proof)) document.2 (search rules),
      ),
    )

pub returns-clause-ok : goal.returns-clause-ok
returns-clause-ok g c =
    let made = c.in_ok-made.ensures in (
      record { has_value = made.has_value; strategy = c.in_ok-expect_strategy.ensures.ok _ made.has_value },
      (_, made.document, search rules),
      search rules,
    )
