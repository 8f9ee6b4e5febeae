-- Runs that solve a board for one side alone, or for both: what they give, and their faults.
use Rattle.std.proofs.Common.{◌≡◌, ℕ, List, Option, Some, None, refl, subst}
use Rattle.board_text.specs.PlainBoard.{PlainBoard}
use Rattle.command_line.specs.declared.asked.BoardLimit.{BoardLimit}
use Rattle.command_line.specs.declared.asked.BoardLimit.TheVariants.{Small, Large}
use Rattle.positions.specs.Value.{HasValue}
use Rattle.positions.specs.declared.side.Side.{Side}
use Rattle.positions.specs.declared.side.Side.TheVariants.{Adversary, Labeller}
use Rattle.positions.specs.declared.value.Value.{Value}
use Rattle.positions.specs.declared.value.Value.TheVariants.{Finite}
use Rattle.positions.proofs.Cited.{same_value, some_value}
use Rattle.proof_text.specs.ProofText.{class_text}
use Rattle.strategies.specs.Sides.{HasStrategy}
use Rattle.runs.specs.declared.fault.RunFault.{RunFault}
use Rattle.runs.specs.declared.fault.RunFault.TheVariants.{Memory, Worker, DocumentTooLarge, LastsForever}
use Rattle.runs.specs.Inside.SolveRun.{IsSolvedByClassesFor, IsSolvedFor, IsUnmade, IsUnshown}
use Rattle.runs.specs.LimitedSolveRun.{CannotSolveWithin, SolutionWithin}
use Rattle.runs.specs.SideSolveRun.{IsLongFor}
use Rattle.runs.specs.SolveRun.{CannotSolve}
use Rattle.runs.specs.Texts.{IsBoardWithin}

no_side : (side : Side) → ◌≡◌ {A = Option Side} None (Some side) → ⊥
no_side side same = cc

not_small : ◌≡◌ {A = BoardLimit} Large Small → ⊥
not_small same = cc

side_is : (first second : Side) → ◌≡◌ {A = Option Side} (Some first) (Some second) → first ≡ second
side_is first second same = cc

-- ---- strategies

any_side : (side : Option Side) (number : ℕ) → HasStrategy side (Finite number)
any_side None number = tt
any_side (Some Labeller) number = tt
any_side (Some Adversary) number = tt

-- each side has a strategy on a finite value
pub finite_strategy : (board : PlainBoard) (side : Option Side) (number : ℕ)
    → HasValue board board.start (Finite number)
    → (value : Value) → HasValue board board.start value → HasStrategy side value
finite_strategy board side number has value other =
    subst (HasStrategy side) (same_value board board.start (Finite number) value has other) (any_side side number)

-- ---- faults

-- a fault of the board or of its values is one of each document
pub unsolved : (limit : BoardLimit) (side : Option Side) (workers : ℕ) (text : List ℕ) (fault : RunFault)
    → CannotSolve limit workers text fault → CannotSolveWithin limit side workers text fault
unsolved Small None workers text fault h = h
unsolved Large None workers text Worker h = absurd (not_small h.0)
unsolved Large None workers text DocumentTooLarge h = absurd h
unsolved Large None workers text fault h = h
unsolved limit (Some side) workers text DocumentTooLarge h = absurd h
unsolved limit (Some side) workers text LastsForever h = absurd h
unsolved limit (Some side) workers text fault h = h

-- out of memory can be told of any run
pub out_of_memory : (limit : BoardLimit) (side : Option Side) (workers : ℕ) (text : List ℕ)
    → CannotSolveWithin limit side workers text Memory
out_of_memory Small None workers text = tt
out_of_memory Large None workers text = tt
out_of_memory limit (Some side) workers text = tt

module _ (text : List ℕ) (board : PlainBoard) (workers : ℕ) where
  pub unmade : (limit : BoardLimit) (side : Option Side) (fault : RunFault) → IsBoardWithin limit text board
      → IsUnmade side board fault → CannotSolveWithin limit side workers text fault
  unmade limit side Memory within h = out_of_memory limit side workers text
  unmade limit None LastsForever within h = absurd (no_side _ h.0)
  unmade limit (Some side) LastsForever within h = (side_is side _ h.0, (board, within, h.1))
  unmade limit side fault within h = absurd h

  pub unshown : (side : Option Side) (fault : RunFault) → IsBoardWithin Large text board
      → IsUnshown side board fault → CannotSolveWithin Large side workers text fault
  unshown None DocumentTooLarge within long = (board, within, long.1)
  unshown (Some side) DocumentTooLarge within (strategy, long) =
      let value = some_value board board.start within.is_board.start in
      let is_long : IsLongFor side board = record {
        value = value.0;
        has_value = value.1;
        strategy = strategy value.0 value.1;
        long = long;
      } in
      (refl, (board, within, is_long))
  unshown side Memory within h = unmade Large side Memory within h
  unshown side LastsForever within h = unmade Large side LastsForever within h
  unshown side fault within h = absurd h

  -- ---- solutions

  pub solved : (side : Option Side) (value : Value) (written : List ℕ) → IsBoardWithin Small text board
      → IsSolvedFor side board value written → SolutionWithin Small side text value written
  solved None value written within is = (
    board,
    within,
    record {
      has_value = is.0.has_value;
      document = is.1.0;
      is_document = is.1.1;
      text_is = is.1.2;
    },
  )
  solved (Some side) value written within is = record {
    board = board;
    within = within;
    has_value = is.0.has_value;
    strategy = is.0.strategy;
    written_is = is.1;
  }

  pub solved_by_classes : (side : Option Side) (value : Value) (written : List ℕ) → IsBoardWithin Large text board
      → IsSolvedByClassesFor side board value written → SolutionWithin Large side text value written
  solved_by_classes None value written within is = (
    board,
    within,
    record {
      has_value = is.0.has_value;
      document = is.1.1.0;
      is_document = is.1.1.1;
      text_is = subst (λ document. written ≡ class_text board document) is.1.1.2 is.1.2;
      short = is.2;
    },
  )
  solved_by_classes (Some side) value written within is = record {
    board = board;
    within = within;
    has_value = is.0.has_value;
    strategy = is.0.strategy;
    written_is = (is.1, is.2);
  }
