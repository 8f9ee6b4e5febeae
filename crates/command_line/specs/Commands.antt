-- The commands of the program, as `clap` reads them.
use Rattle.std.specs.Prelude.{ℕ, [], ◌∷◌, List, Some, Bool, true, false, codes, map, pos}
use Rattle.std.specs.Borrow.{Bor}
use Rattle.clap.specs.Walk.{Rule, Text}
use Rattle.clap.specs.Simple.{App, Shape, new_rule, new_shape}
use Rattle.clap.specs.declared.builder.action.ArgAction.TheVariants.{SetTrue}
use Rattle.clap.specs.declared.builder.value_parser.ValueParser.TheVariants as vp
use Rattle.board_text.specs.declared.board.TheConstants.{MAX_PEBBLES}
use Rattle.nested_cycles.specs.declared.nested_boards.TheConstants.{MAX_BOARD_LEVELS}
use Rattle.nested_cycles.specs.declared.game.TheConstants.{MAX_LEVELS}
use Rattle.chains.specs.declared.counting.TheConstants.{MAX_LENGTH}
use Rattle.command_line.specs.declared.asked.TheConstants.{MAX_WORKERS}

-- a word that must be given, and one that must be a number from 1 to `most`
abbrev pub path : Text → Rule
path id = record (new_rule id) { required = true; value_names = 1 }

abbrev pub number : Text → ℕ → Rule
number id most = record (new_rule id) {
  required = true;
  value_names = 1;
  parser = Some (vp.Signed (pos 1) (pos most));
}

-- the option for the number of workers, which is 1 if the option isn't given
abbrev pub workers : Rule
workers = record (new_rule (codes "workers")) {
  long = Some (codes "workers");
  value_names = 1;
  defaults = codes "1" ∷ [];
  parser = Some (vp.Signed (pos 1) (pos MAX_WORKERS));
}

-- a word that is given or not
abbrev pub word : Text → Rule
word name = record (new_rule name) { long = Some name; action = Some SetTrue }

-- those after which larger boards are taken, and faults are explained
abbrev pub large : Rule
large = word (codes "large")

abbrev pub explain : Rule
explain = word (codes "explain")

abbrev pub command : Text → List Rule → Shape
command name rules = record (new_shape name) { rules = rules }

abbrev pub check : Shape
check = command (codes "check") (path (codes "board") ∷ path (codes "proof") ∷ explain ∷ [])

-- the option for the path of symmetries, which may be left out
abbrev pub symmetries : Rule
symmetries = record (new_rule (codes "symmetries")) {
  long = Some (codes "symmetries");
  value_names = 1;
}

abbrev pub report : Shape
report =
    command (codes "report") (workers ∷ symmetries ∷ large ∷ path (codes "board") ∷ explain ∷ [])

abbrev pub starts : Shape
starts =
    command (codes "starts") (workers ∷ symmetries ∷ large ∷ path (codes "board") ∷ explain ∷ [])

-- the option for the greatest length of chains, which is the greatest of all if the option isn't
-- given
abbrev pub most : Rule
most = record (new_rule (codes "most")) {
  long = Some (codes "most");
  value_names = 1;
  defaults = codes "8" ∷ [];
  parser = Some (vp.Signed (pos 1) (pos MAX_LENGTH));
}

abbrev pub chains : Shape
chains = command (codes "chains") (workers ∷ most ∷ path (codes "board") ∷ explain ∷ [])

abbrev pub nested : Shape
nested =
    command (codes "nested")
    (number (codes "levels") MAX_BOARD_LEVELS ∷ number (codes "pebbles") MAX_PEBBLES
    ∷ explain ∷ [])

-- the words for the two sides
abbrev pub side_words : List Text
side_words = codes "labeller" ∷ codes "adversary" ∷ []

-- the option for a side, one of these words, which must be given or may be left out
abbrev pub side_among : Bor (List (Bor Text)) → Bool → Rule
side_among words must_be_given = record (new_rule (codes "side")) {
  long = Some (codes "side");
  required = must_be_given;
  value_names = 1;
  parser = Some (vp.Names words);
}

abbrev pub solve_among : Bor (List (Bor Text)) → Shape
solve_among words =
    command (codes "solve")
    (workers ∷ side_among words false ∷ symmetries ∷ large ∷ path (codes "board") ∷ explain ∷ [])

abbrev pub play_among : Bor (List (Bor Text)) → Shape
play_among words =
    command (codes "play")
    (side_among words true ∷ symmetries ∷ large ∷ path (codes "board") ∷ explain ∷ [])

abbrev pub climb : Shape
climb = command (codes "climb") (number (codes "levels") MAX_LEVELS ∷ explain ∷ [])

-- all commands, a row each, with these words for the sides
abbrev pub commands_among : Bor (List (Bor Text)) → List Shape
commands_among words =
    solve_among words
    ∷ check
    ∷ report
    ∷ starts
    ∷ chains
    ∷ nested
    ∷ play_among words
    ∷ climb
    ∷ []

-- the program with these commands, one of which must be named
abbrev pub program_of : List Shape → App
program_of commands = record {
  top = record (new_shape (codes "pebbles")) {
    is_leaf = false;
    has_version = true;
    subcommand_required = true;
  };
  subs = commands;
}

abbrev pub program_among : Bor (List (Bor Text)) → App
program_among words = program_of (commands_among words)

-- a value behind a reference; `clap` reads the same wherever it lies
abbrev pub reference_to : {X : Type 0} → X → Bor X
reference_to x = record { ref_ptr = (0, 0); now = x }

abbrev pub sides : Bor (List (Bor Text))
sides = reference_to (map reference_to side_words)

abbrev pub commands : List Shape
commands = commands_among sides

abbrev pub program : App
program = program_of commands
