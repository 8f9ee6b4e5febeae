-- If `clap` takes the words, the job can be read from its matches.
use Rattle.std.proofs.Common.{◌≡◌, ◌∙◌, ◌<◌, ◌⊎◌, ◌++◌, ◌&&◌, ◌||◌, not, Bool, ℕ, List, [], ◌∷◌, length, Option, Some}
use Rattle.std.proofs.Common.{None, is_some, true, false, true≢false, refl, sym, ap, subst, inl, inr, cond, codes, drop}
use Rattle.std.proofs.Common.{arith}
use Rattle.std.specs.Prelude.{⊤, find, fold, option_and_then, option_map, pos, slice_get, unwrap_or}
use Rattle.std.specs.Borrow.{Bor}
use Rattle.std.specs.List.{list_all, list_any}
use Rattle.std.specs.Option.{option_map_or}
use Rattle.std.specs.Str.{bytes_eq}
use Rattle.std.proofs.lemmas.Slice.Eq.{bytes_eq-Decides}
use Rattle.clap.specs.Facts.{parser_of_value}
use Rattle.clap.specs.Values.{reading_of}
use Rattle.clap.specs.ValueTests.{accepts}
use Rattle.clap.specs.Walk.{Held, Names, Row, Rule, Step, Text, Waiting, Walk, action_of, after_step, answers_to}
use Rattle.clap.specs.Walk.{arg_by_id, first_of, arg_by_index, finished, long_or_other, next, nothing_held, rows_after}
use Rattle.clap.specs.Walk.{settled, subcommand, subcommand_met, subcommand_or_other, to_positional, trailing, value}
use Rattle.clap.specs.Walk.{walk, walk_from, walked, walked_from, with_default, word_met}
use Rattle.clap.specs.Lexer.{long_of}
use Rattle.clap.specs.Simple.{Shape, built, built_leaf, entered, filled, filled_from, help_rule, help_shape}
use Rattle.clap.specs.Simple.{index_after, inherited, is_simple, label_of, names_of, parser_for, rows_at, subcommand_of}
use Rattle.clap.specs.Simple.{with_action, with_index}
use Rattle.clap.specs.Faults.{is_simple_and_free}
use Rattle.clap.specs.Takes.{built_takes, default_passes, entered_passes, is_given, is_valid, level_passes}
use Rattle.clap.specs.Takes.{other_passes, settle_passes, step_passes, takes, turn_passes, walk_passes, word_passes}
use Rattle.clap.specs.declared.builder.action.ArgAction.TheVariants.{SetTrue}
use Rattle.clap.specs.declared.builder.value_parser.ValueParser.{ValueParser}
use Rattle.clap.specs.declared.builder.value_parser.ValueParser.TheVariants as vp
use Rattle.board_text.specs.declared.board.TheConstants.{MAX_PEBBLES}
use Rattle.nested_cycles.specs.declared.nested_boards.TheConstants.{MAX_BOARD_LEVELS}
use Rattle.nested_cycles.specs.declared.game.TheConstants.{MAX_LEVELS}
use Rattle.chains.specs.declared.counting.TheConstants.{MAX_LENGTH}
use Rattle.command_line.specs.declared.asked.TheConstants.{MAX_WORKERS}
use Rattle.clap.proofs.OnLiterals.{clap_on_literals}
use Rattle.clap.proofs.WalkLemmas.{both}
use Rattle.command_line.specs.Commands as rows
use Rattle.command_line.specs.Commands.{command, commands, program, program_among, side_words, sides}
use Rattle.command_line.specs.Inside.Reading.{has_flag, has_value, has_value_by, has_values, is_among, is_read}
use Rattle.command_line.specs.Inside.Reading.{is_read_in, may_be_left_out}
use Rattle.command_line.proofs.RowFacts.{Each, Fits, GoodRule, either}
use Rattle.command_line.proofs.Defaults.{HasRow, default_row, given_row}
use Rattle.command_line.proofs.SameProgram.{below}
use Rattle.command_line.proofs.WalkFits.{Good, IsNoCommand, long_no_command}
use Rattle.command_line.proofs.LevelFits.{choice_there, flag_there, level_fits, number_there, text_there}

pub simple : (words : Bor (List (Bor Text))) → is_simple (program_among words) ≡ true
unfolding clap_on_literals
simple words = refl

pub simple_and_free : (words : Bor (List (Bor Text))) → is_simple_and_free (program_among words) ≡ true
unfolding clap_on_literals
simple_and_free words = refl

-- ---- any command

-- the argument's value is a number up to a limit, one of some words, or any word
abbrev IsKind : Option ValueParser → Type 0
IsKind parser = (parser ≡ None) ⊎ ((most : ℕ) × (parser ≡ Some (vp.Signed (pos 1) (pos most))))
    ⊎ (parser ≡ Some (vp.Names sides))

-- the argument has such a value, or is given or not, or may be left out
abbrev IsArgument : Rule → Type 0
IsArgument a = ((a.required ≡ true) ⊎ (0 < length (filled a).defaults) ⊎ (may_be_left_out a ≡ true))
    × (a.ignore_case ≡ false)
    × (((a.action ≡ None) × IsKind a.parser) ⊎ ((a.action ≡ Some SetTrue) × (a.parser ≡ None)))

-- the rules that clap makes from those of a command
abbrev made_from : ℕ → List Rule → List Rule
made_from i rules = filled_from i (rules ++ help_rule ∷ [])

-- if clap takes the words, each argument of the command can be read
pub record IsCommand (s : Shape) : Type 0 where
  pub plain : s ≡ command s.name s.rules
  pub good : Good (made_from 1 s.rules)
  pub arguments : Each IsArgument s.rules

-- the matches have a row for the argument, or it is left out
abbrev IsThere : Rule → List Row → Type 0
IsThere a rows = HasRow a.id rows
    ⊎ ((may_be_left_out a ≡ true) × (is_some (find (λ r. bytes_eq r.id a.id) rows) ≡ false))

left_out_or_not : (a : Rule) (rows : List Row) (b : Bool) → is_some (find (λ r. bytes_eq r.id a.id) rows) ≡ b
    → may_be_left_out a ≡ true → IsThere a rows
left_out_or_not a rows true has may = inl has
left_out_or_not a rows false none may = inr (may, none)

one_has_row : (a : Rule) (i : ℕ) (rest : List Rule) (rows end : List Row)
    → fold with_default rows (with_index i (filled a) ∷ rest) ≡ end
    → IsArgument a → (not a.required || is_given a.id end) ≡ true → IsThere a end
one_has_row a i rest rows end is argument given =
    elim argument.0 [
      | inl required ↦ inl (given_row a.id end (rw required at given))
      | inr (inl some) ↦ inl (subst (HasRow a.id) is (default_row (with_index i (filled a)) rest rows some))
      | inr (inr may) ↦ left_out_or_not a end _ refl may
    ]

have_rows : (rules : List Rule) (i : ℕ) (rows end : List Row) → fold with_default rows (made_from i rules) ≡ end
    → Each IsArgument rules → list_all (λ a. not a.required || is_given a.id end) (made_from i rules) ≡ true
    → Each (λ a. IsThere a end) rules
have_rows [] i rows end is arguments given = tt
have_rows (a ∷ rules) i rows end is arguments given =
    let rest = made_from (index_after i a) rules in
    let parts = both (not a.required || is_given a.id end)
    (list_all (λ a. not a.required || is_given a.id end) rest) given in (
      one_has_row a i rest rows end is arguments.0 parts.0,
      have_rows rules (index_after i a) (with_default rows (with_index i (filled a))) end is arguments.1 parts.1,
    )

kind_there : (c : List Rule) (a : Rule) (i : ℕ) (rows : List Row) → Each (Fits c) rows
    → arg_by_id c a.id ≡ Some (with_index i (filled a)) → a.ignore_case ≡ false → IsKind a.parser → HasRow a.id rows
    → has_value_by rows a.id a.parser ≡ true
kind_there c a i rows each known exact kind there =
    let made = with_index i (filled a) in
    elim kind [
      | inl any ↦ rw any (text_there c made a.id rows each known there)
      | inr (inl (most, number)) ↦
          let parser : made.parser ≡ Some (vp.Signed (pos 1) (pos most))
          = ap (λ (o : Option ValueParser). Some (unwrap_or o (parser_for (action_of (with_action a))))) number in
          rw number (number_there c made a.id most rows each known
          (ap (λ (o : Option ValueParser). reading_of (parser_of_value o)) parser)
          (λ t e. subst (λ (o : Option ValueParser). accepts false (parser_of_value o) t ≡ true) parser
          (subst (λ (b : Bool). accepts b (parser_of_value made.parser) t ≡ true) exact e)) there)
      | inr (inr words) ↦
          let parser : made.parser ≡ Some (vp.Names sides)
          = ap (λ (o : Option ValueParser). Some (unwrap_or o (parser_for (action_of (with_action a))))) words in
          rw words (choice_there c made a.id (λ t. list_any (λ word. bytes_eq word t) side_words) rows each known
          (λ t e. subst (λ (o : Option ValueParser). accepts false (parser_of_value o) t ≡ true) parser
          (subst (λ (b : Bool). accepts b (parser_of_value made.parser) t ≡ true) exact e)) there)
    ]

word_there : (c : List Rule) (a : Rule) (i : ℕ) (rows : List Row) → Each (Fits c) rows
    → arg_by_id c a.id ≡ Some (with_index i (filled a)) → a.action ≡ Some SetTrue → a.parser ≡ None → HasRow a.id rows
    → has_flag rows a.id ≡ true
word_there c a i rows each known flag none there =
    let made = with_index i (filled a) in
    let parser : made.parser ≡ Some vp.Bool = rw (none, flag) refl in
    flag_there c made a.id rows each known (ap (λ (o : Option ValueParser). reading_of (parser_of_value o)) parser)
    (λ t e. subst (λ (o : Option ValueParser). accepts made.ignore_case (parser_of_value o) t ≡ true) parser e) there

value_there : (c : List Rule) (a : Rule) (i : ℕ) (rows : List Row) → Each (Fits c) rows
    → arg_by_id c a.id ≡ Some (with_index i (filled a)) → IsArgument a → HasRow a.id rows
    → has_value rows a.id a.action a.parser ≡ true
value_there c a i rows each known argument there =
    elim argument.2 [
      | inl kind ↦ rw kind.0 (kind_there c a i rows each known argument.1 kind.1 there)
      | inr flag ↦ rw flag.0 (word_there c a i rows each known flag.0 flag.1 there)
    ]

-- without a row there is no value
no_value : (a : Rule) (rows : List Row) → is_some (find (λ r. bytes_eq r.id a.id) rows) ≡ false
    → is_some (first_of a.id rows) ≡ false
no_value a rows none = go (find (λ r. bytes_eq r.id a.id) rows) none
  where
    go : (o : Option Row) → is_some o ≡ false → is_some (option_and_then (λ r. slice_get r.values 0) o) ≡ false
    go None none = refl
    go (Some r) none = absurd (true≢false none)

read_there : (c : List Rule) (a : Rule) (i : ℕ) (rows : List Row) → Each (Fits c) rows
    → arg_by_id c a.id ≡ Some (with_index i (filled a)) → IsArgument a → IsThere a rows
    → is_read_in rows a ≡ true
read_there c a i rows each known argument there =
    elim there [
      | inl has ↦ second (may_be_left_out a && not (is_some (first_of a.id rows)))
          (value_there c a i rows each known argument has)
      | inr none ↦ rw (none.0, no_value a rows none.1) refl
    ]
  where
    second : {right : Bool} (left : Bool) → right ≡ true → (left || right) ≡ true
    second true is = refl
    second false is = is

kinds_there : (c : List Rule) (rules : List Rule) (i : ℕ) (rows : List Row) → Each (Fits c) rows
    → Each (GoodRule c) (made_from i rules) → Each IsArgument rules → Each (λ a. IsThere a rows) rules
    → list_all (is_read_in rows) rules ≡ true
kinds_there c [] i rows each good arguments there = refl
kinds_there c (a ∷ rules) i rows each good arguments there =
    let first = read_there c a i rows each good.0.0 arguments.0 there.0 in
    rw first (kinds_there c rules (index_after i a) rows each good.1 arguments.1 there.1)

-- a command as clap builds it below the program
abbrev built_below : Shape → Shape
built_below s = built_leaf (inherited program.top s)

plain_read : (name : Text) (rules : List Rule) (words : List Text) → Good (made_from 1 rules) → Each IsArgument rules
    → level_passes (built_below (command name rules)) [] nothing_held words false ≡ true
    → has_values (rows_after (made_from 1 rules) [] words) (command name rules) ≡ true
plain_read name rules words good arguments pass =
    let s = built_below (command name rules) in
    let rows = rows_after (made_from 1 rules) [] words in
    let level = level_fits s words good pass in
    let given = (both (list_all (λ a. a.is_free) (made_from 1 rules))
    (list_all (λ a. not a.required || is_given a.id rows) (made_from 1 rules)) level.1).1 in
    let there = have_rows rules 1 (settled (made_from 1 rules)
    (walk (made_from 1 rules) [] nothing_held words).held).rows rows refl arguments given in
    kinds_there (made_from 1 rules) rules 1 rows level.0 good arguments there

command_read : (s : Shape) (words : List Text) → IsCommand s
    → level_passes (built_below s) [] nothing_held words false ≡ true
    → has_values (rows_at (built_below s) words).1 s ≡ true
command_read s words is pass =
    subst (λ (t : Shape). has_values (rows_at (built_below t) words).1 t ≡ true) (sym is.plain)
    (plain_read s.name s.rules words is.good is.arguments
    (subst (λ (t : Shape). level_passes (built_below t) [] nothing_held words false ≡ true) is.plain pass))

-- ---- the commands, a row each

word_given : (name : Text) → IsArgument (rows.word name)
word_given name = (inr (inl (omega arith)), refl, inr (refl, refl))

solve_row : IsCommand (rows.solve_among sides)
solve_row = record {
  plain = refl;
  good = (
    (refl, inl (refl, omega arith)),
    (
      (refl, inl (refl, omega arith)),
      (
        (refl, inl (refl, omega arith)),
        (
          (refl, inr (inl (refl, omega arith))),
          ((refl, inl (refl, omega arith)), ((refl, inr (inl (refl, omega arith))), ((refl, inr (inr refl)), tt))),
        ),
      ),
    ),
  );
  arguments = (
    (inr (inl (omega arith)), refl, inl (refl, inr (inl (MAX_WORKERS, refl)))),
    (
      (inr (inr refl), refl, inl (refl, inr (inr refl))),
      (
        (inr (inr refl), refl, inl (refl, inl refl)),
        (word_given (codes "large"), ((inl refl, refl, inl (refl, inl refl)), (word_given (codes "explain"), tt))),
      ),
    ),
  );
}

check_row : IsCommand rows.check
check_row = record {
  plain = refl;
  good = (
    (refl, inl (refl, omega arith)),
    ((refl, inl (refl, omega arith)), ((refl, inr (inl (refl, omega arith))), ((refl, inr (inr refl)), tt))),
  );
  arguments = (
    (inl refl, refl, inl (refl, inl refl)),
    ((inl refl, refl, inl (refl, inl refl)), (word_given (codes "explain"), tt)),
  );
}

report_row : IsCommand rows.report
report_row = record {
  plain = refl;
  good = (
    (refl, inl (refl, omega arith)),
    (
      (refl, inl (refl, omega arith)),
      (
        (refl, inr (inl (refl, omega arith))),
        ((refl, inl (refl, omega arith)), ((refl, inr (inl (refl, omega arith))), ((refl, inr (inr refl)), tt))),
      ),
    ),
  );
  arguments = (
    (inr (inl (omega arith)), refl, inl (refl, inr (inl (MAX_WORKERS, refl)))),
    (
      (inr (inr refl), refl, inl (refl, inl refl)),
      (word_given (codes "large"), ((inl refl, refl, inl (refl, inl refl)), (word_given (codes "explain"), tt))),
    ),
  );
}

starts_row : IsCommand rows.starts
starts_row = record {
  plain = refl;
  good = (
    (refl, inl (refl, omega arith)),
    (
      (refl, inl (refl, omega arith)),
      (
        (refl, inr (inl (refl, omega arith))),
        ((refl, inl (refl, omega arith)), ((refl, inr (inl (refl, omega arith))), ((refl, inr (inr refl)), tt))),
      ),
    ),
  );
  arguments = (
    (inr (inl (omega arith)), refl, inl (refl, inr (inl (MAX_WORKERS, refl)))),
    (
      (inr (inr refl), refl, inl (refl, inl refl)),
      (word_given (codes "large"), ((inl refl, refl, inl (refl, inl refl)), (word_given (codes "explain"), tt))),
    ),
  );
}

chains_row : IsCommand rows.chains
chains_row = record {
  plain = refl;
  good = (
    (refl, inl (refl, omega arith)),
    (
      (refl, inl (refl, omega arith)),
      ((refl, inl (refl, omega arith)), ((refl, inr (inl (refl, omega arith))), ((refl, inr (inr refl)), tt))),
    ),
  );
  arguments = (
    (inr (inl (omega arith)), refl, inl (refl, inr (inl (MAX_WORKERS, refl)))),
    (
      (inr (inl (omega arith)), refl, inl (refl, inr (inl (MAX_LENGTH, refl)))),
      ((inl refl, refl, inl (refl, inl refl)), (word_given (codes "explain"), tt)),
    ),
  );
}

nested_row : IsCommand rows.nested
nested_row = record {
  plain = refl;
  good = (
    (refl, inl (refl, omega arith)),
    ((refl, inl (refl, omega arith)), ((refl, inr (inl (refl, omega arith))), ((refl, inr (inr refl)), tt))),
  );
  arguments = (
    (inl refl, refl, inl (refl, inr (inl (MAX_BOARD_LEVELS, refl)))),
    ((inl refl, refl, inl (refl, inr (inl (MAX_PEBBLES, refl)))), (word_given (codes "explain"), tt)),
  );
}

play_row : IsCommand (rows.play_among sides)
play_row = record {
  plain = refl;
  good = (
    (refl, inl (refl, omega arith)),
    (
      (refl, inl (refl, omega arith)),
      (
        (refl, inr (inl (refl, omega arith))),
        ((refl, inl (refl, omega arith)), ((refl, inr (inl (refl, omega arith))), ((refl, inr (inr refl)), tt))),
      ),
    ),
  );
  arguments = (
    (inl refl, refl, inl (refl, inr (inr refl))),
    (
      (inr (inr refl), refl, inl (refl, inl refl)),
      (word_given (codes "large"), ((inl refl, refl, inl (refl, inl refl)), (word_given (codes "explain"), tt))),
    ),
  );
}

climb_row : IsCommand rows.climb
climb_row = record {
  plain = refl;
  good = ((refl, inl (refl, omega arith)), ((refl, inr (inl (refl, omega arith))), ((refl, inr (inr refl)), tt)));
  arguments = ((inl refl, refl, inl (refl, inr (inl (MAX_LEVELS, refl)))), (word_given (codes "explain"), tt));
}

are_commands : Each IsCommand commands
are_commands = (
  solve_row,
  (
    check_row,
    (
      report_row,
      (
        starts_row,
        (
          chains_row,
          (
            nested_row,
            (
              play_row,
              (
                climb_row,
                tt,
              ),
            ),
          ),
        ),
      ),
    ),
  ),
)

-- ---- a walk that passes stops at no `help`

abbrev IsNoHelp : Option (Text × List Text) → Type 0
IsNoHelp None = ⊤
IsNoHelp (Some p) = bytes_eq p.0 (codes "help") ≡ false

abbrev StepsPastHelp : Step → Type 0
StepsPastHelp (subcommand name) = bytes_eq name (codes "help") ≡ false
StepsPastHelp _ = ⊤

past : (step : Step) → IsNoCommand step → StepsPastHelp step
past (next waiting) fine = tt
past (trailing position) fine = tt
past (subcommand name) fine = absurd fine
past value fine = tt

no_help : (name : Text) (disabled : Bool) → disabled ≡ false → (not (bytes_eq name (codes "help")) || disabled) ≡ true
    → bytes_eq name (codes "help") ≡ false
no_help name disabled off pass = go (bytes_eq name (codes "help")) disabled off pass
  where
    go : (b d : Bool) → d ≡ false → (not b || d) ≡ true → b ≡ false
    go true d off e = absurd (true≢false (sym e ∙ off))
    go false d off e = refl

other_past : (s : Shape) (o : Option Text) (waiting : Waiting) (position : ℕ) (word : Text) (h : Held)
    → s.disable_help_subcommand ≡ false
    → other_passes s o word h ≡ true → StepsPastHelp (subcommand_or_other s.rules o waiting position word h).1
other_past s (Some name) waiting position word h off pass = no_help name s.disable_help_subcommand off pass
other_past s None waiting position word h off pass = go (bytes_eq word (45 ∷ 45 ∷ []))
  where
    go : (b : Bool)
        → StepsPastHelp (cond b (h, trailing position) (long_or_other s.rules waiting word (long_of word) h)).1
    go true = tt
    go false = past _ (long_no_command s.rules waiting word (long_of word) h)

met_past : (s : Shape) (names : Names) (is_trailing : Bool) (waiting : Waiting) (position : ℕ) (word : Text) (h : Held)
    → s.disable_help_subcommand ≡ false
    → word_passes s names is_trailing waiting word h ≡ true
    → StepsPastHelp (word_met s.rules names is_trailing waiting position word h).1
met_past s names true waiting position word h off pass = tt
met_past s names false waiting position word h off pass =
    other_past s (subcommand_met names waiting word) waiting position word h off pass

value_past : (c : List Rule) (o : Option Rule) (word : Text) (w : Walk) (h : Held) → IsNoHelp w.stopped
    → IsNoHelp (to_positional c o word w h).stopped
value_past c None word w h none = none
value_past c (Some a) word w h none = tt

step_past : (c : List Rule) (word : Text) (w : Walk) (h : Held) (step : Step) → StepsPastHelp step → IsNoHelp w.stopped
    → IsNoHelp (after_step c word w h step).stopped
step_past c word w h (next waiting) fine none = none
step_past c word w h (trailing position) fine none = none
step_past c word w h (subcommand name) fine none = fine
step_past c word w h value fine none = value_past c (arg_by_index c w.position) word w h none

turn_past : (s : Shape) (names : Names) (w : Walk) (word : Text) (o : Option (Text × List Text))
    → s.disable_help_subcommand ≡ false → IsNoHelp o → IsNoHelp w.stopped
    → (is_some o || (word_passes s names w.is_trailing w.waiting word w.held
    && step_passes s w.position (word_met s.rules names w.is_trailing w.waiting w.position word w.held).0
    (word_met s.rules names w.is_trailing w.waiting w.position word w.held).1)) ≡ true
    → IsNoHelp (walked_from s.rules names o w word).stopped
turn_past s names w word (Some p) off fine none pass = fine
turn_past s names w word None off fine none pass =
    let met = word_met s.rules names w.is_trailing w.waiting w.position word w.held in
    let parts = both (word_passes s names w.is_trailing w.waiting word w.held)
    (step_passes s w.position met.0 met.1) pass in
    step_past s.rules word w met.0 met.1
    (met_past s names w.is_trailing w.waiting w.position word w.held off parts.0) none

walk_past : (s : Shape) (names : Names) (w : Walk) (words : List Text) → s.disable_help_subcommand ≡ false
    → IsNoHelp w.stopped
    → walk_passes s names w words ≡ true → IsNoHelp (fold (walked s.rules names) w words).stopped
unfolding walk_passes walked
walk_past s names w [] off none pass = none
walk_past s names w (word ∷ rest) off none pass =
    let parts = both (turn_passes s names w word) (walk_passes s names (walked s.rules names w word) rest) pass in
    walk_past s names (walked s.rules names w word) rest off
    (turn_past s names w word w.stopped off none none parts.0) parts.1

-- ---- the whole command line

or_later : (a b : Bool) → b ≡ true → (a || b) ≡ true
or_later true b e = refl
or_later false b e = e

first_there : (a b c : Bool) → a ≡ true → b ≡ true → ((a && b) || c) ≡ true
first_there a b c e f = rw (e, f) refl

-- the command that a walk stopped at can be read, if it is not the one for help
named_read : (shapes : List Shape) (name : Text) (words : List Text) → Each IsCommand shapes
    → bytes_eq name (codes "help") ≡ false
    → option_map_or (λ s. level_passes s [] nothing_held words false)
    (find (λ s. answers_to name (label_of s)) (below shapes)) true ≡ true
    → is_some (option_map (λ s. rows_at s words) (find (λ s. answers_to name (label_of s)) (below shapes))) ≡ true
    → is_among shapes (option_map (λ s. rows_at s words) (find (λ s. answers_to name (label_of s)) (below shapes)))
    ≡ true
named_read [] name words are fine pass some = go (answers_to name (codes "help", [])) refl some
  where
    go : (b : Bool) → answers_to name (codes "help", []) ≡ b
        → is_some (option_map (λ s. rows_at s words) (cond b (Some (built_leaf help_shape)) None)) ≡ true
        → is_among [] (option_map (λ s. rows_at s words) (cond b (Some (built_leaf help_shape)) None)) ≡ true
    go false e some = absurd (true≢false (sym some))
    go true e some =
        elim (either (bytes_eq (codes "help") name) false e) [
          | inl same ↦
              let is : codes "help" ≡ name = (bytes_eq-Decides (codes "help") name).0 same in
              let again : bytes_eq name (codes "help") ≡ true = (bytes_eq-Decides name (codes "help")).1 (sym is) in
              absurd (true≢false (sym again ∙ fine))
          | inr bad ↦ absurd (true≢false (sym bad))
        ]
named_read (s ∷ shapes) name words are fine pass some =
    go (answers_to name (label_of (built_below s))) (named_read shapes name words are.1 fine) pass some
  where
    found : Option Shape
    found = find (λ s. answers_to name (label_of s)) (below shapes)

    later : (o : Option (Text × List Row)) → is_among shapes o ≡ true → is_among (s ∷ shapes) o ≡ true
    later None e = e
    later (Some p) e = or_later (bytes_eq p.0 s.name && has_values p.1 s) _ e

    go : (b : Bool)
        → (option_map_or (λ s. level_passes s [] nothing_held words false) found true ≡ true
        → is_some (option_map (λ s. rows_at s words) found) ≡ true
        → is_among shapes (option_map (λ s. rows_at s words) found) ≡ true)
        → option_map_or (λ s. level_passes s [] nothing_held words false) (cond b (Some (built_below s)) found) true
        ≡ true
        → is_some (option_map (λ s. rows_at s words) (cond b (Some (built_below s)) found)) ≡ true
        → is_among (s ∷ shapes) (option_map (λ s. rows_at s words) (cond b (Some (built_below s)) found)) ≡ true
    go true more pass some =
        let named : s.name ≡ (built_below s).name =
        subst (λ (t : Shape). t.name ≡ (built_below t).name) (sym are.0.plain) refl in
        first_there (bytes_eq (built_below s).name s.name) _ _
        ((bytes_eq-Decides (built_below s).name s.name).1 (sym named)) (command_read s words are.0 pass)
    go false more pass some = later _ (more pass some)

stop_read : (stop : Option (Text × List Text)) → IsNoHelp stop → entered_passes (built program) stop ≡ true
    → is_some (entered (built program) stop) ≡ true → is_read (entered (built program) stop) ≡ true
stop_read None fine pass some = absurd (true≢false (sym some))
stop_read (Some p) fine pass some = named_read commands p.0 p.1 are_commands fine pass some

pub taken : (words : List Text) → takes program words ≡ true → is_read (subcommand_of program words) ≡ true
taken words e =
    let top = (built program).top in
    let names = names_of (built program) in
    let rest = drop 1 words in
    let end = walk top.rules names nothing_held rest in
    let rows = finished top.rules end.held in
    let has = is_some (entered (built program) end.stopped) in
    let whole = (both (is_simple program) (built_takes (built program) nothing_held rest) e).1 in
    let parts = both (entered_passes (built program) end.stopped)
    (level_passes top names nothing_held rest has) whole in
    let level = both (walk_passes top names (walk_from nothing_held) rest)
    (settle_passes top.rules top.args_override_self end.held &&
    (list_all default_passes top.rules && is_valid top rows has)) parts.1 in
    let last = both (settle_passes top.rules top.args_override_self end.held)
    (list_all default_passes top.rules && is_valid top rows has) level.1 in
    let valid = both (list_all default_passes top.rules) (is_valid top rows has) last.1 in
    let some = both has (list_all (λ a. a.is_free) top.rules
    && ((top.subcommand_negates_reqs && has) || list_all
    (λ a. not a.required || is_given a.id rows) top.rules)) valid.1 in
    stop_read end.stopped (walk_past top names (walk_from nothing_held) rest refl tt level.0) parts.0 some.0
