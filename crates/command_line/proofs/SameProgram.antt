-- The words that the program's commands take, and their results, don't depend on the addresses of
-- the words for the sides.
use Rattle.std.proofs.Common.{◌≡◌, ◌∙◌, ◌++◌, ◌&&◌, ◌||◌, not, Bool, true, false, ℕ, List, [], ◌∷◌, Option, Some, None}
use Rattle.std.proofs.Common.{is_some, refl, sym, ap, ap₂, cond, map, option_map, drop}
use Rattle.std.specs.Prelude.{find, unwrap_or}
use Rattle.std.specs.Borrow.{Bor}
use Rattle.std.specs.Option.{option_map_or}
use Rattle.clap.specs.Simple.{App, Shape, built, built_leaf, entered, filled, filled_from, help_rule, help_shape}
use Rattle.clap.specs.Simple.{index_after, inherited, label_of, names_of, parser_for, rows_at, subcommand_of}
use Rattle.clap.specs.Simple.{marked_built, version_rule, with_action, with_index, with_leaf_noted}
use Rattle.clap.specs.Faults.{entered_fault, fault_of, level_fault}
use Rattle.clap.specs.Kinds.{Kinds}
use Rattle.clap.specs.Takes.{entered_passes, level_passes, takes}
use Rattle.clap.specs.Walk.{Row, Rule, Text, action_of, answers_to, nothing_held, texts, walk}
use Rattle.clap.specs.declared.builder.action.ArgAction.{ArgAction}
use Rattle.clap.specs.declared.builder.action.ArgAction.TheVariants.{Set, Append, SetTrue, SetFalse}
use Rattle.clap.specs.declared.builder.action.ArgAction.TheVariants.{Count, Help, HelpShort, HelpLong, Version}
use Rattle.clap.specs.declared.builder.value_parser.ValueParser.{ValueParser}
use Rattle.command_line.specs.Commands.{commands_among, program, program_among, side_words, reference_to}
use Rattle.command_line.proofs.NamesMoved.{all_moved, moved, moved_parser, rows_after_same}
use Rattle.command_line.proofs.TakesMoved.{level_same, moved_shape}
use Rattle.command_line.proofs.FaultsMoved.{level_same as level_faults_same}

-- ---- building a command whose words lie somewhere else

own_parser : (x : ArgAction) → parser_for x ≡ moved_parser (parser_for x)
own_parser Set = refl
own_parser Append = refl
own_parser SetTrue = refl
own_parser SetFalse = refl
own_parser Count = refl
own_parser Help = refl
own_parser HelpShort = refl
own_parser HelpLong = refl
own_parser Version = refl

parser_moved : (o : Option ValueParser) (x : ArgAction)
    → unwrap_or (option_map moved_parser o) (parser_for x) ≡ moved_parser (unwrap_or o (parser_for x))
parser_moved None x = own_parser x
parser_moved (Some p) x = refl

abbrev with_its_parser : Rule → ValueParser → Rule
with_its_parser a p = record (filled a) { parser = Some p }

rule_moved : (a : Rule) → filled (moved a) ≡ moved (filled a)
rule_moved a = ap (with_its_parser a) (parser_moved a.parser (action_of (with_action a)))

rules_moved : (i : ℕ) (c : List Rule) → filled_from i (all_moved c) ≡ all_moved (filled_from i c)
rules_moved i [] = refl
rules_moved i (a ∷ c) =
    ap₂ (λ (b : Rule) (d : List Rule). with_index i b ∷ d) (rule_moved a) (rules_moved (index_after i a) c)

one_more : (c : List Rule) (a : Rule) → all_moved c ++ moved a ∷ [] ≡ all_moved (c ++ a ∷ [])
one_more [] a = refl
one_more (b ∷ c) a = ap (λ (d : List Rule). moved b ∷ d) (one_more c a)

flag_moved : (off : Bool) (c : List Rule) (a : Rule)
    → cond off (all_moved c) (all_moved c ++ moved a ∷ []) ≡ all_moved (cond off c (c ++ a ∷ []))
flag_moved true c a = refl
flag_moved false c a = one_more c a

abbrev helped : Shape → List Rule
helped s = cond s.disable_help_flag s.rules (s.rules ++ help_rule ∷ [])

abbrev has_no_version : Shape → Bool
has_no_version s = s.disable_version_flag || (not s.has_version && not s.has_long_version)

abbrev unfilled : Shape → List Rule
unfilled s = cond (has_no_version s) (helped s) (helped s ++ version_rule ∷ [])

unfilled_moved : (s : Shape) → unfilled (moved_shape s) ≡ all_moved (unfilled s)
unfilled_moved s =
    ap (λ (c : List Rule). cond (has_no_version s) c (c ++ version_rule ∷ []))
    (flag_moved s.disable_help_flag s.rules help_rule)
    ∙ flag_moved (has_no_version s) (helped s) version_rule

abbrev with_filled : Shape → List Rule → Shape
with_filled s c = record (with_leaf_noted (marked_built s)) { rules = c }

leaf_moved : (s : Shape) → built_leaf (moved_shape s) ≡ moved_shape (built_leaf s)
leaf_moved s = go s.is_built
  where
    go : (b : Bool) → cond b (moved_shape s) (with_filled s (filled_from 1 (unfilled (moved_shape s))))
        ≡ moved_shape (cond b s (with_filled s (filled_from 1 (unfilled s))))
    go true = refl
    go false = ap (with_filled s) (ap (filled_from 1) (unfilled_moved s) ∙ rules_moved 1 (unfilled s))

-- commands as clap builds them below the program, and then the one for help
abbrev pub below : List Shape → List Shape
below shapes = map built_leaf (map (inherited program.top) shapes ++ help_shape ∷ [])

below_moved : (shapes : List Shape) → below (map moved_shape shapes) ≡ map moved_shape (below shapes)
below_moved [] = refl
below_moved (s ∷ shapes) =
    ap₂ (λ (t : Shape) (ts : List Shape). t ∷ ts) (leaf_moved (inherited program.top s)) (below_moved shapes)

found_moved : (q : Shape → Bool) (shapes : List Shape) → ((s : Shape) → q (moved_shape s) ≡ q s)
    → find q (map moved_shape shapes) ≡ option_map moved_shape (find q shapes)
found_moved q [] same = refl
found_moved q (s ∷ shapes) same =
    ap (λ (b : Bool). cond b (Some (moved_shape s)) (find q (map moved_shape shapes))) (same s)
    ∙ go (found_moved q shapes same) (q s)
  where
    go : find q (map moved_shape shapes) ≡ option_map moved_shape (find q shapes) → (b : Bool)
        → cond b (Some (moved_shape s)) (find q (map moved_shape shapes))
        ≡ option_map moved_shape (cond b (Some s) (find q shapes))
    go later true = refl
    go later false = later

-- ---- the program with the same words, somewhere else

abbrev Sides : Type 0
Sides = Bor (List (Bor Text))

abbrev away : Sides → Sides
away sides = reference_to (map (λ (t : Bor Text). reference_to t.now) sides.now)

away_map : (sides : List (Bor Text)) → map (λ (t : Bor Text). reference_to t.now) sides ≡ map reference_to (texts sides)
away_map [] = refl
away_map (s ∷ rest) = ap (λ (xs : List (Bor Text)). reference_to s.now ∷ xs) (away_map rest)

away_is : (sides : Sides) → texts sides.now ≡ side_words → program_among (away sides) ≡ program
away_is sides e = ap (λ (xs : List (Bor Text)). program_among (reference_to xs))
    (away_map sides.now ∙ ap (λ (ts : List Text). map reference_to ts) e)

-- the command that answers to the name
abbrev named : Text → List Shape → Option Shape
named name shapes = find (λ s. answers_to name (label_of s)) shapes

named_away : (sides : Sides) (name : Text)
    → named name (below (commands_among (away sides)))
    ≡ option_map moved_shape (named name (below (commands_among sides)))
named_away sides name =
    ap (named name) (below_moved (commands_among sides))
    ∙ found_moved (λ s. answers_to name (label_of s)) (below (commands_among sides)) (λ s. refl)

passes_moved : (o : Option Shape) (words : List Text)
    → option_map_or (λ s. level_passes s [] nothing_held words false) (option_map moved_shape o) true
    ≡ option_map_or (λ s. level_passes s [] nothing_held words false) o true
passes_moved None words = refl
passes_moved (Some s) words = level_same s [] nothing_held words false

fault_moved : (o : Option Shape) (words : List Text)
    → option_map_or (λ s. level_fault s [] nothing_held words false []) (option_map moved_shape o) []
    ≡ option_map_or (λ s. level_fault s [] nothing_held words false []) o []
fault_moved None words = refl
fault_moved (Some s) words = level_faults_same s [] nothing_held words false []

rows_moved : (o : Option Shape) (words : List Text)
    → option_map (λ s. rows_at s words) (option_map moved_shape o) ≡ option_map (λ s. rows_at s words) o
rows_moved None words = refl
rows_moved (Some s) words = ap (λ (rows : List Row). Some (s.name, rows)) (rows_after_same s.rules [] words)

passes_same : (sides : Sides) (stop : Option (Text × List Text))
    → entered_passes (built (program_among (away sides))) stop ≡ entered_passes (built (program_among sides)) stop
passes_same sides None = refl
passes_same sides (Some p) =
    ap (λ (o : Option Shape). option_map_or (λ s. level_passes s [] nothing_held p.1 false) o true)
    (named_away sides p.0)
    ∙ passes_moved (named p.0 (below (commands_among sides))) p.1

below_same : (sides : Sides) (stop : Option (Text × List Text))
    → entered_fault (built (program_among (away sides))) stop ≡ entered_fault (built (program_among sides)) stop
below_same sides None = refl
below_same sides (Some p) =
    ap (λ (o : Option Shape). option_map_or (λ s. level_fault s [] nothing_held p.1 false []) o [])
    (named_away sides p.0)
    ∙ fault_moved (named p.0 (below (commands_among sides))) p.1

enters_same : (sides : Sides) (stop : Option (Text × List Text))
    → entered (built (program_among (away sides))) stop ≡ entered (built (program_among sides)) stop
enters_same sides None = refl
enters_same sides (Some p) =
    ap (λ (o : Option Shape). option_map (λ s. rows_at s p.1) o) (named_away sides p.0)
    ∙ rows_moved (named p.0 (below (commands_among sides))) p.1

takes_same : (sides : Sides) (words : List Text)
    → takes (program_among (away sides)) words ≡ takes (program_among sides) words
takes_same sides words =
    let top = (built program).top in
    let names = names_of (built program) in
    let rest = drop 1 words in
    let stop = (walk top.rules names nothing_held rest).stopped in
    ap (λ (b : Bool). b && level_passes top names nothing_held rest
    (is_some (entered (built (program_among (away sides))) stop))) (passes_same sides stop)
    ∙ ap (λ (o : Option (Text × List Row)). entered_passes
    (built (program_among sides)) stop && level_passes top names nothing_held rest (is_some o))
    (enters_same sides stop)

reads_same : (sides : Sides) (words : List Text)
    → subcommand_of (program_among (away sides)) words ≡ subcommand_of (program_among sides) words
reads_same sides words =
    enters_same sides (walk (built program).top.rules (names_of (built program)) nothing_held (drop 1 words)).stopped

faults_same : (sides : Sides) (words : List Text)
    → fault_of (program_among (away sides)) words ≡ fault_of (program_among sides) words
faults_same sides words =
    let top = (built program).top in
    let names = names_of (built program) in
    let rest = drop 1 words in
    let stop = (walk top.rules names nothing_held rest).stopped in
    ap (λ (below : Kinds). level_fault top names nothing_held rest
    (is_some (entered (built (program_among (away sides))) stop)) below) (below_same sides stop)
    ∙ ap (λ (o : Option (Text × List Row)). level_fault top names nothing_held rest (is_some o)
    (entered_fault (built (program_among sides)) stop)) (enters_same sides stop)

pub takes_as_program : (sides : Sides) (words : List Text) → texts sides.now ≡ side_words
    → takes (program_among sides) words ≡ takes program words
takes_as_program sides words e = sym (takes_same sides words) ∙ ap (λ (a : App). takes a words) (away_is sides e)

pub reads_as_program : (sides : Sides) (words : List Text) → texts sides.now ≡ side_words
    → subcommand_of (program_among sides) words ≡ subcommand_of program words
reads_as_program sides words e =
    sym (reads_same sides words) ∙ ap (λ (a : App). subcommand_of a words) (away_is sides e)

pub faults_as_program : (sides : Sides) (words : List Text) → texts sides.now ≡ side_words
    → fault_of (program_among sides) words ≡ fault_of program words
faults_as_program sides words e = sym (faults_same sides words) ∙ ap (λ (a : App). fault_of a words) (away_is sides e)
