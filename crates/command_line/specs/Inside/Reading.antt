-- Definitions that this crate's own functions cite beside `Reading`.
use Rattle.std.specs.Prelude.{◌≡◌, ◌≢◌, ◌⊎◌, MatchOption, ℕ, ℤ, pos, negsuc, Bool, not, ◌&&◌, ◌||◌}
use Rattle.std.specs.Prelude.{true, false, List, Option, Some, None, is_some, codes, string_bytes}
use Rattle.std.specs.Str.{bytes_eq}
use Rattle.std.specs.List.{list_all, list_any}
use Rattle.std.specs.Option.{option_map_or}
use Rattle.clap.specs.Simple.{Shape}
use Rattle.clap.specs.ValueTests.{is_unsigned_in}
use Rattle.clap.specs.Walk.{Row, Rule, Text, first_of, is_empty, one_of}
use Rattle.clap.specs.declared.builder.action.ArgAction.{ArgAction}
use Rattle.clap.specs.declared.builder.action.ArgAction.TheVariants.{SetTrue}
use Rattle.clap.specs.declared.builder.value_parser.ValueParser.{ValueParser}
use Rattle.clap.specs.declared.builder.value_parser.ValueParser.TheVariants as vp
use Rattle.clap.specs.declared.error.kind.ErrorKind.{ErrorKind}
use Rattle.clap.specs.declared.error.kind.ErrorKind.TheVariants as kinds
use Rattle.command_line.specs.declared.asked.Job.{Job}
use Rattle.command_line.specs.Commands.{commands, side_words}
use Rattle.command_line.specs.Reading.{AsksFor, IsHelp, asks_for_help, has_topic}
use Rattle.command_line.specs.declared.asked.JobFault.{JobFault}
use Rattle.command_line.specs.declared.asked.JobFault.TheVariants.{Help, Usage, Memory}

-- the matches give a number for the id, from 1 to `most`
abbrev pub has_number : List Row → Text → ℕ → Bool
has_number rows id most = option_map_or (is_unsigned_in 1 most) (one_of id rows) false

abbrev pub has_side : List Row → Text → Bool
has_side rows id =
    option_map_or (λ t. list_any (λ word. bytes_eq word t) side_words) (first_of id rows) false

abbrev pub most_of : ℤ → ℕ
most_of (pos number) = number
most_of (negsuc number) = 0

-- the matches say whether the word for the id was given
abbrev pub is_flag_text : Text → Bool
is_flag_text text = bytes_eq text (codes "true") || bytes_eq text (codes "false")

abbrev pub has_flag : List Row → Text → Bool
has_flag rows id = option_map_or is_flag_text (one_of id rows) false

-- the matches give a value for the id, of the kind that an argument with this parser asks for
abbrev pub has_value_by : List Row → Text → Option ValueParser → Bool
has_value_by rows id (Some (vp.Signed low high)) = has_number rows id (most_of high)
has_value_by rows id (Some (vp.Names names)) = has_side rows id
has_value_by rows id _ = is_some (first_of id rows)

-- the same, of the kind that the argument asks for: a word that stands alone is given or not
abbrev pub has_value : List Row → Text → Option ArgAction → Option ValueParser → Bool
has_value rows id (Some SetTrue) parser = has_flag rows id
has_value rows id _ parser = has_value_by rows id parser

-- the argument may be left out: it needs no value, has none of its own, and is no word that stands
-- alone
abbrev pub may_be_left_out : Rule → Bool
may_be_left_out rule = not rule.required && is_empty rule.defaults && not (is_some rule.action)

-- the matches give a value for the argument, of the kind that it asks for, or it is left out
abbrev pub is_read_in : List Row → Rule → Bool
is_read_in rows rule = (may_be_left_out rule && not (is_some (first_of rule.id rows)))
    || has_value rows rule.id rule.action rule.parser

-- so of each argument of the command
abbrev pub has_values : List Row → Shape → Bool
has_values rows command = list_all (is_read_in rows) command.rules

-- the job that the command is asked for; none if the matches lack one of its values
abbrev pub Reads : Shape → List Row → Option Job → Type 0
Reads command rows job =
    MatchOption job (has_values rows command ≡ false) (AsksFor command.name rows)

-- the matches are of one of these commands, and have its values
abbrev pub is_among : List Shape → Option (Text × List Row) → Bool
is_among shapes None = false
is_among shapes (Some found) =
    list_any (λ command. bytes_eq found.0 command.name && has_values found.1 command) shapes

abbrev pub is_read : Option (Text × List Row) → Bool
is_read = is_among commands

-- help is such a text, unless memory ran out
abbrev pub ShowsHelp : List Text → JobFault → Type 0
ShowsHelp words (Help text) = IsHelp words (string_bytes text)
ShowsHelp words (Usage text) = ⊥
ShowsHelp words Memory = Unit {0}

-- no help is asked for: no command is named after the word `help`, or the error isn't help
abbrev pub MisusesBy : List Text → ErrorKind → Type 0
MisusesBy words kind =
    ((asks_for_help words ≡ true) × (has_topic words ≡ false))
    ⊎ ((asks_for_help words ≡ false) × (kind ≢ kinds.DisplayHelp))
