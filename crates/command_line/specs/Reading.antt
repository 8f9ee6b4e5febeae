-- The job that a command line asks for.
use Rattle.std.specs.Prelude.{◌≡◌, ◌≢◌, ◌≤◌, ◌⊎◌, ◌||◌, ◌++◌, ℕ, Bool, true, false, List, [], ◌∷◌}
use Rattle.std.specs.Prelude.{Option, Some, None, codes, length, option_map, string_bytes}
use Rattle.std.specs.Borrow.{Bor}
use Rattle.std.specs.List.{AllByRecursion, list_any}
use Rattle.std.specs.Str.{bytes_eq}
use Rattle.std.specs.Str.Parse.{digits_value, without_leading_plus}
use Rattle.clap.specs.Faults.{fault_of}
use Rattle.clap.specs.Kinds.{IsAmong}
use Rattle.clap.specs.Values.{bool_text}
use Rattle.clap.specs.Walk.{Row, Text, first_of, one_of}
use Rattle.clap.specs.declared.error.kind.ErrorKind.{ErrorKind}
use Rattle.clap.specs.declared.error.kind.ErrorKind.TheVariants as kinds
use Rattle.board_text.specs.LineForms.{with_line_feed}
use Rattle.board_text.specs.declared.board.TheConstants.{MAX_PEBBLES}
use Rattle.nested_cycles.specs.declared.nested_boards.TheConstants.{MAX_BOARD_LEVELS}
use Rattle.nested_cycles.specs.declared.game.TheConstants.{MAX_LEVELS}
use Rattle.chains.specs.declared.counting.TheConstants.{MAX_LENGTH}
use Rattle.command_line.specs.Commands.{commands, program}
use Rattle.command_line.specs.declared.asked.TheConstants.{MAX_WORKERS}
use Rattle.command_line.specs.declared.asked.BoardLimit.{BoardLimit}
use Rattle.command_line.specs.declared.asked.BoardLimit.TheVariants.{Small, Large}
use Rattle.command_line.specs.declared.asked.Job.{Job}
use Rattle.command_line.specs.declared.asked.JobFault.{JobFault}
use Rattle.command_line.specs.declared.asked.JobFault.TheVariants.{Help, Usage, Memory}
use Rattle.command_line.specs.declared.asked.Job.TheVariants as jobs
use Rattle.positions.specs.declared.side.Side.{Side}
use Rattle.positions.specs.declared.side.Side.TheVariants.{Labeller, Adversary}

-- the matches of the command that was named give n for the id, from 1 to `most`
abbrev pub HasNumber : List Row → Text → ℕ → ℕ → Type 0
HasNumber rows id most n =
    (option_map (λ t. digits_value 10 (without_leading_plus t)) (one_of id rows) ≡ Some n)
    × (1 ≤ n) × (n ≤ most)

-- the word for a side
abbrev pub side_word : Side → Text
side_word Labeller = codes "labeller"
side_word Adversary = codes "adversary"

-- the side was given, or none
abbrev pub HasSide : List Row → Option Side → Type 0
HasSide rows side = first_of (codes "side") rows ≡ option_map side_word side

-- the path was given, or none
abbrev pub HasPath : List Row → Text → Option (Bor Text) → Type 0
HasPath rows id path = first_of id rows ≡ option_map (λ word. word.now) path

-- the word for the id was given exactly if this is true:
-- the matches have `true` for it if it was, and else `false`
abbrev pub HasFlag : List Row → Text → Bool → Type 0
HasFlag rows id is_given = one_of id rows ≡ Some (bool_text is_given)

-- the limit is that of large boards
abbrev pub is_large : BoardLimit → Bool
is_large Large = true
is_large Small = false

-- the command that was named, with its matches, asks for the job
abbrev pub AsksFor : Text → List Row → Job → Type 0
AsksFor name rows jobs.Joined = ⊥
AsksFor name rows (jobs.Check board proof) = (name ≡ codes "check")
    × (first_of (codes "board") rows ≡ Some board.now)
    × (first_of (codes "proof") rows ≡ Some proof.now)
AsksFor name rows (jobs.Nested levels pebbles) = (name ≡ codes "nested")
    × HasNumber rows (codes "levels") MAX_BOARD_LEVELS levels
    × HasNumber rows (codes "pebbles") MAX_PEBBLES pebbles
AsksFor name rows (jobs.Solve workers side limit symmetries board) = (name ≡ codes "solve")
    × HasNumber rows (codes "workers") MAX_WORKERS workers
    × HasSide rows side
    × HasFlag rows (codes "large") (is_large limit)
    × HasPath rows (codes "symmetries") symmetries
    × (first_of (codes "board") rows ≡ Some board.now)
AsksFor name rows (jobs.Report workers limit symmetries board) = (name ≡ codes "report")
    × HasNumber rows (codes "workers") MAX_WORKERS workers
    × HasFlag rows (codes "large") (is_large limit)
    × HasPath rows (codes "symmetries") symmetries
    × (first_of (codes "board") rows ≡ Some board.now)
AsksFor name rows (jobs.Starts workers limit symmetries board) = (name ≡ codes "starts")
    × HasNumber rows (codes "workers") MAX_WORKERS workers
    × HasFlag rows (codes "large") (is_large limit)
    × HasPath rows (codes "symmetries") symmetries
    × (first_of (codes "board") rows ≡ Some board.now)
AsksFor name rows (jobs.Chains workers most board) = (name ≡ codes "chains")
    × HasNumber rows (codes "workers") MAX_WORKERS workers
    × HasNumber rows (codes "most") MAX_LENGTH most
    × (first_of (codes "board") rows ≡ Some board.now)
AsksFor name rows (jobs.Play side limit symmetries board) = (name ≡ codes "play")
    × HasSide rows (Some side)
    × HasFlag rows (codes "large") (is_large limit)
    × HasPath rows (codes "symmetries") symmetries
    × (first_of (codes "board") rows ≡ Some board.now)
AsksFor name rows (jobs.Climb levels) =
    (name ≡ codes "climb") × HasNumber rows (codes "levels") MAX_LEVELS levels

-- the command that `clap` finds on the words asks for the job
abbrev pub IsReadAs : Option (Text × List Row) → Job → Type 0
IsReadAs None job = ⊥
IsReadAs (Some found) job = AsksFor found.0 found.1 job

-- the numbers of the job are those of boards that can be made or played on unmade, of workers that
-- can be started, and of lengths of chains
abbrev pub IsInRange : Job → Type 0
IsInRange jobs.Joined = Unit {0}
IsInRange (jobs.Check board proof) = Unit {0}
IsInRange (jobs.Nested levels pebbles) =
    (1 ≤ levels) × (levels ≤ MAX_BOARD_LEVELS) × (1 ≤ pebbles) × (pebbles ≤ MAX_PEBBLES)
IsInRange (jobs.Solve workers side limit symmetries board) = (1 ≤ workers) × (workers ≤ MAX_WORKERS)
IsInRange (jobs.Report workers limit symmetries board) = (1 ≤ workers) × (workers ≤ MAX_WORKERS)
IsInRange (jobs.Starts workers limit symmetries board) = (1 ≤ workers) × (workers ≤ MAX_WORKERS)
IsInRange (jobs.Chains workers most board) =
    (1 ≤ workers) × (workers ≤ MAX_WORKERS) × (1 ≤ most) × (most ≤ MAX_LENGTH)
IsInRange (jobs.Play side limit symmetries board) = Unit {0}
IsInRange (jobs.Climb levels) = (1 ≤ levels) × (levels ≤ MAX_LEVELS)

-- the word after the program's name is `help`
abbrev pub asks_for_help : List Text → Bool
asks_for_help (name ∷ word ∷ rest) = bytes_eq word (codes "help")
asks_for_help words = false

-- the word names a command, or is `help`, which is one too
abbrev pub is_topic : Text → Bool
is_topic word = bytes_eq word (codes "help") || list_any (λ s. bytes_eq word s.name) commands

-- after `help` there is no word, or one that names a command
abbrev pub has_topic : List Text → Bool
has_topic (name ∷ word ∷ []) = true
has_topic (name ∷ word ∷ topic ∷ []) = is_topic topic
has_topic words = false

-- the text that says the version
abbrev pub version_text : List ℕ
version_text = with_line_feed (codes "pebbles 1.1.0")
    ++ with_line_feed
    (codes "reads `board 1`, `board 2`, `proof 1`, `proof 2` and `proof 3`, writes these, "
    ++ codes "`report 1`, `starts 1` and `chains 1`")

-- the name stands in the text
abbrev pub Names : List ℕ → Text → Type 0
Names text name = (before after : List ℕ) × (text ≡ before ++ (name ++ after))

-- each command is named in the text
abbrev pub NamesCommands : List ℕ → Type 0
NamesCommands text = AllByRecursion (λ s. Names text s.name) commands

-- the text isn't empty, and if one word asks for it, it names each command
abbrev pub IsHelp : List Text → List ℕ → Type 0
IsHelp words text = (text ≢ []) × (length words ≡ 2 → NamesCommands text)

-- help is asked for by the word `help`, which has a topic, or by an option
abbrev pub AsksForHelpBy : List Text → ErrorKind → Type 0
AsksForHelpBy words kind =
    ((asks_for_help words ≡ true) × (has_topic words ≡ true))
    ⊎ ((asks_for_help words ≡ false) × (kind ≡ kinds.DisplayHelp))

-- the fault for an error of this kind: the version, help, or wrong use. After the word `help` the
-- words alone tell help from wrong use
abbrev pub ShowsKind : List Text → ErrorKind → JobFault → Type 0
ShowsKind words kind (Help text) =
    ((kind ≡ kinds.DisplayVersion) × (string_bytes text ≡ version_text))
    ⊎ (IsHelp words (string_bytes text) × AsksForHelpBy words kind)
ShowsKind words kind (Usage text) =
    ((asks_for_help words ≡ true) × (has_topic words ≡ false))
    ⊎ ((asks_for_help words ≡ false) × (kind ≢ kinds.DisplayHelp) × (kind ≢ kinds.DisplayVersion))
ShowsKind words kind Memory = Unit {0}

-- `clap` finds in the words that help was asked for, and after the word `help` there is no word but
-- one that names a command
abbrev pub AsksForHelp : List Text → Type 0
AsksForHelp words = IsAmong kinds.DisplayHelp (fault_of program words)
    × (asks_for_help words ≡ true → has_topic words ≡ true)

-- `clap` finds in the words that the version was asked for
abbrev pub AsksForVersion : List Text → Type 0
AsksForVersion words = IsAmong kinds.DisplayVersion (fault_of program words)

-- `clap` finds another fault in the words, and none after `help` if that has a command
abbrev pub IsWrongUse : List Text → Type 0
IsWrongUse words =
    ((kind : ErrorKind) × IsAmong kind (fault_of program words) × (kind ≢ kinds.DisplayHelp)
    × (kind ≢ kinds.DisplayVersion))
    × (asks_for_help words ≡ true → has_topic words ≡ false)

-- the words ask for the version, for help, or are used wrongly, and the text is of that
abbrev pub ShowsWords : List Text → JobFault → Type 0
ShowsWords words (Help text) = (AsksForVersion words × (string_bytes text ≡ version_text))
    ⊎ (AsksForHelp words × IsHelp words (string_bytes text))
ShowsWords words (Usage text) = IsWrongUse words
ShowsWords words Memory = Unit {0}
