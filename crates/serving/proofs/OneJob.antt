-- The same words ask for one job, wherever its paths lie in memory.
use Rattle.std.proofs.Common.{◌≡◌, ◌∙◌, ℕ, inl, inr, List, [], Option, Some, None, arith, ap, codes, refl, sym}
use Rattle.std.specs.Prelude.{if◌then◌else◌, option_map}
use Rattle.std.specs.Borrow.{Bor}
use Rattle.std.specs.Option.{unwrap_or}
use Rattle.std.specs.Str.{bytes_eq}
use Rattle.std.specs.Str.Parse.{digits_value, without_leading_plus}
use Rattle.clap.specs.Walk.{Row, Text, first_of, one_of}
use Rattle.clap.specs.Words.{subcommand_of}
use Rattle.command_line.specs.Commands.{program, reference_to}
use Rattle.command_line.specs.Reading.{AsksFor, HasFlag, HasNumber, HasPath, HasSide, IsInRange, IsReadAs, is_large}
use Rattle.command_line.specs.declared.asked.BoardLimit.{BoardLimit}
use Rattle.command_line.specs.declared.asked.BoardLimit.TheVariants.{Small, Large}
use Rattle.command_line.specs.declared.asked.Job.{Job}
use Rattle.command_line.specs.declared.asked.Job.TheVariants as jobs
use Rattle.positions.specs.declared.side.Side.{Side}
use Rattle.positions.specs.declared.side.Side.TheVariants.{Labeller, Adversary}
use Rattle.serving.specs.Serving.{WordsAskFor, is_typed}

-- a path, wherever it lies
abbrev pub settled_path : Bor Text → Bor Text
settled_path path = reference_to path.now

-- a job, wherever its paths lie
abbrev pub settled : Job → Job
settled jobs.Joined = jobs.Joined
settled (jobs.Check board proof) = jobs.Check (settled_path board) (settled_path proof)
settled (jobs.Nested levels pebbles) = jobs.Nested levels pebbles
settled (jobs.Solve workers side limit symmetries board) =
    jobs.Solve workers side limit (option_map settled_path symmetries) (settled_path board)
settled (jobs.Report workers limit symmetries board) =
    jobs.Report workers limit (option_map settled_path symmetries) (settled_path board)
settled (jobs.Starts workers limit symmetries board) =
    jobs.Starts workers limit (option_map settled_path symmetries) (settled_path board)
settled (jobs.Chains workers most board) = jobs.Chains workers most (settled_path board)
settled (jobs.Play side limit symmetries board) =
    jobs.Play side limit (option_map settled_path symmetries) (settled_path board)
settled (jobs.Climb levels) = jobs.Climb levels

-- ---- the parts of a job, by the matches of its words

module _ (rows : List Row) where
  abbrev path_at : Text → Bor Text
  path_at id = reference_to (unwrap_or (first_of id rows) [])

  abbrev number_at : Text → ℕ
  number_at id = unwrap_or (option_map (λ t. digits_value 10 (without_leading_plus t)) (one_of id rows)) 0

  abbrev side_of_word : Text → Side
  side_of_word word = if bytes_eq word (codes "labeller") then Labeller else Adversary

  abbrev side_given : Option Side
  side_given = option_map side_of_word (first_of (codes "side") rows)

  abbrev limit_given : BoardLimit
  limit_given =
      if bytes_eq (unwrap_or (one_of (codes "large") rows) []) (codes "true") then Large else Small

  abbrev symmetries_given : Option (Bor Text)
  symmetries_given = option_map reference_to (first_of (codes "symmetries") rows)

  path_is : (id : Text) (path : Bor Text) → first_of id rows ≡ Some path.now → settled_path path ≡ path_at id
  path_is id path given = rw given refl

  number_is : (id : Text) (most n : ℕ) → HasNumber rows id most n → n ≡ number_at id
  number_is id most n has = rw has.0 refl

  side_is : (side : Option Side) → HasSide rows side → side ≡ side_given
  side_is None has = rw has refl
  side_is (Some Labeller) has = rw has refl
  side_is (Some Adversary) has = rw has refl

  limit_is : (limit : BoardLimit) → HasFlag rows (codes "large") (is_large limit) → limit ≡ limit_given
  limit_is Small has = rw has refl
  limit_is Large has = rw has refl

  symmetries_are : (symmetries : Option (Bor Text)) → HasPath rows (codes "symmetries") symmetries
      → option_map settled_path symmetries ≡ symmetries_given
  symmetries_are None has = rw has refl
  symmetries_are (Some path) has = rw has refl

  -- the job that the command of this name asks for
  abbrev asked : Text → Job
  asked name =
      if bytes_eq name (codes "check") then jobs.Check (path_at (codes "board")) (path_at (codes "proof"))
      else if bytes_eq name (codes "nested")
      then jobs.Nested (number_at (codes "levels")) (number_at (codes "pebbles"))
      else if bytes_eq name (codes "solve")
      then jobs.Solve (number_at (codes "workers")) side_given limit_given symmetries_given (path_at (codes "board"))
      else if bytes_eq name (codes "report")
      then jobs.Report (number_at (codes "workers")) limit_given symmetries_given (path_at (codes "board"))
      else if bytes_eq name (codes "starts")
      then jobs.Starts (number_at (codes "workers")) limit_given symmetries_given (path_at (codes "board"))
      else if bytes_eq name (codes "chains")
      then jobs.Chains (number_at (codes "workers")) (number_at (codes "most")) (path_at (codes "board"))
      else if bytes_eq name (codes "play")
      then jobs.Play (unwrap_or side_given Labeller) limit_given symmetries_given (path_at (codes "board"))
      else jobs.Climb (number_at (codes "levels"))

  asked_is : (name : Text) (job : Job) → AsksFor name rows job → settled job ≡ asked name
  asked_is name jobs.Joined asks = absurd asks
  asked_is name (jobs.Check board proof) asks =
      let first : settled_path board ≡ path_at (codes "board") = path_is (codes "board") board asks.1 in
      let second : settled_path proof ≡ path_at (codes "proof") = path_is (codes "proof") proof asks.2 in
      rw (asks.0, first, second) refl
  asked_is name (jobs.Nested levels pebbles) asks =
      let first : levels ≡ number_at (codes "levels") = number_is (codes "levels") _ levels asks.1 in
      let second : pebbles ≡ number_at (codes "pebbles") = number_is (codes "pebbles") _ pebbles asks.2 in
      rw (asks.0, first, second) refl
  asked_is name (jobs.Solve workers side limit symmetries board) asks =
      rw (
        asks.0,
        number_is (codes "workers") _ workers asks.1,
        side_is side asks.2,
        limit_is limit asks.3,
        symmetries_are symmetries asks.4,
        path_is (codes "board") board asks.5,
      ) refl
  asked_is name (jobs.Report workers limit symmetries board) asks =
      rw (
        asks.0,
        number_is (codes "workers") _ workers asks.1,
        limit_is limit asks.2,
        symmetries_are symmetries asks.3,
        path_is (codes "board") board asks.4,
      ) refl
  asked_is name (jobs.Starts workers limit symmetries board) asks =
      rw (
        asks.0,
        number_is (codes "workers") _ workers asks.1,
        limit_is limit asks.2,
        symmetries_are symmetries asks.3,
        path_is (codes "board") board asks.4,
      ) refl
  asked_is name (jobs.Chains workers most board) asks =
      rw (
        asks.0,
        number_is (codes "workers") _ workers asks.1,
        number_is (codes "most") _ most asks.2,
        path_is (codes "board") board asks.3,
      ) refl
  asked_is name (jobs.Play side limit symmetries board) asks =
      let first : side ≡ unwrap_or side_given Labeller =
      ap (λ s. unwrap_or s Labeller) (side_is (Some side) asks.1) in
      rw (asks.0, first, limit_is limit asks.2, symmetries_are symmetries asks.3, path_is (codes "board") board asks.4)
      refl
  asked_is name (jobs.Climb levels) asks =
      rw (asks.0, number_is (codes "levels") _ levels asks.1) refl

  in_range : (name : Text) (job : Job) → AsksFor name rows job → IsInRange (settled job)
  in_range name jobs.Joined asks = absurd asks
  in_range name (jobs.Check board proof) asks = tt
  in_range name (jobs.Nested levels pebbles) asks = (asks.1.1, asks.1.2, asks.2.1, asks.2.2)
  in_range name (jobs.Solve workers side limit symmetries board) asks = (asks.1.1, asks.1.2)
  in_range name (jobs.Report workers limit symmetries board) asks = (asks.1.1, asks.1.2)
  in_range name (jobs.Starts workers limit symmetries board) asks = (asks.1.1, asks.1.2)
  in_range name (jobs.Chains workers most board) asks = (asks.1.1, asks.1.2, asks.2.1, asks.2.2)
  in_range name (jobs.Play side limit symmetries board) asks = tt
  in_range name (jobs.Climb levels) asks = (asks.1.1, asks.1.2)

-- ---- of all words

read_as_one : (found : Option (Text × List Row)) (job more : Job) → IsReadAs found job → IsReadAs found more
    → settled job ≡ settled more
read_as_one None job more read read_too = absurd read
read_as_one (Some found) job more read read_too =
    asked_is found.1 found.0 job read ∙ sym (asked_is found.1 found.0 more read_too)

pub one_job : (words : List Text) (job more : Job) → WordsAskFor words job → WordsAskFor words more
    → settled job ≡ settled more
one_job words job more (inl joined) (inl joined_too) = ap settled (joined.1 ∙ sym joined_too.1)
one_job words job more (inl joined) (inr read) = absurd (omega (arith, joined.0, read.0))
one_job words job more (inr read) (inl joined) = absurd (omega (arith, joined.0, read.0))
one_job words job more (inr read) (inr read_too) =
    read_as_one (subcommand_of program words) job more read.2 read_too.2

read_in_range : (found : Option (Text × List Row)) (job : Job) → IsReadAs found job → IsInRange (settled job)
read_in_range None job read = absurd read
read_in_range (Some found) job read = in_range found.1 found.0 job read

pub asked_in_range : (words : List Text) (job : Job) → WordsAskFor words job → IsInRange (settled job)
asked_in_range words job (inl joined) = rw joined.1 tt
asked_in_range words job (inr read) = read_in_range (subcommand_of program words) job read.2

typed_where_settled : (job : Job) → is_typed (settled job) ≡ is_typed job
typed_where_settled jobs.Joined = refl
typed_where_settled job = refl

-- the same words ask for jobs of which both read standard input, or none
pub typed_alike : (words : List Text) (job more : Job) → WordsAskFor words job → WordsAskFor words more
    → is_typed job ≡ is_typed more
typed_alike words job more asks asks_too =
    sym (typed_where_settled job) ∙ ap is_typed (one_job words job more asks asks_too) ∙ typed_where_settled more
