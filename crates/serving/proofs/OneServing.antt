-- Two servings of the same words, over known files and streams, give the same.
use Rattle.std.proofs.Common.{◌≡◌, ◌≢◌, ◌∙◌, ◌&&◌, ℕ, ◌<◌, ◌≤◌, ◌⊎◌, inl, inr, Bool, true, false, true≢false, List, []}
use Rattle.std.proofs.Common.{length, ap, arith, codes, refl, subst, sym}
use Rattle.std.specs.Prelude.{string_bytes, ◌||◌}
use Rattle.clap.specs.Kinds.{IsAmong, Kinds}
use Rattle.clap.specs.declared.error.kind.ErrorKind.{ErrorKind}
use Rattle.clap.specs.declared.error.kind.ErrorKind.TheVariants as kinds
use Rattle.clap.specs.Walk.{Text, texts}
use Rattle.clap.specs.Words.{fault_of}
use Rattle.board_text.specs.LineForms.{with_line_feed}
use Rattle.command_line.specs.Commands.{program}
use Rattle.command_line.specs.Explaining.{asks_to_explain, words_of_job}
use Rattle.command_line.specs.Reading.{AsksForHelp, AsksForVersion, IsHelp, IsWrongUse, ShowsWords, version_text}
use Rattle.command_line.specs.declared.asked.Job.{Job}
use Rattle.command_line.specs.declared.asked.JobFault.{JobFault}
use Rattle.command_line.specs.declared.asked.JobFault.TheVariants.{Help, Usage, Memory as NoMemory}
use Rattle.command_line.proofs.OneKind.{no_answer_and_misuse, no_help_and_version}
use Rattle.console.specs.declared.streams.Terminals.{Terminals}
use Rattle.serving.specs.Folders.{File}
use Rattle.serving.specs.Outcomes.{status_of}
use Rattle.serving.specs.Serving.{AnswersWords, ServesAnyWords, ServesWords, WordsAskFor, is_explained, lacks_input}
use Rattle.serving.specs.Servings.{AreKnown, AskForNoExplanation, BytesBefore, HaveOwnText}
use Rattle.runs.specs.declared.fault.RunFault.TheVariants.{Read}
use Rattle.serving.specs.declared.outcome.Outcome.{Outcome}
use Rattle.serving.specs.declared.outcome.Outcome.TheVariants.{Broken}
use Rattle.serving.specs.declared.serving.Words.{Words}
use Rattle.serving.specs.declared.serving.Words.TheVariants.{Given, NotText, OutOfMemory}
use Rattle.serving.specs.Consoles.{Serving}
use Rattle.serving.proofs.GivenEnds.{AreSame, Gives, IsJobDone, Leaves, ending, helped_is, job_done, lacked_is}
use Rattle.serving.proofs.GivenEnds.{leave_same, no_memory, refused_is}
use Rattle.serving.proofs.JobEnds.{JobEnds, one_job_end}
use Rattle.serving.proofs.OneJob.{asked_in_range, one_job, settled, typed_alike}

lack_alike : (terminals : Terminals) (words : List Text) (job more : Job) → WordsAskFor words job
    → WordsAskFor words more
    → lacks_input terminals job ≡ false → lacks_input terminals more ≡ true → ⊥
lack_alike terminals words job more asks asks_too has lacks =
    let alike = ap (λ t. terminals.input_closed && t) (typed_alike words job more asks asks_too) in
    true≢false (sym lacks ∙ sym alike ∙ has)

none_among : (kind : ErrorKind) (found : Kinds) → found ≡ [] → IsAmong kind found → ⊥
none_among kind found none has = subst (λ (k : Kinds). IsAmong kind k) none has

not_faultless : (words : List Text) (fault : JobFault) → fault ≢ NoMemory → fault_of program words ≡ []
    → ShowsWords words fault → ⊥
not_faultless words (Help text) not none (inl version) =
    none_among kinds.DisplayVersion (fault_of program words) none version.0
not_faultless words (Help text) not none (inr help) = none_among kinds.DisplayHelp
    (fault_of program words) none help.0.0
not_faultless words (Usage text) not none wrong = none_among wrong.0.0 (fault_of program words) none wrong.0.1
not_faultless words NoMemory not none shows = not refl

job_or_fault : (words : List Text) (job : Job) (fault : JobFault) → WordsAskFor words job → 1 < length words
    → ShowsWords words fault → fault ≢ NoMemory → ⊥
job_or_fault words job fault (inl joined) more shows not = absurd (omega (arith, joined.0, more))
job_or_fault words job fault (inr read) more shows not = not_faultless words fault not read.1 shows

-- this text is shown for words that ask for the version or for help
abbrev Shown : List Text → List ℕ → Type 0
Shown words text = (AsksForVersion words × (text ≡ version_text)) ⊎ (AsksForHelp words × IsHelp words text)

version_is : (words : List Text) (text : List ℕ) → AsksForVersion words → Shown words text → text ≡ version_text
version_is words text version (inl of_version) = of_version.1
version_is words text version (inr help) = absurd (no_help_and_version words help.0 version)

not_misuse : (words : List Text) (text : List ℕ) → Shown words text → IsWrongUse words → ⊥
not_misuse words text shown wrong =
    no_answer_and_misuse words (elim shown [ inl version ↦ inr version.0 | inr help ↦ inl help.0 ]) wrong

module _ (at : List ℕ → File) (known : AreKnown at) (terminals : Terminals) (off : terminals.errors ≡ false)
    (before : BytesBefore) (s t : Serving) (gives : Gives before s) (gives_too : Gives before t) where
  module _ (explains : Bool) where
    -- the words ask for jobs that are done; these are one
    both_jobs : (words : List Text) (job more : Job) (outcome next : Outcome)
        → IsJobDone at known terminals off before s gives explains words job outcome
        → IsJobDone at known terminals off before t gives_too explains words more next
        → (s.status ≡ t.status) × AreSame before explains s t
    both_jobs words job more outcome next is also =
        let same = one_job_end at before.input (settled more) (asked_in_range words more also.asks) outcome next is.text
        also.text (subst (λ j. JobEnds at before.input j outcome is.text) (one_job words job more is.asks also.asks)
        is.ends) also.ends in
        leave_same before explains s t (status_of next) is.text also.text (ending next) same.1
        (subst (λ o. Leaves before explains s (status_of o) is.text (ending o)) same.0 is.leaves) also.leaves

    both_faults : (words : List Text) (fault next : JobFault) → ShowsWords words fault → ShowsWords words next
        → fault ≢ NoMemory → next ≢ NoMemory
        → AnswersWords explains s fault
        → AnswersWords explains t next
        → (s.status ≡ t.status) × (AsksForVersion words → AreSame before explains s t)
    both_faults words NoMemory next shows shows_too not not_too is also = absurd (not refl)
    both_faults words (Help text) NoMemory shows shows_too not not_too is also = absurd (not_too refl)
    both_faults words (Usage text) NoMemory shows shows_too not not_too is also = absurd (not_too refl)
    both_faults words (Usage text) (Usage line) shows shows_too not not_too is also =
        let one = refused_is at known terminals off before s gives explains (string_bytes text) is in
        let two = refused_is at known terminals off before t gives_too explains (string_bytes line) also in
        (one.status_is ∙ sym two.status_is, λ version. absurd (no_answer_and_misuse words (inr version) shows))
    both_faults words (Usage text) (Help line) shows shows_too not not_too is also =
        absurd (not_misuse words (string_bytes line) shows_too shows)
    both_faults words (Help text) (Usage line) shows shows_too not not_too is also =
        absurd (not_misuse words (string_bytes text) shows shows_too)
    both_faults words (Help text) (Help line) shows shows_too not not_too is also =
        let one = helped_is at known terminals off before s gives explains (string_bytes text) is in
        let two = helped_is at known terminals off before t gives_too explains (string_bytes line) also in (
          one.status_is ∙ sym two.status_is,
          λ version. (leave_same before explains s t 0 (string_bytes text) (string_bytes line) []
              (version_is words (string_bytes text) version shows
              ∙ sym (version_is words (string_bytes line) version shows_too)) one two).1,
        )

    both_served : (words : List Text)
        → ServesWords at terminals explains s words
        → ServesWords at terminals explains t words
        → (s.status ≡ t.status)
        × ((length words ≤ 1) ⊎ (fault_of program words ≡ []) ⊎ AsksForVersion words → AreSame before explains s t)
    both_served words (inl (job, asks, inl (has, outcome, told, done, tells, ends)))
        (inl (more, asks_too, inl (has_too, next, told_too, done_too, tells_too, ends_too))) =
        let both = both_jobs words job more outcome next
        (job_done at known terminals off before s gives explains words job told outcome asks done tells ends)
        (job_done at known terminals off before t gives_too explains words more told_too next asks_too done_too
        tells_too ends_too) in
        (both.0, λ own. both.1)
    both_served words (inl (job, asks, inr (lacks, kept, kept_too, ends)))
        (inl (more, asks_too, inr (lacks_too, held, held_too, ends_too))) =
        let both = leave_same before explains s t (status_of (Broken Read)) [] [] (ending (Broken Read)) refl
        (lacked_is at known terminals off before s gives explains kept_too ends)
        (lacked_is at known terminals off before t gives_too explains held_too ends_too) in
        (both.0, λ own. both.1)
    both_served words (inl (job, asks, inl is)) (inl (more, asks_too, inr also)) =
        absurd (lack_alike terminals words job more asks asks_too is.0 also.0)
    both_served words (inl (job, asks, inr is)) (inl (more, asks_too, inl also)) =
        absurd (lack_alike terminals words more job asks_too asks also.0 is.0)
    both_served words (inl (job, asks, is)) (inr (fault, more, shows, takes, answers)) =
        absurd (job_or_fault words job fault asks more shows
        (no_memory at known terminals off before t gives_too explains fault answers))
    both_served words (inr (fault, more, shows, takes, answers)) (inl (job, asks, is)) =
        absurd (job_or_fault words job fault asks more shows
        (no_memory at known terminals off before s gives explains fault answers))
    both_served words (inr (fault, more, shows, takes, answers))
        (inr (next, more_too, shows_too, takes_too, answers_too)) =
        let not = no_memory at known terminals off before s gives explains fault answers in
        let both = both_faults words fault next shows shows_too not
        (no_memory at known terminals off before t gives_too explains next answers_too) answers answers_too in (
          both.0,
          λ own. elim own [
            | inl few ↦ absurd (omega (arith, few, more))
            | inr (inl none) ↦ absurd (not_faultless words fault not none shows)
            | inr (inr version) ↦ both.1 version
          ],
        )

  pub both_given : (words : Words) → ServesAnyWords at terminals s words
      → ServesAnyWords at terminals t words
      → (s.status ≡ t.status) × (HaveOwnText words → (s.output.bytes.new ≡ t.output.bytes.new)
      × (AskForNoExplanation words → s.errors.bytes.new ≡ t.errors.bytes.new))
  both_given (Given words) is also =
      let both = both_served (is_explained terminals (texts words.now)) (words_of_job (texts words.now)) is also in (
        both.0,
        λ own. (
          (both.1 own).0,
          λ none. (both.1 own).1 (ap (λ (b : Bool). b || asks_to_explain (texts words.now)) off ∙ none),
        ),
      )
  both_given OutOfMemory is also =
      absurd (no_memory at known terminals off before s gives terminals.errors NoMemory is refl)
  both_given NotText is also =
      let text = with_line_feed (codes "error: a word on the command line is not text") in
      let both = leave_same before terminals.errors s t 2 [] [] text refl
      (refused_is at known terminals off before s gives terminals.errors text is)
      (refused_is at known terminals off before t gives_too terminals.errors text also) in
      (both.0, λ own. (both.1.0, λ none. both.1.1 off))
