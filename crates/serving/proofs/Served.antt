-- The words of a command line are served.
use Rattle.std.proofs.Common.{◌≡◌, ◌↔◌, ◌<◌, ◌≤◌, ◌⊎◌, ℕ, List, [], length, ap, sym, subst, ◌∙◌, inl, inr}
use Rattle.std.proofs.lemmas.Bool.{cases_lt}
use Rattle.std.proofs.lemmas.List.{length-map}
use Rattle.std.specs.Prelude.{Result, Ok, Err, IfErr, OnOk, OnErr}
use Rattle.std.specs.Borrow.{Bor}
use Rattle.clap.specs.Walk.{Text, texts}
use Rattle.clap.specs.Words.{fault_of, subcommand_of}
use Rattle.board_text.specs.Streams.{AppendsAll, AppendsPrefix}
use Rattle.command_line.specs.Commands.{program}
use Rattle.command_line.specs.Reading.{IsReadAs}
use Rattle.command_line.specs.declared.asked.Job.{Job}
use Rattle.command_line.specs.declared.asked.Job.TheVariants.{Joined}
use Rattle.command_line.specs.declared.asked.JobFault.{JobFault}
use Rattle.runs.specs.Run.{Stream}
use Rattle.serving.specs.Outcomes.{outcome_of_run}
use Rattle.serving.specs.Serving.{WordsAskFor, IsWritten}
use Rattle.serving.specs.declared.outcome.Outcome.{Outcome}
use Rattle.runs.specs.declared.fault.RunFault.{RunFault}
use Rattle.runs.specs.declared.fault.RunFault.TheVariants.{Write}
use Rattle.serving.specs.declared.outcome.Outcome.TheVariants.{Broken, Done}

-- after a write the text is written, or the stream has failed
pub written : (stream : Stream) (text : List ℕ) (r : Result (Unit {0}) RunFault)
    → OnOk r (AppendsAll stream.bytes text) → OnErr r (AppendsPrefix stream.bytes text) → IfErr r (λ f. f ≡ Write)
    → (stream.HasFailed ↔ (r ≡ Err Write)) → IsWritten stream text
written stream text (Ok done) appends front told failed =
    inl ((λ has. let bad : Ok done ≡ Err Write = failed.0 has in cc), appends)
written stream text (Err fault) appends front told failed = inr (failed.1 (ap (λ f. Err f) told), front)

-- after help is written the run is done, or the stream has failed
pub helped : (output : Stream) (r : Result (Unit {0}) RunFault) → IfErr r (λ f. f ≡ Write)
    → (output.HasFailed ↔ (r ≡ Err Write)) → (Ends : Outcome → Type 0) → Ends (outcome_of_run r)
    → ((output.HasFailed → ⊥) × Ends Done) ⊎ (output.HasFailed × Ends (Broken Write))
helped output (Ok done) told failed Ends ends =
    inl ((λ has. let bad : Ok done ≡ Err Write = failed.0 has in cc), ends)
helped output (Err fault) told failed Ends ends =
    inr (failed.1 (ap (λ f. Err f) told), subst (λ f. Ends (Broken f)) told ends)

-- the job that the words ask for
module _ (words : List (Bor Text)) (r : Result Job JobFault) (joined : (r ≡ Ok Joined) ↔ (length words ≤ 1)) where
  as_many : length (texts words) ≡ length words
  as_many = length-map words (λ (s : Bor Text). s.now)

  plainly : (j : Job) → r ≡ Ok j → j ≡ Joined → WordsAskFor (texts words) j
  plainly j is plain = inl (rw as_many (joined.0 (is ∙ ap (λ x. Ok x) plain)), plain)

  pub asked : (j : Job) → r ≡ Ok j → (j ≡ Joined) ⊎ IsReadAs (subcommand_of program (texts words)) j
      → (j ≡ Joined) ⊎ (fault_of program (texts words) ≡ []) → WordsAskFor (texts words) j
  asked j is (inl plain) faultless = plainly j is plain
  asked j is (inr read) (inl plain) = plainly j is plain
  asked j is (inr read) (inr none) =
      elim (cases_lt 1 (length words)) [
        | inl more ↦ inr (rw as_many more, none, read)
        | inr few ↦ (
            let same : Ok Joined ≡ Ok j = sym (joined.1 few) ∙ is in
            let plain : j ≡ Joined = cc in
            plainly j is plain
            )
      ]

  -- if the words ask for no job, there are more than the program's name
  pub more_words : (fault : JobFault) → r ≡ Err fault → 1 < length (texts words)
  more_words fault is =
      elim (cases_lt 1 (length words)) [
        | inl more ↦ rw as_many more
        | inr few ↦ (let bad : Ok Joined ≡ Err fault = sym (joined.1 few) ∙ is in cc)
      ]
