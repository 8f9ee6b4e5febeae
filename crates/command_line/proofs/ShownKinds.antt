-- The texts that are shown for the faults that `clap` finds.
use Rattle.std.proofs.Common.{◌≡◌, ◌∙◌, ◌⊎◌, List, [], ◌∷◌, true≢false, inl, inr, refl, subst, sym}
use Rattle.clap.specs.Faults.{fault_of}
use Rattle.clap.specs.Kinds.{IsAmong, Kinds}
use Rattle.clap.specs.Walk.{Text}
use Rattle.clap.specs.declared.error.kind.ErrorKind.{ErrorKind}
use Rattle.clap.specs.declared.error.kind.ErrorKind.TheVariants as kinds
use Rattle.command_line.specs.Commands.{program}
use Rattle.command_line.specs.Reading.{AsksForHelpBy, ShowsWords, ShowsKind}
use Rattle.command_line.specs.Inside.Reading.{ShowsHelp}
use Rattle.command_line.specs.declared.asked.JobFault.{JobFault}
use Rattle.command_line.specs.declared.asked.JobFault.TheVariants.{Help, Usage, Memory}
use Rattle.command_line.proofs.FaultsTaken.{help_found}

among : (found : Kinds) (a b : ErrorKind) → a ≡ b → IsAmong a found → IsAmong b found
among found a b same has = subst (λ (k : ErrorKind). IsAmong k found) same has

help_among : (found : Kinds) → found ≡ kinds.DisplayHelp ∷ kinds.InvalidSubcommand ∷ []
    → IsAmong kinds.DisplayHelp found × IsAmong kinds.InvalidSubcommand found
help_among found is =
    subst (λ (k : Kinds). IsAmong kinds.DisplayHelp k × IsAmong kinds.InvalidSubcommand k) (sym is)
    (inl refl, inr (inl refl))

pub shown : (words : List Text) (kind : ErrorKind) (fault : JobFault) → (kind ≡ kinds.OutOfMemory → fault ≡ Memory)
    → ShowsKind words kind fault → (kind ≡ kinds.OutOfMemory) ⊎ IsAmong kind (fault_of program words)
    → ShowsWords words fault
shown words kind (Help text) none shows (inl out) = let bad = none out in cc
shown words kind (Usage text) none shows (inl out) = let bad = none out in cc
shown words kind Memory none shows has = tt
shown words kind (Help text) none (inl version) (inr has) =
    inl (among (fault_of program words) _ _ version.0 has, version.1)
shown words kind (Help text) none (inr (is, inl asked)) (inr has) =
    inr (((help_among (fault_of program words) (help_found words asked.0)).0, λ asks. asked.1), is)
shown words kind (Help text) none (inr (is, inr found)) (inr has) =
    inr ((among (fault_of program words) _ _ found.1 has, λ asks. absurd (true≢false (sym asks ∙ found.0))), is)
shown words kind (Usage text) none (inl asked) (inr has) = (
  (kinds.InvalidSubcommand, (help_among (fault_of program words) (help_found words asked.0)).1, (λ e. cc), λ e. cc),
  λ asks. asked.1,
)
shown words kind (Usage text) none (inr found) (inr has) =
    ((kind, has, found.1, found.2), λ asks. absurd (true≢false (sym asks ∙ found.0)))

-- help is shown of an error that asks for it
pub helped : (words : List Text) (kind : ErrorKind) (fault : JobFault) → ShowsHelp words fault
    → AsksForHelpBy words kind → ShowsKind words kind fault
helped words kind (Help text) is by = inr (is, by)
helped words kind (Usage text) is by = absurd is
helped words kind Memory is by = tt
