-- The reasons why a run fails after it has read its text.
use Rattle.std.proofs.Common.{◌≡◌, ℕ, List, inl, inr, refl}
use Rattle.std.specs.Prelude.{Result, Ok, Err, IfErr, OnErr}
use Rattle.board_text.specs.Streams.{AppendsPrefix}
use Rattle.runs.specs.Run.{Bytes, Gave, Fails}
use Rattle.runs.specs.declared.fault.RunFault.{RunFault}
use Rattle.runs.specs.declared.fault.RunFault.TheVariants.{Write}

module _ {Answer : Type 0} (Says : List ℕ → Answer → List ℕ → Type 0) (SaysNothing : List ℕ → RunFault → Type 0)
    (limit : ℕ) (read written : Bytes) (text : List ℕ) (gave : Gave limit read text) where
  pub nothing_to_write : (fault : RunFault) → SaysNothing text fault → Fails Says SaysNothing limit read written fault
  nothing_to_write fault says = inr (inl (text, gave, says))

  pub cut_short : (answer : Answer) (said : List ℕ) → Says text answer said → AppendsPrefix written said
      → Fails Says SaysNothing limit read written Write
  cut_short answer said says front = inr (inr (text, answer, gave, (said, says, front), refl))

  -- the same of a run that ends with the write
  pub cut_short_last : (r : Result (Unit {0}) RunFault) (answer : Answer) (said : List ℕ) → Says text answer said
      → OnErr r (AppendsPrefix written said) → IfErr r (λ f. f ≡ Write)
      → IfErr r (Fails Says SaysNothing limit read written)
  cut_short_last (Ok done) answer said says front told = tt
  cut_short_last (Err fault) answer said says front told = rw told (cut_short answer said says front)
