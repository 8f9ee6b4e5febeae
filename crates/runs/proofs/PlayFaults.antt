-- The faults of a play as faults of a run.
use Rattle.std.proofs.Common.{◌≡◌, ◌↔◌, true, Bool, refl, sym, ap, ◌∙◌}
use Rattle.std.specs.Prelude.{Result, Ok, Err}
use Rattle.player.specs.declared.end.PlayEnd.{PlayEnd}
use Rattle.player.specs.Play.{TellsBothStreams}
use Rattle.player.specs.declared.end.PlayFault.{PlayFault}
use Rattle.player.specs.declared.end.PlayFault.TheVariants as play_faults
use Rattle.runs.specs.Faults.{fault_of_play}
use Rattle.runs.specs.declared.fault.RunFault.{RunFault}
use Rattle.runs.specs.declared.fault.RunFault.TheVariants.{Read, Write}

same_fault : (e f : PlayFault) → ◌≡◌ {A = Result PlayEnd PlayFault} (Err e) (Err f) → e ≡ f
same_fault e f same = cc

pub same_run_fault : (e f : RunFault) → ◌≡◌ {A = Result PlayEnd RunFault} (Err e) (Err f) → e ≡ f
same_run_fault e f same = cc

read-fault : (e : PlayFault) → fault_of_play e ≡ Read → e ≡ play_faults.Read
read-fault play_faults.Read same = refl
read-fault play_faults.Write same = cc
read-fault play_faults.Memory same = cc
read-fault play_faults.Limit same = cc

write-fault : (e : PlayFault) → fault_of_play e ≡ Write → e ≡ play_faults.Write
write-fault play_faults.Read same = cc
write-fault play_faults.Write same = refl
write-fault play_faults.Memory same = cc
write-fault play_faults.Limit same = cc

-- a play that broke off tells its streams by the fault of the run
module _ (lines writer : Bool) (result : Result PlayEnd PlayFault) (told : TellsBothStreams result lines writer)
    (e : PlayFault) (is : result ≡ Err e) where
  pub lines-told : (lines ≡ true) ↔ (fault_of_play e ≡ Read)
  lines-told = (
    λ failed. ap fault_of_play (same_fault e play_faults.Read (sym is ∙ told.read.0 failed)),
    λ same. told.read.1 (is ∙ ap Err (read-fault e same)),
  )

  pub writer-told : (writer ≡ true) ↔ (fault_of_play e ≡ Write)
  writer-told = (
    λ failed. ap fault_of_play (same_fault e play_faults.Write (sym is ∙ told.write.0 failed)),
    λ same. told.write.1 (is ∙ ap Err (write-fault e same)),
  )

pub ok_or_err : {X Y : Type 0} (x : X) (y : Y) (result : Result X Y) → result ≡ Ok x → result ≡ Err y → ⊥
ok_or_err x y result ok err = cc
