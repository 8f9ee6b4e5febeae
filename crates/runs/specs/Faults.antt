-- The fault of a run, from the fault of a part of it.
use Rattle.player.specs.declared.end.PlayFault.{PlayFault}
use Rattle.player.specs.declared.end.PlayFault.TheVariants as play_faults
use Rattle.runs.specs.declared.fault.RunFault.{RunFault}
use Rattle.runs.specs.declared.fault.RunFault.TheVariants.{Memory, Read, Write, Limit}

-- of a play that was broken off
abbrev pub fault_of_play : PlayFault → RunFault
fault_of_play play_faults.Read = Read
fault_of_play play_faults.Write = Write
fault_of_play play_faults.Memory = Memory
fault_of_play play_faults.Limit = Limit
