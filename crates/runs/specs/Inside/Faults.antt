-- Clauses of this crate's own functions, beside `Faults`.
use Rattle.std.specs.Prelude.{◌≡◌, ◌≢◌, ◌⊎◌}
use Rattle.board_text.specs.declared.fault.BoardFault.{BoardFault}
use Rattle.board_text.specs.declared.fault.BoardKind.TheVariants as board_kinds
use Rattle.board_text.specs.declared.read_write.ReadFault.{ReadFault}
use Rattle.board_text.specs.declared.read_write.ReadFault.TheVariants as read_faults
use Rattle.chains.specs.declared.counting.ChainFault.{ChainFault}
use Rattle.chains.specs.declared.counting.ChainFault.TheVariants as chain_faults
use Rattle.orbits.specs.declared.fault.OrbitFault.{OrbitFault}
use Rattle.orbits.specs.declared.fault.OrbitFault.TheVariants as orbit_faults
use Rattle.proof_text.specs.declared.fault.ProofFault.{ProofFault}
use Rattle.proof_text.specs.declared.fault.ProofKind.TheVariants as proof_kinds
use Rattle.solver.specs.declared.fault.SolveFault.{SolveFault}
use Rattle.solver.specs.declared.fault.SolveFault.TheVariants as solve_faults
use Rattle.runs.specs.declared.fault.RunFault.{RunFault}
use Rattle.strategies.specs.declared.unmade.Unmade.{Unmade}
use Rattle.strategies.specs.declared.unmade.Unmade.TheVariants as unmade
use Rattle.runs.specs.declared.fault.RunFault.TheVariants.{Board, TooLarge, Proof, Memory, Worker}
use Rattle.runs.specs.declared.fault.RunFault.TheVariants.{DocumentTooLarge, TooManyChains, Read}
use Rattle.runs.specs.declared.fault.RunFault.TheVariants.{Limit, TooManyOrbits}

-- of a text that wasn't read to its end
abbrev pub fault_of_reading : ReadFault → RunFault
fault_of_reading read_faults.Memory = Memory
fault_of_reading read_faults.Read = Read
fault_of_reading read_faults.Limit = Limit

-- of a text that is no board's: out of memory, or the text's own fault
abbrev pub IsFaultOfBoard : BoardFault → RunFault → Type 0
IsFaultOfBoard fault told =
    ((fault.kind ≡ board_kinds.Memory) × (told ≡ Memory))
    ⊎ ((fault.kind ≢ board_kinds.Memory) × (told ≡ Board fault))

-- of a text that is no document's, in the same way
abbrev pub IsFaultOfProof : ProofFault → RunFault → Type 0
IsFaultOfProof fault told =
    ((fault.kind ≡ proof_kinds.Memory) × (told ≡ Memory))
    ⊎ ((fault.kind ≢ proof_kinds.Memory) × (told ≡ Proof fault))

-- of values that weren't found
abbrev pub fault_of_solving : SolveFault → RunFault
fault_of_solving solve_faults.TooLarge = TooLarge
fault_of_solving solve_faults.Memory = Memory
fault_of_solving solve_faults.Worker = Worker

-- of chains that weren't counted
abbrev pub fault_of_chains : ChainFault → RunFault
fault_of_chains chain_faults.TooMany = TooManyChains
fault_of_chains chain_faults.Memory = Memory

-- of orbits that weren't found
abbrev pub fault_of_orbits : OrbitFault → RunFault
fault_of_orbits orbit_faults.TooManyOrbits = TooManyOrbits
fault_of_orbits orbit_faults.Memory = Memory

-- of a document by classes that wasn't made
abbrev pub fault_of_making : Unmade → RunFault
fault_of_making unmade.Memory = Memory
fault_of_making unmade.TooLong = DocumentTooLarge
