-- Runs: the bytes read, the answer, and the bytes written.
use Rattle.std.specs.Prelude.{◌≡◌, ◌≢◌, ◌↔◌, ℕ, ◌<◌, ◌≤◌, ◌⊎◌, Bool, true, List, Option, Result}
use Rattle.std.specs.Prelude.{Err, IfErr, length}
use Rattle.board_text.specs.Streams.{AppendsAll, AppendsPrefix, GaveAll, GaveNext}
pub use Rattle.board_text.specs.Streams.{Bytes, bytes_of}
use Rattle.runs.specs.declared.fault.RunFault.{RunFault}
use Rattle.runs.specs.declared.fault.RunFault.TheVariants.{Memory, Read, Write, Limit}

-- a stream before a run and after it: its bytes, that it is as it was, that it has failed
pub record Stream : Type 1 where
  pub bytes : Bytes
  pub IsKept : Type 0
  pub HasFailed : Type 0

-- a stream, by its bytes and its failure before and after
abbrev pub stream_of : {S : Type 0} → (S → Option (List ℕ)) → (S → Bool) → S → S → Stream
stream_of known has_failed before after =
    record {
      bytes = bytes_of known before after;
      IsKept = after ≡ before;
      HasFailed = has_failed after ≡ true;
    }

-- reading has failed exactly if the fault is `Read`, and the writer exactly if it is `Write`
pub record TellsFailures {Answer : Type 0}
    (result : Result Answer RunFault) (ReadingFailed : Type 0) (output : Stream) : Type 0 where
  pub read : ReadingFailed ↔ (result ≡ Err Read)
  pub write : output.HasFailed ↔ (result ≡ Err Write)

-- the result tells the failures, and nothing was written before any fault but `Write`
pub record TellsStreams {Answer : Type 0}
    (result : Result Answer RunFault) (ReadingFailed : Type 0) (output : Stream) : Type 0 where
  pub failures : TellsFailures result ReadingFailed output
  pub unwritten : IfErr result (λ fault. fault ≢ Write → output.IsKept)

-- the reader gave this text, which is all that it had left, and no longer than the limit
abbrev pub Gave : ℕ → Bytes → List ℕ → Type 0
Gave limit read text = GaveAll read text × (length text ≤ limit)

-- the bytes consumed by a read that failed; out of memory may also come after the last of them
abbrev pub IsUnread : ℕ → Bytes → RunFault → Type 0
IsUnread limit read Memory = (bytes : List ℕ) × GaveNext read bytes
IsUnread limit read Read = (bytes : List ℕ) × (length bytes ≤ limit) × GaveNext read bytes
IsUnread limit read Limit = (bytes : List ℕ) × (limit < length bytes) × GaveNext read bytes
IsUnread limit read fault = ⊥

-- such a text was written
abbrev pub Wrote : (List ℕ → Type 0) → Bytes → Type 0
Wrote IsIt written = (text : List ℕ) × IsIt text × AppendsAll written text

-- a prefix of such a text was written
abbrev pub WrotePrefix : (List ℕ → Type 0) → Bytes → Type 0
WrotePrefix IsIt written = (text : List ℕ) × IsIt text × AppendsPrefix written text

-- ---- a run over one reader, whose text decides the answer and the bytes written

module _ {Answer : Type 0} (Says : List ℕ → Answer → List ℕ → Type 0) where
  -- all was read, and the bytes that the text asks for, with this answer, were written
  abbrev pub Ran : ℕ → Bytes → Bytes → Answer → Type 0
  Ran limit read written answer =
      (text : List ℕ) × Gave limit read text × Wrote (Says text answer) written

  -- the faults of a run: not all was read; or all was, and the text has this fault; or the writer
  -- failed, and a prefix of the bytes was written
  abbrev pub Fails : (List ℕ → RunFault → Type 0) → ℕ → Bytes → Bytes → RunFault → Type 0
  Fails SaysNothing limit read written fault =
      IsUnread limit read fault
      ⊎ ((text : List ℕ) × Gave limit read text × SaysNothing text fault)
      ⊎ ((text : List ℕ) × (answer : Answer) × Gave limit read text
      × WrotePrefix (Says text answer) written × (fault ≡ Write))
