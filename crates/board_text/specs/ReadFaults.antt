-- The reasons why a source is not read to its end.
use Rattle.std.specs.Prelude.{◌≡◌, ℕ, Bool, true, false, ◌<◌, ◌≤◌, List, length}
use Rattle.board_text.specs.Streams.{Bytes, GaveNext}
use Rattle.board_text.specs.declared.read_write.ReadFault.{ReadFault}
use Rattle.board_text.specs.declared.read_write.ReadFault.TheVariants.{Memory, Read, Limit}

-- the reason why `read_all` gave up, with the bytes that it took from the source
abbrev pub ReadAllFails : Bytes → Bool → ℕ → ReadFault → Type 0
ReadAllFails left has_failed limit Memory =
    (has_failed ≡ false) × ((bs : List ℕ) × GaveNext left bs)
ReadAllFails left has_failed limit Read =
    (has_failed ≡ true) × ((bs : List ℕ) × (length bs ≤ limit) × GaveNext left bs)
ReadAllFails left has_failed limit Limit =
    (has_failed ≡ false) × ((bs : List ℕ) × (limit < length bs) × GaveNext left bs)
