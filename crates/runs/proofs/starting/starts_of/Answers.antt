use Rattle.runs.proofs.StartTexts.{whole_starts}
use Rattle.runs.proofs.starting.starts_of.Goals as goal

pub returns : goal.returns
returns c = record {
  values = c.args.values.now;
  are = c.requires;
  text_is = whole_starts c.args.board.now c.args.values.now _ _ _ _ _ _ c.new-text.ensures.bytes
      c.in_ok-push_str.ensures.bytes (rw (c.from.ensures, c.labels.ensures.value) at c.in_ok-write_size.ensures)
      (rw (c.from-2.ensures, c.pebbles.ensures.value) at c.in_ok-write_size-2.ensures)
      (rw (c.from-3.ensures, c.labels-2.ensures.value) at c.in_ok-write_starts.ensures)
      c.in_ok-push_str-2.ensures.bytes;
}
