use Rattle.pebbles.proofs.serve_owned.Goals as goal

pub returns : goal.returns
returns g c = (
  c.borrowed-words.result,
  c.borrowed-words.ensures,
  rw c.from.ensures c.serve-status.ensures,
)
