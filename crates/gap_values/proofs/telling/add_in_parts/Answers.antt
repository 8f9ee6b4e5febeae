use Rattle.std.proofs.Common.{[]}
use Rattle.gap_values.proofs.TableSteps.{parts-added}
use Rattle.gap_values.proofs.telling.add_in_parts.Goals as goal

pub returns : goal.returns
returns g c =
    parts-added c.args.tables _ c.args.told.now c.args.sets.now
    c.par_chunks_mut_for_each.new.s c.par_chunks_mut_for_each.auto.s (λ index inside.
    let at = (c.par_chunks_mut_for_each.ensures.by_index index [] inside).1 in record {
      first = at.start;
      offset = at.offset;
      before = at.argument.now;
      after = at.after_call.now;
      place = at.start_plus_offset;
      inside = at.offset_in_chunk;
      was = at.old_element;
      is = at.new_element;
      added = at.call;
    })
