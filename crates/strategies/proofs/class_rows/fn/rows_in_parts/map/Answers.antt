use Rattle.strategies.proofs.class_rows.fn.rows_in_parts.map.Goals as goal

pub rows_at-requires : goal.rows_at-requires
rows_at-requires g c = rw c.at_start-here.ensures.at
    (record { kind = c.requires.kind; numbers = c.requires.numbers })

pub returns : goal.returns
returns g c = rw c.at_start-here.ensures.at at c.rows_at.ensures
