use Rattle.std.proofs.Common.{take, ◌++◌, sym, ap, ◌∙◌, rules}
use Rattle.std.proofs.lemmas.List.{take_rest}
use Rattle.board_text.proofs.StreamMoves.{Appends-trans, Appends-kept, moved_on, front_taken, front_more}
use Rattle.board_text.proofs.read_write.write_all.Goals as goal

pub returns-in-Ok-eq0-clause-front : goal.returns-in-Ok-eq0-clause-front
returns-in-Ok-eq0-clause-front g c =
    let i = c.loop-rest.invariant in
    front_more _ _ _ _ i.front c.loop-rest.rest.now c.in-Ok-eq0.field-0 i.all i.taken c.in-Ok-eq0.ensures.bytes

pub loop-rest-preserved : goal.loop-rest-preserved
loop-rest-preserved g c =
    let i = c.loop-rest.invariant in
    let rest = c.loop-rest.rest.now in
    let n = c.in-Ok.count in
    record {
      front = i.front ++ take n rest;
      all = moved_on _ i.front rest n i.all ∙ ap (λ l. (i.front ++ take n rest) ++ l) (sym (take_rest rest n));
      taken = Appends-trans _ _ _ _ _ i.taken c.in-Ok.ensures.bytes;
      unfailed = search rules;
    }

pub returns-in-Err-clause-front : goal.returns-in-Err-clause-front
returns-in-Err-clause-front g c =
    let i = c.loop-rest.invariant in
    front_taken _ _ _ i.front c.loop-rest.rest.now i.all (Appends-kept _ _ _ _ i.taken c.in-Err.ensures.bytes)
