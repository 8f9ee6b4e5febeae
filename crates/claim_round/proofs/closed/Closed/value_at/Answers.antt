use Rattle.std.proofs.Common.{◌≡◌, ◌+◌, length, drop, get_or, sym, ap, ◌∙◌, arith, length-drop, None}
use Rattle.std.proofs.lemmas.List.{length-map}
use Rattle.std.specs.Slots.{slots_items, slots_len, slots_counts}
use Rattle.claim_round.specs.Shared.{Ended}
use Rattle.solver.specs.Words.{value_of_word}
use Rattle.claim_round.proofs.Lookup.{read_at, value_read}
use Rattle.claim_round.proofs.closed.Closed.value_at.Goals as goal

pub overflow_cast-word : goal.overflow_cast-word
overflow_cast-word c =
    let shown = ap (λ (e : Ended). length e.values) c.self.view_is in
    let m = length-map (drop c.self.inside.gaps (slots_items c.self.inside.rows.words)) value_of_word in
    let l = length-drop c.self.inside.gaps (slots_items c.self.inside.rows.words) in
    let long : slots_len c.self.inside.rows.words ≡ length (slots_items c.self.inside.rows.words) =
    (slots_counts c.self.inside.rows.words).0 in
    let word = read_at (slots_items c.self.inside.rows.words) (c.self.inside.gaps + c.args.rank) _ c.word.ensures in
    let small = c.self.invariant.values (c.self.inside.gaps + c.args.rank) (omega arith) (omega arith) in
    omega arith

pub returns : goal.returns
returns c =
    let shown = ap (λ (e : Ended). length e.values) c.self.view_is in
    c.value_of.ensures
    ∙ sym (value_read (slots_items c.self.inside.rows.words) c.self.inside.gaps c.args.rank c.word.result
    (omega arith) c.word.ensures)
    ∙ ap (λ (e : Ended). get_or e.values c.args.rank None) c.self.view_is
