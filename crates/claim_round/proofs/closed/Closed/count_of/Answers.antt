use Rattle.std.proofs.Common.{◌<◌, length, sym, ap, ◌∙◌, arith, length-take, get_or-take}
use Rattle.std.specs.Prelude.{slice_index}
use Rattle.std.specs.Slots.{slots_items}
use Rattle.claim_round.specs.Shared.{Ended}
use Rattle.claim_round.proofs.Lookup.{read_at}
use Rattle.claim_round.proofs.closed.Closed.count_of.Goals as goal

pub overflow_cast-result : goal.overflow_cast-result
overflow_cast-result c =
    let shown = ap (λ (e : Ended). length e.counts) c.self.view_is in
    let l = length-take c.self.inside.gaps (slots_items c.self.inside.rows.words) in
    let inside : c.args.gap < c.self.inside.gaps = omega arith in
    let small = c.self.invariant.counts c.args.gap inside in
    let read = read_at (slots_items c.self.inside.rows.words) c.args.gap _ c.word.ensures in
    omega arith

pub returns : goal.returns
returns c =
    let shown = ap (λ (e : Ended). length e.counts) c.self.view_is in
    let l = length-take c.self.inside.gaps (slots_items c.self.inside.rows.words) in
    let inside : c.args.gap < c.self.inside.gaps = omega arith in
    sym (read_at (slots_items c.self.inside.rows.words) c.args.gap _ c.word.ensures)
    ∙ sym (get_or-take c.self.inside.gaps (slots_items c.self.inside.rows.words) c.args.gap 0 inside)
    ∙ ap (λ (e : Ended). slice_index e.counts c.args.gap) c.self.view_is
