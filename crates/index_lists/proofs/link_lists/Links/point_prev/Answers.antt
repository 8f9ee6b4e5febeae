use Rattle.std.proofs.Common.{◌≡◌, ◌≢◌, length, map, refl, sym, ap, arith, ◌∙◌}
use Rattle.std.proofs.lemmas.List.{map-set, length-map, set_past}
use Rattle.std.proofs.Math.Seq.{map-set_same}
use Rattle.index_lists.proofs.Times.{cond_same, cond_other}
use Rattle.index_lists.proofs.Fields.{links-same}
use Rattle.index_lists.proofs.link_lists.Links.point_prev.Goals as goal

pub returns-then-node-len : goal.returns-then-node-len
returns-then-node-len c =
    let column = map (λ n. n.prev) c.self.inside.nodes.items in
    let none : c.args.node ≡ length column =
    omega (arith, c.if-node-len.true, c.len.ensures, length-map c.self.inside.nodes.items (λ n. n.prev)) in
    let first_same = map-set_same _ _ _ _ c.index_mut.result.now (ap (λ n. n.first) c.index_mut.ensures.value) in
    let len_same = map-set_same _ _ _ _ c.index_mut.result.now (ap (λ n. n.len) c.index_mut.ensures.value) in
    rw (← c.self.view_is) (links-same refl (sym (set_past column c.args.node c.args.to (omega arith))) refl first_same
    (map-set _ _ _ _ ∙ sym (cond_same _ _ _ _ none)) len_same)

pub returns-else-node-len : goal.returns-else-node-len
returns-else-node-len c =
    let some : c.args.node ≢ length (map (λ n. n.prev) c.self.inside.nodes.items) =
    λ none. omega (
      arith,
      none,
      c.if-node-len.false,
      c.len.ensures,
      length-map c.self.inside.nodes.items (λ n. n.prev),
    ) in
    let element = c.index_mut-else-node-len.result.now in
    let next_same = map-set_same _ _ _ _ element (ap (λ n. n.next) c.index_mut-else-node-len.ensures.value) in
    let home_same = map-set_same _ _ _ _ element (ap (λ n. n.home) c.index_mut-else-node-len.ensures.value) in
    rw (← c.self.view_is) (links-same next_same (map-set _ _ _ _) home_same refl (sym (cond_other _ _ _ _ some)) refl)
