use Rattle.std.proofs.Common.{◌≡◌, ap, ◌∙◌, arith, refl, slice_index}
use Rattle.index_lists.proofs.Fields.{field-read}
use Rattle.index_lists.proofs.LinkCalls.{lists-kept, last-in, push-room, push-written, push-links, push-same}
use Rattle.index_lists.proofs.link_lists.LinkListsListStore.push_back.Goals as goal
use Rattle.index_lists.proofs.link_lists.LinkListsListStore.push_back.Goals.{After-index}

-- the node that was read is the last of the list
last-is : (c : After-index) → c.index.result.now.last ≡ slice_index c.self.inside.links.last c.args.to
last-is c = field-read (λ e. e.last) _ _ _ _ _ (ap (λ s. s.links.last) c.self-inside.view_is)
    (c.self.invariant.last_length ∙ ap (λ w. w.lists) c.self.view_is) c.requires.to_in c.index.ensures

pub point_next-requires-clause-node_in : goal.point_next-requires-clause-node_in
point_next-requires-clause-node_in c =
    let last = last-is (goal.at.point_next-requires-clause-node_in c).After-index in
    rw (last, c.self.invariant.next_length) (last-in c.self.view_is c.self.invariant c.args.to c.requires.to_in)

pub append-requires-clause-room : goal.append-requires-clause-room
append-requires-clause-room c =
    let same = ap (λ s. slice_index s.len c.args.to) c.put.ensures
    ∙ ap (λ s. slice_index s.len c.args.to) c.point_next.ensures in
    let few = push-room c.self.view_is c.self.invariant c.args.to c.args.node c.requires.to_in c.requires.node_in
    c.requires.free in
    let r = c.self.ranges in
    omega (arith, same, few, r)

pub invariant_of-self : goal.invariant_of-self
invariant_of-self c =
    let last = last-is (goal.at.invariant_of-self c).After-index in
    rw (push-written _ _ _ last c.point_next.ensures c.put.ensures c.append.ensures)
    (push-links c.self.view_is c.self.invariant c.args.to c.args.node c.requires.to_in c.requires.node_in
    c.requires.free)

pub returns : goal.returns
returns c =
    let last = last-is (goal.at.returns c).After-index in
    rw (push-written _ _ _ last c.point_next.ensures c.put.ensures c.append.ensures) (record {
      pushed = push-same c.self.view_is c.self.invariant c.args.to c.args.node c.requires.to_in c.requires.node_in
          c.requires.free;
      kept = lists-kept refl (push-links c.self.view_is c.self.invariant c.args.to c.args.node c.requires.to_in
          c.requires.node_in c.requires.free);
    })
