use Rattle.std.proofs.Common.{◌≡◌, ◌<◌, ◌≤◌, ap, ◌∙◌, refl, length, slice_index}
use Rattle.index_lists.proofs.Fields.{field-read}
use Rattle.index_lists.proofs.LinkCalls.{lists-kept, home-in, before-in, behind-in, some-left, unlink-written}
use Rattle.index_lists.proofs.LinkCalls.{unlink-links, unlink-same}
use Rattle.index_lists.proofs.link_lists.LinkListsListStore.unlink.Goals as goal
use Rattle.index_lists.proofs.link_lists.LinkListsListStore.unlink.Goals.{After-index}

-- the links that were read are those of the node, and in range
module _ (c : After-index) where
  next-is : c.index.result.now.next ≡ slice_index c.self.inside.links.next c.args.node
  next-is = field-read (λ n. n.next) _ _ _ _ _ (ap (λ s. s.links.next) c.self-inside.view_is)
      (c.self.invariant.next_length ∙ ap (λ w. w.nodes) c.self.view_is) c.requires.node_in c.index.ensures

  prev-is : c.index.result.now.prev ≡ slice_index c.self.inside.links.prev c.args.node
  prev-is = field-read (λ n. n.prev) _ _ _ _ _ (ap (λ s. s.links.prev) c.self-inside.view_is)
      (c.self.invariant.prev_length ∙ ap (λ w. w.nodes) c.self.view_is) c.requires.node_in c.index.ensures

  home-is : c.index.result.now.home ≡ slice_index c.self.inside.links.home c.args.node
  home-is = field-read (λ n. n.home) _ _ _ _ _ (ap (λ s. s.links.home) c.self-inside.view_is)
      (c.self.invariant.home_length ∙ ap (λ w. w.nodes) c.self.view_is) c.requires.node_in c.index.ensures

  home-below : c.index.result.now.home < c.self.inside.list_count
  home-below = rw home-is (home-in c.self.view_is c.self.invariant c.args.node c.requires.node_in c.requires.stands)

  prev-most : c.index.result.now.prev ≤ c.self.inside.node_count
  prev-most = rw prev-is (before-in c.self.view_is c.self.invariant c.args.node c.requires.node_in c.requires.stands)

  next-most : c.index.result.now.next ≤ c.self.inside.node_count
  next-most = rw next-is (behind-in c.self.view_is c.self.invariant c.args.node c.requires.node_in c.requires.stands)

pub point_next-requires-clause-node_in : goal.point_next-requires-clause-node_in
point_next-requires-clause-node_in c =
    rw c.self.invariant.next_length (prev-most (goal.at.point_next-requires-clause-node_in c).After-index)

pub point_next-requires-clause-list_in : goal.point_next-requires-clause-list_in
point_next-requires-clause-list_in c =
    rw c.self.invariant.first_length (home-below (goal.at.point_next-requires-clause-list_in c).After-index)

pub point_prev-requires-clause-node_in : goal.point_prev-requires-clause-node_in
point_prev-requires-clause-node_in c =
    rw (ap (λ s. length s.prev) c.point_next.ensures ∙ c.self.invariant.prev_length)
    (next-most (goal.at.point_prev-requires-clause-node_in c).After-index)

pub point_prev-requires-clause-list_in : goal.point_prev-requires-clause-list_in
point_prev-requires-clause-list_in c =
    rw (ap (λ s. length s.last) c.point_next.ensures ∙ c.self.invariant.last_length)
    (home-below (goal.at.point_prev-requires-clause-list_in c).After-index)

pub loosen-requires : goal.loosen-requires
loosen-requires c =
    rw (ap (λ s. length s.home) c.point_prev.ensures ∙ ap (λ s. length s.home) c.point_next.ensures
    ∙ c.self.invariant.home_length ∙ ap (λ w. w.nodes) c.self.view_is)
    c.requires.node_in

pub shorten-requires : goal.shorten-requires
shorten-requires c =
    let read = (goal.at.shorten-requires c).After-index in
    let same = ap (λ s. s.len) c.loosen.ensures ∙ ap (λ s. s.len) c.point_prev.ensures
    ∙ ap (λ s. s.len) c.point_next.ensures in
    record {
      list_in = rw (same, c.self.invariant.len_length) (home-below read);
      some = rw (same, home-is read)
          (some-left c.self.view_is c.self.invariant c.args.node c.requires.node_in c.requires.stands);
    }

pub invariant_of-self : goal.invariant_of-self
invariant_of-self c =
    let read = (goal.at.invariant_of-self c).After-index in
    rw (unlink-written _ _ _ _ (next-is read) (prev-is read)
    (home-is read) c.point_next.ensures c.point_prev.ensures c.loosen.ensures c.shorten.ensures)
    (unlink-links c.self.view_is c.self.invariant c.args.node c.requires.node_in c.requires.stands)

pub returns : goal.returns
returns c =
    let read = (goal.at.returns c).After-index in
    rw (unlink-written _ _ _ _ (next-is read) (prev-is read)
    (home-is read) c.point_next.ensures c.point_prev.ensures c.loosen.ensures c.shorten.ensures) (record {
      unlinked = unlink-same c.self.view_is c.self.invariant c.args.node c.requires.node_in c.requires.stands;
      kept = lists-kept refl
          (unlink-links c.self.view_is c.self.invariant c.args.node c.requires.node_in c.requires.stands);
    })
