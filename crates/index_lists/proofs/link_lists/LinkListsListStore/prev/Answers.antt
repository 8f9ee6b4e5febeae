use Rattle.std.proofs.Common.{◌∙◌, ap, sym}
use Rattle.index_lists.specs.Inside.Links.{unless_none}
use Rattle.index_lists.proofs.Fields.{field-read}
use Rattle.index_lists.proofs.LinkCalls.{lists-kept, prev-seen, prev-front, prev-none, prev-below, link-below}
use Rattle.index_lists.proofs.link_lists.LinkListsListStore.prev.Goals as goal

pub returns : goal.returns
returns c =
    let read = field-read (λ n. n.prev) _ _ _ _ _ (ap (λ s. s.links.prev) c.self-inside.view_is)
    (c.self.invariant.prev_length ∙ ap (λ w. w.nodes) c.self.view_is) c.requires c.index.ensures in
    let answer = c.some_unless.ensures
    ∙ ap (λ s. unless_none s.node_count c.index.result.now.prev) c.self-inside.view_is ∙ ap (unless_none _) read in
    record {
      before = λ l place stands. answer ∙ sym (prev-seen c.self.view_is c.self.invariant l place c.args.node stands);
      first = λ l stands. answer ∙ prev-front c.self.view_is c.self.invariant l c.args.node stands;
      free = λ free. answer ∙ prev-none c.self.view_is c.self.invariant c.args.node c.requires free;
      below = link-below c.self.view_is c.self.invariant _ _
          (prev-below c.self.view_is c.self.invariant c.args.node c.requires) answer;
      kept = lists-kept c.self.view_is c.self.invariant;
    }
