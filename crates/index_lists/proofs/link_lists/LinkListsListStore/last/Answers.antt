use Rattle.std.proofs.Common.{◌∙◌, ap, sym}
use Rattle.index_lists.specs.Inside.Links.{unless_none}
use Rattle.index_lists.proofs.Fields.{field-read}
use Rattle.index_lists.proofs.LinkCalls.{lists-kept, last-seen, last-in, link-below}
use Rattle.index_lists.proofs.link_lists.LinkListsListStore.last.Goals as goal

pub returns : goal.returns
returns c =
    let read = field-read (λ e. e.last) _ _ _ _ _ (ap (λ s. s.links.last) c.self-inside.view_is)
    (c.self.invariant.last_length ∙ ap (λ w. w.lists) c.self.view_is) c.requires c.index.ensures in
    let answer = c.some_unless.ensures
    ∙ ap (λ s. unless_none s.node_count c.index.result.now.last) c.self-inside.view_is ∙ ap (unless_none _) read in
    record {
      last = answer ∙ sym (last-seen c.self.view_is c.self.invariant c.args.of c.requires);
      below = link-below c.self.view_is c.self.invariant _ _
          (last-in c.self.view_is c.self.invariant c.args.of c.requires) answer;
      kept = lists-kept c.self.view_is c.self.invariant;
    }
