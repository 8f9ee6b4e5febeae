use Rattle.std.proofs.Common.{◌∙◌, ap, sym}
use Rattle.index_lists.specs.Inside.Links.{unless_none}
use Rattle.index_lists.proofs.Fields.{field-read}
use Rattle.index_lists.proofs.LinkCalls.{lists-kept, next-seen, next-none, next-below, link-below}
use Rattle.index_lists.proofs.link_lists.LinkListsListStore.next.Goals as goal

pub returns : goal.returns
returns c =
    let read = field-read (λ n. n.next) _ _ _ _ _ (ap (λ s. s.links.next) c.self-inside.view_is)
    (c.self.invariant.next_length ∙ ap (λ w. w.nodes) c.self.view_is) c.requires c.index.ensures in
    let answer = c.some_unless.ensures
    ∙ ap (λ s. unless_none s.node_count c.index.result.now.next) c.self-inside.view_is ∙ ap (unless_none _) read in
    record {
      behind = λ l place stands. answer ∙ sym (next-seen c.self.view_is c.self.invariant l place c.args.node stands);
      free = λ free. answer ∙ next-none c.self.view_is c.self.invariant c.args.node c.requires free;
      below = link-below c.self.view_is c.self.invariant _ _
          (next-below c.self.view_is c.self.invariant c.args.node c.requires) answer;
      kept = lists-kept c.self.view_is c.self.invariant;
    }
