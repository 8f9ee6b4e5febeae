use Rattle.std.proofs.Common.{◌∙◌, ap, sym}
use Rattle.index_lists.specs.Inside.Links.{unless_none}
use Rattle.index_lists.proofs.Fields.{field-read}
use Rattle.index_lists.proofs.Places.{read-below}
use Rattle.index_lists.proofs.LinkCalls.{first-seen, lists-kept}
use Rattle.index_lists.proofs.link_lists.LinkListsListStore.first.Goals as goal

pub returns : goal.returns
returns c =
    let read = field-read (λ e. e.first) _ _ _ _ _ (ap (λ s. s.links.first) c.self-inside.view_is)
    (c.self.invariant.first_length ∙ ap (λ w. w.lists) c.self.view_is) c.requires c.index.ensures in
    let answer = c.some_unless.ensures
    ∙ ap (λ s. unless_none s.node_count c.index.result.now.first) c.self-inside.view_is ∙ ap (unless_none _) read in
    let shows = answer ∙ sym (first-seen c.self.view_is c.self.invariant c.args.of c.requires) in
    record {
      first = shows;
      below = read-below _ c.args.of 0 _ (lists-kept c.self.view_is c.self.invariant) shows;
      kept = lists-kept c.self.view_is c.self.invariant;
    }
