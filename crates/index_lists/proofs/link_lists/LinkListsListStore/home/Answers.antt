use Rattle.std.proofs.Common.{ap, ◌∙◌}
use Rattle.index_lists.specs.Inside.Links.{unless_none}
use Rattle.index_lists.proofs.Fields.{field-read}
use Rattle.index_lists.proofs.LinkCalls.{lists-kept, home-seen}
use Rattle.index_lists.proofs.link_lists.LinkListsListStore.home.Goals as goal

pub returns : goal.returns
returns c =
    let read = field-read (λ n. n.home) _ _ _ _ _ (ap (λ s. s.links.home) c.self-inside.view_is)
    (c.self.invariant.home_length ∙ ap (λ w. w.nodes) c.self.view_is) c.requires c.index.ensures in
    let answer = c.some_unless.ensures
    ∙ ap (λ s. unless_none s.list_count c.index.result.now.home) c.self-inside.view_is ∙ ap (unless_none _) read in
    record {
      home = home-seen c.self.view_is c.self.invariant c.args.node c.requires _ answer;
      kept = lists-kept c.self.view_is c.self.invariant;
    }
