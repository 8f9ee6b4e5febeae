use Rattle.std.proofs.lemmas.List.{get_or_read}
use Rattle.std.proofs.Common.{arith, ◌≡◌, ◌<◌, ◌↔◌, ◌==◌, ◌∙◌, ℕ, List, IsTrue, ap, slice_index, sym, subst}
use Rattle.board_text.specs.PlainBoard.{PlainBoard, IsConfiguration, places}
use Rattle.positions.specs.Gaps.{gaps, member_of}
use Rattle.positions.specs.Ranks.{configurations, rank_of}
use Rattle.positions.specs.Value.{HasValue}
use Rattle.positions.specs.declared.value.Value.TheVariants.{Forever}
use Rattle.positions.proofs.Cited.{member_is}
use Rattle.gap_values.specs.declared.closing.TheConstants.{OPEN}
use Rattle.solver.proofs.RankValues.{held-forever, rank-inside, told}
use Rattle.solver.proofs.values.Values.lasts_forever.Goals as goal
use Rattle.solver.proofs.values.Values.lasts_forever.Goals.{After-member}

own : (c : After-member) → c.space.result.now ≡ c.self.inside.numbers
own c = c.space.ensures.value ∙ sym c.self.view_is

low : (c : After-member) → c.member.result < configurations c.self.inside.numbers
low c = subst (λ (b : PlainBoard). c.member.result < configurations b) (own c) c.member.ensures.below

pub member-requires-clause-gap : goal.member-requires-clause-gap
member-requires-clause-gap c =
    subst (λ (b : PlainBoard). c.args.gap < gaps b) (sym c.space.ensures.value) c.requires.gap

pub member-requires-clause-place : goal.member-requires-clause-place
member-requires-clause-place c =
    subst (λ (b : PlainBoard). c.args.place < places b) (sym c.space.ensures.value) c.requires.place

pub index-requires : goal.index-requires
index-requires c =
    let at = (goal.at.index-requires c).After-member in
    omega (arith, rank-inside _ _ _ _ c.self.invariant c.member.result (low at), c.self.inside.words.ok.0)

pub returns : goal.returns
returns c =
    let at = (goal.at.returns c).After-member in
    let board : PlainBoard = c.self.inside.numbers in
    let held : List ℕ = member_of board c.args.gap c.args.place in
    let gap : c.args.gap < gaps board = rw (← c.self.view_is) at c.requires.gap in
    let place : c.args.place < places board = rw (← c.self.view_is) at c.requires.place in
    let is : IsConfiguration board held = member_is board c.args.gap c.args.place gap place in
    let rank : c.member.result ≡ rank_of board held =
    c.member.ensures.rank ∙ ap (λ (b : PlainBoard). rank_of b (member_of b c.args.gap c.args.place)) (own at) in
    let words : List ℕ = c.self.inside.words.items in
    let word : c.index.result.now ≡ slice_index words (rank_of board held) =
    get_or_read words c.member.result c.index.result.now
    (rank-inside _ _ _ _ c.self.invariant c.member.result (low at)) c.index.ensures 0
    ∙ ap (slice_index words) rank in
    subst (λ (b : PlainBoard). IsTrue (c.index.result.now == OPEN)
    ↔ HasValue b (member_of b c.args.gap c.args.place) Forever) c.self.view_is
    (told c.index.result.now (slice_index words (rank_of board held)) _ word
    (held-forever _ _ _ _ c.self.invariant held is))
