use Rattle.std.proofs.Common.{◌≡◌, ◌∙◌, ◌<◌, ℕ, List, suc, length, get_or, ap, sym, subst, arith, rules}
use Rattle.std.specs.List.{remove}
use Rattle.std.proofs.lemmas.List.{get_or-replicate}
use Rattle.board_text.specs.PlainBoard.{PlainBoard, places}
use Rattle.classes.specs.Classes.{put, IsClass}
use Rattle.classes.specs.Numbers.{number_by_greatest}
use Rattle.graphs.specs.ClassGraph.{gap_class}
use Rattle.graphs.proofs.FilledFamilies.{held-class}
use Rattle.graphs.proofs.StuckParts.{own-zeroed, rest-inside, rests-more, rests-all}
use Rattle.graphs.proofs.by_classes.ByClasses.zero_family.Goals as goal
use Rattle.graphs.proofs.by_classes.ByClasses.zero_family.Goals.{After-gap_places-held, After-rests_of-rests}

pub returns-then-counts-gap-eq0 : goal.returns-then-counts-gap-eq0
returns-then-counts-gap-eq0 c =
    let filled = c.fill.ensures.after (λ y e. e) in
    own-zeroed c.args.self.now c.gap_places-held.ensures.is_board c.args.gap c.args.start c.requires.gap
    c.requires.start
    c.args.counts.now c.args.family.now c.requires.size c.fill.new.self c.if-counts-gap-eq0.true c.fill.ensures.len
    (λ v low. ap (λ l. get_or l v 0) filled ∙ get_or-replicate (length c.args.family.now) v 0 0 low)

held : (c : After-gap_places-held)
    → (suc (length c.gap_places-held.result.now) ≡ c.args.self.now.pebbles)
    × IsClass (places c.args.self.now) (length c.gap_places-held.result.now) c.gap_places-held.result.now
held c =
    held-class c.args.self.now c.gap_places-held.ensures.is_board c.args.gap c.gap_places-held.result.now
    c.requires.gap c.gap_places-held.ensures.value

pub rests_of-rests-requires-clause-size : goal.rests_of-rests-requires-clause-size
rests_of-rests-requires-clause-size c =
    let size = (held (goal.at.rests_of-rests-requires-clause-size c).After-gap_places-held).0 in
    omega (arith, size, ap (λ (b : PlainBoard). b.pebbles) c.numbers.ensures)

pub rests_of-rests-requires-clause-is_class : goal.rests_of-rests-requires-clause-is_class
rests_of-rests-requires-clause-is_class c =
    let gap : List ℕ = c.gap_places-held.result.now in
    subst (λ (b : PlainBoard). IsClass (places b) (length gap) gap) (sym c.numbers.ensures)
    (held (goal.at.rests_of-rests-requires-clause-is_class c).After-gap_places-held).1

pub rests_of-rests-requires-clause-start : goal.rests_of-rests-requires-clause-start
rests_of-rests-requires-clause-start c =
    c.requires.start ∙ ap (λ l. number_by_greatest (put 0 l)) (sym c.gap_places-held.ensures.value)

pub offset_bounds-rests-index : goal.offset_bounds-rests-index
offset_bounds-rests-index c =
    let size = (held (goal.at.offset_bounds-rests-index c).After-gap_places-held).0 in
    let few : c.loop-index.index < 6 =
    omega (arith, size, c.loop-index-test.true, c.gap_places-held.ensures.is_board.pebbles.1) in
    search (rules, few)

pub bounds-rests-index : goal.bounds-rests-index
bounds-rests-index c =
    let size = (held (goal.at.bounds-rests-index c).After-gap_places-held).0 in
    omega (arith, size, c.loop-index-test.true, c.gap_places-held.ensures.is_board.pebbles.1)

-- the rests are those of the gap
rests : (c : After-rests_of-rests) → (p : ℕ) → p < length (gap_class c.args.self.now c.args.gap)
    → get_or c.rests_of-rests.result p 0 ≡ number_by_greatest (put 0 (remove (gap_class c.args.self.now c.args.gap) p))
rests c =
    subst
    (λ (h : List ℕ). (p : ℕ) → p < length h → get_or c.rests_of-rests.result p 0
    ≡ number_by_greatest (put 0 (remove h p)))
    c.gap_places-held.ensures.value c.rests_of-rests.ensures

pub zero_where-requires : goal.zero_where-requires
zero_where-requires c =
    let at = (goal.at.zero_where-requires c).After-rests_of-rests in
    let h = gap_class c.args.self.now c.args.gap in
    let first : c.loop-index.index < length h =
    omega (arith, c.loop-index-test.true, ap length c.gap_places-held.ensures.value) in
    let within = rest-inside c.args.self.now c.gap_places-held.ensures.is_board c.args.gap c.args.start c.requires.gap
    c.requires.start c.args.counts.now c.args.family.now c.requires.size c.rests_of-rests.result (rests at)
    c.loop-index.index first in
    omega (arith, within, c.loop-index.invariant.same_length, c.requires.counts)

pub loop-index-preserved : goal.loop-index-preserved
loop-index-preserved c =
    let at = (goal.at.loop-index-preserved c).After-rests_of-rests in
    let h = gap_class c.args.self.now c.args.gap in
    let first : c.loop-index.index < length h =
    omega (arith, c.loop-index-test.true, ap length c.gap_places-held.ensures.value) in
    rests-more c.args.self.now c.gap_places-held.ensures.is_board c.args.gap c.args.start c.requires.gap
    c.requires.start
    c.args.counts.now c.args.family.now c.requires.size c.rests_of-rests.result (rests at) c.loop-index.family
    c.zero_where.new.words c.loop-index.index first c.loop-index.invariant c.zero_where.ensures

pub returns : goal.returns
returns c =
    let at = (goal.at.returns c).After-rests_of-rests in
    let most = c.loop-index.auto.index-end in
    rests-all c.args.self.now c.gap_places-held.ensures.is_board c.args.gap c.args.start c.requires.gap c.requires.start
    c.args.counts.now c.args.family.now c.requires.size c.rests_of-rests.result (rests at) c.loop-index.family
    c.loop-index.index
    (omega (arith, most, c.loop-index-test.false, ap length c.gap_places-held.ensures.value))
    c.if-counts-gap-eq0.false c.loop-index.invariant
