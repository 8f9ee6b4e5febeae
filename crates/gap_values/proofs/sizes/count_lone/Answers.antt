use Rattle.std.proofs.Common.{◌≡◌, ◌∙◌, ◌+◌, ◌-◌, ℕ, List, length, ap, sym, subst, arith}
use Rattle.board_text.specs.PlainBoard.{PlainBoard, places}
use Rattle.classes.specs.Numbers.{ways}
use Rattle.classes.proofs.Cited.{ways-zero, held-long}
use Rattle.gap_values.specs.Inside.Counts.{AreMore, AreSizesBetween, made_by}
use Rattle.classes.specs.FamilyWalks.{IsFamilyOf}
use Rattle.gap_values.specs.Inside.FamilyWeights.{AreFamilyWeights}
use Rattle.gap_values.proofs.GapCounts.{gap-step, room-between, room-up}
use Rattle.gap_values.proofs.sizes.count_lone.Goals as goal

pub count_each-requires-clause-room : goal.count_each-requires-clause-room
count_each-requires-clause-room g c =
    room-up c.args.sizes.now 207458501411267280 300000000000000000
    (room-between c.args.numbers.now c.args.rounds.now.words.items (length c.args.sizes.now.finite.items) c.args.from
    c.args.from c.args.sizes.now c.families.ensures.is_board c.requires.none) (omega arith)

pub returns-then-from-to : goal.returns-then-from-to
returns-then-from-to g c =
    let b : PlainBoard = c.args.numbers.now in
    let f = c.family-family.result in
    let none : b.pebbles - 1 ≡ 0 = omega (arith, c.requires.one) in
    let family : IsFamilyOf b (b.pebbles - 1) f =
    subst (λ n. IsFamilyOf b n f) (c.families.ensures.count_is ∙ sym none) c.family-family.ensures.family in
    let long : length f.held ≡ b.pebbles - 1 = held-long b (b.pebbles - 1) f family in
    let own : IsFamilyOf b (length f.held) f = subst (λ n. IsFamilyOf b n f) (sym long) family in
    let weigh : AreFamilyWeights b (b.pebbles - 1) f c.family_weights-weights.result =
    subst (λ n. AreFamilyWeights b n f c.family_weights-weights.result) long
    (c.family_weights-weights.ensures b own (omega (arith, long, c.requires.one))) in
    let many : length c.args.rounds.now.words.items ≡ 1 =
    c.requires.rounds.words.size ∙ ap (λ n. ways n (places b)) none ∙ ways-zero (places b) in
    let first : c.args.from ≡ 0 = omega (arith, many, c.requires.to, c.if-from-to.true) in
    let last : c.args.from + 1 ≡ c.args.to = omega (arith, many, c.requires.to, c.if-from-to.true) in
    subst (λ n. AreSizesBetween b c.args.rounds.now.words.items (length c.args.sizes.now.finite.items) c.args.from n
    c.count_each.new.sizes) last
    (gap-step b c.args.rounds.now.words.items f c.family_weights-weights.result family weigh
    (length c.args.sizes.now.finite.items) c.args.from c.args.from c.args.sizes.now c.count_each.new.sizes
    (c.family-family.ensures.number ∙ sym first) c.requires.none
    (subst (λ (l : List ℕ). AreMore c.args.sizes.now c.count_each.new.sizes
    (made_by b l f.held f.size c.family_weights-weights.result)) c.deref.ensures.value c.count_each.ensures))
