use Rattle.std.proofs.Common.{◌≡◌, ◌∙◌, ◌+◌, ◌-◌, ◌<◌, ◌≤◌, ℕ, List, length, get_or, ap, arith, rules}
use Rattle.classes.specs.Classes.{put}
use Rattle.gap_values.specs.Inside.Words.{word_without}
use Rattle.classes.proofs.Cited.{held-long, number-last-others, others-number, rest-below, rest-few}
use Rattle.gap_values.proofs.Words.{least-all, least-begins, least-more, least-same}
use Rattle.gap_values.proofs.sizes.first_of_member.Goals as goal
use Rattle.gap_values.proofs.sizes.first_of_member.Goals.{In-loop-index, then-word-first, else-word-first}

pub loop-index-init : goal.loop-index-init
loop-index-init c = least-begins c.args.words.now (put c.args.least c.args.family.now.held)

inside : (c : In-loop-index) → c.loop-index.index < c.args.numbers.now.pebbles - 1
inside c =
    let long = held-long c.args.numbers.now (c.args.numbers.now.pebbles - 1)
    c.args.family.now c.requires.family in
    omega (arith, long, ap length c.as_slice-index-end.ensures.value, c.loop-index-test.true)

few : (c : In-loop-index) → get_or c.args.family.now.rests c.loop-index.index 0 + c.args.least ≤ 288136807515649
few c =
    rest-few c.args.numbers.now (c.args.numbers.now.pebbles - 1) c.args.family.now
    c.requires.family c.args.least c.requires.least (omega arith) c.loop-index.index (inside c)

pub overflow_add-word : goal.overflow_add-word
overflow_add-word c = let most = few (goal.at.overflow_add-word c).In-loop-index in search (rules, most)

pub offset_bounds-words-family : goal.offset_bounds-words-family
offset_bounds-words-family c =
    let most = few (goal.at.offset_bounds-words-family c).In-loop-index in search (rules, most)

pub bounds-words-family : goal.bounds-words-family
bounds-words-family c =
    let low = rest-below c.args.numbers.now (c.args.numbers.now.pebbles - 1)
    c.args.family.now c.requires.family c.args.least c.requires.least c.loop-index.index
    (inside (goal.at.bounds-words-family c).In-loop-index) in
    omega (arith, low, c.requires.words)

pub loop-index-preserved : goal.loop-index-preserved
loop-index-preserved c =
    let words : List ℕ = c.args.words.now in
    let class : List ℕ = put c.args.least c.args.family.now.held in
    let at : ℕ = get_or c.args.family.now.rests c.loop-index.index 0 + c.args.least in
    let word_is : word_without words class c.loop-index.index ≡ get_or words at 0 =
    ap (λ n. get_or words n 0)
    (others-number c.args.numbers.now (c.args.numbers.now.pebbles - 1) c.args.family.now
    c.requires.family c.args.least c.requires.least c.loop-index.index
    (inside (goal.at.loop-index-preserved c).In-loop-index)) in
    elim c.if-word-first.branch [
      | then-word-first w ↦ rw w.first-is
          (least-more words class c.loop-index.index c.loop-index.first
          (get_or words at 0) c.loop-index.invariant word_is
          w.if-word-first.true)
      | else-word-first w ↦ rw w.first-is
          (least-same words class c.loop-index.index c.loop-index.first
          (get_or words at 0) c.loop-index.invariant word_is
          w.if-word-first.false)
    ]

pub returns : goal.returns
returns c =
    let words : List ℕ = c.args.words.now in
    let class : List ℕ = put c.args.least c.args.family.now.held in
    let count : ℕ = c.args.numbers.now.pebbles - 1 in
    let long = held-long c.args.numbers.now count c.args.family.now c.requires.family in
    let all : c.loop-index.index ≡ count =
    omega (
      arith,
      long,
      ap length c.as_slice-index-end.ensures.value,
      c.loop-index-test.false,
      c.loop-index.auto.index-end,
    )
    in
    let some = c.requires.family.is_board.pebbles.0 in
    let last : word_without words class c.loop-index.index ≡ get_or words c.args.family.now.number 0 =
    ap (word_without words class) all
    ∙ ap (λ n. get_or words n 0)
    (number-last-others c.args.numbers.now count c.args.family.now c.requires.family
    c.args.least c.requires.least) in
    least-all words class c.loop-index.index c.loop-index.first (get_or words c.args.family.now.number 0)
    c.min.result c.args.numbers.now.pebbles c.loop-index.invariant last c.min.ensures (omega arith)
