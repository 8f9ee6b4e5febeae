use Rattle.std.proofs.Common.{◌≡◌, ◌∙◌, ◌+◌, ◌*◌, ◌-◌, ◌<◌, ◌≤◌, ◌/◌, ◌%◌, ℕ, List, Ok, IfOk, get_or, min, length, sym}
use Rattle.std.proofs.Common.{ap, subst, arith, rules}
use Rattle.std.proofs.lemmas.Grind.{div_ceil_times}
use Rattle.std.specs.declared.result.Result.{Result}
use Rattle.board_text.specs.PlainBoard.{PlainBoard}
use Rattle.board_text.specs.declared.memory.Memory.{Memory}
use Rattle.gap_values.specs.declared.sizes.Sizes.{Sizes}
use Rattle.gap_values.specs.Inside.Counts.{AreSizesBetween}
use Rattle.gap_values.proofs.ClassCounts.{AreFew, parts-joined, sizes-few}
use Rattle.gap_values.proofs.sizes.sizes_in_parts.Given.{Over}
use Rattle.gap_values.proofs.sizes.sizes_in_parts.Goals as goal
use Rattle.gap_values.proofs.sizes.sizes_in_parts.Goals.{In-Ok}

-- the ends of a chunk
chunk-ends : (total size index long : ℕ) → long ≡ min size (total - index * size) → index * size + long ≤ total
    → 0 < long
    → (min (index * size) total ≡ index * size) × (min ((index + 1) * size) total ≡ index * size + long)
chunk-ends total size index long is within some =
    let next : (index + 1) * size ≡ index * size + size = grind arith in
    (omega (arith, within), omega (arith, is, within, some, next))

part-between : (b : PlainBoard) (words : List ℕ) (rounds index size long : ℕ) (read : Result Sizes Memory) (part :
    Sizes)
    → read ≡ Ok part → long ≡ min size (length words - index * size) → index * size + long ≤ length words → 0 < long
    → IfOk read (AreSizesBetween b words rounds (index * size) (index * size + long))
    → AreSizesBetween b words rounds (min (index * size) (length words)) (min ((index + 1) * size) (length words)) part
part-between b words rounds index size long read part is long_is within some made =
    let ends = chunk-ends (length words) size index long long_is within some in
    subst (λ n. AreSizesBetween b words rounds n (min ((index + 1) * size) (length words)) part) (sym ends.0)
    (subst (λ n. AreSizesBetween b words rounds (index * size) n part) (sym ends.1)
    (subst (λ r. IfOk r (AreSizesBetween b words rounds (index * size) (index * size + long))) is made))

module _ (g : Over) (c : In-Ok g) where
  abbrev total : ℕ
  total = length c.args.rounds.now.words.items

  abbrev size : ℕ
  size = c.max-size.result

  -- what was added, and what is added to it
  before : AreFew c.args.bound c.loop-index.sizes
  before = sizes-few c.args.numbers.now c.args.rounds.now.words.items c.args.bound 0
      (min (c.loop-index.index * size) total)
      c.loop-index.sizes c.requires.rounds.is_board c.loop-index.invariant

  own : AreSizesBetween c.args.numbers.now c.args.rounds.now.words.items c.args.bound
      (min (c.loop-index.index * size) total)
      (min ((c.loop-index.index + 1) * size) total) c.in-Ok.part
  own =
      let inside : c.loop-index.index < length c.in_ok-parts.parts.items =
      (let low = c.loop-index-test.true in let end = c.len-index-end.ensures in search rules) in
      let at = (c.in_ok-parts.ensures.each c.loop-index.index c.index.result.now inside).1 in
      part-between c.args.numbers.now c.args.rounds.now.words.items c.args.bound c.loop-index.index size
      (length at.argument.now)
      (get_or c.in_ok-parts.parts.items c.loop-index.index c.index.result.now) c.in-Ok.part
      (sym c.index.ensures ∙ c.in-Ok.is)
      (subst (λ (l : List ℕ). length at.argument.now ≡ min size (length l - c.loop-index.index * size))
      c.deref.ensures.value at.argument_is.len)
      (subst (λ (l : List ℕ). c.loop-index.index * size + length at.argument.now ≤ length l) c.deref.ensures.value
      at.argument_is.in_bounds) at.argument_is.nonempty at.call

  more : AreFew c.args.bound c.in-Ok.part
  more = sizes-few c.args.numbers.now c.args.rounds.now.words.items c.args.bound (min (c.loop-index.index * size) total)
      (min ((c.loop-index.index + 1) * size) total) c.in-Ok.part c.requires.rounds.is_board own

pub add-requires-clause-same : goal.add-requires-clause-same
add-requires-clause-same g c =
    let at = (goal.at.add-requires-clause-same g c).In-Ok in
    let one = (before g at).size in let two = (more g at).size in two ∙ sym one

pub add-requires-clause-few : goal.add-requires-clause-few
add-requires-clause-few g c = λ value.
    let at = (goal.at.add-requires-clause-few g c).In-Ok in
    let one = (before g at).each value in let two = (more g at).each value in omega (arith, one, two)

pub add-requires-clause-few_unending : goal.add-requires-clause-few_unending
add-requires-clause-few_unending g c =
    let at = (goal.at.add-requires-clause-few_unending g c).In-Ok in
    let one = (before g at).unending in let two = (more g at).unending in omega (arith, one, two)

pub loop-index-preserved : goal.loop-index-preserved
loop-index-preserved g c =
    let at = (goal.at.loop-index-preserved g c).In-Ok in
    parts-joined c.args.numbers.now c.args.rounds.now.words.items c.args.bound 0 (min (c.loop-index.index * size g at)
    (total g at))
    (min ((c.loop-index.index + 1) * size g at) (total g at)) c.loop-index.sizes c.in-Ok.part c.add.new.self
    c.loop-index.invariant (own g at) c.add.ensures.size c.add.ensures.finite c.add.ensures.forever

pub returns : goal.returns
returns g c =
    let size : ℕ = c.max-size.result in
    let total : ℕ = length c.args.rounds.now.words.items in
    let all : c.loop-index.index ≡ total / size + min 1 (total % size) =
    (let end = c.loop-index.auto.index-end in let past = c.loop-index-test.false in
    let last : c.loop-index.index ≡ c.len-index-end.result = omega (arith, end, past) in last)
    ∙ c.len-index-end.ensures ∙ c.in_ok-parts.ensures.len
    ∙ ap (λ (l : List ℕ). length l / size + min 1 (length l % size)) c.deref.ensures.value in
    let times = (div_ceil_times total size (omega (arith, c.max-size.ensures))).0 in
    let past : total ≤ c.loop-index.index * size = subst (λ n. total ≤ n * size) (sym all) times in
    let whole : min (c.loop-index.index * size) total ≡ total = omega (arith, past) in
    subst (λ n. AreSizesBetween c.args.numbers.now c.args.rounds.now.words.items c.args.bound 0 n c.loop-index.sizes)
    whole
    c.loop-index.invariant
