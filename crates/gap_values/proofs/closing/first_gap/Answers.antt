use Rattle.std.proofs.Common.{◌≡◌, ◌∙◌, ◌-◌, ◌<◌, ℕ, List, length, get_or, sym, ap, subst, arith, rules}
use Rattle.std.specs.List.{remove}
use Rattle.board_text.specs.PlainBoard.{places}
use Rattle.classes.specs.Classes.{IsClass, class_of}
use Rattle.classes.specs.ClassGaps.{gap_at, index_in}
use Rattle.classes.specs.Numbers.{number_by_greatest}
use Rattle.classes.proofs.Cited.{is-below, length-class_of}
use Rattle.gap_values.specs.Inside.Words.{gap_word}
use Rattle.gap_values.proofs.ClosedGaps.{class-is, gap-is}
use Rattle.gap_values.proofs.FirstGaps.{class-index, class-number, first-more, first-same}
use Rattle.gap_values.proofs.closing.first_gap.Goals as goal
use Rattle.gap_values.proofs.closing.first_gap.Goals.{After-as_slice-2, After-index_of}
use Rattle.gap_values.proofs.closing.first_gap.Goals.{then-word-first, else-word-first}

-- the class has a place for each pebble
module _ (c : After-as_slice-2) where
  sized : (class : List ℕ) → class ≡ class_of c.args.held.now → length class ≡ c.args.numbers.now.pebbles
  sized class is = ap length is ∙ length-class_of c.args.held.now ∙ c.requires.held.each_pebble

  classed : (class : List ℕ) → class ≡ class_of c.args.held.now
      → IsClass (places c.args.numbers.now) (length class) class
  classed class is =
      let whole = class-is c.args.numbers.now c.args.held.now c.requires.held in
      subst (λ n. IsClass (places c.args.numbers.now) n class) (sym (sized class is))
      (subst (IsClass (places c.args.numbers.now) c.args.numbers.now.pebbles) (sym is) whole)

  second : c.as_slice-2.result.now ≡ class_of c.args.held.now
  second = c.as_slice-2.ensures.value ∙ c.arranged-class.ensures.class

  first : c.as_slice.result.now ≡ class_of c.args.held.now
  first = c.as_slice.ensures.value ∙ c.arranged-class.ensures.class

pub number-requires-clause-size : goal.number-requires-clause-size
number-requires-clause-size c = omega (arith, sized c c.as_slice-2.result.now (second c))

pub number-requires-clause-is_class : goal.number-requires-clause-is_class
number-requires-clause-is_class c = classed c c.as_slice-2.result.now (second c)

pub gaps_of-gaps-requires-clause-size : goal.gaps_of-gaps-requires-clause-size
gaps_of-gaps-requires-clause-size c =
    let at = (goal.at.gaps_of-gaps-requires-clause-size c).After-as_slice-2 in
    omega (arith, sized at c.as_slice.result.now (first at))

pub gaps_of-gaps-requires-clause-is_class : goal.gaps_of-gaps-requires-clause-is_class
gaps_of-gaps-requires-clause-is_class c =
    let at = (goal.at.gaps_of-gaps-requires-clause-is_class c).After-as_slice-2 in
    classed at c.as_slice.result.now (first at)

-- the number that was read is that of the pebble's gap
module _ (c : After-index_of) where
  abbrev held : List ℕ
  held = c.args.held.now

  abbrev own : ℕ
  own = get_or held c.loop-pebble.pebble 0

  class-is-read : c.as_slice.result.now ≡ class_of held
  class-is-read = c.as_slice.ensures.value ∙ c.arranged-class.ensures.class

  index-is : c.index_of.result ≡ index_in own (class_of held)
  index-is = c.index_of.ensures ∙ ap (index_in own)
      (c.as_slice-in-loop-pebble.ensures.value ∙ c.arranged-class.ensures.class)

  size : length (class_of held) ≡ c.args.numbers.now.pebbles
  size = length-class_of held ∙ c.requires.held.each_pebble

  inside : c.index_of.result < length (class_of held)
  inside = subst (λ n. n < length (class_of held)) (sym index-is)
      (class-index held c.loop-pebble.pebble c.loop-pebble-test.true)

  few : c.index_of.result < 6
  few = let most = c.requires.is_board.pebbles.1 in omega (arith, inside, size, most)

  abbrev number : ℕ
  number = get_or c.gaps_of-gaps.result c.index_of.result 0

  number-is : number ≡ number_by_greatest (gap_at held c.loop-pebble.pebble)
  number-is =
      c.gaps_of-gaps.ensures c.index_of.result (omega (arith, inside, ap length class-is-read))
      ∙ ap (λ (l : List ℕ). number_by_greatest (remove l c.index_of.result)) class-is-read
      ∙ ap (λ n. number_by_greatest (remove (class_of held) n)) index-is
      ∙ class-number held c.loop-pebble.pebble c.loop-pebble-test.true

  below : number < length c.args.words.now
  below =
      let b = c.args.numbers.now in
      let pebble-low : c.loop-pebble.pebble < b.pebbles =
      omega (arith, c.loop-pebble-test.true, c.requires.held.each_pebble) in
      let low = is-below (places b) (b.pebbles - 1) (gap_at held c.loop-pebble.pebble)
      (gap-is b held c.requires.held c.loop-pebble.pebble pebble-low) in
      omega (arith, low, number-is, c.requires.words)

pub offset_bounds-gaps-index_of : goal.offset_bounds-gaps-index_of
offset_bounds-gaps-index_of c = search (rules, few c)

pub bounds-gaps-index_of : goal.bounds-gaps-index_of
bounds-gaps-index_of c = few c

pub offset_bounds-words-gaps : goal.offset_bounds-words-gaps
offset_bounds-words-gaps c = search (rules, below c)

pub bounds-words-gaps : goal.bounds-words-gaps
bounds-words-gaps c = below (goal.at.bounds-words-gaps c).After-index_of

pub loop-pebble-preserved : goal.loop-pebble-preserved
loop-pebble-preserved c =
    let at = (goal.at.loop-pebble-preserved c).After-index_of in
    let words : List ℕ = c.args.words.now in
    let word : ℕ = get_or words (number at) 0 in
    let word-is : gap_word words c.args.held.now c.loop-pebble.pebble ≡ word =
    sym (ap (λ n. get_or words n 0) (number-is at)) in
    elim c.if-word-first.branch [
      | then-word-first w ↦ rw (w.first-is, w.asked-is)
          (first-more words c.args.held.now c.loop-pebble.pebble c.loop-pebble.first word c.loop-pebble.asked
          c.loop-pebble.invariant word-is w.if-word-first.true)
      | else-word-first w ↦ rw (w.first-is, w.asked-is)
          (first-same words c.args.held.now c.loop-pebble.pebble c.loop-pebble.first word c.loop-pebble.asked
          c.loop-pebble.invariant word-is w.if-word-first.false)
    ]
