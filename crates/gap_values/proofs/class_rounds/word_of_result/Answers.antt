use Rattle.std.proofs.Common.{◌≡◌, ◌<◌, ◌≤◌, length, get_or, ap, ◌∙◌, arith, rules}
use Rattle.board_text.specs.PlainBoard.{places}
use Rattle.classes.specs.Classes.{IsClass}
use Rattle.classes.specs.ClassGaps.{member_with}
use Rattle.classes.specs.Numbers.{class_count, number_by_greatest}
use Rattle.classes.proofs.Cited.{is-below, length-class_of, ways-fit}
use Rattle.gap_values.proofs.Words.{result-class, result-is}
use Rattle.gap_values.proofs.class_rounds.word_of_result.Goals as goal
use Rattle.gap_values.proofs.class_rounds.word_of_result.Goals.{After-as_slice}

pub arrange-requires-clause-room : goal.arrange-requires-clause-room
arrange-requires-clause-room c =
    let few = c.requires.is_board.pebbles.1 in
    let size = c.requires.is_gap.size in
    omega (
      arith,
      few,
      size,
      ap length c.arranged-class.ensures.class,
      length-class_of c.args.gap.now,
      c.requires.is_board.pebbles.0,
    )

module _ (c : After-as_slice) where
  same : c.as_slice.result.now ≡ member_with c.args.gap.now c.args.label
  same = result-class (places c.args.board.now) c.args.gap.now c.arranged-class.result c.arrange.new.self
      c.as_slice.result.now
      c.args.label c.requires.is_gap.falls c.arranged-class.ensures.class c.arrange.ensures c.as_slice.ensures.value

  is : IsClass (places c.args.board.now) c.args.board.now.pebbles c.as_slice.result.now
  is = rw same (result-is c.args.board.now c.args.gap.now c.args.label c.requires.is_board c.requires.is_gap
      c.requires.label)

  low : number_by_greatest c.as_slice.result.now < class_count c.args.board.now
  low = is-below (places c.args.board.now) c.args.board.now.pebbles c.as_slice.result.now is

pub number-requires-clause-size : goal.number-requires-clause-size
number-requires-clause-size c =
    let class = is (goal.at.number-requires-clause-size c).After-as_slice in
    rw c.requires.board (omega (arith, class.size))

pub number-requires-clause-is_class : goal.number-requires-clause-is_class
number-requires-clause-is_class c =
    let class = is (goal.at.number-requires-clause-is_class c).After-as_slice in
    rw (c.requires.board, class.size) class

pub offset_bounds-words-number : goal.offset_bounds-words-number
offset_bounds-words-number c =
    let below = low (goal.at.offset_bounds-words-number c).After-as_slice in
    let b = c.args.board.now in
    let most = ways-fit b b.pebbles (places b) c.requires.is_board (omega arith) (omega arith) in
    let few : c.number.result ≤ 288136807515649 = omega (arith, below, most, c.number.ensures.number) in
    search (rules, few)

pub bounds-words-number : goal.bounds-words-number
bounds-words-number c =
    let below = low (goal.at.bounds-words-number c).After-as_slice in
    omega (arith, below, c.number.ensures.number, c.requires.words.size)

pub returns : goal.returns
returns c =
    ap (λ n. get_or c.args.words.now n 0)
    (c.number.ensures.number ∙ ap number_by_greatest (same (goal.at.returns c).After-as_slice))
