use Rattle.std.proofs.Common.{◌+◌, arith, subst, sym}
use Rattle.gap_values.proofs.BestAnswers.{IsAnswerTaken, answer-taken, answers-over}
use Rattle.gap_values.proofs.ClassRounds.{IsRoundSoFar, round-kept, round-more, round-none, round-over, word-small}
use Rattle.gap_values.proofs.class_rounds.round_of_gap.Goals as goal
use Rattle.gap_values.proofs.class_rounds.round_of_gap.Goals.{After-word_of_result-word}

taken : (c : After-word_of_result-word)
    → IsAnswerTaken c.args.board.now c.args.gap.now c.loop-label.labels c.take_next.new.self c.in-Some.label
taken c = answer-taken c.args.board.now c.args.gap.now c.labels.ensures.is_board c.loop-label.labels
    c.loop-label.invariant.walk c.take_next.new.self c.in-Some.label c.in-Some.ensures

pub returns-then-word : goal.returns-then-word
returns-then-word c =
    round-none c.args.board.now c.args.words.now c.args.gap.now c.loop-label.labels.from c.in-Some.label
    c.word_of_result-word.result (taken (goal.at.returns-then-word c).After-word_of_result-word).next
    c.word_of_result-word.ensures (omega (arith, c.if-word.true))

pub loop-label-preserved-then-word-round : goal.loop-label-preserved-then-word-round
loop-label-preserved-then-word-round c =
    let step = taken (goal.at.loop-label-preserved-then-word-round c).After-word_of_result-word in
    let low = word-small c.args.board.now c.args.words.now c.args.gap.now c.in-Some.label c.word_of_result-word.result
    c.labels.ensures.is_board c.requires.words c.requires.is_gap step.next.0.1 c.word_of_result-word.ensures
    (omega (arith, c.word_of_result-word.type_inv, c.if-word.false)) in
    record {
      walk = step.left;
      most = step.most;
      round = subst (λ n. IsRoundSoFar c.args.board.now c.args.words.now c.args.gap.now n
          (c.word_of_result-word.result + 1)) (sym c.in-Some.ensures.from)
          (round-more c.args.board.now c.args.words.now c.args.gap.now c.loop-label.labels.from c.in-Some.label
          c.word_of_result-word.result step.next c.word_of_result-word.ensures c.loop-label.round
          c.loop-label.invariant.round c.if-word-round.true low);
    }

pub loop-label-preserved : goal.loop-label-preserved
loop-label-preserved c =
    let step = taken (goal.at.loop-label-preserved c).After-word_of_result-word in
    record {
      walk = step.left;
      most = step.most;
      round = subst (λ n. IsRoundSoFar c.args.board.now c.args.words.now c.args.gap.now n c.loop-label.round)
          (sym c.in-Some.ensures.from)
          (round-kept c.args.board.now c.args.words.now c.args.gap.now c.loop-label.labels.from c.in-Some.label
          c.word_of_result-word.result step.next c.word_of_result-word.ensures c.loop-label.round
          c.loop-label.invariant.round c.if-word-round.false);
    }

pub returns : goal.returns
returns c =
    round-over c.args.board.now c.args.words.now c.args.gap.now c.loop-label.labels.from c.loop-label.round
    (answers-over c.args.board.now c.args.gap.now c.labels.ensures.is_board c.loop-label.labels
    c.loop-label.invariant.walk c.in_default.ensures) c.loop-label.invariant.round
