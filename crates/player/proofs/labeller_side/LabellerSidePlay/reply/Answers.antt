use Rattle.std.proofs.Common.{None, Some, inl, inr, ap, sym, ◌∙◌, ◌≤◌, subst, arith}
use Rattle.board_text.specs.declared.board.TheConstants.{MAX_LABELS}
use Rattle.player.specs.Transcript.{no_answer_line, stopped_line, PersonAnswers, Going}
use Rattle.player.specs.Inside.Transcript.{standing_of}
use Rattle.player.specs.Inside.Steps.{IsResponseToMeaning}
use Rattle.player.specs.declared.end.PlayEnd.TheVariants.{Stopped}
use Rattle.player.proofs.AnswerLines.{no_legal_number, no_label, stop_asked, says_all}
use Rattle.player.proofs.AppendedLines.{says_line}
use Rattle.player.proofs.labeller_side.LabellerSidePlay.reply.Goals as goal
use Rattle.player.proofs.labeller_side.LabellerSidePlay.reply.Goals.{else-number-labels-via-else-number-labels}
use Rattle.player.proofs.labeller_side.LabellerSidePlay.reply.Goals.{else-number-labels-via-then-number-labels+else-contains}

pub contains-requires : goal.contains-requires
contains-requires g c = omega (
  arith,
  c.if-number-labels.true,
  c.from-labels.ensures,
  c.labels.ensures.value,
  c.labels.ensures.is_board.labels.1,
)

pub move_to_label-requires-clause-legal : goal.move_to_label-requires-clause-legal
move_to_label-requires-clause-legal g c =
    (c.legal.ensures _ (omega (
      arith,
      c.if-number-labels.true,
      c.from-labels.ensures,
      c.labels.ensures.value,
      c.labels.ensures.is_board.labels.1,
    ))).0 (sym c.contains.ensures ∙ c.if-contains.true)

pub returns-then-contains-clause-said : goal.returns-then-contains-clause-said
returns-then-contains-clause-said g c =
    says_all c.move_to_label.result _ _ _ _ c.move_to_label.ensures.said
    (λ end said asks line spells. asks line (rw c.in-Number.is at spells).1)

pub returns-else-number-labels-clause-said : goal.returns-else-number-labels-clause-said
returns-else-number-labels-clause-said g c =
    let seat = c.args.self.now in
    let of_seat = c.board.ensures ∙ ap (λ s. s.board) c.self.view_is in
    says_line c.say_no_answer.result _ _ no_answer_line None
    (λ end said. IsResponseToMeaning (PersonAnswers seat.board) (Going seat.at seat.requests) c.args.meaning said
    (standing_of end seat.at seat.requests)) c.say_no_answer.ensures
    (rw c.in-Number.is (no_legal_number seat c.in-Number.number
    (subst (λ b. b.labels ≤ MAX_LABELS) of_seat c.labels.ensures.is_board.labels.1)
    (elim c.else-number-labels.branch [
      | else-number-labels-via-else-number-labels w ↦
          inr (omega (
            arith,
            w.if-number-labels.false,
            c.from-labels.ensures,
            c.labels.ensures.value,
            ap (λ b. b.labels) of_seat,
          ))
      | else-number-labels-via-then-number-labels+else-contains w ↦
          inl (λ legal. let is = (w.legal.ensures _ (omega (
            arith,
            w.if-number-labels.true,
            c.from-labels.ensures,
            c.labels.ensures.value,
            c.labels.ensures.is_board.labels.1,
          ))).1 legal in let is_not = w.contains.ensures in cc)
    ])))

pub returns-in-Quit-clause-said : goal.returns-in-Quit-clause-said
returns-in-Quit-clause-said g c =
    let seat = c.args.self.now in
    says_line c.end_stopped.result _ _ (stopped_line c.self.inside.requests) (Some (Stopped c.self.inside.requests))
    (λ end said. IsResponseToMeaning (PersonAnswers seat.board) (Going seat.at seat.requests) c.args.meaning said
    (standing_of end seat.at seat.requests))
    c.end_stopped.ensures (rw (c.in-Quit.is, ap (λ s. s.requests) c.self.view_is) (stop_asked seat))

pub returns-in-Other-clause-said : goal.returns-in-Other-clause-said
returns-in-Other-clause-said g c =
    let seat = c.args.self.now in
    let of_seat = c.board.ensures ∙ ap (λ s. s.board) c.self.view_is in
    says_line c.say_no_answer-in-Other.result _ _ no_answer_line None
    (λ end said. IsResponseToMeaning (PersonAnswers seat.board) (Going seat.at seat.requests) c.args.meaning said
    (standing_of end seat.at seat.requests)) c.say_no_answer-in-Other.ensures
    (rw c.in-Other.is (no_label seat c.in-Other.has_blank
    (subst (λ b. b.labels ≤ MAX_LABELS) of_seat c.labels.ensures.is_board.labels.1)))
