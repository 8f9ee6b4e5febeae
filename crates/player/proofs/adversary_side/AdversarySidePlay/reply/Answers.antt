use Rattle.std.proofs.Common.{None, ap, ◌∙◌, arith}
use Rattle.player.specs.Transcript.{Replies, no_request_line, PersonAsks, Going}
use Rattle.player.specs.Inside.Transcript.{standing_of}
use Rattle.player.specs.Inside.Steps.{IsResponseToMeaning}
use Rattle.player.proofs.RequestLines.{no_number, no_pebble}
use Rattle.player.proofs.AppendedLines.{says_line}
use Rattle.player.proofs.adversary_side.AdversarySidePlay.reply.Goals as goal

pub returns-else-number-pebbles-clause-said : goal.returns-else-number-pebbles-clause-said
returns-else-number-pebbles-clause-said g c =
    let seat = c.args.self.now in
    let of_seat = c.board.ensures ∙ ap (λ s. s.board) c.self.view_is in
    says_line c.say_no_request.result _ _ no_request_line None
    (λ end said. IsResponseToMeaning (PersonAsks seat.board) (Going seat.at seat.requests) c.args.meaning said
    (standing_of end seat.at seat.requests)) c.say_no_request.ensures
    (rw c.in-Number.is (no_pebble seat.board.pebbles
    (Replies seat.board seat.at seat.requests) seat.at seat.requests c.in-Number.number
    (omega (
      arith,
      c.if-number-pebbles.false,
      c.from-pebbles.ensures,
      c.pebbles.ensures.value,
      ap (λ b. b.pebbles) of_seat,
    ))))

pub returns-in-Other-clause-said : goal.returns-in-Other-clause-said
returns-in-Other-clause-said g c =
    let seat = c.args.self.now in
    let of_seat = c.board.ensures ∙ ap (λ s. s.board) c.self.view_is in
    says_line c.say_no_request-in-Other.result _ _ no_request_line None
    (λ end said. IsResponseToMeaning (PersonAsks seat.board) (Going seat.at seat.requests) c.args.meaning said
    (standing_of end seat.at seat.requests)) c.say_no_request-in-Other.ensures
    (rw c.in-Other.is (no_number seat.board.pebbles (Replies seat.board seat.at seat.requests) seat.at seat.requests
    c.in-Other.has_blank (omega (arith, c.pebbles.ensures.is_board.pebbles.1, ap (λ b. b.pebbles) of_seat))))
