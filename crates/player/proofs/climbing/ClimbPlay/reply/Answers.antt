use Rattle.std.proofs.Common.{None, arith}
use Rattle.player.specs.Transcript.{NestedReplies, no_request_line, PersonClimbs, Going}
use Rattle.player.specs.Inside.Transcript.{standing_of}
use Rattle.player.specs.Inside.Steps.{IsResponseToMeaning}
use Rattle.player.proofs.RequestLines.{no_pebble}
use Rattle.player.proofs.AppendedLines.{says_line}
use Rattle.player.proofs.climbing.ClimbPlay.reply.Goals as goal

pub returns-else-number-pebbles-clause-said : goal.returns-else-number-pebbles-clause-said
returns-else-number-pebbles-clause-said c =
    let play = c.args.self.now in
    says_line c.say_no_request.result _ _ no_request_line None
    (λ end said. IsResponseToMeaning (PersonClimbs play.nested.levels)
    (Going play.nested.words play.requests) c.args.meaning said
    (standing_of end play.nested.words play.requests)) c.say_no_request.ensures
    (rw c.in-Number.is (no_pebble play.nested.levels
    (NestedReplies play.nested.levels play.nested.words play.requests) play.nested.words play.requests
    c.in-Number.number
    (omega (arith, c.if-number-pebbles.false, c.from-pebbles.ensures, c.levels.ensures.levels))))
