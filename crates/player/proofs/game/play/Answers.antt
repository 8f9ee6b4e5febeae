use Rattle.std.proofs.Common.{[], ◌++◌, ap, ◌∙◌, subst}
use Rattle.std.proofs.lemmas.Result.{IfOk-weaker, IfErr-weaker, err_from_is_err_and}
use Rattle.board_text.specs.Streams.{AppendsAll, AppendsPrefix}
use Rattle.player.specs.Transcript.{AreResponses, BeginsPlay, Going, IsPlayed}
use Rattle.player.proofs.PlayLengths.{keeps_to_value}
use Rattle.player.proofs.OpeningLines.{has_ended, breaks_off, over_at_once, unopened, unshown_opening, Keeps-same}
use Rattle.console.proofs.Cited.{none_more}
use Rattle.player.proofs.ToldPlays.{alone, last_told, played, prompted, told_alike, untold, untold_at_once}
use Rattle.player.proofs.ToldPlays.{untold_opening}
use Rattle.player.proofs.game.play.Goals as goal

pub returns-in_default-clause-fault : goal.returns-in_default-clause-fault
returns-in_default-clause-fault g c =
    let game = g.G.Game.game c.args.game.now in
    let begins = c.open.ensures.begins in
    unopened (IsPlayed game) begins.0 begins.1 (alone c.args.shows game begins.0 begins.1 begins.2) _ _ (Keeps-same _)

pub returns-in_default-clause-prompts : goal.returns-in_default-clause-prompts
returns-in_default-clause-prompts g c =
    let begins = c.open.ensures.begins in (
      [],
      untold c.args.shows (g.G.Game.game c.args.game.now) begins.0 begins.1 begins.2 _ _ (Keeps-same _),
      none_more g.E.Sink.contents g.E.Sink.has_failed c.args.errors.now,
    )

pub returns-in_err-flush-clause-fault : goal.returns-in_err-flush-clause-fault
returns-in_err-flush-clause-fault g c =
    let game = g.G.Game.game c.args.game.now in
    let opening = c.in-Ok.ensures.said in
    let text = opening.1 ∙ ap (λ l. l ++ opening.0) c.new-text.ensures.bytes in
    let p = err_from_is_err_and c.from_residual.result c.from_residual.ensures.1 in
    rw (p.1, p.2, c.in_err-flush.ensures.fault.0)
    (unshown_opening (IsPlayed game) opening.0 opening.2.0
    (alone c.args.shows game opening.0 opening.2.0 opening.2.1) _ _
    (subst (AppendsPrefix _) text c.in_err-flush.ensures.front))

pub returns-in_err-flush-clause-prompts : goal.returns-in_err-flush-clause-prompts
returns-in_err-flush-clause-prompts g c =
    let game = g.G.Game.game c.args.game.now in
    let opening = c.in-Ok.ensures.said in
    let text = opening.1 ∙ ap (λ l. l ++ opening.0) c.new-text.ensures.bytes in
    let p = err_from_is_err_and c.from_residual.result c.from_residual.ensures.1 in (
      [],
      rw (p.1, p.2, c.in_err-flush.ensures.fault.0)
          (untold_opening c.args.shows game opening.0 opening.2.0 opening.2.1 _ _
          (subst (AppendsPrefix _) text c.in_err-flush.ensures.front)),
      none_more g.E.Sink.contents g.E.Sink.has_failed c.args.errors.now,
    )

pub returns-in-Goes-clause-ok : goal.returns-in-Goes-clause-ok
returns-in-Goes-clause-ok g c =
    let game = g.G.Game.game c.args.game.now in
    let opening = rw c.in-Goes.is at c.in-Ok.ensures.said in
    let stands = opening.2.2 in
    let opens = subst (BeginsPlay game opening.0) stands.2 opening.2.1 in
    let text = opening.1 ∙ ap (λ l. l ++ opening.0) c.new-text.ensures.bytes in
    let written = subst (AppendsAll _) text c.in_ok-flush.ensures.written in
    IfOk-weaker c.play_on.result _ _ (λ end h. has_ended
    (AreResponses game (Going _ 0)) (IsPlayed game) opening.0
    (played c.args.shows game opening.0 _ opens) _ _ (g.W.Sink.contents c.flush.new.writer) _ written end h)
    (rw stands.0 at c.play_on.ensures.ok)

pub returns-in-Goes-clause-fault : goal.returns-in-Goes-clause-fault
returns-in-Goes-clause-fault g c =
    let game = g.G.Game.game c.args.game.now in
    let opening = rw c.in-Goes.is at c.in-Ok.ensures.said in
    let stands = opening.2.2 in
    let opens = subst (BeginsPlay game opening.0) stands.2 opening.2.1 in
    let text = opening.1 ∙ ap (λ l. l ++ opening.0) c.new-text.ensures.bytes in
    let written = subst (AppendsAll _) text c.in_ok-flush.ensures.written in
    IfErr-weaker c.play_on.result _ _ (λ fault h. breaks_off
    (AreResponses game (Going _ 0)) (IsPlayed game) opening.0
    (played c.args.shows game opening.0 _ opens) _ _ (g.W.Sink.contents c.flush.new.writer) _ written fault h)
    (rw stands.0 at c.play_on.ensures.fault)

pub returns-in-Goes-clause-value : goal.returns-in-Goes-clause-value
returns-in-Goes-clause-value g c =
    IfOk-weaker c.play_on.result _ _ (λ end. keeps_to_value (g.G.Game.game c.args.game.now) _ _ end)
    (returns-in-Goes-clause-ok g c)

pub returns-in-Goes-clause-prompts : goal.returns-in-Goes-clause-prompts
returns-in-Goes-clause-prompts g c =
    let game = g.G.Game.game c.args.game.now in
    let opening = rw c.in-Goes.is at c.in-Ok.ensures.said in
    let stands = opening.2.2 in
    let opens = subst (BeginsPlay game opening.0) stands.2 opening.2.1 in
    let text = opening.1 ∙ ap (λ l. l ++ opening.0) c.new-text.ensures.bytes in
    let written = subst (AppendsAll _) text c.in_ok-flush.ensures.written in
    let told = c.play_on.ensures.told in (
      told.0,
      prompted c.args.shows game opening.0 _ opens _ _ (g.W.Sink.contents c.flush.new.writer) _ written told.0
          c.play_on.result (told_alike c.args.shows _ game (Going _ 0) _ _ c.play_on.result told.0 stands.0 told.1),
      told.2,
    )

pub returns-clause-ok : goal.returns-clause-ok
returns-clause-ok g c =
    let game = g.G.Game.game c.args.game.now in
    let opening = rw c.in-Ends.is at c.in-Ok.ensures.said in
    let text = opening.1 ∙ ap (λ l. l ++ opening.0) c.new-text.ensures.bytes in
    let written = subst (AppendsAll _) text c.in_ok-flush.ensures.written in
    over_at_once (IsPlayed game) opening.0 opening.2.0 (alone c.args.shows game opening.0 opening.2.0 opening.2.1) _ _
    c.in-Ends.end opening.2.2 written

pub returns-clause-value : goal.returns-clause-value
returns-clause-value g c =
    keeps_to_value (g.G.Game.game c.args.game.now) _ _ c.in-Ends.end (returns-clause-ok g c)

pub returns-clause-prompts : goal.returns-clause-prompts
returns-clause-prompts g c =
    let game = g.G.Game.game c.args.game.now in
    let opening = rw c.in-Ends.is at c.in-Ok.ensures.said in
    let opens = subst (BeginsPlay game opening.0) opening.2.2 opening.2.1 in
    let text = opening.1 ∙ ap (λ l. l ++ opening.0) c.new-text.ensures.bytes in
    let written = subst (AppendsAll _) text c.in_ok-flush.ensures.written in
    let last = c.tell_last.ensures in (
      last.0,
      untold_at_once c.args.shows game opening.0 c.in-Ends.end opens _ _ written last.0
          (last_told c.args.shows game c.start_value.result c.in-Ends.end last.0 c.start_value.ensures last.1),
      last.2,
    )
