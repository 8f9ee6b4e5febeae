use Rattle.std.proofs.Common.{refl, [], ◌++◌, ◌+◌, ◌∷◌, ap, ◌∙◌, arith, inl, subst}
use Rattle.std.proofs.lemmas.List.{length_push}
use Rattle.std.proofs.lemmas.Result.{err_from_is_err_and}
use Rattle.std.specs.Prelude.{Err, Ok}
use Rattle.board_text.proofs.Cited.{Appends-trans}
use Rattle.player.specs.Inside.Prompts.{IsToldHere, greeting_if, hint_there}
use Rattle.player.specs.Inside.Steps.{IsResponseToMeaning}
use Rattle.player.specs.Prompts.{NearlyTells, told_from}
use Rattle.player.specs.Transcript.{AreResponses, Going}
use Rattle.console.proofs.Cited.{Appends-none, then_more}
use Rattle.player.proofs.HintedLines.{hint_is}
use Rattle.player.proofs.ReadLines.{none_yet, line_came, all_came, came_of}
use Rattle.player.proofs.ToldPlays.{begins_told, ends_told, goes_on_told, last_told, near, nearly_told, unread_told}
use Rattle.player.proofs.WrittenPlay.{brings_more, no_line, stopped, not_stopped, ended, broken}
use Rattle.player.proofs.turns.play_on.Goals as goal

pub loop-init : goal.loop-init
loop-init g c =
    let game = g.P.Play.game c.args.play.now in
    let at = g.P.Play.at c.args.play.now in
    record {
      said = [];
      text = [];
      come = rw c.new-lines.ensures (none_yet _);
      few = refl;
      brought = (refl, rw c.requires.fresh refl);
      written = Appends-none _;
      same = refl;
      requests = omega (arith, c.requires.fresh);
      empty = c.requires.empty;
      reader = c.requires.reader_ready;
      ended = rw c.new-lines.ensures c.requires.reader_unended;
      writer = c.requires.writer_ready;
      told = greeting_if c.args.shows game ++ c.prompt.ensures.0;
      tells = rw c.requires.fresh (begins_told game at 0 c.args.shows c.prompt.ensures.0 c.prompt.ensures.1);
      more = then_more g.E.Sink.contents g.E.Sink.has_failed c.args.errors.now c.greet.new.errors c.prompt.new.errors
          (greeting_if c.args.shows game) c.prompt.ensures.0 c.greet.ensures c.prompt.ensures.2;
    }

pub returns-in_err-meaning-clause-fault : goal.returns-in_err-meaning-clause-fault
returns-in_err-meaning-clause-fault g c =
    let i = c.loop.invariant in
    let p = err_from_is_err_and c.from_residual.result c.from_residual.ensures.1 in
    rw (p.1, p.2)
    (no_line (AreResponses (g.P.Play.game c.args.play.now) (Going (g.P.Play.at c.args.play.now) 0))
    _ _ _ _ i.said c.loop.lines i.text _ _ c.in_err-meaning.field-0.0 i.brought i.written i.come
    (omega (arith, i.few, c.loop-test.true)) c.in_err-meaning.ensures.fault)

pub returns-in_default-clause-ok : goal.returns-in_default-clause-ok
returns-in_default-clause-ok g c =
    let i = c.loop.invariant in
    let gives = rw c.in_default.is at c.in_ok-meaning.ensures.line in
    stopped (AreResponses (g.P.Play.game c.args.play.now) (Going (g.P.Play.at c.args.play.now) 0)) _ _ _ _ i.said
    i.text _ _ i.brought i.written (Ok c.in_ok-end.end)
    (all_came _ _ _ i.said _ _ (omega
    (arith, i.few, c.loop-test.true)) i.come gives) c.in_ok-end.ensures.end c.in_ok-end.ensures.written

pub returns-in_err-end-clause-fault : goal.returns-in_err-end-clause-fault
returns-in_err-end-clause-fault g c =
    let i = c.loop.invariant in
    let gives = rw c.in_default.is at c.in_ok-meaning.ensures.line in
    let p = err_from_is_err_and c.from_residual-in_err-end.result c.from_residual-in_err-end.ensures.1 in
    rw (p.1, p.2)
    (not_stopped (AreResponses (g.P.Play.game c.args.play.now) (Going (g.P.Play.at c.args.play.now) 0)) _ _ _ _ i.said
    i.text _ _ i.brought i.written (Err c.in_err-end.field-0.0)
    (all_came _ _ _ i.said _ _ (omega (arith, i.few, c.loop-test.true)) i.come gives) c.in_err-end.ensures.fault)

pub returns-in_err-end-2-clause-fault : goal.returns-in_err-end-2-clause-fault
returns-in_err-end-2-clause-fault g c =
    let i = c.loop.invariant in
    let next = line_came _ _ _ i.said _ _ _ i.come (rw c.in-Some.is at c.in_ok-meaning.ensures.line) in
    let fails = rw i.same at c.in_err-end-2.ensures.fault in
    let p = err_from_is_err_and c.from_residual-in_err-end-2.result c.from_residual-in_err-end-2.ensures.1 in
    rw (p.1, p.2)
    (broken (AreResponses (g.P.Play.game c.args.play.now) (Going (g.P.Play.at c.args.play.now) 0))
    _ _ _ _ i.said i.text _ _ i.brought i.written _ _ next (omega (arith, i.few, c.loop-test.true))
    (IsResponseToMeaning (g.P.Play.game c.args.play.now) (Going (g.P.Play.at c.loop.play)
    (g.P.Play.requests c.loop.play)) _)
    (λ said to says. brings_more _ _ i.said next.line i.text said _ to i.brought (says next.line next.spells))
    c.in_err-end-2.field-0.0 fails)

pub returns-in-Some-end-clause-ok : goal.returns-in-Some-end-clause-ok
returns-in-Some-end-clause-ok g c =
    let i = c.loop.invariant in
    let next = line_came _ _ _ i.said _ _ _ i.come (rw c.in-Some.is at c.in_ok-meaning.ensures.line) in
    let wrote = rw (i.same, c.in-Some-end.is) at c.in_ok-end-2.ensures.written in
    ended (AreResponses (g.P.Play.game c.args.play.now) (Going (g.P.Play.at c.args.play.now) 0)) _ _ _ _ i.said
    i.text _ _ i.written next (omega (arith, i.few, c.loop-test.true))
    c.in-Some-end.end wrote.0
    (brings_more _ _ i.said next.line i.text wrote.0 _ _ i.brought (wrote.2 next.line next.spells)) wrote.1

pub loop-preserved : goal.loop-preserved
loop-preserved g c =
    let i = c.loop.invariant in
    let game = g.P.Play.game c.args.play.now in
    let next = line_came _ _ _ i.said _ _ _ i.come (rw c.in-Some.is at c.in_ok-meaning.ensures.line) in
    let wrote = rw (i.same, c.in_default-end.is) at c.in_ok-end-2.ensures.written in
    let replies = wrote.2 next.line next.spells in
    let prompt = c.prompt-in-loop.ensures in
    let hint = hint_there c.args.shows next.line in
    let blank = rw (hint_is c.args.shows c.in-Some.meaning next.line next.spells) at c.tell_blank.ensures in
    let same = c.in_ok-end-2.ensures.game ∙ i.same in
    record {
      said = i.said ++ next.line ∷ [];
      text = i.text ++ wrote.0;
      come = next.come;
      few = length_push i.said next.line ∙ ap (λ n. n + 1) i.few;
      brought = brings_more _ _ i.said next.line i.text wrote.0 _ _ i.brought replies;
      written = Appends-trans _ _ _ i.text wrote.0 i.written wrote.1;
      same = same;
      requests = omega (arith, length_push i.said next.line, i.requests, c.in_ok-end-2.ensures.count);
      empty = c.in_ok-end-2.ensures.empty;
      reader = c.in_ok-meaning.ensures.unfailed;
      ended = c.in_ok-meaning.ensures.ended;
      writer = c.in_ok-end-2.ensures.unfailed;
      told = i.told ++ (hint ++ prompt.0);
      tells = goes_on_told game _ 0 c.args.shows i.told prompt.0 i.said next.line i.text wrote.0 _ _ _ _ i.tells replies
          (subst (λ h. IsToldHere c.args.shows h (g.P.Play.at c.answer_line.new.play) prompt.0) same prompt.1);
      more = then_more g.E.Sink.contents g.E.Sink.has_failed c.args.errors.now c.loop.errors c.prompt-in-loop.new.errors
          i.told (hint ++ prompt.0) i.more
          (then_more g.E.Sink.contents g.E.Sink.has_failed c.loop.errors c.tell_blank.new.errors
          c.prompt-in-loop.new.errors hint prompt.0 blank prompt.2);
    }

pub returns-clause-fault : goal.returns-clause-fault
returns-clause-fault g c =
    let i = c.loop.invariant in (
      i.said,
      c.loop.lines.bytes,
      i.text,
      _,
      _,
      came_of _ i.said c.loop.lines (omega (arith, i.few, c.loop.auto.counter-end)) i.come,
      inl (omega (arith, i.few, c.loop-test.false, c.loop.auto.counter-end)),
      i.brought,
      i.written,
    )

-- ---- what was told

pub returns-in_err-meaning-clause-told : goal.returns-in_err-meaning-clause-told
returns-in_err-meaning-clause-told g c =
    let i = c.loop.invariant in
    let p = err_from_is_err_and c.from_residual.result c.from_residual.ensures.1 in (
      i.told,
      rw (p.1, p.2) (record {
        ok = tt;
        fault = unread_told
            (told_from c.args.shows (g.P.Play.game c.args.play.now) (Going (g.P.Play.at c.args.play.now) 0)) _ _ _ _
            i.said c.loop.lines i.text _ _ i.told
            c.in_err-meaning.field-0.0 i.tells i.written i.come (omega (arith, i.few, c.loop-test.true))
            c.in_err-meaning.ensures.fault;
      }),
      i.more,
    )

pub returns-in_default-clause-told : goal.returns-in_default-clause-told
returns-in_default-clause-told g c =
    let i = c.loop.invariant in
    let gives = rw c.in_default.is at c.in_ok-meaning.ensures.line in
    let came = all_came _ _ _ i.said _ _ (omega (arith, i.few, c.loop-test.true)) i.come gives in
    let game = g.P.Play.game c.args.play.now in
    let Tells = (told_from c.args.shows game (Going (g.P.Play.at c.args.play.now) 0)).Tells in
    let end = c.in_ok-end.end in
    let last = c.tell_last.ensures in
    let value = rw i.same at c.start_value.ensures in (
      i.told ++ last.0,
      record {
        ok = (
          i.told,
          last.0,
          stopped (Tells i.told) _ _ _ _ i.said i.text _ _ i.tells i.written (Ok end) came c.in_ok-end.ensures.end
              c.in_ok-end.ensures.written,
          last_told c.args.shows game c.start_value.result end last.0 value last.1,
          refl,
        );
        fault = tt;
      },
      then_more g.E.Sink.contents g.E.Sink.has_failed c.args.errors.now c.loop.errors c.tell_last.new.errors i.told
          last.0
          i.more last.2,
    )

pub returns-in_err-end-clause-told : goal.returns-in_err-end-clause-told
returns-in_err-end-clause-told g c =
    let i = c.loop.invariant in
    let gives = rw c.in_default.is at c.in_ok-meaning.ensures.line in
    let came = all_came _ _ _ i.said _ _ (omega (arith, i.few, c.loop-test.true)) i.come gives in
    let p = err_from_is_err_and c.from_residual-in_err-end.result c.from_residual-in_err-end.ensures.1 in
    let telling = told_from c.args.shows (g.P.Play.game c.args.play.now) (Going (g.P.Play.at c.args.play.now) 0) in
    let fault = c.in_err-end.field-0.0 in (
      i.told,
      rw (p.1, p.2) (record {
        ok = tt;
        fault = near telling _ _ _ i.told _ fault c.in_err-end.ensures.fault
            (not_stopped (NearlyTells telling _ i.told) _ _ _ _ i.said i.text _ _
            (inl i.tells) i.written (Err fault) came c.in_err-end.ensures.fault);
      }),
      i.more,
    )

pub returns-in_err-end-2-clause-told : goal.returns-in_err-end-2-clause-told
returns-in_err-end-2-clause-told g c =
    let i = c.loop.invariant in
    let next = line_came _ _ _ i.said _ _ _ i.come (rw c.in-Some.is at c.in_ok-meaning.ensures.line) in
    let fails = rw i.same at c.in_err-end-2.ensures.fault in
    let p = err_from_is_err_and c.from_residual-in_err-end-2.result c.from_residual-in_err-end-2.ensures.1 in
    let game = g.P.Play.game c.args.play.now in
    let telling = told_from c.args.shows game (Going (g.P.Play.at c.args.play.now) 0) in (
      i.told,
      rw (p.1, p.2) (record {
        ok = tt;
        fault = near telling _ _ _ i.told _ c.in_err-end-2.field-0.0 fails
            (broken (NearlyTells telling _ i.told) _ _ _ _ i.said i.text _ _ (inl i.tells) i.written _ _ next
            (omega (arith, i.few, c.loop-test.true))
            (IsResponseToMeaning game (Going (g.P.Play.at c.loop.play) (g.P.Play.requests c.loop.play)) _)
            (λ said to says. nearly_told game _ 0 c.args.shows _ i.told i.said next.line i.text said _ _ to i.brought
            i.tells
            (says next.line next.spells))
            c.in_err-end-2.field-0.0 fails);
      }),
      i.more,
    )

pub returns-in-Some-end-clause-told : goal.returns-in-Some-end-clause-told
returns-in-Some-end-clause-told g c =
    let i = c.loop.invariant in
    let next = line_came _ _ _ i.said _ _ _ i.come (rw c.in-Some.is at c.in_ok-meaning.ensures.line) in
    let wrote = rw (i.same, c.in-Some-end.is) at c.in_ok-end-2.ensures.written in
    let game = g.P.Play.game c.args.play.now in
    let Tells = (told_from c.args.shows game (Going (g.P.Play.at c.args.play.now) 0)).Tells in
    let last = c.tell_last-in-Some-end.ensures in
    let value = rw (c.in_ok-end-2.ensures.game, i.same) at c.start_value-in-Some-end.ensures in
    let hint = hint_there c.args.shows next.line in
    let blank = rw (hint_is c.args.shows c.in-Some.meaning next.line next.spells) at c.tell_blank.ensures in (
      (i.told ++ hint) ++ last.0,
      record {
        ok = (
          i.told ++ hint,
          last.0,
          ended (Tells (i.told ++ hint)) _ _ _ _ i.said i.text _ _ i.written next
              (omega (arith, i.few, c.loop-test.true)) c.in-Some-end.end wrote.0
              (ends_told game _ 0 c.args.shows i.told i.said next.line i.text wrote.0 _ _ _ i.tells
              (wrote.2 next.line next.spells)) wrote.1,
          last_told c.args.shows game c.start_value-in-Some-end.result c.in-Some-end.end last.0 value last.1,
          refl,
        );
        fault = tt;
      },
      then_more g.E.Sink.contents g.E.Sink.has_failed c.args.errors.now c.tell_blank.new.errors
          c.tell_last-in-Some-end.new.errors (i.told ++ hint) last.0
          (then_more g.E.Sink.contents g.E.Sink.has_failed c.args.errors.now c.loop.errors c.tell_blank.new.errors
          i.told hint i.more blank) last.2,
    )

pub returns-clause-told : goal.returns-clause-told
returns-clause-told g c =
    let i = c.loop.invariant in (
      i.told,
      record {
        ok = tt;
        fault = (
          i.said,
          c.loop.lines.bytes,
          i.text,
          _,
          _,
          came_of _ i.said c.loop.lines (omega (
            arith,
            i.few,
            c.loop.auto.counter-end,
          )) i.come,
          inl (omega (arith, i.few, c.loop-test.false, c.loop.auto.counter-end)),
          i.tells,
          i.written,
        );
      },
      i.more,
    )
