use Rattle.std.proofs.Common.{[], inl, inr, refl, sym, ap, ◌∙◌, subst, true≢false}
use Rattle.std.specs.Prelude.{Err}
use Rattle.std.proofs.lemmas.Result.{err_from_is_err_and}
use Rattle.console.proofs.Cited.{none_more}
use Rattle.runs.specs.PlayRun.{run_of_play}
use Rattle.runs.specs.SymmetricRun.{HasNoFewOrbits}
use Rattle.runs.proofs.GivenSymmetries.{given_domain, no_symmetries, no_values}
use Rattle.runs.proofs.PlayFaults.{lines-told, ok_or_err, same_run_fault, writer-told}
use Rattle.runs.proofs.playing.Playing.run_up_to_symmetries.Goals as goal

pub values-requires-clause-given : goal.values-requires-clause-given
values-requires-clause-given g c = λ κs lives.
    (c.in_ok-text.text.items, rw c.as_slice.ensures.value at c.in_ok-symmetries.ensures.found)

pub returns-in_err-text-clause-fault : goal.returns-in_err-text-clause-fault
returns-in_err-text-clause-fault g c =
    let p = err_from_is_err_and c.from_residual-in_err-text.result c.from_residual-in_err-text.ensures.1 in
    rw (p.1, p.2) (inl (
      inr (c.in_ok-board.board, c.in_ok-board.ensures.found, inl c.in_err-text.ensures.fault),
      (refl, refl),
    ))

pub returns-in_err-symmetries-clause-fault : goal.returns-in_err-symmetries-clause-fault
returns-in_err-symmetries-clause-fault g c =
    let p = err_from_is_err_and c.from_residual-in_err-symmetries.result c.from_residual-in_err-symmetries.ensures.1 in
    rw (p.1, p.2) (inl (
      no_symmetries c.args.self.limit _ _ c.in_ok-board.board c.in_ok-board.ensures.found
          c.in_ok-text.text.items c.in_ok-text.ensures.ok c.in_err-symmetries.field-0.0
          (rw c.as_slice.ensures.value at c.in_err-symmetries.ensures.fault),
      (refl, refl),
    ))

pub returns-in_err-values-clause-fault : goal.returns-in_err-values-clause-fault
returns-in_err-values-clause-fault g c =
    let p = err_from_is_err_and c.from_residual-in_err-values.result c.from_residual-in_err-values.ensures.1 in
    rw (p.1, p.2) (inl (
      no_values c.args.self.limit _ _ c.in_ok-board.board c.in_ok-board.ensures.found
          c.in_ok-text.text.items c.in_ok-text.ensures.ok
          c.in_ok-symmetries.symmetries c.in_err-values.field-0.0
          (rw c.as_slice.ensures.value at c.in_ok-symmetries.ensures.found) c.in_err-values.ensures.fault,
      (refl, refl),
    ))

pub returns-in_err-board-clause-prompts : goal.returns-in_err-board-clause-prompts
returns-in_err-board-clause-prompts g c =
    let p = err_from_is_err_and c.from_residual.result c.from_residual.ensures.1 in (
      [],
      rw (p.1, p.2)
          (inl (c.in_err-board.field-0.0, refl, inl (c.in_err-board.ensures.fault, refl), (refl, refl), refl)),
      none_more g.E.Sink.contents g.E.Sink.has_failed c.args.errors.now,
    )

pub returns-in_err-text-clause-prompts : goal.returns-in_err-text-clause-prompts
returns-in_err-text-clause-prompts g c =
    let p = err_from_is_err_and c.from_residual-in_err-text.result c.from_residual-in_err-text.ensures.1 in (
      [],
      rw (p.1, p.2) (inl (
        c.in_err-text.field-0.0,
        refl,
        inr (c.in_ok-board.board, c.in_ok-board.ensures.found, inl c.in_err-text.ensures.fault),
        (refl, refl),
        refl,
      )),
      none_more g.E.Sink.contents g.E.Sink.has_failed c.args.errors.now,
    )

pub returns-in_err-symmetries-clause-prompts : goal.returns-in_err-symmetries-clause-prompts
returns-in_err-symmetries-clause-prompts g c =
    let p = err_from_is_err_and c.from_residual-in_err-symmetries.result c.from_residual-in_err-symmetries.ensures.1 in (
      [],
      rw (p.1, p.2) (inl (
        c.in_err-symmetries.field-0.0,
        refl,
        no_symmetries c.args.self.limit _ _ c.in_ok-board.board c.in_ok-board.ensures.found c.in_ok-text.text.items
            c.in_ok-text.ensures.ok c.in_err-symmetries.field-0.0
            (rw c.as_slice.ensures.value at c.in_err-symmetries.ensures.fault),
        (refl, refl),
        refl,
      )),
      none_more g.E.Sink.contents g.E.Sink.has_failed c.args.errors.now,
    )

pub returns-in_err-values-clause-prompts : goal.returns-in_err-values-clause-prompts
returns-in_err-values-clause-prompts g c =
    let p = err_from_is_err_and c.from_residual-in_err-values.result c.from_residual-in_err-values.ensures.1 in (
      [],
      rw (p.1, p.2) (inl (
        c.in_err-values.field-0.0,
        refl,
        no_values c.args.self.limit _ _ c.in_ok-board.board c.in_ok-board.ensures.found c.in_ok-text.text.items
            c.in_ok-text.ensures.ok c.in_ok-symmetries.symmetries c.in_err-values.field-0.0
            (rw c.as_slice.ensures.value at c.in_ok-symmetries.ensures.found) c.in_err-values.ensures.fault,
        (refl, refl),
        refl,
      )),
      none_more g.E.Sink.contents g.E.Sink.has_failed c.args.errors.now,
    )

pub returns-clause-ok : goal.returns-clause-ok
returns-clause-ok g c = (
  c.in_ok-board.board,
  given_domain c.args.self.limit _ _ c.in_ok-board.board c.in_ok-board.ensures.found
      c.in_ok-text.text.items c.in_ok-text.ensures.ok
      c.in_ok-symmetries.symmetries (rw c.as_slice.ensures.value at c.in_ok-symmetries.ensures.found)
      c.in_ok-values.ensures.few,
  (rw c.new-moves.ensures at c.in_ok-play.ensures.ok, rw c.new-moves.ensures at c.in_ok-play.ensures.value),
)

pub returns-in_err-play-clause-fault : goal.returns-in_err-play-clause-fault
returns-in_err-play-clause-fault g c =
    let p = err_from_is_err_and c.from_residual-in_err-play.result c.from_residual-in_err-play.ensures.1 in
    rw (p.1, p.2) (inr (
      c.in_ok-board.board,
      given_domain c.args.self.limit _ _ c.in_ok-board.board c.in_ok-board.ensures.found
          c.in_ok-text.text.items c.in_ok-text.ensures.ok
          c.in_ok-symmetries.symmetries (rw c.as_slice.ensures.value at c.in_ok-symmetries.ensures.found)
          c.in_ok-values.ensures.few,
      (_, rw c.new-moves.ensures at c.in_err-play.ensures.fault, refl),
    ))

pub returns-in_err-play-clause-streams : goal.returns-in_err-play-clause-streams
returns-in_err-play-clause-streams g c =
    let p = err_from_is_err_and c.from_residual-in_err-play.result c.from_residual-in_err-play.ensures.1 in
    let told = c.in_err-play.ensures.streams in
    let is = p.1 ∙ ap Err p.2 in
    record {
      read = (
        λ failed. elim failed [
          | inl board ↦ absurd (ok_or_err _ _ _ c.in_ok-board.was (c.read_board_up_to.ensures.read.0 board))
          | inr (inl text) ↦ absurd (ok_or_err _ _ _ c.in_ok-text.was (c.read_text.ensures.read.0 text))
          | inr (inr lines) ↦ is ∙ ap Err ((lines-told _ _ _ told _ refl).0 lines)
        ],
        λ fault. inr (inr ((lines-told _ _ _ told _ refl).1 (same_run_fault _ _ (sym is ∙ fault)))),
      );
      write = (
        λ failed. is ∙ ap Err ((writer-told _ _ _ told _ refl).0 failed),
        λ fault. (writer-told _ _ _ told _ refl).1 (same_run_fault _ _ (sym is ∙ fault)),
      );
    }

pub returns-in_err-play-clause-prompts : goal.returns-in_err-play-clause-prompts
returns-in_err-play-clause-prompts g c =
    let p = err_from_is_err_and c.from_residual-in_err-play.result c.from_residual-in_err-play.ensures.1 in
    let told = rw c.new-moves.ensures at c.play.ensures.prompts in (
      told.0,
      rw (p.1, p.2) (inr (
        c.in_ok-board.board,
        given_domain c.args.self.limit _ _ c.in_ok-board.board c.in_ok-board.ensures.found
            c.in_ok-text.text.items c.in_ok-text.ensures.ok
            c.in_ok-symmetries.symmetries (rw c.as_slice.ensures.value at c.in_ok-symmetries.ensures.found)
            c.in_ok-values.ensures.few,
        told.0,
        refl,
        inr ([], told.0, refl, refl, (c.play.result, ap run_of_play (sym c.in_err-play.was), told.1)),
      )),
      told.2,
    )

pub returns-clause-prompts : goal.returns-clause-prompts
returns-clause-prompts g c =
    let told = rw c.new-moves.ensures at c.play.ensures.prompts in (
      told.0,
      inr (
        c.in_ok-board.board,
        given_domain c.args.self.limit _ _ c.in_ok-board.board c.in_ok-board.ensures.found
            c.in_ok-text.text.items c.in_ok-text.ensures.ok
            c.in_ok-symmetries.symmetries (rw c.as_slice.ensures.value at c.in_ok-symmetries.ensures.found)
            c.in_ok-values.ensures.few,
        told.0,
        refl,
        inr ([], told.0, refl, refl, (c.play.result, ap run_of_play (sym c.in_ok-play.was), told.1)),
      ),
      told.2,
    )

pub returns-clause-streams : goal.returns-clause-streams
returns-clause-streams g c =
    let told = c.play.ensures.streams in
    record {
      read = (
        λ failed. elim failed [
          | inl board ↦ absurd (ok_or_err _ _ _ c.in_ok-board.was (c.read_board_up_to.ensures.read.0 board))
          | inr (inl text) ↦ absurd (ok_or_err _ _ _ c.in_ok-text.was (c.read_text.ensures.read.0 text))
          | inr (inr lines) ↦ absurd (ok_or_err _ _ _ c.in_ok-play.was (told.read.0 lines))
        ],
        λ fault. absurd (ok_or_err _ _ _ refl fault),
      );
      write = (
        λ failed. absurd (ok_or_err _ _ _ c.in_ok-play.was (told.write.0 failed)),
        λ fault. absurd (ok_or_err _ _ _ refl fault),
      );
    }

pub returns-in_err-values-clause-streams : goal.returns-in_err-values-clause-streams
returns-in_err-values-clause-streams g c =
    let p = err_from_is_err_and c.from_residual-in_err-values.result c.from_residual-in_err-values.ensures.1 in
    let is = p.1 ∙ ap Err p.2 in
    let found = rw c.as_slice.ensures.value at c.in_ok-symmetries.ensures.found in
    let none = c.in_err-values.ensures.fault c.in_ok-text.text.items found in
    record {
      read = (
        λ failed. elim failed [
          | inl board ↦ absurd (ok_or_err _ _ _ c.in_ok-board.was (c.read_board_up_to.ensures.read.0 board))
          | inr (inl text) ↦ absurd (ok_or_err _ _ _ c.in_ok-text.was (c.read_text.ensures.read.0 text))
          | inr (inr lines) ↦ absurd (true≢false (sym lines ∙ c.requires.lines_ready))
        ],
        λ fault. absurd (subst (HasNoFewOrbits c.in_ok-board.board c.in_ok-text.text.items)
            (same_run_fault _ _ (sym is ∙ fault)) none),
      );
      write = (
        λ failed. absurd (true≢false (sym failed ∙ c.requires.writer_ready)),
        λ fault. absurd (subst (HasNoFewOrbits c.in_ok-board.board c.in_ok-text.text.items)
            (same_run_fault _ _ (sym is ∙ fault)) none),
      );
    }
