use Rattle.std.proofs.Common.{[], inl, inr, refl}
use Rattle.std.proofs.lemmas.Result.{err_from_is_err_and}
use Rattle.console.proofs.Cited.{none_more}
use Rattle.runs.specs.ChainText.{CannotCountChains, SaysChains}
use Rattle.runs.specs.Run.{bytes_of}
use Rattle.runs.specs.declared.reading.TheConstants.{MAX_BOARD_BYTES}
use Rattle.runs.proofs.FailedRuns.{cut_short_last, nothing_to_write}
use Rattle.runs.proofs.ToldChains.{chains_before, chains_then}
use Rattle.runs.proofs.chaining.Chaining.run.Goals as goal

pub returns-in_err-chains-clause-fault : goal.returns-in_err-chains-clause-fault
returns-in_err-chains-clause-fault g c =
    let p = err_from_is_err_and c.from_residual-in_err-chains.result c.from_residual-in_err-chains.ensures.1 in
    let read = bytes_of g.R.Source.remaining c.args.reader.now c.read_text.new.reader in
    let written = bytes_of g.W.Sink.contents c.args.writer.now c.args.writer.now in
    rw (p.1, p.2) (nothing_to_write (SaysChains c.args.self.most) (CannotCountChains c.args.self.most) MAX_BOARD_BYTES
    read written
    c.in_ok-text.text.items c.in_ok-text.ensures.ok c.in_err-chains.field-0.0
    (rw c.as_slice.ensures.value at c.in_err-chains.ensures.fault))

pub returns-clause-fault : goal.returns-clause-fault
returns-clause-fault g c =
    let read = bytes_of g.R.Source.remaining c.args.reader.now c.read_text.new.reader in
    let written = bytes_of g.W.Sink.contents c.args.writer.now c.write_text.new.writer in
    cut_short_last (SaysChains c.args.self.most) (CannotCountChains c.args.self.most) MAX_BOARD_BYTES read written
    c.in_ok-text.text.items c.in_ok-text.ensures.ok
    c.write_text.result tt _ (rw c.as_slice.ensures.value at c.in_ok-chains.ensures.chains)
    (rw c.deref.ensures at c.write_text.ensures.prefix) c.write_text.ensures.fault

pub returns-in_err-text-clause-lengths : goal.returns-in_err-text-clause-lengths
returns-in_err-text-clause-lengths g c =
    let p = err_from_is_err_and c.from_residual.result c.from_residual.ensures.1 in (
      [],
      rw (p.1, p.2) (inr (c.in_err-text.field-0.0, refl, inl c.in_err-text.ensures.fault, refl)),
      none_more g.E.Sink.contents g.E.Sink.has_failed c.args.errors.now,
    )

pub returns-in_err-chains-clause-lengths : goal.returns-in_err-chains-clause-lengths
returns-in_err-chains-clause-lengths g c =
    let p = err_from_is_err_and c.from_residual-in_err-chains.result c.from_residual-in_err-chains.ensures.1 in
    let read = bytes_of g.R.Source.remaining c.args.reader.now c.read_text.new.reader in
    let told = rw c.as_slice.ensures.value at c.chains_of.ensures.lengths in (
      told.0,
      rw (p.1, p.2) (chains_before c.args.self.most read c.in_ok-text.text.items c.in_ok-text.ensures.ok
          c.args.self.shows_lengths told.0 c.chains_of.result told.1 c.in_err-chains.field-0.0 c.in_err-chains.was),
      told.2,
    )

pub returns-clause-lengths : goal.returns-clause-lengths
returns-clause-lengths g c =
    let read = bytes_of g.R.Source.remaining c.args.reader.now c.read_text.new.reader in
    let told = rw c.as_slice.ensures.value at c.chains_of.ensures.lengths in (
      told.0,
      chains_then c.args.self.most read c.in_ok-text.text.items c.in_ok-text.ensures.ok c.args.self.shows_lengths told.0
          c.chains_of.result told.1 c.in_ok-chains.chains c.in_ok-chains.was c.write_text.result,
      told.2,
    )
