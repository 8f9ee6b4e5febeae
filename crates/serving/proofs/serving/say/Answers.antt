use Rattle.serving.proofs.ErrorTexts.{explained}
use Rattle.serving.proofs.serving.say.Goals as goal

pub returns : goal.returns
returns g c =
    explained g.E.Sink.contents g.E.Sink.has_failed c.args.explains c.args.errors.now c.write_more.new.writer
    c.write_note.new.errors c.args.text.now c.if-not-explains.false c.write_more.ensures c.write_note.ensures
