use Rattle.gap_values.proofs.ClosedBehind.{closed-behind}
use Rattle.gap_values.proofs.rounds.close_open.Goals as goal

pub returns : goal.returns
returns g c = closed-behind c.args.board.now c.args.sets.now c.args.round c.requires.can_close.is_round
    (g.M.RoundMaker.tables_of c.args.maker.now) c.args.end c.args.words.now c.close.new.words c.close.new.told
    c.close.result c.requires.shut c.requires.part.fresh c.close.ensures
