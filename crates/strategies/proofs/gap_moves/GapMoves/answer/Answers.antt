use Rattle.std.proofs.Common.{Some, None}
use Rattle.strategies.proofs.GapAnswers.{best_is_none}
use Rattle.strategies.proofs.gap_moves.GapMoves.answer.Goals as goal

pub returns-in_err-best : goal.returns-in_err-best
returns-in_err-best g c =
    let is = c.in_err-best.ensures in
    rw c.from_residual.ensures (record {
      best = λ other greatest. is other greatest.legal;
      none = best_is_none c.args.self.now c.args.held.now c.args.pebble None is;
    })

pub returns : goal.returns
returns g c =
    let is = c.in_ok-best.ensures in record {
      best = is.0;
      none = best_is_none c.args.self.now c.args.held.now c.args.pebble (Some c.in_ok-best.best) is;
    }
