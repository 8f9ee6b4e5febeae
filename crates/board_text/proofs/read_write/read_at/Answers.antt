use Rattle.std.proofs.Common.{arith, length-take-le}
use borrow.Rule.Slice.PartMut.{take_put}
use Rattle.board_text.proofs.StreamMoves.{read_in_place}
use Rattle.board_text.proofs.read_write.read_at.Goals as goal

pub returns-clause-front : goal.returns-clause-front
returns-clause-front g c = take_put _ _ c.args.bytes.now _ (omega (arith, c.requires.inside))

pub returns-clause-given : goal.returns-clause-given
returns-clause-given g c =
    read_in_place _ _ c.read.result _ c.read.new.into _ c.args.at
    (length-take-le _ c.args.bytes.now (omega (arith, c.requires.inside))) c.read.ensures.bound c.read.ensures.bytes
