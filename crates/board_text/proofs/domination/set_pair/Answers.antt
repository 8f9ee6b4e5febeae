use Rattle.board_text.proofs.BitRows.{sets_pair}
use Rattle.board_text.proofs.domination.set_pair.Goals as goal

pub returns : goal.returns
returns c = sets_pair c.args.labels c.args.rows.now c.args.x c.args.y c.requires.few c.requires.sized c.requires.pair
