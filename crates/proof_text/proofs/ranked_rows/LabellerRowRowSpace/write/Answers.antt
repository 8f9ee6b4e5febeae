use Rattle.proof_text.proofs.RankedRows.{rank_small}
use Rattle.proof_text.proofs.ranked_rows.LabellerRowRowSpace.write.Goals as goal

pub places_at-places-requires : goal.places_at-places-requires
places_at-places-requires c =
    rank_small c.args.space.now c.args.self.now.at c.pebbles-pebbles.ensures.is_board c.requires.of_board
