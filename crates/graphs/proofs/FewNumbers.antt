-- The numbers of a graph and of the members of all its gaps fit 32 bits.
use Rattle.std.proofs.Common.{◌*◌, ◌<◌, ◌≤◌, arith, mul-le-mul_left}
use Rattle.board_text.specs.PlainBoard.{PlainBoard, IsBoard}
use Rattle.board_text.proofs.Cited.{few_places}
use Rattle.positions.specs.Ranks.{configurations}
use Rattle.positions.specs.declared.space.TheConstants.{MAX_CONFIGURATIONS}
use Rattle.classes.proofs.Cited.{few-of-small}
use Rattle.graphs.specs.Numbered.{Numbered, graph_by, graph_of, GraphNumbering, Ordered, Classes}

few-by : (k : GraphNumbering) (b : PlainBoard) → configurations b ≤ MAX_CONFIGURATIONS
    → (graph_by k b).configurations ≤ MAX_CONFIGURATIONS
unfolding graph_by
few-by Ordered b small = small
few-by Classes b small = few-of-small b small

places-by : (k : GraphNumbering) (b : PlainBoard) → IsBoard b → (graph_by k b).places ≤ 257
unfolding graph_by
places-by Ordered b is = few_places b is
places-by Classes b is = few_places b is

pub numbers-fit : (n : Numbered) → IsBoard n.board → configurations n.board ≤ MAX_CONFIGURATIONS
    → (graph_of n).places * (graph_of n).configurations < 4294967296
numbers-fit n is small =
    let wide = mul-le-mul_left (graph_of n).places (few-by n.numbering n.board small) in
    omega (arith, wide, places-by n.numbering n.board is)
