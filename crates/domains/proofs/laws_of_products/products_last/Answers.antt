use Rattle.domains.proofs.ProductBoards.{product_lasts}
use Rattle.domains.proofs.laws_of_products.products_last.Goals as goal

pub returns : goal.returns
returns c = λ outer inner board outer_count inner_count copy configuration product outer_dominated
    inner_dominated more held is_copy below depth.
    product_lasts outer inner board outer_count inner_count depth copy configuration product outer_dominated
    inner_dominated more held is_copy below
