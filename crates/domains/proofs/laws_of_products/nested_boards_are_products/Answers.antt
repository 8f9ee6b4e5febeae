use Rattle.domains.proofs.ExactCounts.{nested_carries_exactly}
use Rattle.domains.proofs.NestedChains.{nested_carries}
use Rattle.domains.proofs.NestedProducts.{nested_is_product}
use Rattle.domains.proofs.laws_of_products.nested_boards_are_products.Goals as goal

pub returns : goal.returns
returns c = record { product = nested_is_product; carries = nested_carries; exactly = nested_carries_exactly }
