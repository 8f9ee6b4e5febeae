use Rattle.domains.proofs.NestedChains.{nested_chains, nested_lists}
use Rattle.domains.proofs.ProductChains.{product_chains}
use Rattle.domains.proofs.laws_of_chains.products_dominate_chains.Goals as goal

pub returns : goal.returns
returns c = record {
  chains = λ outer inner board outer_count inner_count product.
      product_chains outer inner board product outer_count inner_count;
  nested = nested_chains;
  lists = nested_lists;
}
