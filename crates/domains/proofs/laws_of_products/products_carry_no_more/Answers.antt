use Rattle.domains.proofs.BothWays.{both_ways}
use Rattle.domains.proofs.ExactCounts.{product_carries_exactly, several_carry_exactly}
use Rattle.domains.proofs.ProductLimits.{outer_lasts_too, product_ends}
use Rattle.domains.proofs.laws_of_products.products_carry_no_more.Goals as goal

pub returns : goal.returns
returns c = record {
  outer_lasts = outer_lasts_too;
  end = product_ends;
  exactly = product_carries_exactly;
  several = several_carry_exactly;
  both_ways = both_ways;
}
