use Rattle.domains.proofs.ProductData.{one_product, product_exists, products_agree}
use Rattle.domains.proofs.laws_of_products.products_exist.Goals as goal

pub returns : goal.returns
returns c = record { exist = product_exists; agree = products_agree; one = one_product }
