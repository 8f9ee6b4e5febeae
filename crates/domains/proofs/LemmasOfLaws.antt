-- The lemmas of each law that has several, which its attribute names as one list.
use Rattle.domains.proofs.Circles.{residues_dominated}
use Rattle.domains.proofs.ComparedValues.{one_value_from_trees, at_most_from_trees}
use Rattle.domains.proofs.EachValue.{trees_from_worth, each_has_value}
use Rattle.domains.proofs.FewestLabels.{three_for_two, seven_for_three}
use Rattle.domains.proofs.Following.{led_lasts}
use Rattle.domains.proofs.Heights.{orders_end, orders_have_at_most, orders_do_not_last}
use Rattle.domains.proofs.LastingProducts.{factors_last}
use Rattle.domains.proofs.LastingTables.{table_from_forever, forever_from_table, finite_below}
use Rattle.domains.proofs.LowestLabels.{lowest}
use Rattle.domains.proofs.NeededLabels.{labels_needed, fewer_end}
use Rattle.domains.proofs.ProductValues.{product_worth}
use Rattle.domains.proofs.ResiduesModuloFortySeven.{forty_seven_dominated}
use Rattle.domains.proofs.ResiduesModuloNineteen.{nineteen_dominated}
use Rattle.domains.proofs.ShownDocuments.{documents_for, claims_of_documents}
use Rattle.domains.proofs.SmallCovers.{sixteen_carry, forty_carry, ninety_six_carry, seven_on_few, eight_on_few}
use Rattle.domains.proofs.SmallCovers.{sixteen_exactly, forty_exactly, ninety_six_exactly}
use Rattle.domains.proofs.SmallDomains.{two_carried, three_carried, cycle_exactly, residues_exactly, products_exactly}
use Rattle.domains.proofs.Withdrawals.{freed_lasts}
use Rattle.positions.proofs.Cited.{same_value}

pub ruleset no_label_is_a_lowest_label_lemmas = (lowest, one_value_from_trees)

pub ruleset claims_hold_where_documents_show_them_lemmas = (documents_for, claims_of_documents)

pub ruleset followers_last_lemmas = (led_lasts, at_most_from_trees)

pub ruleset freed_labels_last_lemmas = (freed_lasts, at_most_from_trees)

pub ruleset products_last_as_their_factors_lemmas = (factors_last, product_worth)

pub ruleset few_labels_carry_many_lemmas = (
  residues_dominated,
  nineteen_dominated,
  forty_seven_dominated,
  two_carried,
  three_carried,
  sixteen_carry,
  forty_carry,
  ninety_six_carry,
  seven_on_few,
  eight_on_few,
  sixteen_exactly,
  forty_exactly,
  ninety_six_exactly,
  cycle_exactly,
  residues_exactly,
  products_exactly,
)

pub ruleset orders_end_lemmas = (orders_end, orders_have_at_most, orders_do_not_last)

pub ruleset processes_need_labels_lemmas = (labels_needed, fewer_end, three_for_two, seven_for_three)

pub ruleset values_compare_as_trees_lemmas = (trees_from_worth, at_most_from_trees, each_has_value, same_value)

pub ruleset for_ever_is_a_closed_table_lemmas = (table_from_forever, forever_from_table, finite_below)
