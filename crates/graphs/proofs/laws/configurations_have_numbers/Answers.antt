use Rattle.graphs.proofs.ConfigurationNumbers.{number-below, number-value, configuration-is, number-again}
use Rattle.graphs.proofs.laws.configurations_have_numbers.Goals as goal

pub returns-clause-below : goal.returns-clause-below
returns-clause-below c = λ n configuration is ok. number-below n is configuration ok

pub returns-clause-value : goal.returns-clause-value
returns-clause-value c = λ n configuration value is ok. number-value n is configuration ok value

pub returns-clause-configuration : goal.returns-clause-configuration
returns-clause-configuration c = λ n x is low. configuration-is n is x low

pub returns-clause-number : goal.returns-clause-number
returns-clause-number c = λ n x is low. number-again n is x low
