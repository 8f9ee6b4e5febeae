use Rattle.strategies.proofs.OneSide.{breaks_no_rule_for, breaks_no_rule_up_to_for, class_form_for, form_for, holds_for}
use Rattle.strategies.proofs.OneSide.{shows_for, symmetry_form_for}
use Rattle.strategies.proofs.laws_of_sides.one_side_shows_its_part.Goals as goal

pub returns-clause-shows : goal.returns-clause-shows
returns-clause-shows c = shows_for

pub returns-clause-holds : goal.returns-clause-holds
returns-clause-holds c = holds_for

pub returns-clause-rules : goal.returns-clause-rules
returns-clause-rules c = λ positions board proof value claim. breaks_no_rule_for board proof value claim positions

pub returns-clause-form : goal.returns-clause-form
returns-clause-form c = form_for

pub returns-clause-class_form : goal.returns-clause-class_form
returns-clause-class_form c = class_form_for

pub returns-clause-symmetry_rules : goal.returns-clause-symmetry_rules
returns-clause-symmetry_rules c = breaks_no_rule_up_to_for

pub returns-clause-symmetry_form : goal.returns-clause-symmetry_form
returns-clause-symmetry_form c = symmetry_form_for
