use Rattle.std.proofs.Common.{◌/◌, ◌==◌, rules, tests}
use Rattle.std.proofs.lemmas.Iterator.{YieldsList-from_slice}
use Rattle.std.proofs.lemmas.Iterator.Search.{any_from_yields_List}
use Rattle.nested_cycles.proofs.CopyCases.{some_is_in}
use Rattle.nested_cycles.proofs.copies.has_word_in.Goals as goal

pub returns : goal.returns
returns c =
    some_is_in (λ word. word / c.args.size) c.args.digit c.args.words.now c.any.result
    (any_from_yields_List (λ word. word / c.args.size == c.args.digit) _ _ _ c.any.ensures.ran
    (YieldsList-from_slice c.args.words.now cc) (λ x b q k. search (rules, tests)))
