use Rattle.std.proofs.Common.{rules, ◌-◌, ap, ◌∙◌, sym, ◌++◌, string_bytes, arith}
use Rattle.std.proofs.lemmas.Result.{on_ok_weaker}
use Rattle.player.proofs.NestedTexts.{dot_text, some_text}
use Rattle.player.proofs.nested_writing.write_word.Goals as goal

pub returns-then-levels-eq1 : goal.returns-then-levels-eq1
returns-then-levels-eq1 c = rw (dot_text (c.args.levels - 1) c.args.word (omega arith)) (search rules)

pub returns : goal.returns
returns c =
    on_ok_weaker c.write_digits.result
    (λ written. written ∙ ap (λ l. string_bytes c.args.text.now ++ l)
    (sym (some_text (c.args.levels - 1) (c.args.levels - 1 - 1) c.args.word (omega arith)))) c.write_digits.ensures
