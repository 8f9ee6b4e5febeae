use Rattle.std.proofs.Common.{◌++◌, codes, subst, sym}
use Rattle.std.specs.Fmt.{decimal}
use Rattle.console.proofs.Cited.{then_more}
use Rattle.std.proofs.lemmas.List.{append_assoc}
use Rattle.console.specs.Showing.{IsMore}
use Rattle.runs.proofs.notices.write_length.Goals as goal

pub returns : goal.returns
returns g c =
    let known = g.E.Sink.contents in
    let failed = g.E.Sink.has_failed in
    let e0 = c.args.errors.now in
    let e1 = c.write_digits.new.errors in
    let e2 = c.write_more.new.writer in
    let e3 = c.write_digits-2.new.errors in
    let e4 = c.write_more-2.new.writer in
    let first = decimal c.args.count in
    let size = decimal c.args.size in
    let last = codes " labels are gone through" in
    let second = first ++ codes " chains of " in
    let digits = rw c.from.ensures at c.write_digits-2.ensures.digits in
    let to_2 = then_more known failed e0 e1 e2 first (codes " chains of ") c.write_digits.ensures.digits
    c.write_more.ensures in
    let to_3 = then_more known failed e0 e2 e3 second size to_2 digits in
    subst (IsMore known failed e0 e4) (sym (append_assoc (second ++ size) last (codes "\n")))
    (then_more known failed e0 e3 e4 (second ++ size) (last ++ codes "\n") to_3 c.write_more-2.ensures)
