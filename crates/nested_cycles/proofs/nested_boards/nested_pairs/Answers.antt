use Rattle.std.proofs.Common.{◌≡◌, ℕ, ◌∙◌, sym, ap, Vec, Global}
use Rattle.std.proofs.lemmas.Bool.{false≢true}
use Rattle.nested_cycles.specs.Domination.{labels_of}
use Rattle.nested_cycles.proofs.NestedPairs.{next_pair, no_pair}
use Rattle.nested_cycles.proofs.nested_boards.nested_pairs.Goals as goal
use Rattle.nested_cycles.proofs.nested_boards.nested_pairs.Goals.{then-nested_beats+in_ok-push, else-nested_beats}

pub loop-number-preserved : goal.loop-number-preserved
loop-number-preserved c =
    let count : c.from-count.result ≡ labels_of c.args.levels = c.from-count.ensures ∙ c.requires.labels in
    let so_far = c.loop-number.invariant in
    elim c.if-nested_beats.branch [
      | then-nested_beats+in_ok-push w ↦
          next_pair c.args.levels c.from-count.result c.loop-number.number c.from.result c.from-in-loop-number.result
          c.loop-number.pairs.items c.if-nested_beats.pairs.items count c.loop-number-test.true c.from.ensures
          c.from-in-loop-number.ensures so_far (c.nested_beats.ensures.0 w.if-nested_beats.true)
          (ap (λ (v : Vec (ℕ × ℕ) Global). v.items) w.pairs-is ∙ w.in_ok-push.ensures.items)
      | else-nested_beats w ↦
          no_pair c.args.levels c.from-count.result c.loop-number.number c.from.result c.from-in-loop-number.result
          c.loop-number.pairs.items c.if-nested_beats.pairs.items count c.loop-number-test.true c.from.ensures
          c.from-in-loop-number.ensures so_far
          (λ beats. absurd (false≢true (sym w.if-nested_beats.false ∙ c.nested_beats.ensures.1 beats)))
          (ap (λ (v : Vec (ℕ × ℕ) Global). v.items) w.pairs-is)
    ]
