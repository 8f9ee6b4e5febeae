use Rattle.std.proofs.Common.{◌*◌, length, ap, ◌∙◌, sym, subst, bit_and, get_or, arith, suc}
use Rattle.std.proofs.lemmas.List.{length_push}
use Rattle.positions.specs.Inside.Tuples.{AreTupleWords}
use Rattle.positions.proofs.TupleWords.{one_more_word, all_places}
use Rattle.positions.proofs.column.with_one_more.Goals as goal

pub loop-word-preserved : goal.loop-word-preserved
loop-word-preserved c =
    let i = c.loop-word.invariant in
    let pushed = c.push_reserved.ensures.items in
    record {
      words = λ count all. subst (AreTupleWords c.args.board.now c.args.number (suc count)) (sym pushed)
          (one_more_word c.args.board.now c.args.number count c.args.fewer.now c.loop-word.more.items c.loop-place.place
          c.loop-word.word-index c.word_beating-beating.result
          all (i.words count all) i.size (omega arith) c.word_beating-beating.ensures);
      size = ap length pushed ∙ length_push c.loop-word.more.items
          (bit_and (get_or c.args.fewer.now c.loop-word.word-index 0) c.word_beating-beating.result)
          ∙ (let before = i.size in omega arith);
      room = (let before = i.room in omega (arith, c.push_reserved.ensures.capacity));
    }

pub returns : goal.returns
returns c = λ count all.
    let i = c.loop-place.invariant in
    all_places c.args.board.now c.args.number count c.args.fewer.now c.loop-place.more.items all (i.words count all)
    (i.size ∙ ap (λ n. n * length c.args.fewer.now)
    (let past = c.loop-place-test.false in let end = c.loop-place.auto.place-end in
    omega (arith, c.places-places.ensures.value)))
