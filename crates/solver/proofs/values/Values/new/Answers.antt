use Rattle.std.proofs.Common.{◌≡◌, ◌<◌, ◌∙◌, ℕ, List, false, length, drop, slice_index, ap, sym, subst, arith}
use Rattle.std.proofs.lemmas.List.{take_at}
use Rattle.graphs.specs.Graph.{count_below}
use Rattle.solver.specs.Inside.Tables.{is_open}
use Rattle.solver.specs.Inside.Values.{AreSizes, AreWordCounts}
use Rattle.solver.proofs.RankValues.{open-inside, sized, words-fit}
use Rattle.solver.proofs.values.Values.new.Goals as goal

pub count_words-forever-requires-clause-inside : goal.count_words-forever-requires-clause-inside
count_words-forever-requires-clause-inside c =
    subst (λ (l : List ℕ). (x : ℕ) → x < length l → is_open l x ≡ false → slice_index l x < length
    c.deref_mut.result.now) (sym c.deref.ensures.value)
    (open-inside c.args.words.items (length c.deref_mut.result.now)
    (λ x i v.
    let low = c.requires.inside x i v in
    let wide = ap length c.deref_mut.ensures.value ∙ c.zeros-sizes.ensures.size in
    omega (arith, low, wide)))

pub count_words-forever-requires-clause-few : goal.count_words-forever-requires-clause-few
count_words-forever-requires-clause-few c =
    let fit = words-fit c.args.numbers c.args.words.items c.requires.words c.requires.few in
    omega (arith, fit, ap length c.deref.ensures.value)

pub invariant_of-result : goal.invariant_of-result
invariant_of-result c =
    let words : List ℕ = c.args.words.items in
    let sums : List ℕ = c.count_words-forever.new.sizes in
    let e = c.count_words-forever.ensures in
    let wide : length sums ≡ c.args.bound =
    e.size ∙ ap length c.deref_mut.ensures.value ∙ c.zeros-sizes.ensures.size in
    let counts : AreWordCounts words (length words) sums =
    subst (λ (l : List ℕ). AreWordCounts l (length l) sums) c.deref.ensures.value e.counts in
    let forever : c.count_words-forever.result ≡ count_below (length words) (is_open words) =
    e.forever ∙ ap (λ (l : List ℕ). count_below (length l) (is_open l)) c.deref.ensures.value in
    let items = take_at sums (drop (length sums) c.zeros-sizes.result.items) c.zeros-sizes.result.len
    (e.size ∙ c.deref_mut.ensures.len) in
    record {
      is_board = c.requires.is_board;
      valued = c.requires.words;
      sized = subst (λ (l : List ℕ). AreSizes c.args.numbers l c.count_words-forever.result) (sym items)
          (sized c.args.numbers words c.requires.words c.args.bound sums _ c.requires.inside
          (omega arith) wide counts forever);
    }
