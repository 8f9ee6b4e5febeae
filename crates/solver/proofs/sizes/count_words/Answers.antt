use Rattle.std.proofs.Common.{◌≡◌, ◌<◌, ◌+◌, ◌==◌, ◌∙◌, ℕ, Bool, List, length, suc, arith, sym, ap, subst, refl}
use Rattle.std.proofs.Common.{slice_index, slice_set, length-set}
use Rattle.graphs.specs.Graph.{count_below}
use Rattle.graphs.proofs.Cited.{count_below-bound}
use Rattle.solver.specs.Inside.Tables.{is_open}
use Rattle.solver.specs.Inside.Values.{AreWordCounts}
use Rattle.solver.proofs.ListedWords.{valued_word}
use Rattle.solver.proofs.RankValues.{counts-add, counts-skip, open-add, open-skip}
use Rattle.solver.proofs.sizes.count_words.Goals as goal
use Rattle.solver.proofs.sizes.count_words.Goals.{then-word, else-word}

pub loop-number-init : goal.loop-number-init
loop-number-init c = record { wide = refl; counts = c.requires.zeros; forever = refl }

pub overflow_add-forever : goal.overflow_add-forever
overflow_add-forever c =
    let few = count_below-bound c.loop-number.number (is_open c.args.words.now) in
    let so_far = c.loop-number.invariant.forever in
    omega (arith, few, so_far, c.loop-number-test.true, c.requires.few)

-- the word of a number that has a value is the index of a size
low-word : (words sizes before : List ℕ) (k : ℕ)
    → ((x : ℕ) → x < length words → is_open words x ≡ Bool.false → slice_index words x < length before)
    → length sizes ≡ length before → k < length words → (slice_index words k ≡ 4294967295 → ⊥)
    → slice_index words k < length sizes
low-word words sizes before k inside wide low valued =
    subst (λ n. slice_index words k < n) (sym wide) (inside k low (valued_word words k valued))

pub overflow_add-sizes : goal.overflow_add-sizes
overflow_add-sizes c =
    let words : List ℕ = c.args.words.now in
    let k : ℕ = c.loop-number.number in
    let low = low-word words c.loop-number.sizes _ k c.requires.inside c.loop-number.invariant.wide
    c.loop-number-test.true c.if-word.false in
    let so_far = c.loop-number.invariant.counts (slice_index words k) low in
    let few = count_below-bound k (λ x. slice_index words x == slice_index words k) in
    omega (arith, so_far, few, c.loop-number-test.true, c.requires.few)

pub loop-number-preserved : goal.loop-number-preserved
loop-number-preserved c =
    let words : List ℕ = c.args.words.now in
    let k : ℕ = c.loop-number.number in
    let next : suc k ≡ k + 1 = omega arith in
    elim c.if-word.branch [
      | then-word w ↦ rw (w.sizes-is, w.forever-is) (record {
        wide = c.loop-number.invariant.wide;
        counts = subst (λ m. AreWordCounts words m c.loop-number.sizes) next
            (counts-skip words c.loop-number.sizes k w.if-word.true
            (let small = c.requires.small in let wide = c.loop-number.invariant.wide in
            omega arith) c.loop-number.invariant.counts);
        forever = ap (λ n. n + 1) c.loop-number.invariant.forever ∙ sym (open-add words k w.if-word.true)
            ∙ ap (λ m. count_below m (is_open words)) next;
      })
      | else-word w ↦
          let low = low-word words c.loop-number.sizes _ k c.requires.inside c.loop-number.invariant.wide
          c.loop-number-test.true w.if-word.false in
          rw (w.sizes-is, w.forever-is) (record {
            wide = length-set c.loop-number.sizes (slice_index words k) _ ∙ c.loop-number.invariant.wide;
            counts = subst (λ m. AreWordCounts words m
                (slice_set c.loop-number.sizes (slice_index words k)
                (slice_index c.loop-number.sizes (slice_index words k) + 1))) next
                (counts-add words c.loop-number.sizes k low c.loop-number.invariant.counts);
            forever = c.loop-number.invariant.forever ∙ sym (open-skip words k w.if-word.false)
                ∙ ap (λ m. count_below m (is_open words)) next;
          })
    ]
