use Rattle.std.proofs.Common.{◌≡◌, ◌∙◌, ◌+◌, ℕ, List, suc, drop, get_or, length, ap, arith}
use Rattle.std.proofs.Math.Seq.{drop-cons, drop-length}
use Rattle.classes.specs.ClassGaps.{index_in}
use Rattle.classes.proofs.Cited.{index-here, index-none, index-past}
use Rattle.gap_values.proofs.closing.index_of.Goals as goal

pub loop-index-preserved : goal.loop-index-preserved
loop-index-preserved c =
    let class = c.args.class.now in
    let index = c.loop-index.index in
    let rest : List ℕ = drop (suc index) class in
    let here : index_in c.args.place (drop index class) ≡ suc (index_in c.args.place rest) =
    ap (index_in c.args.place) (drop-cons class index 0 c.loop-index-test.true)
    ∙ index-past c.args.place (get_or class index 0) rest c.if-place-class.true in
    let next : index_in c.args.place rest ≡ index_in c.args.place (drop (index + 1) class) =
    ap (λ n. index_in c.args.place (drop n class)) (let one : suc index ≡ index + 1 = omega arith in one) in
    (omega (arith, c.loop-index-test.true), omega (arith, c.loop-index.invariant.1, here, next))

pub returns-else-place-class : goal.returns-else-place-class
returns-else-place-class c =
    let class = c.args.class.now in
    let index = c.loop-index.index in
    let here : index_in c.args.place (drop index class) ≡ 0 =
    ap (index_in c.args.place) (drop-cons class index 0 c.loop-index-test.true)
    ∙ index-here c.args.place (get_or class index 0) (drop (suc index) class) c.if-place-class.false in
    omega (arith, c.loop-index.invariant.1, here)

pub returns-after-loop-index : goal.returns-after-loop-index
returns-after-loop-index c =
    let class = c.args.class.now in
    let end : c.loop-index.index ≡ length class = omega (arith, c.loop-index.invariant.0, c.loop-index-test.false) in
    let none : index_in c.args.place (drop c.loop-index.index class) ≡ 0 =
    ap (λ n. index_in c.args.place (drop n class)) end ∙ ap (index_in c.args.place) (drop-length class)
    ∙ index-none c.args.place in
    omega (arith, c.loop-index.invariant.1, none)
