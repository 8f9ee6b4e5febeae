use Rattle.std.proofs.Common.{List, ℕ, ◌≡◌, suc, ◌+◌, ◌<◌, ◌↔◌, true, sym, subst, arith}
use Rattle.board_text.specs.PlainBoard.{PlainBoard, DominatesPlace, places}
use Rattle.board_text.specs.Domination.{has_bit}
use Rattle.classes.specs.Numbers.{ways}
use Rattle.classes.proofs.LongerLists.{AreRowsBelow, in-fewer, rows-none, rows-more, rows-next, rows-end}
use Rattle.classes.proofs.class_numbers.ClassNumbers.longer_rows.Goals as goal

pub loop-greatest-init : goal.loop-greatest-init
loop-greatest-init c = rows-none c.args.self.now c.args.count c.new-more.result.items c.new-more.ensures.items

pub bounds-fewer-class : goal.bounds-fewer-class
bounds-fewer-class c =
    let low = in-fewer (places c.args.self.now) c.args.count c.loop-greatest.greatest c.loop-class.class
    (omega (arith, c.loop-greatest-test.true, c.places-greatest-end.ensures.value))
    (omega (arith, c.loop-class-test.true, c.ways-class-end.ensures.value)) in
    omega (arith, low.1, c.requires.rows.size)

pub loop-class-preserved : goal.loop-class-preserved
loop-class-preserved c =
    let board = c.args.self.now in
    let greatest = c.loop-greatest.greatest in
    let highest : greatest < places board =
    omega (arith, c.loop-greatest-test.true, c.places-greatest-end.ensures.value) in
    let low = in-fewer (places board) c.args.count greatest c.loop-class.class highest
    (omega (arith, c.loop-class-test.true, c.ways-class-end.ensures.value)) in
    subst (AreRowsBelow board (suc c.args.count) (ways (suc c.args.count) greatest + (c.loop-class.class + 1)))
    (sym {A = List (List ℕ)} c.in_ok-push.ensures.items)
    (rows-more board c.args.count greatest c.loop-class.class c.args.fewer.now c.loop-class.more.items
    c.index-fewer-class.result c.beating.result highest low.0
    c.requires.rows c.loop-class.invariant c.index-fewer-class.is
    (λ x small. subst (λ (b : PlainBoard). (has_bit c.beating.result x ≡ true)
    ↔ ((has_bit c.index-fewer-class.result x ≡ true) × DominatesPlace b x greatest))
    (sym {A = PlainBoard} c.requires.same_board) (c.beating.ensures x small)))

pub loop-greatest-preserved : goal.loop-greatest-preserved
loop-greatest-preserved c =
    let all : c.loop-class.class ≡ ways c.args.count (c.loop-greatest.greatest + 1) =
    (let end = c.loop-class.auto.class-end in let past = c.loop-class-test.false in
    omega (arith, c.ways-class-end.ensures.value)) in
    rows-next c.args.self.now c.args.count c.loop-greatest.greatest c.loop-class.class (c.loop-greatest.greatest + 1)
    c.loop-class.more.items all (omega arith) c.loop-class.invariant

pub returns : goal.returns
returns c =
    let all : c.loop-greatest.greatest ≡ places c.args.self.now =
    (let end = c.loop-greatest.auto.greatest-end in let past = c.loop-greatest-test.false in
    omega (arith, c.places-greatest-end.ensures.value)) in
    rows-end c.args.self.now (suc c.args.count) c.loop-greatest.more.items
    (subst (λ n. AreRowsBelow c.args.self.now (suc c.args.count) (ways (suc c.args.count) n) c.loop-greatest.more.items)
    all c.loop-greatest.invariant)
