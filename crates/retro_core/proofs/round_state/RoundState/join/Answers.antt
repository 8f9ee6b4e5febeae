use Rattle.std.proofs.Common.{◌≡◌, ap, sym, ◌∙◌, subst, arith, get_or, List, map, set}
use Rattle.solver.specs.Words.{value_of_word}
use Rattle.retro_core.specs.Round.{PlainSeat, spent_seat, IsLawful, round_of}
use Rattle.retro_core.specs.Stepping.{Joins}
use Rattle.retro_core.proofs.Machine.{seat-read, from_wide, into-read, widths-fit, put-back, joining, allowed}
use Rattle.retro_core.proofs.round_state.RoundState.join.Given.{Over}
use Rattle.retro_core.proofs.round_state.RoundState.join.Goals as goal
use Rattle.retro_core.proofs.round_state.RoundState.join.Goals.{After-index_mut-2, After-absorb}

-- the two seats, as they were read
module _ (g : Over) (c : After-index_mut-2 g) where
  abbrev seats : List PlainSeat
  seats = c.self.inside.seats.items

  from-is : c.replace-other.result ≡ get_or seats c.args.from spent_seat
  from-is =
      c.replace-other.ensures.value ∙ seat-read seats c.args.from c.index_mut.result.now
      (from_wide _ _ _ _ _ _ c.self.view_is c.self.invariant.0 c.self.invariant.1 c.args.into c.requires.1 c.args.from
      c.requires.2 c.requires.0) c.index_mut.ensures.value

  emptied : c.replace-other.new.dest ≡ spent_seat
  emptied = c.replace-other.ensures.after ∙ c.spent.ensures

  into-is : c.index_mut-2.result.now ≡ get_or seats c.args.into spent_seat
  into-is =
      into-read _ _ _ _ _ _ c.self.view_is c.self.invariant.0 c.self.invariant.1 c.args.into c.requires.1 c.args.from
      c.requires.2 c.requires.0 c.index_mut-2.result.now
      (c.index_mut-2.ensures.value ∙ ap
      (λ x. get_or (set seats c.args.from x) c.args.into c.index_mut-2.result.now) emptied)

pub absorb-requires : goal.absorb-requires
absorb-requires g c =
    let read = (goal.at.absorb-requires g c).After-index_mut-2 in
    let fit = widths-fit _ _ _ _ _ _ c.self.view_is c.self.invariant.0 c.self.invariant.1 c.args.into c.requires.1
    c.args.from c.requires.2 c.requires.0
    c.index_mut-2.result.now c.replace-other.result (into-is g read) (from-is g read) in
    let small = c.self.ranges in
    omega arith

-- the seats after the lists were taken over, or put back if out of memory
module _ (g : Over) (c : After-absorb g) where
  abbrev had : List PlainSeat
  had = c.self.inside.seats.items

  put-again : c.absorb.new.self ≡ get_or had c.args.into spent_seat
      → c.replace-other.result ≡ get_or had c.args.from spent_seat
      → c.replace-other.new.dest ≡ spent_seat
      → set (set (set had c.args.from c.replace-other.new.dest) c.args.into c.absorb.new.self) c.args.from
      c.replace-other.result ≡ had
  put-again into-same from-same none =
      ap (λ x. set (set (set had c.args.from x) c.args.into c.absorb.new.self) c.args.from c.replace-other.result) none
      ∙ put-back _ _ _ _ _ _ c.self.view_is c.self.invariant.0 c.self.invariant.1 c.args.into c.requires.1 c.args.from
      c.requires.2 c.requires.0 c.absorb.new.self c.replace-other.result into-same from-same

pub invariant_of-self : goal.invariant_of-self
invariant_of-self g c =
    let read = (goal.at.invariant_of-self g c).After-index_mut-2 in
    let unchanged : c.absorb.new.self ≡ c.index_mut-2.result.now =
    rw c.if-is_err.ensures.negation at c.absorb.ensures in
    let same = put-again g (goal.at.invariant_of-self g c).After-absorb (unchanged ∙ into-is g read) (from-is g read)
    (emptied g read) in (
      c.self.invariant.0,
      subst (λ (l : List PlainSeat). IsLawful
          (round_of c.self.inside.solver.now c.self.inside.width c.self.inside.counts.items
          (map value_of_word c.self.inside.words.items) l)) (sym same) c.self.invariant.1,
    )

pub returns-then-is_err-clause-refused : goal.returns-then-is_err-clause-refused
returns-then-is_err-clause-refused g c =
    let read = (goal.at.returns-then-is_err-clause-refused g c).After-index_mut-2 in
    let unchanged : c.absorb.new.self ≡ c.index_mut-2.result.now =
    rw c.if-is_err.ensures.negation at c.absorb.ensures in
    let same = put-again g (goal.at.returns-then-is_err-clause-refused g c).After-absorb (unchanged ∙ into-is g read)
    (from-is g read)
    (emptied g read) in (
      (
        allowed _ _ _ _ _ _ c.self.view_is c.self.invariant.0 c.self.invariant.1 c.args.into c.requires.1 c.args.from
            c.requires.2 c.requires.0,
        tt,
      ),
      ap (round_of c.self.inside.solver.now c.self.inside.width c.self.inside.counts.items
          (map value_of_word c.self.inside.words.items)) same ∙ c.self.view_is,
    )

pub invariant_of-self-else-is_err : goal.invariant_of-self-else-is_err
invariant_of-self-else-is_err g c =
    let read = (goal.at.invariant_of-self-else-is_err g c).After-index_mut-2 in
    let made = joining _ _ _ _ _ _ c.self.view_is c.self.invariant.0 c.self.invariant.1 c.args.into c.requires.1
    c.args.from c.requires.2 c.requires.0
    c.index_mut-2.result.now c.replace-other.result c.absorb.new.self (into-is g read) (from-is g read)
    (rw c.if-is_err.ensures.negation at c.absorb.ensures) in (
      c.self.invariant.0,
      subst (λ (l : List PlainSeat). IsLawful
          (round_of c.self.inside.solver.now c.self.inside.width c.self.inside.counts.items
          (map value_of_word c.self.inside.words.items) l))
          (sym (ap (λ x. set (set c.self.inside.seats.items c.args.from x) c.args.into c.absorb.new.self)
          (emptied g read))) made.lawful,
    )

pub returns-clause-done : goal.returns-clause-done
returns-clause-done g c =
    let read = (goal.at.returns-clause-done g c).After-index_mut-2 in
    let made = joining _ _ _ _ _ _ c.self.view_is c.self.invariant.0 c.self.invariant.1 c.args.into c.requires.1
    c.args.from c.requires.2 c.requires.0
    c.index_mut-2.result.now c.replace-other.result c.absorb.new.self (into-is g read) (from-is g read)
    (rw c.if-is_err.ensures.negation at c.absorb.ensures) in
    subst (λ (l : List PlainSeat). Joins c.args.self.now c.args.into c.args.from
    (round_of c.self.inside.solver.now c.self.inside.width c.self.inside.counts.items
    (map value_of_word c.self.inside.words.items) l))
    (sym (ap (λ x. set (set c.self.inside.seats.items c.args.from x) c.args.into c.absorb.new.self)
    (emptied g read))) made.joins
