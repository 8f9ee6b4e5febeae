use Rattle.std.proofs.Common.{◌≡◌, ◌≢◌, ◌-◌, ◌∙◌, ℕ, suc, length, true, false, refl, sym, ap, subst, arith}
use Rattle.graphs.specs.Numbered.{Numbered}
use Rattle.solver.specs.Solving.{HasFoundNone, IsSolving, NoneHas, Solving}
use Rattle.solver.specs.Inside.Stage.{PlainStage, at_next_value, filed_at, IsState}
use Rattle.solver.proofs.States.{solving_of, unstruck-of, none-has, to-begin, last-state, next-below, further-state}
use Rattle.solver.proofs.solver.Solver.file_next.Given
use Rattle.solver.proofs.solver.Solver.file_next.Goals as goal
use Rattle.solver.proofs.solver.Solver.file_next.Goals.{Then-filed-eq0, Else-filed-eq0}

pub returns-then-self-clause-none : goal.returns-then-self-clause-none
returns-then-self-clause-none g c = λ _.
    subst (λ (v : Solving). HasFoundNone v v) c.self.view_is
    (none-has c.self.inside.stage _ c.self.inside.done c.self.invariant c.if-self.true, refl, c.if-self.true)

pub returns-then-self-clause-kept : goal.returns-then-self-clause-kept
returns-then-self-clause-kept g c =
    subst IsSolving c.self.view_is (solving_of c.self.inside.stage _ c.self.inside.done c.self.invariant)

pub file-requires-clause-striking : goal.file-requires-clause-striking
file-requires-clause-striking g c = to-begin c.self.inside.stage _ c.self.inside.done c.self.invariant c.if-self.false

pub file-requires-clause-unstruck : goal.file-requires-clause-unstruck
file-requires-clause-unstruck g c =
    unstruck-of c.self.inside.stage _ c.self.inside.done c.self.invariant c.if-self.false

-- the stage after a round that filed nothing, and its state at the value that it goes back to
module _ (g : Given.Over) (c : Then-filed-eq0 g) where
  abbrev ended : PlainStage
  ended = c.file.new.stage

  last : IsState ended (c.self.inside.stage.value - 1) true
  last = last-state c.self.inside.stage _ c.self.inside.done c.self.invariant ended c.file.ensures.struck
      c.file.ensures.kept
      (sym c.filed-filed.ensures ∙ c.if-filed-eq0.true)

  same : c.self.inside.stage.value - 1 ≡ ended.value - 1
  same = ap (λ n. n - 1) (sym c.file.ensures.kept.value_is)

  state : IsState ended (ended.value - 1) true
  state = subst (λ n. IsState ended n true) same last

pub invariant_of-self : goal.invariant_of-self
invariant_of-self g c = let at = (goal.at.invariant_of-self g c).Then-filed-eq0 in state g at

pub returns-then-filed-eq0-clause-none : goal.returns-then-filed-eq0-clause-none
returns-then-filed-eq0-clause-none g c = λ _.
    let now : PlainStage = c.file.new.stage in
    let at = (goal.at.returns-then-filed-eq0-clause-none g c).Then-filed-eq0 in
    subst (λ (v : Solving). NoneHas v.game.board (suc v.rounds) × (now.value - 1 ≡ v.rounds)
    × (true ≡ true)) c.self.view_is (
      subst (λ (t : Numbered). NoneHas t.board (suc (c.self.inside.stage.value - 1))) c.file.ensures.kept.game_is
          (none-has now _ true (last g at) refl),
      sym (same g at),
      refl,
    )

pub returns-then-filed-eq0-clause-kept : goal.returns-then-filed-eq0-clause-kept
returns-then-filed-eq0-clause-kept g c =
    solving_of c.file.new.stage _ true (state g (goal.at.returns-then-filed-eq0-clause-kept g c).Then-filed-eq0)

-- the number of filed configurations isn't 0
some : (n : ℕ) (k : ℕ) → k ≡ n → k ≢ 0 → n ≢ 0
some n k is d e = d (is ∙ e)

-- the stage at the next value is in the next round
next-round : (s now : PlainStage) (round : ℕ) → s.value ≡ suc round → now.value ≡ s.value
    → suc round ≡ (at_next_value now).value - 1
next-round s now round at same = omega arith

-- the stage after a round that filed configurations, and its state at the next value
module _ (g : Given.Over) (c : Else-filed-eq0 g) where
  abbrev more : PlainStage
  more = c.file.new.stage

  filed : length (filed_at more more.value) ≢ 0
  filed = some _ _ c.filed-filed.ensures c.if-filed-eq0.false

  next : suc (c.self.inside.stage.value - 1) ≡ (at_next_value more).value - 1
  next = next-round c.self.inside.stage more _ c.self.invariant.value_is c.file.ensures.kept.value_is

  to-value : more.value ≡ suc (c.self.inside.stage.value - 1)
  to-value = omega (arith, c.self.invariant.value_is, c.file.ensures.kept.value_is)

  state-next : IsState (at_next_value more) ((at_next_value more).value - 1) false
  state-next = subst (λ n. IsState (at_next_value more) n false) next
      (further-state c.self.inside.stage _ c.self.inside.done c.self.invariant more c.file.ensures.struck
      c.file.ensures.kept c.if-self.false filed)

pub begin_next_value-requires : goal.begin_next_value-requires
begin_next_value-requires g c =
    let at = (goal.at.begin_next_value-requires g c).Else-filed-eq0 in
    next-below c.self.inside.stage _ c.self.inside.done c.self.invariant c.file.new.stage c.file.ensures.struck
    c.file.ensures.kept (filed g at)

pub invariant_of-self-2 : goal.invariant_of-self-2
invariant_of-self-2 g c =
    let at = (goal.at.invariant_of-self-2 g c).Else-filed-eq0 in
    rw (c.begin_next_value.ensures, c.if-self.false) (state-next g at)

pub returns-clause-kept : goal.returns-clause-kept
returns-clause-kept g c =
    let at = (goal.at.returns-clause-kept g c).Else-filed-eq0 in
    rw (c.begin_next_value.ensures, c.if-self.false)
    (solving_of (at_next_value c.file.new.stage) _ false (state-next g at))

pub returns-clause-order : goal.returns-clause-order
returns-clause-order g c = λ n is.
    let at = (goal.at.returns-clause-order g c).Else-filed-eq0 in
    rw (c.begin_next_value.ensures, ← c.self.view_is)
    (subst (λ v. g.B.NextValue.files c.args.by.now (filed_at c.file.new.stage v)) (to-value g at) c.file.ensures.order)
