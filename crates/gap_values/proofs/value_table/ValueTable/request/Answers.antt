use Rattle.std.proofs.Common.{◌∙◌, ◌<◌, ◌-◌, inl, inr, sym, subst, arith, ◌≡◌}
use Rattle.std.proofs.lemmas.Bool.{cases_lt}
use Rattle.board_text.specs.PlainBoard.{places}
use Rattle.classes.specs.Classes.{IsClass}
use Rattle.classes.specs.ClassGaps.{gap_at}
use Rattle.gap_values.specs.BestOfGap.{LeadBelow}
use Rattle.gap_values.proofs.ClosedGaps.{gap-is}
use Rattle.gap_values.proofs.value_table.ValueTable.request.Given.{Over}
use Rattle.gap_values.proofs.value_table.ValueTable.request.Goals as goal
use Rattle.gap_values.proofs.value_table.ValueTable.request.Goals.{After-as_slice}

module _ (g : Over) (c : After-as_slice g) where
  inside : c.loop-pebble.pebble < c.args.board.now.pebbles
  inside = omega (arith, c.loop-pebble-test.true, c.pebbles-pebble-end.ensures.value)

  same : c.as_slice.result.now ≡ gap_at c.args.held.now c.loop-pebble.pebble
  same = c.as_slice.ensures.value ∙ c.gap_of-gap.ensures

pub loop-pebble-init : goal.loop-pebble-init
loop-pebble-init g c = λ other low. absurd (omega arith)

pub leads_below-requires-clause-is_gap : goal.leads_below-requires-clause-is_gap
leads_below-requires-clause-is_gap g c =
    let b = c.args.board.now in
    subst (IsClass (places b) (b.pebbles - 1)) (sym (same g c))
    (gap-is b c.args.held.now c.requires.held c.loop-pebble.pebble (inside g c))

pub returns-then-leads_below-clause-request : goal.returns-then-leads_below-clause-request
returns-then-leads_below-clause-request g c =
    let at = (goal.at.returns-then-leads_below-clause-request g c).After-as_slice in
    let leads = subst (λ gap. LeadBelow c.args.board.now gap c.in-Finite.number) (same g at)
    (c.leads_below.ensures.0 c.if-leads_below.true) in (
      (inside g at, leads),
      λ other has. elim (cases_lt other c.loop-pebble.pebble) [
        | inl before ↦ absurd (c.loop-pebble.invariant other before has.1)
        | inr late ↦ late
      ],
    )

pub loop-pebble-preserved : goal.loop-pebble-preserved
loop-pebble-preserved g c =
    let at = (goal.at.loop-pebble-preserved g c).After-as_slice in
    λ other low has. elim (cases_lt other c.loop-pebble.pebble) [
      | inl before ↦ c.loop-pebble.invariant other before has
      | inr late ↦
          let last : other ≡ c.loop-pebble.pebble = omega arith in
          let here = subst (λ gap. LeadBelow c.args.board.now gap c.in-Finite.number) (sym (same g at))
          (subst (λ n. LeadBelow c.args.board.now (gap_at c.args.held.now n) c.in-Finite.number) last has) in
          let yes = c.leads_below.ensures.1 here in
          let no = c.if-leads_below.false in absurd cc
    ]

pub returns-clause-request : goal.returns-clause-request
returns-clause-request g c = λ other has.
    c.loop-pebble.invariant other
    (omega (arith, has.0, c.loop-pebble-test.false, c.pebbles-pebble-end.ensures.value)) has.1
