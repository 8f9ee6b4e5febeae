use Rattle.std.proofs.Common.{ℕ, ◌/◌, get_or, set, sym, ap, ◌∙◌, inl, inr, arith}
use Rattle.std.proofs.lemmas.Bool.{cases_eq}
use Rattle.std.proofs.lemmas.List.{length-set, get_or-set_same, get_or-set_other}
use Rattle.board_text.proofs.Cited.{few_places}
use Rattle.positions.specs.Ranks.{configuration_at}
use Rattle.positions.proofs.RankTurns.{rank_rest_next}
use Rattle.positions.proofs.space.Space.moves.Goals as goal

pub overflow_cast-places : goal.overflow_cast-places
overflow_cast-places c =
    let b = c.args.self.now in
    let l = c.loop-pebble in
    let is = c.weight.ensures.is_board in
    let next = rank_rest_next b c.args.rank l.pebble l.rest c.value-weight.result is
    (c.value-weight.ensures.value ∙ c.weight.ensures.value)
    (omega (arith, c.loop-pebble-test.true, c.pebbles-pebble-end.ensures.value)) l.invariant.rest in
    let low = next.low in
    omega (arith, low, few_places b is)

pub loop-pebble-preserved : goal.loop-pebble-preserved
loop-pebble-preserved c =
    let b = c.args.self.now in
    let l = c.loop-pebble in
    let is = c.weight.ensures.is_board in
    let next = rank_rest_next b c.args.rank l.pebble l.rest c.value-weight.result is
    (c.value-weight.ensures.value ∙ c.weight.ensures.value)
    (omega (arith, c.loop-pebble-test.true, c.pebbles-pebble-end.ensures.value)) l.invariant.rest in
    let held : ℕ = l.rest / c.value-weight.result in
    record {
      sized = length-set l.places l.pebble held ∙ l.invariant.sized;
      rest = next.rest_is;
      each = λ k low. elim (cases_eq k l.pebble) [
        | inl same ↦
            ap (λ (n : ℕ). get_or (set l.places l.pebble held) n 0) same
            ∙ get_or-set_same l.places l.pebble held 0
            (omega (
              arith,
              l.invariant.sized,
              c.loop-pebble-test.true,
              c.pebbles-pebble-end.ensures.value,
              is.pebbles.1,
            )) ∙ next.digit_is
            ∙ ap (λ (n : ℕ). get_or (configuration_at b c.args.rank) n 0) (sym same)
        | inr other ↦ get_or-set_other l.places l.pebble k held 0 other ∙ l.invariant.each k (omega arith)
      ];
    }
