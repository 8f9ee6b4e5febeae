-- Laws of the normal places of configurations, and of the pebbles that rows ask.
use Rattle.std.proofs.Common.{ℕ, List, get_or, refl, sym, ap, ◌∙◌, arith}
use Rattle.board_text.specs.PlainBoard.{PlainBoard}
use Rattle.positions.specs.Table.{RequestRow}
use Rattle.proof_text.specs.Positions.{asked_pebble, configuration_positions, normal_positions}
use Rattle.proof_text.proofs.Cited.{asked_below, asked_place}
use Rattle.strategies.specs.Inside.NormalForm.{IsNormalForm}
use Rattle.strategies.proofs.LikePebbles.{first-best}
use Rattle.strategies.specs.Inside.NumberedPositions.{ArePositions}

pub are_plain : (board : PlainBoard) → ArePositions board configuration_positions
are_plain board = record {
  is = λ places is. is;
  same_value = λ places is value has. has;
  asking = λ places left pebble is best. (
    pebble,
    record { asks = omega (arith, best.0.is_pebble, is.each_pebble); best = best },
  );
  one = λ first second asks too at pebble. pebble;
}

pub are_normal : (board : PlainBoard) (normal : List ℕ → List ℕ) → IsNormalForm board normal
    → ArePositions board (normal_positions normal)
are_normal board normal form = record {
  is = form.is;
  same_value = form.same_value;
  asking = λ places left pebble is best.
      let row : RequestRow = record { at = places; left = left; request = get_or places pebble 0 } in
      let first = first-best board row pebble is best refl in
      (get_or places pebble 0, record { asks = asked_below row first.0; best = first.1 });
  one = λ first second asks too at pebble. sym (asked_place first asks) ∙ ap (λ n. get_or first.at n 0) pebble
      ∙ ap (λ (c : List ℕ). get_or c (asked_pebble second) 0) at ∙ asked_place second too;
}
