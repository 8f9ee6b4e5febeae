-- No label is a lowest label, and an answer depends on the other pebbles alone.
use Rattle.std.proofs.Common.{◌≡◌, ◌≢◌, ℕ, zero, suc, ◌<◌, ◌≤◌, List, length, get_or, sym, ◌∙◌, subst}
use Rattle.std.proofs.Common.{arith, inl, inr, ◌↔◌}
use Rattle.std.specs.Prelude.{All}
use Rattle.std.proofs.lemmas.Bool.{cases_lt, cases_eq}
use Rattle.std.proofs.lemmas.List.{length-set}
use Rattle.std.proofs.lemmas.List.Elements.{All-set, All-get_or}
use Rattle.board_text.specs.PlainBoard.{PlainBoard, Dominates}
use Rattle.positions.specs.Game.{Legal, LabellerTree, moved}
use Rattle.domains.specs.Lowest.{HasLowest}
use Rattle.domains.specs.Agreement.{AgreeBut}

to_lowest : (domain board : PlainBoard) (depth : ℕ) (configuration : List ℕ) → HasLowest domain board
    → length configuration ≡ domain.pebbles → All (λ place. place < board.labels) configuration
    → LabellerTree domain depth configuration → LabellerTree board depth configuration
to_lowest domain board zero configuration has long all tree = tt
to_lowest domain board (suc depth) configuration has long all tree =
    λ pebble below.
    let answer = tree pebble (omega (arith, has.pebbles, below)) in
    let is_label : answer.0 < board.labels = omega (arith, has.labels, answer.1.is_label) in (
      answer.0,
      record {
        is_label = is_label;
        dominates = λ other other_below differs low.
            let place = get_or configuration other 0 in
            elim (cases_lt place domain.labels) [
              | inl held ↦ (has.others answer.0 place answer.1.is_label held).0
                  (answer.1.dominates other (omega (arith, has.pebbles, other_below)) differs held)
              | inr none ↦ let lowest : domain.labels ≡ place = omega (arith, none, low, has.labels) in subst
                  (Dominates board answer.0) lowest (has.beaten answer.0 answer.1.is_label)
            ];
      },
      to_lowest domain board depth (moved configuration pebble answer.0) has
          (length-set configuration pebble answer.0 ∙ long)
          (All-set (λ place. place < board.labels) configuration pebble answer.0 is_label all) answer.2,
    )

from_lowest : (domain board : PlainBoard) (depth : ℕ) (configuration : List ℕ) → HasLowest domain board
    → 2 ≤ domain.pebbles
    → length configuration ≡ domain.pebbles → All (λ place. place < board.labels) configuration
    → LabellerTree board depth configuration → LabellerTree domain depth configuration
from_lowest domain board zero configuration has two long all tree = tt
from_lowest domain board (suc depth) configuration has two long all tree =
    λ pebble below.
    let answer = tree pebble (omega (arith, has.pebbles, below)) in
    let other : (other : ℕ) × (other < domain.pebbles) × (other ≢ pebble) = elim (cases_eq pebble 0) [
      | inl same ↦ (1, omega (arith, two), λ one. omega (arith, one, same))
      | inr differs ↦ (0, omega (arith, two), λ one. differs (sym one))
    ] in
    let beats = answer.1.dominates other.0 (omega (arith, has.pebbles, other.1)) other.2
    (All-get_or (λ place. place < board.labels) configuration other.0 0 (omega (arith, long, other.1)) all) in
    let is_label : answer.0 < domain.labels = elim (cases_lt answer.0 domain.labels) [
      | inl low ↦ low
      | inr high ↦ let lowest : answer.0 ≡ domain.labels = omega (arith, high, answer.1.is_label, has.labels) in
          absurd (has.beats_none (get_or configuration other.0 0)
          (subst (λ n. Dominates board n (get_or configuration other.0 0)) lowest beats))
    ] in (
      answer.0,
      record {
        is_label = is_label;
        dominates = λ q q_below differs low. (has.others answer.0 (get_or configuration q 0) is_label low).1
            (answer.1.dominates q (omega (arith, has.pebbles, q_below)) differs (omega (arith, low, has.labels)));
      },
      from_lowest domain board depth (moved configuration pebble answer.0) has two
          (length-set configuration pebble answer.0 ∙ long)
          (All-set (λ place. place < board.labels) configuration pebble answer.0 answer.1.is_label all) answer.2,
    )

pub lowest : (domain board : PlainBoard) (depth : ℕ) (configuration : List ℕ) → HasLowest domain board
    → 2 ≤ domain.pebbles
    → length configuration ≡ domain.pebbles → All (λ place. place < board.labels) configuration
    → LabellerTree domain depth configuration ↔ LabellerTree board depth configuration
lowest domain board depth configuration has two long all = (
  to_lowest domain board depth configuration has long all,
  from_lowest domain board depth configuration has two long all,
)

pub legal_elsewhere : (board : PlainBoard) (first second : List ℕ) (pebble label : ℕ) → AgreeBut pebble first second
    → Legal board first pebble label → Legal board second pebble label
legal_elsewhere board first second pebble label agree legal = record {
  is_label = legal.is_label;
  dominates = λ other below differs low.
      subst (Dominates board label) (agree.others other differs)
      (legal.dominates other below differs
      (subst (λ n. n < board.labels) (sym (agree.others other differs)) low));
}
