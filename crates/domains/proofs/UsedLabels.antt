-- A domain lasts for ever exactly if the labels do from which it lasts.
use Rattle.std.proofs.Common.{◌≡◌, ◌↔◌, ℕ, ◌<◌, ◌≤◌, ◌⊎◌, List, length, get_or, map, refl, sym, ◌∙◌, ap, subst, arith}
use Rattle.std.proofs.Common.{inl, inr}
use Rattle.std.proofs.lemmas.Bool.{cases_lt, cases_eq}
use Rattle.std.proofs.lemmas.Grind.{get_or-set_at}
use Rattle.std.proofs.lemmas.List.{get_or-map, get_or-set_other, length-map, length-set}
use Rattle.board_text.specs.PlainBoard.{PlainBoard, Dominates}
use Rattle.positions.specs.Game.{moved}
use Rattle.positions.specs.Value.{HasValue}
use Rattle.positions.specs.declared.value.Value.TheVariants.{Forever}
use Rattle.domains.specs.Follows.{Follows, IsLed}
use Rattle.domains.specs.Kept.{IsKept}
use Rattle.domains.specs.Used.{IsUsed, KeepsUsed}
use Rattle.domains.proofs.Choices.{one_or, of_one_or}
use Rattle.domains.proofs.Following.{led_lasts}
use Rattle.domains.proofs.KeptProperties.{kept_lasts}
use Rattle.domains.proofs.LastingMoves.{lasting_answer}
use Rattle.domains.proofs.SharedLabels.{all_on_one}

-- a label that is held while all lasts for ever is used
used : (board : PlainBoard) (c : List ℕ) (pebble label : ℕ) → length c ≡ board.pebbles → HasValue board c Forever
    → pebble < board.pebbles → label < board.labels → get_or c pebble 0 ≡ label → IsUsed board label
used board c pebble label long lasts below low holds =
    (low, λ depth. all_on_one board c pebble label long below low holds depth (lasts depth))

module _ (board part : PlainBoard) (image : ℕ → ℕ) (keeps : KeepsUsed board part image) where
  -- each pebble follows one of a configuration that lasts for ever
  record FollowsLasting (led : List ℕ) : Type 0 where
    c : List ℕ
    is : IsLed part board image (λ pebble. pebble) c led
    lasts : HasValue board c Forever

  led_on : (c led : List ℕ) (pebble label : ℕ) → IsLed part board image (λ pebble. pebble) c led
      → pebble < board.pebbles → label < board.labels
      → IsLed part board image (λ pebble. pebble) (moved c pebble label) (moved led pebble (image label))
  led_on c led pebble label is below low = record {
    long = length-set c pebble label ∙ is.long;
    led_long = length-set led pebble (image label) ∙ is.led_long;
    each = λ other other_below. elim (cases_eq other pebble) [
      | inl same ↦
          let there : get_or (moved c pebble label) other 0 ≡ label
          = get_or-set_at c pebble other label 0 same (omega (arith, is.long, below)) in
          let here : get_or (moved led pebble (image label)) other 0 ≡ image label
          = get_or-set_at led pebble other (image label) 0 same
          (omega (arith, is.led_long, keeps.pebbles, below)) in
          inl (subst (λ n. n < board.labels) (sym there) low, here ∙ sym (ap image there))
      | inr differs ↦
          let there : get_or (moved c pebble label) other 0 ≡ get_or c other 0
          = get_or-set_other c pebble other label 0 differs in
          let here : get_or (moved led pebble (image label)) other 0 ≡ get_or led other 0
          = get_or-set_other led pebble other (image label) 0 differs in
          elim (is.each other other_below) [
            | inl held ↦ inl
                (subst (λ n. n < board.labels) (sym there) held.0, here ∙ (held.1 ∙ sym (ap image there)))
            | inr none ↦ inr (subst (λ n. part.labels ≤ n) (sym here) none)
          ]
    ];
  }

  follows_kept : IsKept FollowsLasting part
  follows_kept led good pebble pebble_below =
      let below : pebble < board.pebbles = omega (arith, pebble_below, keeps.pebbles) in
      let answer = lasting_answer board good.c pebble good.is.long below good.lasts in
      let answer_used : IsUsed board answer.0
      = used board (moved good.c pebble answer.0) pebble answer.0
      (length-set good.c pebble answer.0 ∙ good.is.long) answer.2 below answer.1.is_label
      (get_or-set_at good.c pebble pebble answer.0 0 refl (omega (arith, good.is.long, below))) in (
        image answer.0,
        record {
          is_label = keeps.labels answer.0 answer_used;
          dominates = λ other other_below differs low. elim (good.is.each other other_below) [
            | inr none ↦ let no : ⊥ = omega (arith, none, low) in absurd no
            | inl held ↦
                let there : other < board.pebbles = omega (arith, other_below, keeps.pebbles) in
                subst (Dominates part (image answer.0)) (sym held.1)
                (keeps.beats answer.0 (get_or good.c other 0) answer_used
                (used board good.c other (get_or good.c other 0) good.is.long good.lasts there held.0 refl)
                (answer.1.dominates other there differs held.0))
          ];
        },
        record {
          c = moved good.c pebble answer.0;
          is = led_on good.c led pebble answer.0 good.is below answer.1.is_label;
          lasts = answer.2;
        },
      )

  pub part_lasts : (c led : List ℕ) → IsLed part board image (λ pebble. pebble) c led → HasValue board c Forever
      → HasValue part led Forever
  part_lasts c led is lasts =
      kept_lasts FollowsLasting part follows_kept led (record { c = c; is = is; lasts = lasts })

-- ---- some configuration that follows

-- the image of a label, or no label
led_place : (board leading : PlainBoard) (image : ℕ → ℕ) → ℕ → ℕ
led_place board leading image place = one_or (cases_lt place leading.labels) (image place) board.labels

led_place_is : (board leading : PlainBoard) (image : ℕ → ℕ) (place : ℕ)
    → ((place < leading.labels) × (led_place board leading image place ≡ image place))
    ⊎ (board.labels ≤ led_place board leading image place)
unfolding led_place
led_place_is board leading image place =
    of_one_or (λ n. ((place < leading.labels) × (n ≡ image place)) ⊎ (board.labels ≤ n))
    (cases_lt place leading.labels) (image place) board.labels (λ low. inl (low, refl)) (λ _. inr (omega arith))

some_led : (board leading : PlainBoard) (image : ℕ → ℕ) (c : List ℕ) → board.pebbles ≡ leading.pebbles
    → length c ≡ leading.pebbles
    → (led : List ℕ) × IsLed board leading image (λ pebble. pebble) c led
some_led board leading image c same long =
    let led = map (led_place board leading image) c in (
      led,
      record {
        long = long;
        led_long = length-map c (led_place board leading image) ∙ (long ∙ sym same);
        each = λ pebble below.
            let here : get_or led pebble 0 ≡ led_place board leading image (get_or c pebble 0)
            = get_or-map (led_place board leading image) c pebble 0 0 (omega (arith, long, below, same)) in
            elim (led_place_is board leading image (get_or c pebble 0)) [
              | inl held ↦ inl (held.0, here ∙ held.1)
              | inr none ↦ inr (subst (λ n. board.labels ≤ n) (sym here) none)
            ];
      },
    )

pub part_lasts_exactly : (board part : PlainBoard) (image back : ℕ → ℕ) → KeepsUsed board part image
    → Follows board part back (λ pebble. pebble)
    → ((c : List ℕ) × (length c ≡ board.pebbles) × HasValue board c Forever)
    ↔ ((c : List ℕ) × (length c ≡ part.pebbles) × HasValue part c Forever)
part_lasts_exactly board part image back keeps follows = (
  λ found.
      let led = some_led part board image found.0 keeps.pebbles found.1 in
      (led.0, led.1.led_long, part_lasts board part image keeps found.0 led.0 led.1 found.2),
  λ found.
      let led = some_led board part back found.0 (sym keeps.pebbles) found.1 in (
        led.0,
        led.1.led_long,
        λ depth. led_lasts board part back (λ pebble. pebble) follows depth found.0 led.0 led.1 (found.2 depth),
      ),
)
