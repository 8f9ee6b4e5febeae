-- Trees carry over from the leaders' board.
use Rattle.std.proofs.Common.{◌≡◌, ℕ, zero, suc, ◌<◌, ◌≤◌, List, length, get_or, set, sym, ◌∙◌, ap, subst, arith, inl}
use Rattle.std.proofs.Common.{inr, replicate}
use Rattle.std.specs.Prelude.{Contains}
use Rattle.std.proofs.lemmas.Bool.{cases_eq}
use Rattle.std.proofs.lemmas.List.{get_or-replicate, get_or-set_same, get_or-set_other, length-replicate, length-set}
use Rattle.board_text.specs.PlainBoard.{PlainBoard, Dominates}
use Rattle.positions.specs.Game.{Legal, LabellerTree, moved}
use Rattle.domains.specs.Follows.{Follows, IsLed}

module _ (board leading : PlainBoard) (image leader : ℕ → ℕ) (follows : Follows board leading image leader) where
  led_legal : (configuration led : List ℕ) (pebble label : ℕ) → IsLed board leading image leader configuration led
      → pebble < board.pebbles → Legal leading configuration (leader pebble) label
      → Legal board led pebble (image label)
  led_legal configuration led pebble label is below legal = record {
    is_label = follows.labels label legal.is_label;
    dominates = λ other other_below differs low.
        elim (is.each other other_below) [
          | inr high ↦ let no : ⊥ = omega (arith, high, low) in absurd no
          | inl held ↦ subst (Dominates board (image label)) (sym held.1)
              (follows.beats label (get_or configuration (leader other) 0) legal.is_label held.0
              (legal.dominates (leader other) (follows.leaders other other_below)
              (λ one. differs (follows.apart other pebble other_below below one)) held.0))
        ];
  }

  led_after : (configuration led : List ℕ) (pebble label : ℕ) → IsLed board leading image leader configuration led
      → pebble < board.pebbles → label < leading.labels
      → IsLed board leading image leader (moved configuration (leader pebble) label) (moved led pebble (image label))
  led_after configuration led pebble label is below is_label = record {
    long = length-set configuration (leader pebble) label ∙ is.long;
    led_long = length-set led pebble (image label) ∙ is.led_long;
    each = λ other other_below.
        elim (cases_eq other pebble) [
          | inl one ↦
              let inside : leader pebble < length configuration
              = omega (arith, is.long, follows.leaders pebble below) in
              let there = get_or-set_same configuration (leader pebble) label 0 inside in
              let here = get_or-set_same led pebble (image label) 0 (omega (arith, is.led_long, below)) in
              inl (subst
              (λ n. (get_or (set configuration (leader pebble) label) (leader n) 0 < leading.labels)
              × (get_or (set led pebble (image label)) n 0
              ≡ image (get_or (set configuration (leader pebble) label) (leader n) 0)))
              (sym one) (subst (λ n. n < leading.labels) (sym there) is_label, here ∙ sym (ap image there)))
          | inr differs ↦
              let here = get_or-set_other led pebble other (image label) 0 differs in
              let there = get_or-set_other configuration (leader pebble) (leader other) label 0
              (λ one. differs (follows.apart other pebble other_below below one)) in
              elim (is.each other other_below) [
                | inl held ↦ inl
                    (subst (λ n. n < leading.labels) (sym there) held.0, here ∙ (held.1 ∙ sym (ap image there)))
                | inr high ↦ inr (subst (λ n. board.labels ≤ n) (sym here) high)
              ]
        ];
  }

  pub led_lasts : (depth : ℕ) (configuration led : List ℕ) → IsLed board leading image leader configuration led
      → LabellerTree leading depth configuration → LabellerTree board depth led
  led_lasts zero configuration led is tree = tt
  led_lasts (suc depth) configuration led is tree =
      λ pebble below.
      let answer = tree (leader pebble) (follows.leaders pebble below) in (
        image answer.0,
        led_legal configuration led pebble answer.0 is below answer.1,
        led_lasts depth (moved configuration (leader pebble) answer.0) (moved led pebble (image answer.0))
            (led_after configuration led pebble answer.0 is below answer.1.is_label) answer.2,
      )

-- all on the image of a label last as long as all on the label
pub one_label_led : (board leading : PlainBoard) (image : ℕ → ℕ) (depth label : ℕ)
    → Follows board leading image (λ pebble. pebble) → label < leading.labels
    → LabellerTree leading depth (replicate leading.pebbles label)
    → LabellerTree board depth (replicate board.pebbles (image label))
one_label_led board leading image depth label follows low =
    led_lasts board leading image (λ pebble. pebble) follows depth (replicate leading.pebbles label)
    (replicate board.pebbles (image label))
    (record {
      long = length-replicate {A = ℕ} leading.pebbles label;
      led_long = length-replicate {A = ℕ} board.pebbles (image label);
      each = λ pebble below.
          let there : get_or (replicate leading.pebbles label) pebble 0 ≡ label
          = get_or-replicate leading.pebbles pebble label 0 (follows.leaders pebble below) in
          inl (
            subst (λ n. n < leading.labels) (sym there) low,
            get_or-replicate board.pebbles pebble (image label) 0 below ∙ ap image (sym there),
          );
    })

-- ---- boards of one domain

pub same_domain : (board leading : PlainBoard) (leader : ℕ → ℕ) → board.labels ≡ leading.labels
    → board.pairs ≡ leading.pairs → ((pebble : ℕ) → pebble < board.pebbles → leader pebble < leading.pebbles)
    → ((pebble other : ℕ) → pebble < board.pebbles → other < board.pebbles
    → leader pebble ≡ leader other → pebble ≡ other)
    → Follows board leading (λ label. label) leader
same_domain board leading leader labels pairs leaders apart = record {
  labels = λ label low. omega (arith, labels, low);
  beats = λ x y x_low y_low beats. subst (λ all. Contains all (x, y)) (sym pairs) beats;
  leaders = leaders;
  apart = apart;
}

-- each pebble follows itself
pub itself : (board leading : PlainBoard) → board.labels ≡ leading.labels → board.pairs ≡ leading.pairs
    → board.pebbles ≡ leading.pebbles → Follows board leading (λ label. label) (λ pebble. pebble)
itself board leading labels pairs pebbles =
    same_domain board leading (λ pebble. pebble) labels pairs (λ pebble below. omega (arith, pebbles, below))
    (λ pebble other below other_below one. one)
