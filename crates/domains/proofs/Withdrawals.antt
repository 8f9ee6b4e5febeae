-- Labels that are given up, and processes that withdraw.
use Rattle.std.proofs.Common.{◌↔◌, ℕ, zero, suc, ◌<◌, ◌≤◌, List, length, refl, sym, ◌∙◌, subst, arith, inl, inr}
use Rattle.std.proofs.lemmas.Bool.{cases_lt, cases_eq}
use Rattle.std.proofs.lemmas.List.{get_or-set_other, length-set, set_past}
use Rattle.std.proofs.lemmas.Grind.{get_or-set_at}
use Rattle.board_text.specs.PlainBoard.{PlainBoard, Dominates}
use Rattle.positions.specs.Game.{LabellerTree, Legal, moved}
use Rattle.domains.specs.Withdrawal.{IsFreed, WithdrawalTree}

-- an answer stays legal, and leads to a configuration with the same labels given up
freed_legal : (board : PlainBoard) (held freed : List ℕ) (pebble label : ℕ) → IsFreed board held freed
    → Legal board held pebble label → Legal board freed pebble label
freed_legal board held freed pebble label is legal = record {
  is_label = legal.is_label;
  dominates = λ other below differs low. elim (is.each other) [
    | inr none ↦ let no : ⊥ = omega (arith, none, low) in absurd no
    | inl same ↦ subst (Dominates board label) (sym same)
        (legal.dominates other below differs (subst (λ n. n < board.labels) same low))
  ];
}

freed_after : (board : PlainBoard) (held freed : List ℕ) (pebble label : ℕ) → IsFreed board held freed
    → IsFreed board (moved held pebble label) (moved freed pebble label)
freed_after board held freed pebble label is =
    elim (cases_lt pebble (length held)) [
      | inr past ↦
          subst (λ c. IsFreed board c (moved freed pebble label)) (sym (set_past held pebble label past))
          (subst (IsFreed board held)
          (sym (set_past freed pebble label (omega (arith, is.same_length, past)))) is)
      | inl inside ↦ record {
        same_length = length-set freed pebble label ∙ (is.same_length ∙ sym (length-set held pebble label));
        each = λ place. elim (cases_eq place pebble) [
          | inl one ↦ inl (get_or-set_at freed pebble place label 0 one (omega (arith, is.same_length, inside))
              ∙ sym (get_or-set_at held pebble place label 0 one inside))
          | inr differs ↦
              let here = get_or-set_other freed pebble place label 0 differs in
              let there = get_or-set_other held pebble place label 0 differs in
              elim (is.each place) [
                | inl same ↦ inl (here ∙ (same ∙ sym there))
                | inr none ↦ inr (subst (λ n. board.labels ≤ n) (sym here) none)
              ]
        ];
      }
    ]

pub freed_lasts : (board : PlainBoard) (depth : ℕ) (held freed : List ℕ) → IsFreed board held freed
    → LabellerTree board depth held → LabellerTree board depth freed
freed_lasts board zero held freed is tree = tt
freed_lasts board (suc depth) held freed is tree =
    λ pebble below.
    let answer = tree pebble below in (
      answer.0,
      freed_legal board held freed pebble answer.0 is answer.1,
      freed_lasts board depth (moved held pebble answer.0) (moved freed pebble answer.0)
          (freed_after board held freed pebble answer.0 is) answer.2,
    )

lasts_withdrawals : (board : PlainBoard) (depth : ℕ) (configuration : List ℕ)
    → LabellerTree board depth configuration → WithdrawalTree board depth configuration
lasts_withdrawals board zero configuration tree = tt
lasts_withdrawals board (suc depth) configuration tree =
    λ freed is pebble below.
    let answer = freed_lasts board (suc depth) configuration freed is tree pebble below in
    (answer.0, answer.1, lasts_withdrawals board depth (moved freed pebble answer.0) answer.2)

lasts_without : (board : PlainBoard) (depth : ℕ) (configuration : List ℕ)
    → WithdrawalTree board depth configuration → LabellerTree board depth configuration
lasts_without board zero configuration tree = tt
lasts_without board (suc depth) configuration tree =
    λ pebble below.
    let answer = tree configuration (record { same_length = refl; each = λ other. inl refl }) pebble below in
    (answer.0, answer.1, lasts_without board depth (moved configuration pebble answer.0) answer.2)

pub withdrawals : (board : PlainBoard) (depth : ℕ) (configuration : List ℕ)
    → LabellerTree board depth configuration ↔ WithdrawalTree board depth configuration
withdrawals board depth configuration =
    (lasts_withdrawals board depth configuration, lasts_without board depth configuration)
