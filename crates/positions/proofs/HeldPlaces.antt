-- The places of a configuration in an array for all pebbles that a board can have.
use Rattle.std.proofs.Common.{◌≡◌, ℕ, ◌+◌, ◌<◌, ◌≤◌, List, length, get_or, set, take, sym, ap, ◌∙◌, inl, inr, arith}
use Rattle.std.proofs.lemmas.Bool.{cases_eq}
use Rattle.std.proofs.lemmas.List.{length-set, length-take-le, get_or-set_same, get_or-set_other, get_or-take}
use Rattle.std.proofs.lemmas.List.{ext_get_or}

-- room for the places of six pebbles, of which the first `count` are those of the configuration
pub record AreFirstHeld (configuration : List ℕ) (count : ℕ) (held : List ℕ) : Type 0 where
  pub room : length held ≡ 6
  pub each : (pebble : ℕ) → pebble < count → get_or held pebble 0 ≡ get_or configuration pebble 0

pub one_held : (configuration held : List ℕ) (pebble place : ℕ) → pebble < 6 → place ≡ get_or configuration pebble 0
    → AreFirstHeld configuration pebble held → AreFirstHeld configuration (pebble + 1) (set held pebble place)
one_held configuration held pebble place low is are =
    let room : length held ≡ 6 = are.room in
    record {
      room = length-set held pebble place ∙ room;
      each = λ index before. elim (cases_eq index pebble) [
        | inl same ↦ ap (λ n. get_or (set held pebble place) n 0) same
            ∙ get_or-set_same held pebble place 0 (omega arith) ∙ is ∙ ap (λ n. get_or configuration n 0) (sym same)
        | inr differ ↦ get_or-set_other held pebble index place 0 differ ∙ are.each index (omega (arith, differ))
      ];
    }

pub all_held : (configuration held : List ℕ) (pebbles : ℕ) → length configuration ≡ pebbles → pebbles ≤ 6
    → AreFirstHeld configuration pebbles held → take pebbles held ≡ configuration
all_held configuration held pebbles size few are =
    let room : length held ≡ 6 = are.room in
    let long : length (take pebbles held) ≡ pebbles = length-take-le pebbles held (omega arith) in
    ext_get_or 0 (take pebbles held) configuration (long ∙ sym size)
    (λ index inside. let low : index < pebbles = omega arith in get_or-take pebbles held index 0 low ∙ are.each index
    low)
