-- The digits of a number, taken one after the other from the first.
use Rattle.std.proofs.Common.{◌≡◌, ℕ, suc, ◌+◌, ◌-◌, ◌/◌, ◌%◌, ◌^◌, ◌<◌, ◌≤◌, List, ◌∷◌, length, get_or, drop, sym, ap}
use Rattle.std.proofs.Common.{◌∙◌, subst, arith, mod-lt}
use Rattle.std.proofs.Math.Nat.{one-le-pow}
use Rattle.std.proofs.Math.Seq.{drop-cons}
use Rattle.std.proofs.lemmas.List.Elements.{All-get_or}
use Rattle.positions.specs.Ranks.{digits_of}
use Rattle.positions.proofs.Digits.{digits_below}

-- the digits of a number, `count` of them
pub record AreDigits (base count number : ℕ) (digits : List ℕ) : Type 0 where
  pub below : number < base ^ count
  pub same : digits_of base count number ≡ digits

-- a number has the digits from a place on
abbrev pub IsRest : ℕ → ℕ → List ℕ → ℕ → ℕ → Type 0
IsRest base count digits place rest = AreDigits base (count - place) rest (drop place digits)

-- the digit at the place, and the rest after it
pub record IsNextRest (base count : ℕ) (digits : List ℕ) (place digit rest : ℕ) : Type 0 where
  pub digit_is : digit ≡ get_or digits place 0
  pub low : digit < base
  pub rest_is : IsRest base count digits (place + 1) rest

pub rest_next : (base count : ℕ) (digits : List ℕ) (place rest weight : ℕ) → 1 ≤ base → length digits ≡ count
    → place < count → weight ≡ base ^ (count - 1 - place)
    → IsRest base count digits place rest → IsNextRest base count digits place (rest / weight) (rest % weight)
rest_next base count digits place rest weight some size inside weight_is are =
    let left : ℕ = count - 1 - place in
    let power : ℕ = base ^ left in
    let within : place < length digits = omega arith in
    let one_more : count - place ≡ suc left = omega arith in
    let one_less : left ≡ count - (place + 1) = omega arith in
    let next : suc place ≡ place + 1 = omega arith in
    let both : rest / power ∷ digits_of base left (rest % power) ≡ get_or digits place 0 ∷ drop (suc place) digits =
    ap (λ n. digits_of base n rest) (sym one_more) ∙ are.same ∙ drop-cons digits place 0 within in
    let first : rest / power ≡ get_or digits place 0 = cc in
    let others : digits_of base left (rest % power) ≡ drop (suc place) digits = cc in
    let low : rest < base ^ suc left = subst (λ n. rest < base ^ n) one_more are.below in
    subst (λ w. IsNextRest base count digits place (rest / w) (rest % w)) (sym weight_is) (record {
      digit_is = first;
      low = All-get_or (λ digit. digit < base) (digits_of base (suc left) rest) 0 0 (omega arith)
          (digits_below base (suc left) rest low);
      rest_is = record {
        below = subst (λ n. rest % power < base ^ n) one_less (mod-lt rest (one-le-pow left base some));
        same = ap (λ n. digits_of base n (rest % power)) (sym one_less) ∙ others ∙ ap (λ n. drop n digits) next;
      };
    })
