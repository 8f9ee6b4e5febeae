-- A list of labels as a number: the part before a place, the label there, and the part after it.
use Rattle.std.proofs.Common.{◌≡◌, ℕ, suc, ◌+◌, ◌-◌, ◌*◌, ◌/◌, ◌%◌, ◌^◌, ◌<◌, ◌≤◌, List, ◌∷◌, ◌++◌, length, get_or}
use Rattle.std.proofs.Common.{take, drop, set, sym, ap, ◌∙◌, subst, arith}
use Rattle.std.proofs.Math.Seq.{drop-cons}
use Rattle.std.proofs.lemmas.Nat.{div-mul-add, mod-mul-add}
use Rattle.std.specs.List.{All, remove, insert}
use Rattle.std.proofs.lemmas.List.{length-drop, take-append-drop, set_split}
use Rattle.std.proofs.lemmas.List.Elements.{All-get_or, All-drop}
use Rattle.positions.specs.Ranks.{number_of}
use Rattle.positions.proofs.Digits.{number_below, number_of-append, number_of-between}

-- the number of a list by a place and the weight there: with that label, with another one, and without one
pub record Parts (base : ℕ) (labels : List ℕ) (place weight : ℕ) : Type 0 where
  pub before : ℕ
  pub behind : ℕ
  pub whole : number_of base labels ≡ (before * base + get_or labels place 0) * weight + behind
  pub changed : (label : ℕ) → number_of base (set labels place label) ≡ (before * base + label) * weight + behind
  pub removed : number_of base (remove labels place) ≡ before * weight + behind
  pub low : get_or labels place 0 < base
  pub small : behind < weight

pub parts_at : (base : ℕ) (labels : List ℕ) (place count : ℕ) → All (λ label. label < base) labels
    → length labels ≡ count → place < count
    → Parts base labels place (base ^ (count - 1 - place))
parts_at base labels place count each size inside =
    let back : List ℕ = drop (suc place) labels in
    let front : List ℕ = take place labels in
    let within : place < length labels = omega arith in
    let short : length back ≡ count - 1 - place = omega (arith, length-drop (suc place) labels) in
    let split : labels ≡ front ++ get_or labels place 0 ∷ back =
    sym (take-append-drop place labels) ∙ ap (λ (l : List ℕ). front ++ l) (drop-cons labels place 0 within) in
    let power : base ^ length back ≡ base ^ (count - 1 - place) = ap (λ (n : ℕ). base ^ n) short in
    record {
      before = number_of base front;
      behind = number_of base back;
      whole = ap (number_of base) split ∙ number_of-between base front (get_or labels place 0) back
          ∙ ap (λ (w : ℕ). (number_of base front * base + get_or labels place 0) * w + number_of base back) power;
      changed =
          λ label. ap (number_of base) (set_split labels place label within) ∙ number_of-between base front label back
          ∙ ap (λ (w : ℕ). (number_of base front * base + label) * w + number_of base back) power;
      removed = number_of-append base front back ∙ ap (λ (w : ℕ). number_of base front * w + number_of base back) power;
      low = All-get_or (λ label. label < base) labels place 0 within each;
      small = subst (λ (w : ℕ). number_of base back < w) power
          (number_below base back (All-drop (λ label. label < base) (suc place) labels each));
    }

-- the number of a list by a place between two of its labels: as it is, and with a label put there
pub record Room (base : ℕ) (labels : List ℕ) (place weight : ℕ) : Type 0 where
  pub before : ℕ
  pub behind : ℕ
  pub whole : number_of base labels ≡ before * weight + behind
  pub filled : (label : ℕ) → number_of base (insert labels place label) ≡ (before * base + label) * weight + behind
  pub small : behind < weight

pub room_at : (base : ℕ) (labels : List ℕ) (place count : ℕ) → All (λ label. label < base) labels
    → length labels ≡ count → place ≤ count
    → Room base labels place (base ^ (count - place))
room_at base labels place count each size inside =
    let back : List ℕ = drop place labels in
    let front : List ℕ = take place labels in
    let short : length back ≡ count - place = omega (arith, length-drop place labels) in
    let power : base ^ length back ≡ base ^ (count - place) = ap (λ (n : ℕ). base ^ n) short in
    record {
      before = number_of base front;
      behind = number_of base back;
      whole = ap (number_of base) (sym (take-append-drop place labels)) ∙ number_of-append base front back
          ∙ ap (λ (w : ℕ). number_of base front * w + number_of base back) power;
      filled = λ label. number_of-between base front label back
          ∙ ap (λ (w : ℕ). (number_of base front * base + label) * w + number_of base back) power;
      small = subst (λ (w : ℕ). number_of base back < w) power
          (number_below base back (All-drop (λ label. label < base) place labels each));
    }

-- ---- the parts of a number

pub quotient : (number high weight low : ℕ) → number ≡ high * weight + low → low < weight → number / weight ≡ high
quotient number high weight low whole small = ap (λ (n : ℕ). n / weight) whole ∙ div-mul-add high weight low small

pub remainder : (number high weight low : ℕ) → number ≡ high * weight + low → low < weight → number % weight ≡ low
remainder number high weight low whole small = ap (λ (n : ℕ). n % weight) whole ∙ mod-mul-add high weight low small
