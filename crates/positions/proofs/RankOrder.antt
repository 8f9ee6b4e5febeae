-- Numbers are in the order of their lists.
use Rattle.std.proofs.Common.{◌≡◌, ℕ, zero, suc, ◌+◌, ◌*◌, ◌^◌, ◌<◌, ◌≤◌, List, [], ◌∷◌, length, get_or, take, refl}
use Rattle.std.proofs.Common.{sym, ap, ◌∙◌, inl, inr, arith, mul-le-mul_right, suc-mul}
use Rattle.std.specs.List.{All}
use Rattle.std.proofs.lemmas.Bool.{cases_lt, cases_eq}
use Rattle.std.proofs.lemmas.List.Elements.{All-tail}
use Rattle.positions.specs.Ranks.{number_of, ComesBefore}
use Rattle.positions.proofs.Digits.{number_below}

-- a smaller first label makes a smaller number
smaller_first : (base first second : ℕ) (ones others : List ℕ) → All (λ label. label < base) ones
    → length ones ≡ length others → first < second
    → number_of base (first ∷ ones) < number_of base (second ∷ others)
smaller_first base first second ones others each same less =
    let rest : number_of base ones < base ^ length ones = number_below base ones each in
    let power : second * base ^ length ones ≡ second * base ^ length others = ap (λ n. second * base ^ n) same in
    let product : suc first * base ^ length ones ≤ second * base ^ length ones =
    mul-le-mul_right (base ^ length ones) less in
    let more : suc first * base ^ length ones ≡ first * base ^ length ones + base ^ length ones =
    suc-mul first (base ^ length ones) in
    omega arith

-- equal first labels weigh the same
same_first : (base first second : ℕ) (ones others : List ℕ) → length ones ≡ length others → first ≡ second
    → first * base ^ length ones ≡ second * base ^ length others
same_first base first second ones others size same =
    ap (λ n. n * base ^ length ones) same ∙ ap (λ n. second * base ^ n) size

pub smaller_number : (base : ℕ) (ones others : List ℕ) → All (λ label. label < base) ones → length ones ≡ length others
    → ComesBefore ones others
    → number_of base ones < number_of base others
smaller_number base ones others each same before =
    at before.index ones others each same before.same_before before.smaller_there
  where
    at : (place : ℕ) (ones others : List ℕ) → All (λ label. label < base) ones → length ones ≡ length others
        → take place ones ≡ take place others
        → get_or ones place 0 < get_or others place 0 → number_of base ones < number_of base others
    at place [] [] each same front less = absurd (omega arith)
    at place [] (second ∷ others) each same front less = absurd (omega arith)
    at place (first ∷ ones) [] each same front less = absurd (omega arith)
    at zero (first ∷ ones) (second ∷ others) each same front less =
        smaller_first base first second ones others (All-tail (λ l. l < base) first ones each) (omega arith) less
    at (suc place) (first ∷ ones) (second ∷ others) each same front less =
        let size : length ones ≡ length others = omega arith in
        let heads : first ≡ second = cc in
        let tails : take place ones ≡ take place others = cc in
        let rest : number_of base ones < number_of base others =
        at place ones others (All-tail (λ l. l < base) first ones each) size tails less in
        let high : first * base ^ length ones ≡ second * base ^ length others =
        same_first base first second ones others size heads in
        omega arith

pub comes_before : (base : ℕ) (ones others : List ℕ) → All (λ label. label < base) others → length ones ≡ length others
    → number_of base ones < number_of base others
    → ComesBefore ones others
comes_before base [] [] each same less = absurd (omega arith)
comes_before base [] (second ∷ others) each same less = absurd (omega arith)
comes_before base (first ∷ ones) [] each same less = absurd (omega arith)
comes_before base (first ∷ ones) (second ∷ others) each same less =
    let size : length ones ≡ length others = omega arith in
    elim (cases_lt first second) [
      | inl smaller ↦ record { index = 0; same_before = refl; smaller_there = smaller }
      | inr larger ↦ elim (cases_eq first second) [
        | inl equal ↦
            let high : first * base ^ length ones ≡ second * base ^ length others =
            same_first base first second ones others size equal in
            let rest = comes_before base ones others (All-tail (λ l. l < base) second others each) size (omega arith) in
            record {
              index = suc rest.index;
              same_before = (λ i. equal i ∷ rest.same_before i);
              smaller_there = rest.smaller_there;
            }
        | inr differ ↦
            let other : number_of base (second ∷ others) < number_of base (first ∷ ones) =
            smaller_first base second first others ones (All-tail (λ l. l < base) second others each) (sym size)
            (omega arith) in
            absurd (omega arith)
      ]
    ]
