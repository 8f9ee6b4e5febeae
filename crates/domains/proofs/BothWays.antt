-- Two labels that beat each other carry two pebbles, and their product with themselves carries four.
use Rattle.std.proofs.Common.{◌≡◌, ◌≢◌, ℕ, ◌/◌, ◌%◌, ◌<◌, ◌≤◌, [], ◌∷◌, length, get_or}
use Rattle.std.proofs.Common.{sym, ◌∙◌, ap, subst, arith, inl, inr}
use Rattle.std.specs.List.{range_with_len}
use Rattle.std.proofs.lemmas.Bool.{cases_eq}
use Rattle.std.proofs.lemmas.Grind.{get_or-set_at}
use Rattle.std.proofs.lemmas.List.{get_or-set_other, get_or-set_same, length-set}
use Rattle.std.proofs.lemmas.List.FromFn.{get_or-range_with_len, length-range_with_len}
use Rattle.board_text.specs.PlainBoard.{PlainBoard, plain_board, Dominates}
use Rattle.positions.specs.Game.{moved}
use Rattle.nested_cycles.proofs.Cited.{contains_cases, contains_here, contains_later, contains_none}
use Rattle.domains.specs.Carried.{with_pebbles, Carries, CarriesExactly}
use Rattle.domains.specs.Products.{IsProduct}
use Rattle.domains.proofs.KeptProperties.{kept_lasts}
use Rattle.domains.proofs.ProductBoards.{between, within}
use Rattle.domains.proofs.ProductData.{product_board}

-- as many pebbles are carried as there are labels of which each dominates all others: each keeps its own
each_its_own : (board : PlainBoard) (count : ℕ) → count ≤ board.labels
    → ((x y : ℕ) → x < count → y < count → x ≢ y → Dominates board x y) → Carries board count
each_its_own board count some beats = (
  range_with_len 0 count,
  length-range_with_len 0 count,
  kept_lasts (λ c. (length c ≡ count) × ((i : ℕ) → i < count → get_or c i 0 ≡ i)) (with_pebbles board count)
      (λ c good pebble below. (
        pebble,
        record {
          is_label = omega (arith, below, some);
          dominates = λ other other_below differs low.
              subst (Dominates board pebble) (sym (good.1 other other_below))
              (beats pebble other below other_below (λ same. differs (sym same)));
        },
        (
          length-set c pebble pebble ∙ good.0,
          λ i i_below. elim (cases_eq i pebble) [
            | inl same ↦ get_or-set_at c pebble i pebble 0 same (omega (arith, good.0, below)) ∙ sym same
            | inr differs ↦ get_or-set_other c pebble i pebble 0 differs ∙ good.1 i i_below
          ],
        ),
      ))
      (range_with_len 0 count)
      (length-range_with_len 0 count, λ i below. get_or-range_with_len 0 count i 0 below ∙ omega arith),
)

abbrev both : PlainBoard
both = plain_board 2 2 [] ((0, 1) ∷ (1, 0) ∷ [])

others_beaten : (x y : ℕ) → x < 2 → y < 2 → x ≢ y → Dominates both x y
others_beaten x y x_low y_low differs =
    elim (cases_eq x 0) [
      | inl zero_is ↦
          let one_is : 1 ≡ y = omega (arith, zero_is, y_low, differs) in
          subst (Dominates both x) one_is
          (subst (λ n. Dominates both n 1) (sym zero_is) (contains_here (0, 1) ((1, 0) ∷ [])))
      | inr not ↦
          let one_is : 1 ≡ x = omega (arith, not, x_low) in
          let zero_is : 0 ≡ y = omega (arith, one_is, y_low, differs) in
          subst (Dominates both x) zero_is
          (subst (λ n. Dominates both n 0) one_is
          (contains_later (0, 1) ((1, 0) ∷ []) (1, 0) (contains_here (1, 0) [])))
    ]

none_itself : (x y : ℕ) → Dominates both x y → x ≢ y
none_itself x y beats same =
    elim (contains_cases (0, 1) ((1, 0) ∷ []) (x, y) beats) [
      | inl one ↦ omega (arith, same, ap (λ (p : ℕ × ℕ). p.0) one, ap (λ (p : ℕ × ℕ). p.1) one)
      | inr later ↦ elim (contains_cases (1, 0) [] (x, y) later) [
        | inl one ↦ omega (arith, same, ap (λ (p : ℕ × ℕ). p.0) one, ap (λ (p : ℕ × ℕ). p.1) one)
        | inr none ↦ contains_none (x, y) none
      ]
    ]

no_three : Carries both 3 → ⊥
no_three carried =
    let first = carried.2 3 0 (omega arith) in
    let second = first.2 1 (omega arith) in
    let third = second.2 2 (omega arith) in
    let c = moved carried.0 0 first.0 in
    let d = moved c 1 second.0 in
    let c_long : length c ≡ 3 = length-set carried.0 0 first.0 ∙ carried.1 in
    let here : get_or c 0 0 ≡ first.0 = get_or-set_same carried.0 0 first.0 0 (omega (arith, carried.1)) in
    let still : get_or d 0 0 ≡ first.0
    = get_or-set_other c 1 0 second.0 0 (λ same. omega (arith, same)) ∙ here in
    let there : get_or d 1 0 ≡ second.0 = get_or-set_same c 1 second.0 0 (omega (arith, c_long)) in
    let a : second.0 ≢ get_or c 0 0
    = none_itself second.0 (get_or c 0 0)
    (second.1.dominates 0 (omega arith) (λ same. omega (arith, same)) (omega (arith, here, first.1.is_label))) in
    let b : third.0 ≢ get_or d 0 0
    = none_itself third.0 (get_or d 0 0)
    (third.1.dominates 0 (omega arith) (λ same. omega (arith, same)) (omega (arith, still, first.1.is_label))) in
    let e : third.0 ≢ get_or d 1 0
    = none_itself third.0 (get_or d 1 0)
    (third.1.dominates 1 (omega arith) (λ same. omega (arith, same)) (omega (arith, there, second.1.is_label))) in
    omega (arith, a, b, e, here, still, there, first.1.is_label, second.1.is_label, third.1.is_label)

pub both_ways : (domain : PlainBoard) × (board : PlainBoard) × IsProduct domain domain board
    × CarriesExactly domain 2 × Carries board 4
both_ways =
    let found = product_board both both 4 [] (omega arith) in
    let product = found.1 in
    let four : found.0.labels ≡ 4 = product.labels in (
      both,
      found.0,
      product,
      record { carries = each_its_own both 2 (omega arith) others_beaten; no_more = no_three },
      each_its_own found.0 4 (omega (arith, four)) (λ x y x_low y_low differs.
          let x_label : x < found.0.labels = omega (arith, x_low, four) in
          let y_label : y < found.0.labels = omega (arith, y_low, four) in
          elim (cases_eq (x / 2) (y / 2)) [
            | inr other ↦ between both both found.0 product x y x_label y_label
                (others_beaten (x / 2) (y / 2) (omega (arith, x_low)) (omega (arith, y_low)) other)
            | inl same ↦ within both both found.0 product x y x_label y_label same
                (others_beaten (x % 2) (y % 2) (omega arith) (omega arith)
                (λ one. omega (arith, same, one, differs)))
          ]),
    )
