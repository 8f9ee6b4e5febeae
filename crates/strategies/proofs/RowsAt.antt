-- The rows at some places, one after the other.
use Rattle.std.proofs.Common.{◌≡◌, ◌↔◌, ℕ, ◌<◌, Bool, List, [], ◌∷◌, ◌++◌, map, Option, Some, None, get_or}
use Rattle.std.proofs.Common.{refl, sym, ap, ◌∙◌, subst, inl, inr, arith}
use Rattle.std.specs.List.{All, AllPairs, Contains, cons_option}
use Rattle.std.proofs.lemmas.List.Elements.{All-cons, All-nil, Contains-append_cases, Contains-append_left}
use Rattle.std.proofs.lemmas.List.Elements.{Contains-append_right, Contains-get_or, Contains-push, Contains-push_cases}
use Rattle.std.proofs.lemmas.List.Kept.{AllPairs-cons}
use Rattle.board_text.specs.PlainBoard.{PlainBoard}
use Rattle.strategies.specs.Inside.Numbering.{Numbering, IsNumbering}
use Rattle.strategies.specs.Inside.Reached.{AreInOrder}
use Rattle.strategies.specs.Inside.Side.{Side, AreOfReached, AreReached, IsRowAt, MayStandAt, AreRowsAt, AreSection}
use Rattle.strategies.specs.Inside.Marks.{AreListed, IsMarked}
use Rattle.strategies.proofs.OneList.{behind_first, tail_ascends}

nothing_in : {X : Type 0} (x : X) → Contains [] x → ⊥
nothing_in x among = let inside : among.0 < 0 = among.1 in omega arith

in_one : {X : Type 0} (y x : X) → Contains (y ∷ []) x → y ≡ x
in_one y x among = elim (Contains-push_cases [] y x among) [ inl none ↦ absurd (nothing_in x none) | inr same ↦ same ]

module _ {R : Type 0} (numbering : Numbering) (side : Side R) where
  option_append : (row : Option R) (others more : List R) → cons_option row others ++ more ≡ cons_option row
      (others ++ more)
  option_append None others more = refl
  option_append (Some row) others more = refl

  -- the rows at some numbers, and after them those at others
  pub rows_append : (xs ys : List ℕ) (rows more : List R) → AreRowsAt numbering side xs rows
      → AreRowsAt numbering side ys more
      → AreRowsAt numbering side (xs ++ ys) (rows ++ more)
  rows_append [] ys rows more none are = subst (λ (l : List R). AreRowsAt numbering side ys (l ++ more))
      (sym none) are
  rows_append (x ∷ xs) ys rows more (row, others, is, rest, there) are = (
    row,
    others ++ more,
    is,
    rows_append xs ys others more rest are,
    ap (λ (l : List R). l ++ more) there ∙ option_append row others more,
  )

  -- the row at one number more, if there is one
  pub rows_push : (xs : List ℕ) (number : ℕ) (rows : List R) (row : Option R) → AreRowsAt numbering side xs rows
      → IsRowAt numbering side number row → AreRowsAt numbering side (xs ++ number ∷ [])
      (rows ++ cons_option row [])
  rows_push xs number rows row are is = rows_append xs (number ∷ []) rows (cons_option row []) are
      (row, [], is, refl, refl)

module _ {R : Type 0} (board : PlainBoard) (numbering : Numbering) (are : IsNumbering board numbering)
    (side : Side R) where
  -- the row stands at the configuration of one of the numbers
  abbrev StandsAmong : List ℕ → side.Row → Type 0
  StandsAmong numbers row = (number : ℕ) × Contains numbers number × side.IsRow row
      × (side.at row ≡ numbering.places number)

  later : (x : ℕ) (numbers : List ℕ) (row : side.Row) → StandsAmong numbers row → StandsAmong (x ∷ numbers) row
  later x numbers row (number, among, is, at) = (number, Contains-append_right (x ∷ []) numbers number among, is, at)

  pub stands_among : (numbers : List ℕ) (rows : List R) → AreRowsAt numbering side numbers rows → (row : side.Row)
      → Contains (map side.shown rows) row → StandsAmong numbers row
  stands_among [] rows none row among = absurd (nothing_in row (subst (λ (l : List R). Contains (map side.shown l) row)
      none among))
  stands_among (x ∷ numbers) rows (None, others, is, rest, there) row among =
      later x numbers row (stands_among numbers others rest row (subst (λ (l : List R). Contains (map side.shown l) row)
      there among))
  stands_among (x ∷ numbers) rows (Some first, others, is, rest, there) row among =
      elim (Contains-append_cases (side.shown first ∷ []) (map side.shown others) row
      (subst (λ (l : List R). Contains (map side.shown l) row) there among)) [
        | inl here ↦
            let same = in_one (side.shown first) row here in (
              x,
              Contains-append_left (x ∷ []) numbers x (Contains-push [] x),
              subst side.IsRow same is.0,
              subst (λ (r : side.Row). side.at r ≡ numbering.places x) same is.1,
            )
        | inr behind ↦ later x numbers row (stands_among numbers others rest row behind)
      ]

  -- all rows are filled up
  pub all_filled : (numbers : List ℕ) (rows : List R) → AreRowsAt numbering side numbers rows
      → All side.IsFilled rows
  all_filled [] rows none = subst (All side.IsFilled) (sym none) (All-nil side.IsFilled)
  all_filled (x ∷ numbers) rows (None, others, is, rest, there) = subst (All side.IsFilled) (sym there)
      (all_filled numbers
      others rest)
  all_filled (x ∷ numbers) rows (Some first, others, is, rest, there) =
      subst (All side.IsFilled) (sym there) (All-cons side.IsFilled first others is.2 (all_filled numbers others rest))

  -- rows at ascending numbers ascend
  pub rows_ascend : (numbers : List ℕ) (rows : List R) → AreRowsAt numbering side numbers rows
      → AllPairs (λ first second. first < second) numbers → ((number : ℕ) → Contains numbers number
      → numbering.IsNumber number)
      → AllPairs (λ first second. numbering.number (side.at first) < numbering.number (side.at second))
      (map side.shown rows)
  rows_ascend [] rows none ascend below = subst
      (λ (l : List R). AllPairs (λ first second. numbering.number (side.at first) < numbering.number (side.at second))
      (map side.shown l))
      (sym none)
      (λ i j d less inside. absurd (omega arith))
  rows_ascend (x ∷ numbers) rows (None, others, is, rest, there) ascend below = subst
      (λ (l : List R). AllPairs (λ first second. numbering.number (side.at first) < numbering.number (side.at second))
      (map side.shown l))
      (sym there)
      (rows_ascend numbers others rest (tail_ascends (λ n. n) x numbers ascend)
      (λ number among. below number (Contains-append_right (x ∷ []) numbers number among)))
  rows_ascend (x ∷ numbers) rows (Some first, others, is, rest, there) ascend below = subst
      (λ (l : List R). AllPairs (λ one other. numbering.number (side.at one) < numbering.number (side.at other))
      (map side.shown l))
      (sym there)
      (AllPairs-cons (λ one other. numbering.number (side.at one) < numbering.number (side.at other)) (side.shown first)
      (map side.shown others)
      (λ k d inside.
      let row = get_or (map side.shown others) k d in
      let stands = stands_among numbers others rest row (Contains-get_or (map side.shown others) k d inside) in
      let less : x < stands.0 = behind_first (λ n. n) x numbers stands.0 ascend stands.1 in
      let one : numbering.number (side.at (side.shown first)) ≡ x = ap numbering.number is.1
      ∙ are.again x (below x (Contains-append_left (x ∷ []) numbers x (Contains-push [] x))) in
      let other : numbering.number (side.at row) ≡ stands.0 = ap numbering.number stands.3
      ∙ are.again stands.0 (below stands.0 (Contains-append_right (x ∷ []) numbers stands.0 stands.1)) in
      omega (arith, less, one, other))
      (rows_ascend numbers others rest (tail_ascends (λ n. n) x numbers ascend)
      (λ number among. below number (Contains-append_right (x ∷ []) numbers number among))))

  module _ (of_reached : AreOfReached numbering board side) where
    -- a row at the configuration of one of the numbers is there
    pub row_is_there : (numbers : List ℕ) (rows : List R) → AreRowsAt numbering side numbers rows → (number : ℕ)
        → Contains numbers
        number
        → (row : side.Row) → side.IsRow row → side.at row ≡ numbering.places number → Contains (map side.shown rows)
        row
    row_is_there [] rows none number among row is_row at = absurd (nothing_in number among)
    row_is_there (x ∷ numbers) rows (None, others, is, rest, there) number among row is_row at =
        subst (λ (l : List R). Contains (map side.shown l) row) (sym there)
        (elim (Contains-append_cases (x ∷ []) numbers number among) [
          | inl here ↦ absurd (is row is_row (at ∙ ap numbering.places (sym (in_one x number here))))
          | inr behind ↦ row_is_there numbers others rest number behind row is_row at
        ])
    row_is_there (x ∷ numbers) rows (Some first, others, is, rest, there) number among row is_row at =
        subst (λ (l : List R). Contains (map side.shown l) row) (sym there)
        (elim (Contains-append_cases (x ∷ []) numbers number among) [
          | inl here ↦
              let same = of_reached.one (side.shown first) row is.0 is_row
              (is.1 ∙ ap numbering.places (in_one x number here) ∙ sym at) in
              Contains-append_left (side.shown first ∷ []) (map side.shown others) row
              (subst (Contains (side.shown first ∷ [])) same (Contains-push [] (side.shown first)))
          | inr behind ↦ Contains-append_right (side.shown first ∷ []) (map side.shown others) row
              (row_is_there numbers others rest number behind row is_row at)
        ])

  -- the rows at all numbers that were reached, in ascending order, are the section
  pub section_is : (Among : ℕ → Type 0) (numbers : List ℕ) (rows : List R) → AreReached numbering board side Among
      → ((number : ℕ) → numbering.IsNumber number → Contains numbers number ↔ Among number)
      → ((number : ℕ) → Contains numbers number → Among number)
      → AllPairs (λ first second. first < second) numbers
      → AreRowsAt numbering side numbers rows → AreSection numbering side rows
  section_is Among numbers rows reached same among_all ascending rows_are = record {
    exactly = record {
      each = λ row. (
        λ among. (stands_among numbers rows rows_are row among).2,
        λ is_row.
            let number : ℕ = numbering.number (side.at row) in
            let is = reached.rows.is row is_row in
            let at : side.at row ≡ numbering.places number = sym (are.places_are (side.at row) is) in
            let is_number = are.number_is (side.at row) is in
            row_is_there reached.rows numbers rows rows_are number
            ((same number is_number).1 ((reached.each number).1
            (is_number, reached.rows.reached row number is_row at))) row is_row at,
      );
      ascending = rows_ascend numbers rows rows_are ascending
          (λ number among. ((reached.each number).0 (among_all number among)).0);
    };
    filled = all_filled numbers rows rows_are;
  }

  -- the numbers are listed in order
  pub section_in_order : (Among : ℕ → Type 0) (numbers : List ℕ) (rows : List R)
      → AreReached numbering board side Among
      → AreInOrder Among numbers → AreRowsAt numbering side numbers rows → AreSection numbering side rows
  section_in_order Among numbers rows are_reached order =
      section_is Among numbers rows are_reached (λ number is_number. order.each number)
      (λ number. (order.each number).0) order.ascending

  -- the numbers are marked, and listed up to an end that is past all numbers
  pub section_of_marks : (marks : List Bool) (end : ℕ) (numbers : List ℕ) (rows : List R)
      → AreReached numbering board side (IsMarked marks) → ((number : ℕ) → numbering.IsNumber number → number < end)
      → AreListed (IsMarked marks) 0 end numbers
      → AreRowsAt numbering side numbers rows → AreSection numbering side rows
  section_of_marks marks end numbers rows reached enough listed =
      section_is (IsMarked marks) numbers rows reached
      (λ number is_number. (
        λ among. ((listed.each number).0 among).0,
        λ marked. (listed.each number).1 (marked, omega arith, enough number is_number),
      ))
      (λ number among. ((listed.each number).0 among).0) listed.ascending

  -- a row may stand at each of the numbers
  pub may_stand : (Among : ℕ → Type 0) (numbers : List ℕ) → AreReached numbering board side Among
      → AreInOrder Among numbers → All (MayStandAt numbering side) numbers
  may_stand Among numbers are_reached order = λ k d inside.
      (are_reached.each (get_or numbers k d)).0
      ((order.each (get_or numbers k d)).0 (Contains-get_or numbers k d inside))
