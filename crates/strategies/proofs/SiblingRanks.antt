-- The configurations that differ in the last pebble's place, and their gaps.
use Rattle.std.proofs.Common.{◌≡◌, ℕ, zero, suc, ◌+◌, ◌-◌, ◌*◌, ◌^◌, ◌<◌, ◌≤◌, take, List, [], ◌∷◌, ◌++◌, length}
use Rattle.std.proofs.Common.{get_or, set, inl, inr, refl, sym, ap, ◌∙◌, subst, arith}
use Rattle.std.specs.List.{All, remove}
use Rattle.std.proofs.Math.Nat.{pow-zero}
use Rattle.std.proofs.lemmas.Bool.{cases_eq}
use Rattle.std.proofs.lemmas.List.{get_or-set_other, get_or-set_same, length-set, length-take-le, set-get_or, set-set}
use Rattle.std.proofs.lemmas.List.{take-set-le, take_all, take_more}
use Rattle.std.proofs.lemmas.List.Edits.{length-remove}
use Rattle.std.proofs.lemmas.List.Elements.{All-set, All-take, All-weaker}
use Rattle.board_text.specs.PlainBoard.{PlainBoard, IsConfiguration, places}
use Rattle.board_text.proofs.Cited.{labels_and_places}
use Rattle.positions.specs.Game.{moved}
use Rattle.positions.specs.Ranks.{configurations, configuration_at, number_of, rank_of}
use Rattle.positions.proofs.Cited.{configuration_at-rank_of, configuration_at_is, rank_of-configuration_at}
use Rattle.classes.specs.Classes.{IsClass, class_of, put}
use Rattle.classes.specs.ClassGaps.{gap_at}
use Rattle.classes.specs.Numbers.{number_by_greatest, ways}
use Rattle.classes.proofs.Cited.{all-remove, class-push, falls-class_of, is-below, length-class_of, remove-last}
use Rattle.classes.proofs.Cited.{remove-past}
use Rattle.gap_values.proofs.Cited.{gap-is}
use Rattle.strategies.specs.Inside.Walks.{AreGapNumbers, AreNumberRows, IsGapWalk, others_held}

-- ---- ranks

-- each step of the last place is one of the number
number-last : (base : ℕ) (list : List ℕ) (last place : ℕ) → last + 1 ≡ length list
    → number_of base (set list last place) ≡ number_of base (set list last 0) + place
number-last base [] last place end = absurd (omega arith)
number-last base (first ∷ []) zero place end =
    let one : base ^ 0 ≡ 1 = pow-zero base in
    let some : place * base ^ 0 ≡ place * 1 = ap (λ n. place * n) one in
    let none : 0 * base ^ 0 ≡ 0 * 1 = ap (λ n. 0 * n) one in
    omega (arith, some, none)
number-last base (first ∷ []) (suc last) place end = absurd (omega arith)
number-last base (first ∷ next ∷ more) zero place end = absurd (omega arith)
number-last base (first ∷ next ∷ more) (suc last) place end =
    let rest = number-last base (next ∷ more) last place (omega arith) in
    let size : length (set (next ∷ more) last place) ≡ length (set (next ∷ more) last 0) =
    length-set (next ∷ more) last place ∙ sym (length-set (next ∷ more) last 0) in
    let high : first * base ^ length (set (next ∷ more) last place) ≡ first * base ^ length (set (next ∷ more) last 0) =
    ap (λ n. first * base ^ n) size in
    omega (arith, rest, high)

module _ (board : PlainBoard) (some : 0 < board.pebbles) where
  abbrev last : ℕ
  last = board.pebbles - 1

  pub placed : (held : List ℕ) → IsConfiguration board held → (place : ℕ) → place < places board
      → IsConfiguration board (moved held last place)
  placed held is place low = record {
    each_pebble = length-set held last place ∙ is.each_pebble;
    each_place = All-set (λ p. p < places board) held last place low is.each_place;
  }

  -- the rank has the last place as its lowest digit
  pub first-near : (rank : ℕ) → rank < configurations board
      → rank ≡ rank_of board (moved (configuration_at board rank) last 0) + get_or (configuration_at board rank) last 0
  first-near rank below =
      let held : List ℕ = configuration_at board rank in
      let is : IsConfiguration board held = configuration_at_is board rank below in
      let size : length held ≡ board.pebbles = is.each_pebble in
      sym (rank_of-configuration_at board rank below)
      ∙ ap (rank_of board) (sym (set-get_or held last 0))
      ∙ number-last (places board) held last (get_or held last 0) (omega (arith, size, some))

  pub sibling-ranks : (rank first : ℕ) → rank < configurations board
      → first ≡ rank_of board (moved (configuration_at board rank) last 0)
      → (place : ℕ) → place < places board
      → configuration_at board (first + place) ≡ moved (configuration_at board rank) last place
  sibling-ranks rank first below first_is place low =
      let held : List ℕ = configuration_at board rank in
      let is : IsConfiguration board held = configuration_at_is board rank below in
      let size : length held ≡ board.pebbles = is.each_pebble in
      let number = number-last (places board) held last place (omega arith) in
      let same : first + place ≡ rank_of board (moved held last place) =
      ap (λ n. n + place) first_is ∙ sym number in
      ap (configuration_at board) same
      ∙ configuration_at-rank_of board (moved held last place) (placed held is place low)

  pub rows-moved : (held rests : List ℕ) (place : ℕ) → AreNumberRows held board.pebbles rests
      → AreNumberRows (moved held last place) board.pebbles rests
  rows-moved held rests place are = record {
    room = are.room;
    rows = λ size low pebble inside. are.rows size low pebble inside
        ∙ sym (ap (λ l. number_by_greatest (class_of (remove l pebble)))
        (take-set-le size held last place (omega (arith, low))));
  }

  pub walk-moved : (members : PlainBoard) (held : List ℕ) (first : ℕ) (rests gaps next : List ℕ) (place : ℕ)
      → IsGapWalk board members held first rests gaps
      → place < places board → AreGapNumbers (moved held last place) board.pebbles next
      → IsGapWalk board members (moved held last place) first rests next
  walk-moved members held first rests gaps next place is low are = record {
    same_board = is.same_board;
    is_configuration = placed held is.is_configuration place low;
    ranks = λ other inside. is.ranks other inside ∙ sym (set-set held last place other);
    numbers = rows-moved held rests place is.numbers;
    gaps_are = are;
  }

-- ---- gaps

module _ (board : PlainBoard) (held : List ℕ) (is : IsConfiguration board held) (some : 0 < board.pebbles) where
  size : length held ≡ board.pebbles
  size = is.each_pebble

  pub others-size : length (others_held board held) ≡ board.pebbles - 1
  others-size = length-take-le (board.pebbles - 1) held (omega (arith, size))

  pub others-places : All (λ p. p < places board) (others_held board held)
  others-places = All-take (λ p. p < places board) (board.pebbles - 1) held is.each_place

  pub others-labels : All (λ p. p ≤ board.labels) (others_held board held)
  others-labels =
      All-weaker (λ p. p < places board) (λ p. p ≤ board.labels)
      (λ p low. let most = (labels_and_places board).1 in omega (arith, low, most)) (others_held board held)
      others-places

  pub whole : held ≡ others_held board held ++ get_or held (board.pebbles - 1) 0 ∷ []
  whole =
      let end : board.pebbles - 1 + 1 ≡ length held = omega (arith, size) in
      sym (take_all (board.pebbles - 1 + 1) held (omega (arith, end)))
      ∙ take_more held (board.pebbles - 1) 0 (omega (arith, size))

  -- the gap of the last pebble
  pub last-gap : class_of (remove (others_held board held) (board.pebbles - 1)) ≡ gap_at held (board.pebbles - 1)
  last-gap =
      ap class_of (remove-past (others_held board held) (board.pebbles - 1) (omega (arith, others-size)))
      ∙ sym (ap (λ l. class_of (remove l (board.pebbles - 1))) whole
      ∙ ap (λ n. class_of (remove (others_held board held ++ get_or held (board.pebbles - 1) 0 ∷ []) n)) (sym
      others-size)
      ∙ ap class_of (remove-last (others_held board held) (get_or held (board.pebbles - 1) 0)))

  -- another pebble's has the last one's place
  pub other-gap : (pebble : ℕ) → pebble < board.pebbles - 1
      → gap_at held pebble
      ≡ put (get_or held (board.pebbles - 1) 0) (class_of (remove (others_held board held) pebble))
  other-gap pebble low =
      ap (λ l. class_of (remove l pebble)) whole
      ∙ ap class_of (removed (others_held board held) (get_or held (board.pebbles - 1) 0) pebble
      (omega (arith, others-size)))
      ∙ class-push (remove (others_held board held) pebble) (get_or held (board.pebbles - 1) 0)
    where
      removed : (list : List ℕ) (place index : ℕ) → index < length list
          → remove (list ++ place ∷ []) index ≡ remove list index ++ place ∷ []
      removed [] place index inside = absurd (omega arith)
      removed (first ∷ others) place zero inside = refl
      removed (first ∷ others) place (suc index) inside =
          ap (λ l. first ∷ l) (removed others place index (omega arith))

  -- the class without both
  pub other-class : (pebble : ℕ) → pebble < board.pebbles - 1
      → IsClass (places board) (board.pebbles - 2) (class_of (remove (others_held board held) pebble))
  other-class pebble low =
      let fewer = length-remove (others_held board held) pebble (omega (arith, others-size)) in
      record {
        size = length-class_of (remove (others_held board held) pebble) ∙ omega (arith, fewer, others-size);
        falls = falls-class_of (places board) (remove (others_held board held) pebble)
            (all-remove (λ p. p < places board) (others_held board held) pebble others-places);
      }

  -- the numbers of gaps are below how many there are
  pub gap-below : (pebble number : ℕ) → pebble < board.pebbles → number ≡ number_by_greatest (gap_at held pebble)
      → number < ways (board.pebbles - 1) (places board)
  gap-below pebble number low same =
      subst (λ n. n < ways (board.pebbles - 1) (places board)) (sym same)
      (is-below (places board) (board.pebbles - 1) (gap_at held pebble) (gap-is board held is pebble low))

  module _ (rests : List ℕ) (are : AreNumberRows held board.pebbles rests) where
    abbrev entry : ℕ → ℕ
    entry pebble = get_or rests (6 * (board.pebbles - 1) + pebble) 0

    row : (pebble : ℕ) → pebble < board.pebbles
        → entry pebble ≡ number_by_greatest (class_of (remove (others_held board held) pebble))
    row pebble low = are.rows (board.pebbles - 1) (omega (arith, some)) pebble (omega (arith, low))

    pub other-below : (pebble : ℕ) → pebble < board.pebbles - 1
        → entry pebble < ways (board.pebbles - 2) (places board)
    other-below pebble low =
        subst (λ n. n < ways (board.pebbles - 2) (places board)) (sym (row pebble (omega arith)))
        (is-below (places board) (board.pebbles - 2) (class_of (remove (others_held board held) pebble))
        (other-class pebble low))

    -- the member of that class with the last pebble's place is the gap
    pub other-number : (pebble member : ℕ) → pebble < board.pebbles - 1
        → ((gap : List ℕ) → IsClass (places board) (board.pebbles - 2) gap → entry pebble ≡ number_by_greatest gap
        → member ≡ number_by_greatest (put (get_or held (board.pebbles - 1) 0) gap))
        → member ≡ number_by_greatest (gap_at held pebble)
    other-number pebble member low is_member =
        is_member (class_of (remove (others_held board held) pebble)) (other-class pebble low)
        (row pebble (omega arith))
        ∙ ap number_by_greatest (sym (other-gap pebble low))

-- ---- the rows, one after the other

module _ (held : List ℕ) where
  abbrev rest : ℕ → ℕ → List ℕ
  rest size pebble = class_of (remove (take size held) pebble)

  removed : (list : List ℕ) (place index : ℕ) → index < length list
      → remove (list ++ place ∷ []) index ≡ remove list index ++ place ∷ []
  removed [] place index inside = absurd (omega arith)
  removed (first ∷ others) place zero inside = refl
  removed (first ∷ others) place (suc index) inside =
      ap (λ l. first ∷ l) (removed others place index (omega arith))

  module _ (size : ℕ) (inside : size < length held) where
    long : length (take size held) ≡ size
    long = length-take-le size held (omega (arith, inside))

    more : take (size + 1) held ≡ take size held ++ get_or held size 0 ∷ []
    more = take_more held size 0 inside

    pub rest-push : (pebble : ℕ) → pebble < size
        → rest (size + 1) pebble ≡ put (get_or held size 0) (rest size pebble)
    rest-push pebble low =
        ap (λ l. class_of (remove l pebble)) more
        ∙ ap class_of (removed (take size held) (get_or held size 0) pebble (omega (arith, low, long)))
        ∙ class-push (remove (take size held) pebble) (get_or held size 0)

    pub rest-all : rest (size + 1) (size + 1) ≡ put (get_or held size 0) (rest size size)
    rest-all =
        let longer : length (take (size + 1) held) ≡ size + 1 =
        length-take-le (size + 1) held (omega (arith, inside)) in
        ap class_of (remove-past (take (size + 1) held) (size + 1) (omega (arith, longer)))
        ∙ ap class_of more
        ∙ class-push (take size held) (get_or held size 0)
        ∙ sym (ap (λ l. put (get_or held size 0) (class_of l))
        (remove-past (take size held) size (omega (arith, long))))

module _ (board : PlainBoard) (held : List ℕ) (is : IsConfiguration board held) (size : ℕ)
    (inside : size < length held) where
  placed-first : All (λ p. p < places board) (take size held)
  placed-first = All-take (λ p. p < places board) size held is.each_place

  -- the class without a pebble of the first ones, and that of all of them
  pub rest-class : (pebble : ℕ) → pebble < size → IsClass (places board) (size - 1) (rest held size pebble)
  rest-class pebble low =
      let fewer = length-remove (take size held) pebble (omega (arith, low, long held size inside)) in
      record {
        size = length-class_of (remove (take size held) pebble) ∙ omega (arith, fewer, long held size inside);
        falls = falls-class_of (places board) (remove (take size held) pebble)
            (all-remove (λ p. p < places board) (take size held) pebble placed-first);
      }

  pub whole-class : IsClass (places board) size (rest held size size)
  whole-class =
      let same = remove-past (take size held) size (omega (arith, long held size inside)) in
      subst (λ l. IsClass (places board) size (class_of l)) (sym same) (record {
        size = length-class_of (take size held) ∙ long held size inside;
        falls = falls-class_of (places board) (take size held) placed-first;
      })

module _ (held : List ℕ) where
  -- the rows so far, and in the next one the entries of the pebbles below a bound
  pub record IsRowBelow (size bound : ℕ) (rests : List ℕ) : Type 0 where
    pub before : AreNumberRows held (size + 1) rests
    pub found : (pebble : ℕ) → pebble < bound
        → get_or rests (6 * (size + 1) + pebble) 0 ≡ number_by_greatest (rest held (size + 1) pebble)

  pub row-begins : (size : ℕ) (rests : List ℕ) → AreNumberRows held (size + 1) rests → IsRowBelow size 0 rests
  row-begins size rests are = record { before = are; found = λ pebble low. absurd (omega (arith, low)) }

  pub row-more : (size bound number : ℕ) (rests : List ℕ) → size + 1 < 6 → bound < size + 2
      → IsRowBelow size bound rests → number ≡ number_by_greatest (rest held (size + 1) bound)
      → IsRowBelow size (bound + 1) (set rests (6 * (size + 1) + bound) number)
  row-more size bound number rests few low are same =
      let room : length rests ≡ 36 = are.before.room in
      let at = 6 * (size + 1) + bound in
      record {
        before = record {
          room = length-set rests at number ∙ room;
          rows = λ other less pebble inside.
              get_or-set_other rests at (6 * other + pebble) number 0 (omega (arith, less, inside, few))
              ∙ are.before.rows other less pebble inside;
        };
        found = λ pebble below. elim (cases_eq pebble bound) [
          | inl equal ↦
              ap (λ n. get_or (set rests at number) (6 * (size + 1) + n) 0) equal
              ∙ get_or-set_same rests at number 0 (omega (arith, room, few, low))
              ∙ same ∙ ap (λ n. number_by_greatest (rest held (size + 1) n)) (sym equal)
          | inr differ ↦
              get_or-set_other rests at (6 * (size + 1) + pebble) number 0 (omega (arith, differ))
              ∙ are.found pebble (omega (arith, below, differ))
        ];
      }

  pub row-ends : (size bound : ℕ) (rests : List ℕ) → size + 2 ≤ bound → IsRowBelow size bound rests
      → AreNumberRows held (size + 2) rests
  row-ends size bound rests most are = record {
    room = are.before.room;
    rows = λ other less pebble inside. elim (cases_eq other (size + 1)) [
      | inl equal ↦
          ap (λ n. get_or rests (6 * n + pebble) 0) equal
          ∙ are.found pebble (omega (arith, inside, equal, most))
          ∙ ap (λ n. number_by_greatest (rest held n pebble)) (sym equal)
      | inr differ ↦ are.before.rows other (omega (arith, less, differ)) pebble inside
    ];
  }

take_take-le : (few many : ℕ) (list : List ℕ) → few ≤ many → take few (take many list) ≡ take few list
take_take-le zero many list most = refl
take_take-le (suc few) zero list most = absurd (omega (arith, most))
take_take-le (suc few) (suc many) [] most = refl
take_take-le (suc few) (suc many) (first ∷ others) most =
    ap (λ l. first ∷ l) (take_take-le few many others (omega (arith, most)))

-- the rows of first pebbles whose places stay are kept
pub rests-kept : (held next rests : List ℕ) (same bound : ℕ) → take same held ≡ take same next → same < bound
    → AreNumberRows held bound rests → AreNumberRows next (same + 1) rests
rests-kept held next rests same bound equal low are = record {
  room = are.room;
  rows = λ size less pebble inside.
      are.rows size (omega (arith, less, low)) pebble inside
      ∙ ap (λ l. number_by_greatest (class_of (remove l pebble))) (shorter size (omega (arith, less)));
}
  where
    shorter : (size : ℕ) → size ≤ same → take size held ≡ take size next
    shorter size most = sym (take_take-le size same held most) ∙ ap (take size) equal ∙ take_take-le size same next most

-- ---- the numbers of all gaps, one after the other

pub gaps-begin : (held numbers : List ℕ) → length numbers ≡ 6 → AreGapNumbers held 0 numbers
gaps-begin held numbers room = record { room = room; each = λ pebble low. absurd (omega (arith, low)) }

pub gaps-more : (held : List ℕ) (pebble number : ℕ) (numbers : List ℕ) → pebble < 6 → AreGapNumbers held pebble numbers
    → number ≡ number_by_greatest (gap_at held pebble) → AreGapNumbers held (pebble + 1) (set numbers pebble number)
gaps-more held pebble number numbers few are is =
    let room : length numbers ≡ 6 = are.room in
    record {
      room = length-set numbers pebble number ∙ room;
      each = λ other low. elim (cases_eq other pebble) [
        | inl same ↦
            ap (λ n. get_or (set numbers pebble number) n 0) same
            ∙ get_or-set_same numbers pebble number 0 (omega (arith, room, few))
            ∙ is ∙ ap (λ n. number_by_greatest (gap_at held n)) (sym same)
        | inr differ ↦
            get_or-set_other numbers pebble other number 0 differ ∙ are.each other (omega (arith, low, differ))
      ];
    }
