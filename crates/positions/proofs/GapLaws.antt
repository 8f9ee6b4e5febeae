-- Gaps, their pebbles and their members fit together.
use Rattle.std.proofs.Common.{◌≡◌, ℕ, suc, ◌+◌, ◌-◌, ◌*◌, ◌%◌, ◌^◌, ◌<◌, ◌≤◌, ◌↔◌, List, ◌∷◌, ◌++◌, length, get_or}
use Rattle.std.proofs.Common.{take, drop, set, sym, ap, ◌∙◌, subst, inl, inr, arith, mod-lt, div-add-mod'}
use Rattle.std.specs.List.{All, remove, insert}
use Rattle.std.proofs.lemmas.Bool.{cases_lt}
use Rattle.std.proofs.lemmas.Nat.{div-mul-add, mod-mul-add, mul-add-lt, div_below}
use Rattle.std.proofs.lemmas.List.{take-append-drop, set_split, set-get_or, take_at, drop_at, drop-drop, length-take-le}
use Rattle.std.proofs.lemmas.List.{get_or-set_other}
use Rattle.std.proofs.lemmas.List.Edits.{length-insert, length-remove, get_or-insert_at, get_or-insert_below}
use Rattle.std.proofs.lemmas.List.Edits.{get_or-insert_above}
use Rattle.std.proofs.lemmas.List.Elements.{All-take, All-drop, All-append, All-cons, All-from_get_or, All-get_or}
use Rattle.board_text.specs.PlainBoard.{PlainBoard, IsConfiguration, IsAntisymmetric, DominatesPlace, places}
use Rattle.positions.specs.Game.{Legal, DominatesOthers, moved}
use Rattle.positions.specs.Ranks.{number_of, digits_of}
use Rattle.positions.specs.Gaps.{gaps_each, gaps, gap_of, pebble_of, others_of, member_of, IsAnswer, IsDominator}
use Rattle.positions.proofs.Digits.{length-digits_of, number_of-digits_of, digits_of-number_of, number_below}
use Rattle.positions.proofs.Digits.{digits_below}
use Rattle.positions.proofs.Dominators.{same_dominator}

-- ---- a list without a label, and with it again

insert-remove : (labels : List ℕ) (place label : ℕ) → place < length labels
    → insert (remove labels place) place label ≡ set labels place label
insert-remove labels place label inside =
    let front : List ℕ = take place labels in
    let back : List ℕ = drop (suc place) labels in
    let short : length front ≡ place = length-take-le place labels (omega arith) in
    ap (λ (l : List ℕ). l ++ label ∷ drop place (front ++ back)) (take_at front back place short)
    ∙ ap (λ (l : List ℕ). front ++ label ∷ l) (drop_at front back place short)
    ∙ sym (set_split labels place label inside)

remove-insert : (labels : List ℕ) (place label : ℕ) → place ≤ length labels
    → remove (insert labels place label) place ≡ labels
remove-insert labels place label inside =
    let front : List ℕ = take place labels in
    let back : List ℕ = drop place labels in
    let short : length front ≡ place = length-take-le place labels inside in
    let next : suc place ≡ place + 1 = omega arith in
    let rest : drop (suc place) (front ++ label ∷ back) ≡ back =
    ap (λ n. drop n (front ++ label ∷ back)) next ∙ sym (drop-drop 1 place (front ++ label ∷ back))
    ∙ ap (drop 1) (drop_at front (label ∷ back) place short) in
    ap (λ (l : List ℕ). l ++ drop (suc place) (front ++ label ∷ back)) (take_at front (label ∷ back) place short)
    ∙ ap (λ (l : List ℕ). front ++ l) rest
    ∙ take-append-drop place labels

-- ---- the gap of a pebble at a configuration

-- the labels of the other pebbles at a configuration
pub record AreOthers (board : PlainBoard) (labels : List ℕ) : Type 0 where
  pub size : length labels ≡ board.pebbles - 1
  pub below : All (λ label. label < places board) labels

others_at : (board : PlainBoard) (configuration : List ℕ) (pebble : ℕ) → IsConfiguration board configuration
    → pebble < board.pebbles
    → AreOthers board (remove configuration pebble)
others_at board configuration pebble is inside =
    let long : length configuration ≡ board.pebbles = is.each_pebble in
    let within : pebble < length configuration = omega arith in
    record {
      size = omega (arith, length-remove configuration pebble within);
      below = All-append (λ label. label < places board) (take pebble configuration) (drop (suc pebble) configuration)
          (All-take (λ label. label < places board) pebble configuration is.each_place)
          (All-drop (λ label. label < places board) (suc pebble) configuration is.each_place);
    }

others_below : (board : PlainBoard) (labels : List ℕ) → AreOthers board labels
    → number_of (places board) labels < gaps_each board
others_below board labels are =
    subst (λ n. number_of (places board) labels < places board ^ n) are.size
    (number_below (places board) labels are.below)

pub gap_below : (board : PlainBoard) (configuration : List ℕ) (pebble : ℕ) → IsConfiguration board configuration
    → pebble < board.pebbles
    → gap_of board configuration pebble < gaps board
gap_below board configuration pebble is inside =
    let number : ℕ = number_of (places board) (remove configuration pebble) in
    let low : number < gaps_each board =
    others_below board (remove configuration pebble) (others_at board configuration pebble is inside) in
    let below : pebble * gaps_each board + number < gaps_each board * board.pebbles =
    mul-add-lt pebble (gaps_each board) number board.pebbles inside low in
    omega arith

pub pebble_of-gap_of : (board : PlainBoard) (configuration : List ℕ) (pebble : ℕ) → IsConfiguration board configuration
    → pebble < board.pebbles
    → pebble_of board (gap_of board configuration pebble) ≡ pebble
pebble_of-gap_of board configuration pebble is inside =
    div-mul-add pebble (gaps_each board) (number_of (places board) (remove configuration pebble))
    (others_below board (remove configuration pebble) (others_at board configuration pebble is inside))

pub others_of-gap_of : (board : PlainBoard) (configuration : List ℕ) (pebble : ℕ) → IsConfiguration board configuration
    → pebble < board.pebbles
    → others_of board (gap_of board configuration pebble) ≡ remove configuration pebble
others_of-gap_of board configuration pebble is inside =
    let labels : List ℕ = remove configuration pebble in
    let are = others_at board configuration pebble is inside in
    ap (digits_of (places board) (board.pebbles - 1))
    (mod-mul-add pebble (gaps_each board) (number_of (places board) labels) (others_below board labels are))
    ∙ subst (λ n. digits_of (places board) n (number_of (places board) labels) ≡ labels) are.size
    (digits_of-number_of (places board) labels are.below)

pub member_of-gap_of : (board : PlainBoard) (configuration : List ℕ) (pebble label : ℕ)
    → IsConfiguration board configuration → pebble < board.pebbles
    → member_of board (gap_of board configuration pebble) label ≡ moved configuration pebble label
member_of-gap_of board configuration pebble label is inside =
    let within : pebble < length configuration = omega (arith, is.each_pebble) in
    ap (λ (l : List ℕ). insert l (pebble_of board (gap_of board configuration pebble)) label)
    (others_of-gap_of board configuration pebble is inside)
    ∙ ap (λ (p : ℕ). insert (remove configuration pebble) p label)
    (pebble_of-gap_of board configuration pebble is inside)
    ∙ insert-remove configuration pebble label within

pub own_member : (board : PlainBoard) (configuration : List ℕ) (pebble : ℕ) → IsConfiguration board configuration
    → pebble < board.pebbles
    → member_of board (gap_of board configuration pebble) (get_or configuration pebble 0) ≡ configuration
own_member board configuration pebble is inside =
    member_of-gap_of board configuration pebble (get_or configuration pebble 0) is inside
    ∙ set-get_or configuration pebble 0

-- ---- the members of a gap

pub positive_each : (board : PlainBoard) (gap : ℕ) → gap < gaps board → 0 < gaps_each board
positive_each board gap below =
    elim (cases_lt 0 (gaps_each board)) [
      | inl some ↦ some
      | inr none ↦
          let zero : gaps_each board ≡ 0 = omega arith in
          let product : board.pebbles * gaps_each board ≡ board.pebbles * 0 = ap (λ n. board.pebbles * n) zero in
          absurd (omega arith)
    ]

pub pebble_below : (board : PlainBoard) (gap : ℕ) → gap < gaps board → pebble_of board gap < board.pebbles
pebble_below board gap below = div_below gap (gaps_each board) board.pebbles (positive_each board gap below) below

pub others_of_gap : (board : PlainBoard) (gap : ℕ) → gap < gaps board → AreOthers board (others_of board gap)
others_of_gap board gap below = record {
  size = length-digits_of (places board) (board.pebbles - 1) (gap % gaps_each board);
  below = digits_below (places board) (board.pebbles - 1) (gap % gaps_each board)
      (mod-lt gap (positive_each board gap below));
}

-- the pebble has a place among the others
has_place : (board : PlainBoard) (gap : ℕ) → gap < gaps board → pebble_of board gap ≤ length (others_of board gap)
has_place board gap below =
    let size : length (others_of board gap) ≡ board.pebbles - 1 = (others_of_gap board gap below).size in
    let inside : pebble_of board gap < board.pebbles = pebble_below board gap below in
    omega arith

pub member_is : (board : PlainBoard) (gap label : ℕ) → gap < gaps board → label < places board
    → IsConfiguration board (member_of board gap label)
member_is board gap label below low =
    let others : List ℕ = others_of board gap in
    let pebble : ℕ = pebble_of board gap in
    let are = others_of_gap board gap below in
    let size : length others ≡ board.pebbles - 1 = are.size in
    let inside : pebble < board.pebbles = pebble_below board gap below in
    let longer : length (insert others pebble label) ≡ length others + 1 =
    length-insert others pebble label (has_place board gap below) in
    record {
      each_pebble = omega arith;
      each_place = All-append (λ l. l < places board) (take pebble others) (label ∷ drop pebble others)
          (All-take (λ l. l < places board) pebble others are.below)
          (All-cons (λ l. l < places board) label (drop pebble others) low
          (All-drop (λ l. l < places board) pebble others are.below));
    }

pub label_of_member : (board : PlainBoard) (gap label : ℕ) → gap < gaps board
    → get_or (member_of board gap label) (pebble_of board gap) 0 ≡ label
label_of_member board gap label below =
    get_or-insert_at (others_of board gap) (pebble_of board gap) label 0 (has_place board gap below)

pub gap_of-member_of : (board : PlainBoard) (gap label : ℕ) → gap < gaps board
    → gap_of board (member_of board gap label) (pebble_of board gap) ≡ gap
gap_of-member_of board gap label below =
    let others : List ℕ = others_of board gap in
    ap (λ (l : List ℕ). pebble_of board gap * gaps_each board + number_of (places board) l)
    (remove-insert others (pebble_of board gap) label (has_place board gap below))
    ∙ ap (λ (n : ℕ). pebble_of board gap * gaps_each board + n)
    (number_of-digits_of (places board) (board.pebbles - 1) (gap % gaps_each board)
    (mod-lt gap (positive_each board gap below)))
    ∙ div-add-mod' gap (gaps_each board)

-- ---- answers

-- the label that a pebble is put on is legal there exactly if it answers the gap of the places that stay
pub legal_at_member : (board : PlainBoard) (gap label : ℕ) → gap < gaps board
    → Legal board (member_of board gap label) (pebble_of board gap) label ↔ IsAnswer board gap label
legal_at_member board gap label below = (
  λ legal. record {
    is_label = legal.is_label;
    dominates = All-from_get_or (DominatesPlace board label) others 0 (λ k inside. elim (cases_lt k pebble) [
      | inl before ↦ subst (DominatesPlace board label) (get_or-insert_below others pebble label 0 k before place)
          (legal.dominates k (omega (arith, size)) (omega arith))
      | inr behind ↦ subst (DominatesPlace board label) (get_or-insert_above others pebble label 0 k behind place)
          (legal.dominates (k + 1) (omega (arith, size)) (omega arith))
    ]);
  },
  λ answer. record {
    is_label = answer.is_label;
    dominates = λ other inside differs. elim (cases_lt other pebble) [
      | inl before ↦ subst (DominatesPlace board label)
          (sym (get_or-insert_below others pebble label 0 other before place))
          (All-get_or (DominatesPlace board label) others other 0 (omega (arith, size, place)) answer.dominates)
      | inr behind ↦
          let one_more : other - 1 + 1 ≡ other = omega arith in
          subst (DominatesPlace board label)
          (sym (get_or-insert_above others pebble label 0 (other - 1) (omega arith) place)
          ∙ ap (λ (k : ℕ). get_or (insert others pebble label) k 0) one_more)
          (All-get_or (DominatesPlace board label) others (other - 1) 0 (omega (arith, size, place)) answer.dominates)
    ];
  },
)
  where
    others : List ℕ
    others = others_of board gap

    pebble : ℕ
    pebble = pebble_of board gap

    place : pebble ≤ length others
    place = has_place board gap below

    size : length others ≡ board.pebbles - 1
    size = (others_of_gap board gap below).size

-- the legal labels of a pebble don't depend on its own label
legal_after_move : (board : PlainBoard) (configuration : List ℕ) (pebble old label : ℕ)
    → Legal board configuration pebble label ↔ Legal board (moved configuration pebble old) pebble label
legal_after_move board configuration pebble old label = (
  λ legal. record {
    is_label = legal.is_label;
    dominates = λ other below differs.
        subst (DominatesPlace board label) (sym (get_or-set_other configuration pebble other old 0 differs))
        (legal.dominates other below differs);
  },
  λ legal. record {
    is_label = legal.is_label;
    dominates = λ other below differs.
        subst (DominatesPlace board label) (get_or-set_other configuration pebble other old 0 differs)
        (legal.dominates other below differs);
  },
)

pub legal_is_answer : (board : PlainBoard) (configuration : List ℕ) (pebble label : ℕ)
    → IsConfiguration board configuration → pebble < board.pebbles
    → Legal board configuration pebble label ↔ IsAnswer board (gap_of board configuration pebble) label
legal_is_answer board configuration pebble label is inside =
    let gap : ℕ = gap_of board configuration pebble in
    let member = member_of-gap_of board configuration pebble label is inside in
    let same = pebble_of-gap_of board configuration pebble is inside in
    let after = legal_after_move board configuration pebble label label in
    let there = legal_at_member board gap label (gap_below board configuration pebble is inside) in (
      λ legal. there.0 (subst (λ (p : ℕ). Legal board (member_of board gap label) p label) (sym same)
          (subst (λ (c : List ℕ). Legal board c pebble label) (sym member) (after.0 legal))),
      λ answer. after.1 (subst (λ (c : List ℕ). Legal board c pebble label) member
          (subst (λ (p : ℕ). Legal board (member_of board gap label) p label) same (there.1 answer))),
    )

-- at the member that an answer leads to, the gap's pebble dominates
answer_dominates : (board : PlainBoard) (gap label : ℕ) → gap < gaps board → IsAnswer board gap label
    → IsDominator board (member_of board gap label) (pebble_of board gap)
answer_dominates board gap label below answer =
    let held = label_of_member board gap label below in
    record {
      is_pebble = pebble_below board gap below;
      has_label = subst (λ l. l < board.labels) (sym held) answer.is_label;
      dominates = subst (DominatesOthers board (member_of board gap label) (pebble_of board gap)) (sym held)
          ((legal_at_member board gap label below).1 answer).dominates;
    }

-- a configuration is an answer's member of one gap at most
pub one_gap : (board : PlainBoard) (first second one other : ℕ) → IsAntisymmetric board → first < gaps board
    → second < gaps board
    → IsAnswer board first one → IsAnswer board second other → member_of board first one ≡ member_of board second other
    → first ≡ second
one_gap board first second one other antisymmetric first_is second_is answer other_answer same =
    let c : List ℕ = member_of board first one in
    let dominates : IsDominator board c (pebble_of board first) = answer_dominates board first one first_is answer in
    let also : IsDominator board c (pebble_of board second) =
    subst (λ (d : List ℕ). IsDominator board d (pebble_of board second)) (sym same)
    (answer_dominates board second other second_is other_answer) in
    let pebbles : pebble_of board first ≡ pebble_of board second =
    same_dominator board c (pebble_of board first) (pebble_of board second) antisymmetric dominates also in
    sym (gap_of-member_of board first one first_is)
    ∙ ap (λ (d : List ℕ). gap_of board d (pebble_of board first)) same
    ∙ ap (gap_of board (member_of board second other)) pebbles
    ∙ gap_of-member_of board second other second_is

-- a pebble dominates exactly if its label is an answer of its gap
pub dominator_is_answer : (board : PlainBoard) (configuration : List ℕ) (pebble : ℕ)
    → IsConfiguration board configuration → pebble < board.pebbles
    → IsDominator board configuration pebble
    ↔ IsAnswer board (gap_of board configuration pebble) (get_or configuration pebble 0)
dominator_is_answer board configuration pebble is inside =
    let legal = legal_is_answer board configuration pebble (get_or configuration pebble 0) is inside in (
      λ dominator. legal.0 (record { is_label = dominator.has_label; dominates = dominator.dominates }),
      λ answer. record {
        is_pebble = inside;
        has_label = (legal.1 answer).is_label;
        dominates = (legal.1 answer).dominates;
      },
    )
