-- The answers of a gap as bits: the labels that beat the label of each other pebble that holds one.
use Rattle.std.proofs.Common.{◌≡◌, ℕ, ◌+◌, ◌-◌, ◌/◌, ◌%◌, ◌^◌, ◌<◌, ◌≤◌, ◌↔◌, true, List, Option, length, get_or, take}
use Rattle.std.proofs.Common.{sym, ap, ◌∙◌, subst, arith}
use Rattle.std.specs.List.{All}
use Rattle.std.proofs.lemmas.List.{take_all, take-take, length-take-le, get_or-take}
use Rattle.std.proofs.lemmas.List.Elements.{All-more, All-take, All-get_or}
use Rattle.board_text.specs.PlainBoard.{PlainBoard, IsBoard, Dominates, DominatesPlace, places}
use Rattle.board_text.proofs.Cited.{some_places}
use Rattle.board_text.specs.Domination.{has_bit}
use Rattle.board_text.specs.declared.board.TheConstants.{MAX_LABELS}
use Rattle.positions.specs.Gaps.{gaps, others_of, IsAnswer}
use Rattle.positions.specs.Inside.Weights.{weight_of}
use Rattle.positions.specs.Counts.{IsSmallest}
use Rattle.positions.proofs.CountsBelow.{smallest_of}
use Rattle.positions.proofs.LabelBits.{HasBitFrom}
use Rattle.positions.proofs.DigitRests.{IsRest, IsNextRest, rest_next}
use Rattle.positions.proofs.GapLaws.{others_of_gap}

-- the bits of the labels that beat those of the first other pebbles, and the rest of the gap
pub record IsNarrowed (board : PlainBoard) (gap place rest : ℕ) (words : List ℕ) : Type 0 where
  pub rest_is : IsRest (places board) (board.pebbles - 1) (others_of board gap) place rest
  pub bits : (x : ℕ) → x < MAX_LABELS
      → (has_bit words x ≡ true) ↔ ((x < board.labels)
      × All (DominatesPlace board x) (take place (others_of board gap)))

-- the label of the next other pebble, by its weight
pub next_other : (board : PlainBoard) (gap place rest weight : ℕ) → IsBoard board → gap < gaps board
    → place < board.pebbles - 1 → weight ≡ weight_of board (place + 1)
    → IsRest (places board) (board.pebbles - 1) (others_of board gap) place rest
    → IsNextRest (places board) (board.pebbles - 1) (others_of board gap) place (rest / weight) (rest % weight)
next_other board gap place rest weight is below inside weighs read =
    let left : board.pebbles - 1 - (place + 1) ≡ board.pebbles - 1 - 1 - place = omega arith in
    rest_next (places board) (board.pebbles - 1) (others_of board gap) place rest weight (some_places board is)
    (others_of_gap board gap below).size inside
    (weighs ∙ ap (λ n. places board ^ n) left) read

pub narrowed_more : (board : PlainBoard) (gap place rest label next : ℕ) (words row new : List ℕ) → gap < gaps board
    → place < board.pebbles - 1 → label < board.labels
    → IsNarrowed board gap place rest words
    → IsNextRest (places board) (board.pebbles - 1) (others_of board gap) place label next
    → ((x : ℕ) → x < MAX_LABELS → (has_bit row x ≡ true) ↔ Dominates board x label)
    → ((x : ℕ) → x < MAX_LABELS → (has_bit new x ≡ true) ↔ ((has_bit words x ≡ true) × (has_bit row x ≡ true)))
    → IsNarrowed board gap (place + 1) next new
narrowed_more board gap place rest label next words row new below inside is_label narrowed is beaten both =
    let others : List ℕ = others_of board gap in
    let long : length others ≡ board.pebbles - 1 = (others_of_gap board gap below).size in
    let within : place < length others = omega arith in record {
      rest_is = is.rest_is;
      bits = λ x small. (
        λ set.
            let each = (both x small).0 set in
            let before = (narrowed.bits x small).0 each.0 in (
              before.0,
              All-more (DominatesPlace board x) others place 0 within before.1
                  (subst (DominatesPlace board x) is.digit_is (λ _. (beaten x small).0 each.1)),
            ),
        λ is_one.
            let front : take place (take (place + 1) others) ≡ take place others =
            take-take place (place + 1) others (omega arith) in
            let longer : length (take (place + 1) others) ≡ place + 1 =
            length-take-le (place + 1) others (omega arith) in
            let before : All (DominatesPlace board x) (take place others) =
            subst (All (DominatesPlace board x)) front
            (All-take (DominatesPlace board x) place (take (place + 1) others) is_one.1) in
            let last : DominatesPlace board x (get_or others place 0) =
            subst (DominatesPlace board x) (get_or-take (place + 1) others place 0 (omega arith))
            (All-get_or (DominatesPlace board x) (take (place + 1) others) place 0 (omega arith) is_one.1) in
            (both x small).1 (
              (narrowed.bits x small).1 (is_one.0, before),
              (beaten x small).1 (subst (DominatesPlace board x) (sym is.digit_is) last is_label),
            ),
      );
    }

-- a place that holds no label leaves the bits as they are
pub narrowed_blank : (board : PlainBoard) (gap place rest label next : ℕ) (words : List ℕ) → gap < gaps board
    → place < board.pebbles - 1 → board.labels ≤ label
    → IsNarrowed board gap place rest words
    → IsNextRest (places board) (board.pebbles - 1) (others_of board gap) place label next
    → IsNarrowed board gap (place + 1) next words
narrowed_blank board gap place rest label next words below inside blank narrowed is =
    let others : List ℕ = others_of board gap in
    let long : length others ≡ board.pebbles - 1 = (others_of_gap board gap below).size in
    let front : take place (take (place + 1) others) ≡ take place others =
    take-take place (place + 1) others (omega arith) in
    record {
      rest_is = is.rest_is;
      bits = λ x small. (
        λ set.
            let before = (narrowed.bits x small).0 set in (
              before.0,
              All-more (DominatesPlace board x) others place 0 (omega arith) before.1
                  (subst (DominatesPlace board x) is.digit_is (λ held. absurd (omega arith))),
            ),
        λ is_one. (narrowed.bits x small).1 (
          is_one.0,
          subst (All (DominatesPlace board x)) front
              (All-take (DominatesPlace board x) place (take (place + 1) others) is_one.1),
        ),
      );
    }

-- after all other pebbles the bits are the gap's answers
pub answer_bits : (board : PlainBoard) (gap place rest : ℕ) (words : List ℕ) → gap < gaps board
    → board.pebbles - 1 ≤ place → IsNarrowed board gap place rest words
    → (x : ℕ) → x < MAX_LABELS → (has_bit words x ≡ true) ↔ IsAnswer board gap x
answer_bits board gap place rest words below all narrowed x small =
    let others : List ℕ = others_of board gap in
    let long : length others ≡ board.pebbles - 1 = (others_of_gap board gap below).size in
    let whole : take place others ≡ others = take_all place others (omega arith) in (
      λ set. let is = (narrowed.bits x small).0 set in
          record { is_label = is.0; dominates = subst (All (DominatesPlace board x)) whole is.1 },
      λ answer. (narrowed.bits x small).1
          (answer.is_label, subst (All (DominatesPlace board x)) (sym whole) answer.dominates),
    )

-- if bits show a fact, the smallest bit from a bound on is the smallest number from there on for which it holds
pub smallest_bit : (P : ℕ → Type 0) (from : ℕ) (words : List ℕ) (found : Option ℕ)
    → ((x : ℕ) → x < MAX_LABELS → (has_bit words x ≡ true) ↔ P x) → ((x : ℕ) → P x → x < MAX_LABELS)
    → IsSmallest (HasBitFrom words from) found → IsSmallest (λ x. (from ≤ x) × P x) found
smallest_bit P from words found bits small is =
    smallest_of (HasBitFrom words from) (λ x. (from ≤ x) × P x) found
    (λ x. (
      λ has. (has.0, (bits x has.1).0 has.2),
      λ holds. (holds.0, small x holds.1, (bits x (small x holds.1)).1 holds.1),
    ))
    is

-- the smallest bit of an answer set from a bound on is the smallest answer from there on
pub smallest_answer : (board : PlainBoard) (gap from : ℕ) (words : List ℕ) (found : Option ℕ)
    → ((x : ℕ) → x < MAX_LABELS → (has_bit words x ≡ true) ↔ IsAnswer board gap x) → board.labels ≤ MAX_LABELS
    → IsSmallest (HasBitFrom words from) found → IsSmallest (λ label. (from ≤ label) × IsAnswer board gap label) found
smallest_answer board gap from words found bits few is =
    smallest_bit (IsAnswer board gap) from words found bits (λ label answer. omega (arith, answer.is_label, few)) is
