-- Rows that name their configuration by its rank.
use Rattle.std.proofs.Common.{◌≡◌, ℕ, zero, suc, ◌/◌, ◌%◌, ◌^◌, ◌<◌, ◌≤◌, List, get_or, slice_index, take, refl}
use Rattle.std.proofs.Common.{inl, inr, sym, ap, ◌∙◌, subst, arith, div-lt_iff_lt-mul}
use Rattle.std.specs.List.{All}
use Rattle.std.proofs.lemmas.Bool.{cases_lt}
use Rattle.std.proofs.Math.Nat.{one-le-pow, pow-succ'}
use Rattle.std.proofs.lemmas.List.{get_or-take}
use Rattle.std.proofs.lemmas.List.Elements.{All-head}
use Rattle.board_text.specs.PlainBoard.{PlainBoard, IsBoard, IsConfiguration, places}
use Rattle.board_text.proofs.Cited.{some_places}
use Rattle.positions.specs.Ranks.{digits_of, rank_of, configuration_at, configurations}
use Rattle.positions.specs.Table.{AnswerRow, RequestRow}
use Rattle.positions.proofs.Cited.{rank_of-configuration_at}
use Rattle.proof_text.specs.declared.proof.LabellerRow.{LabellerRow}
use Rattle.proof_text.specs.declared.proof.AdversaryRow.{AdversaryRow}
use Rattle.proof_text.specs.Proof.{IsPadded, answer_row, request_row}

-- digits below the base have a number below the base's power
number_small : (base count number : ℕ) → 1 ≤ base → 1 ≤ count
    → All (λ label. label < base) (digits_of base count number) → number < base ^ count
number_small base zero number some one each = absurd (omega arith)
number_small base (suc count) number some one each =
    let first : number / base ^ count < base =
    All-head (λ l. l < base) (number / base ^ count) (digits_of base count (number % base ^ count)) each in
    subst (λ n. number < n) (sym (pow-succ' base count)) ((div-lt_iff_lt-mul (one-le-pow count base some)).0 first)

pub rank_small : (board : PlainBoard) (rank : ℕ) → IsBoard board → IsConfiguration board (configuration_at board rank)
    → rank < configurations board
rank_small board rank is_board is =
    number_small (places board) board.pebbles rank (some_places board is_board) is_board.pebbles.0 is.each_place

same_rank : (board : PlainBoard) (a b : ℕ) → a < configurations board → b < configurations board
    → configuration_at board a ≡ configuration_at board b → a ≡ b
same_rank board a b first second same =
    sym (rank_of-configuration_at board a first) ∙ ap (rank_of board) same ∙ rank_of-configuration_at board b second

-- places that agree up to the pebbles of the board, and are 0 from there on
same_places : (pebbles : ℕ) (xs ys : List ℕ) → take pebbles xs ≡ take pebbles ys
    → ((k : ℕ) → pebbles ≤ k → slice_index xs k ≡ 0) → ((k : ℕ) → pebbles ≤ k → slice_index ys k ≡ 0) → (k : ℕ)
    → slice_index xs k ≡ slice_index ys k
same_places pebbles xs ys same zeros others k = elim (cases_lt k pebbles) [
  | inl below ↦ sym (get_or-take pebbles xs k 0 below) ∙ ap (λ (l : List ℕ). get_or l k 0) same
      ∙ get_or-take pebbles ys k 0 below
  | inr beyond ↦ zeros k beyond ∙ sym (others k beyond)
]

pub same_answers : (board : PlainBoard) (first second : LabellerRow) → first.at < configurations board
    → second.at < configurations board → IsPadded board first → IsPadded board second
    → answer_row board first ≡ answer_row board second
    → (first.at ≡ second.at) × (first.turns ≡ second.turns)
    × ((pebble : ℕ) → slice_index first.take pebble ≡ slice_index second.take pebble)
same_answers board first second one other zeros others same = (
  same_rank board first.at second.at one other (ap (λ (r : AnswerRow). r.at) same),
  ap (λ (r : AnswerRow). r.turns) same,
  same_places board.pebbles first.take second.take (ap (λ (r : AnswerRow). r.answers) same) zeros others,
)

pub same_request : (board : PlainBoard) (first second : AdversaryRow) → first.at < configurations board
    → second.at < configurations board → request_row board first ≡ request_row board second → first ≡ second
same_request board first second one other same =
    let at : first.at ≡ second.at = same_rank board first.at second.at one other (ap (λ (r : RequestRow). r.at) same) in
    let left : first.left ≡ second.left = ap (λ (r : RequestRow). r.left) same in
    let ask : first.ask ≡ second.ask = ap (λ (r : RequestRow). r.request) same in
    let e : ◌≡◌ {A = AdversaryRow} (record { at = first.at; left = first.left; ask = first.ask }) second =
    rw (at, left, ask) refl in
    e
