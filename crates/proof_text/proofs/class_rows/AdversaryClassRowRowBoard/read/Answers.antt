use Rattle.std.proofs.Common.{◌≡◌, ◌++◌, ◌==◌, ℕ, List, Bool, true, false, take, drop, get_or, Contains, ap, ◌∙◌, sym}
use Rattle.std.proofs.Common.{refl, inl, inr, subst, arith}
use Rattle.std.specs.List.{list_any}
use Rattle.board_text.specs.PlainBoard.{IsConfiguration}
use Rattle.board_text.proofs.Cited.{labels_and_places}
use Rattle.proof_text.specs.Inside.Rows.{class_adversary_reading}
use Rattle.proof_text.proofs.ClassRowLemmas.{ClassRequestTaken, class_request_label, class_request_number}
use Rattle.proof_text.proofs.ClassRowLemmas.{class_request_taken, padded_request, class_request_held}
use Rattle.proof_text.proofs.ClassRowLemmas.{class_request_pebble, class_request_position, is_among, not_among}
use Rattle.proof_text.proofs.RowLemmas.{row_unordered, row_early, row_next, six_zeros}
use Rattle.proof_text.proofs.class_rows.AdversaryClassRowRowBoard.read.Goals as goal
use Rattle.proof_text.proofs.class_rows.AdversaryClassRowRowBoard.read.Goals.{In-Some}
use Rattle.proof_text.proofs.class_rows.AdversaryClassRowRowBoard.read.Goals.{then-not-values-via-then-not-values}
use Rattle.proof_text.proofs.class_rows.AdversaryClassRowRowBoard.read.Goals.{then-not-values-via-else-not-values+then-not-values-2}

-- the words of the row
words_of : (c : In-Some)
    → ClassRequestTaken c.args.board.now c.in-Some.values c.class_request_words.new.at c.class_request_words.new.ask
    c.args.text.now c.class_request_words.new.text
words_of c =
    class_request_taken c.args.board.now c.pebbles-pebbles.ensures.is_board c.pebbles-pebbles.ensures.value
    c.labels.ensures.value c.places.ensures.value c.in-Some.ensures

pub class_request_words-requires-clause-places : goal.class_request_words-requires-clause-places
class_request_words-requires-clause-places c =
    let both = labels_and_places c.args.board.now in (
      omega (arith, both.0, c.labels.ensures.value, c.places.ensures.value),
      omega (arith, both.1, c.labels.ensures.value, c.places.ensures.value),
    )

pub returns-then-not-values : goal.returns-then-not-values
returns-then-not-values c =
    let taken = words_of (goal.at.returns-then-not-values c).In-Some in
    class_request_label taken
    (elim c.then-not-values.branch [
      | then-not-values-via-then-not-values w ↦ inl w.if-not-values.true
      | then-not-values-via-else-not-values+then-not-values-2 w ↦ inr w.if-not-values-2.true
    ])

pub returns-then-not-contains : goal.returns-then-not-contains
returns-then-not-contains c =
    let taken = words_of (goal.at.returns-then-not-contains c).In-Some in
    let asked : ℕ = get_or c.class_request_words.new.ask 0 0 in
    let held = class_request_held taken c.if-not-values.false c.if-not-values-2.false c.pebbles-pebbles.result
    c.pebbles-pebbles.ensures.value in
    let told : list_any (λ other. other == asked) c.class_request_words.new.at ≡ false =
    ap (list_any (λ other. other == asked)) (sym held) ∙ sym c.contains.ensures.value ∙ c.if-not-contains.true in
    class_request_pebble taken c.if-not-values.false c.if-not-values-2.false c.pebbles-pebbles.ensures.is_board
    (not_among c.class_request_words.new.at asked told)

-- the asked place is among those of the row
held_asked : (at new_at : List ℕ) (asked : ℕ) (told : Bool) → told ≡ list_any (λ other. other == asked) at → at ≡ new_at
    → told ≡ true → Contains new_at asked
held_asked at new_at asked told is same among =
    subst (λ l. Contains l asked) same (is_among at asked (sym is ∙ among))

pub returns-in_default-left : goal.returns-in_default-left
returns-in_default-left c =
    let taken = words_of (goal.at.returns-in_default-left c).In-Some in
    let held = class_request_held taken c.if-not-values.false c.if-not-values-2.false c.pebbles-pebbles.result
    c.pebbles-pebbles.ensures.value in
    let asked = held_asked _ _ (get_or c.class_request_words.new.ask 0 0) c.contains.result c.contains.ensures.value
    held
    c.if-not-contains.false in
    class_request_number taken c.if-not-values.false c.if-not-values-2.false asked c.in_default-left.is

pub arranged_order-requires : goal.arranged_order-requires
arranged_order-requires c =
    let taken = words_of (goal.at.arranged_order-requires c).In-Some in
    let held = class_request_held taken c.if-not-values.false c.if-not-values-2.false c.pebbles-pebbles.result
    c.pebbles-pebbles.ensures.value in
    subst (IsConfiguration c.args.board.now) (sym held)
    (class_request_position taken c.if-not-values.false c.if-not-values-2.false)

pub returns-in_default-arranged_order : goal.returns-in_default-arranged_order
returns-in_default-arranged_order c =
    let taken = words_of (goal.at.returns-in_default-arranged_order c).In-Some in
    let held = class_request_held taken c.if-not-values.false c.if-not-values-2.false c.pebbles-pebbles.result
    c.pebbles-pebbles.ensures.value in
    let asked = held_asked _ _ (get_or c.class_request_words.new.ask 0 0) c.contains.result c.contains.ensures.value
    held
    c.if-not-contains.false in
    let read = padded_request taken c.if-not-values.false c.if-not-values-2.false asked c.args._claim
    c.in-Some-left.left c.pebbles-pebbles.result c.in-Some-left.is c.pebbles-pebbles.ensures.value in
    row_unordered (class_adversary_reading c.args.board.now c.args._claim) c.args.least.now read
    _ (ap (λ (n : ℕ). take n
    (c.class_request_words.new.at ++ drop c.pebbles-pebbles.result six_zeros)) c.pebbles-pebbles.ensures.value)
    c.in_default-arranged_order.ensures.order

pub returns-then-number-least : goal.returns-then-number-least
returns-then-number-least c =
    let taken = words_of (goal.at.returns-then-number-least c).In-Some in
    let held = class_request_held taken c.if-not-values.false c.if-not-values-2.false c.pebbles-pebbles.result
    c.pebbles-pebbles.ensures.value in
    let asked = held_asked _ _ (get_or c.class_request_words.new.ask 0 0) c.contains.result c.contains.ensures.value
    held
    c.if-not-contains.false in
    let read = padded_request taken c.if-not-values.false c.if-not-values-2.false asked c.args._claim
    c.in-Some-left.left c.pebbles-pebbles.result c.in-Some-left.is c.pebbles-pebbles.ensures.value in
    row_early (class_adversary_reading c.args.board.now c.args._claim) c.args.least.now read
    _ (ap (λ (n : ℕ). take n
    (c.class_request_words.new.at ++ drop c.pebbles-pebbles.result six_zeros)) c.pebbles-pebbles.ensures.value)
    c.in-Some-arranged_order.number c.in-Some-arranged_order.ensures.order.1 c.if-number-least.true

pub returns : goal.returns
returns c =
    let taken = words_of (goal.at.returns c).In-Some in
    let held = class_request_held taken c.if-not-values.false c.if-not-values-2.false c.pebbles-pebbles.result
    c.pebbles-pebbles.ensures.value in
    let asked = held_asked _ _ (get_or c.class_request_words.new.ask 0 0) c.contains.result c.contains.ensures.value
    held
    c.if-not-contains.false in
    let read = padded_request taken c.if-not-values.false c.if-not-values-2.false asked c.args._claim
    c.in-Some-left.left c.pebbles-pebbles.result c.in-Some-left.is c.pebbles-pebbles.ensures.value in
    row_next (class_adversary_reading c.args.board.now c.args._claim) c.args.least.now read
    _ (ap (λ (n : ℕ). take n
    (c.class_request_words.new.at ++ drop c.pebbles-pebbles.result six_zeros)) c.pebbles-pebbles.ensures.value)
    c.in-Some-arranged_order.number c.in-Some-arranged_order.ensures.order.1 refl
    c.in-Some-arranged_order.ensures.order.0
    c.in-Some-arranged_order.ensures.few c.if-number-least.false
