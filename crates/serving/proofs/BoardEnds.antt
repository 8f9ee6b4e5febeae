-- A board's text ends at its first line that is exactly `end`.
use Rattle.std.proofs.Common.{◌≡◌, ◌≢◌, ◌∙◌, ◌^◌, ◌+◌, ◌-◌, ◌==◌, ℕ, zero, suc, ◌<◌, ◌≤◌, inl, inr, Bool, true, false}
use Rattle.std.proofs.Common.{List, [], ◌∷◌, ◌++◌, length, take, drop, codes, cond, get_or, refl, sym, ap, subst, arith}
use Rattle.std.proofs.Common.{append-nil, append_assoc, length-append}
use Rattle.std.specs.Fmt.{decimal}
use Rattle.std.specs.List.{AllByRecursion, flat_map}
use Rattle.std.proofs.lemmas.Bool.{cases_lt}
use Rattle.std.proofs.lemmas.Fmt.{decimal_is_IsNumeral}
use Rattle.std.specs.Str.Parse.{AllDigits}
use Rattle.std.proofs.lemmas.Str.Parse.{digit_from_value}
use Rattle.std.proofs.lemmas.List.{append_cancel_left}
use Rattle.std.proofs.lemmas.List.Elements.{recursion_from_All}
use Rattle.board_text.specs.BoardText.{beats_line, board_text, board_text_before_end, end_line, labels_line}
use Rattle.board_text.specs.BoardText.{pebbles_line, start_line, version_line}
use Rattle.board_text.specs.LineForms.{number_line, spaced_numbers, with_line_feed}
use Rattle.board_text.specs.PlaceForms.{place_word, spaced_places}
use Rattle.board_text.specs.PlainBoard.{IsBoard, PlainBoard, places, some_blank, version_of}
use Rattle.board_text.proofs.Cited.{few_places, one_board}
use Rattle.runs.specs.Joined.{IsBoardLength, IsEndLine}
use Rattle.runs.proofs.Cited.{one_length}
use Rattle.serving.proofs.KnownPlays.{Feedless}

feedless_append : (line more : List ℕ) → Feedless line → Feedless more → Feedless (line ++ more)
feedless_append [] more p q = q
feedless_append (byte ∷ line) more p q = (p.0, feedless_append line more p.1 q)

feedless_digits : (digits : List ℕ) → AllDigits 10 digits → Feedless digits
feedless_digits [] all = tt
feedless_digits (digit ∷ digits) all =
    ((λ e. omega (arith, digit_from_value digit all.0, e)), feedless_digits digits all.1)

feedless_decimal : (number : ℕ) → number < 2 ^ 32 → Feedless (decimal number)
feedless_decimal number small = feedless_digits (decimal number)
    (decimal_is_IsNumeral number (omega (arith, small))).0.1

-- ---- texts in which no line is exactly `end`

abbrev HasNoEnd : List ℕ → Type 0
HasNoEnd text = (rest : List ℕ) (at : ℕ) → at < length text → IsEndLine (text ++ rest) at → ⊥

get_or_after : (text more : List ℕ) (at d : ℕ) → get_or (text ++ more) (length text + at) d ≡ get_or more at d
get_or_after [] more at d = let same : 0 + at ≡ at = omega arith in ap (λ k. get_or more k d) same
get_or_after (byte ∷ text) more at d =
    let same : suc (length text) + at ≡ suc (length text + at) = omega arith in
    ap (λ k. get_or (byte ∷ (text ++ more)) k d) same ∙ get_or_after text more at d

drop_after : (text more : List ℕ) (at : ℕ) → drop (length text + at) (text ++ more) ≡ drop at more
drop_after [] more at = let same : 0 + at ≡ at = omega arith in ap (λ k. drop k more) same
drop_after (byte ∷ text) more at =
    let same : suc (length text) + at ≡ suc (length text + at) = omega arith in
    ap (λ k. drop k (byte ∷ (text ++ more))) same ∙ drop_after text more at

-- a line that begins after a text is one of the rest
later : (text more : List ℕ) (at : ℕ) → IsEndLine (text ++ more) (length text + at) → IsEndLine more at
later text more zero (starts, is) = (inl refl, sym (ap (take 4) (drop_after text more 0)) ∙ is)
later text more (suc at) (inl none, is) = absurd (omega (arith, none))
later text more (suc at) (inr feed, is) =
    let back : length text + suc at - 1 ≡ length text + at = omega arith in
    let here : suc at - 1 ≡ at = omega arith in (
      inr (ap (λ k. get_or more k 0) here ∙ sym (ap (λ k. get_or (text ++ more) k 0) back ∙ get_or_after text more at 0)
          ∙ feed),
      sym (ap (take 4) (drop_after text more (suc at))) ∙ is,
    )

no_end_append : (text more : List ℕ) → HasNoEnd text → HasNoEnd more → HasNoEnd (text ++ more)
no_end_append text more first second rest at inside is =
    let whole : IsEndLine (text ++ (more ++ rest)) at = subst (λ t. IsEndLine t at) (append_assoc text more rest) is in
    elim (cases_lt at (length text)) [
      | inl here ↦ first (more ++ rest) at here whole
      | inr past ↦
          let there : at ≡ length text + (at - length text) = omega (arith, past) in
          second rest (at - length text) (omega (arith, inside, past, length-append text more))
          (later text (more ++ rest) (at - length text) (subst (λ k. IsEndLine (text ++ (more ++ rest)) k) there whole))
    ]

-- no byte of a line is a line feed
no_feed_in : (line more : List ℕ) (at : ℕ) → Feedless line → at < length line → get_or (line ++ more) at 0 ≢ 10
no_feed_in [] more at all inside same = absurd (omega (arith, inside))
no_feed_in (byte ∷ line) more zero all inside same = all.0 same
no_feed_in (byte ∷ line) more (suc at) all inside same = no_feed_in line more at all.1 (omega (arith, inside)) same

-- a line with another first byte than `end` isn't `end`
no_end_line : (first : ℕ) (line : List ℕ) → first ≢ 101 → Feedless (first ∷ line) → HasNoEnd
    (with_line_feed (first ∷ line))
no_end_line first line other all rest zero inside (starts, is) = other (ap (λ (l : List ℕ). get_or l 0 0) is)
no_end_line first line other all rest (suc at) inside (inl none, is) = absurd (omega (arith, none))
no_end_line first line other all rest (suc at) inside (inr feed, is) =
    no_feed_in (first ∷ line) (10 ∷ rest) at all (omega (arith, inside, length-append line (10 ∷ [])))
    (let back : at ≡ suc at - 1 = omega arith in
    ap (λ (t : List ℕ). get_or t at 0) (sym (append_assoc (first ∷ line) (10 ∷ []) rest))
    ∙ ap (λ k. get_or (with_line_feed (first ∷ line) ++ rest) k 0) back ∙ feed)

-- ---- the lines of a board

feedless_numbers : (numbers : List ℕ) → AllByRecursion (λ n. n < 2 ^ 32) numbers → Feedless (spaced_numbers numbers)
feedless_numbers [] all = tt
feedless_numbers (n ∷ numbers) all = (
  (λ e. omega (arith, e)),
  feedless_append (decimal n) (spaced_numbers numbers) (feedless_decimal n all.0)
      (feedless_numbers numbers all.1),
)

feedless_place : (labels place : ℕ) → place < 2 ^ 32 → Feedless (place_word labels place)
feedless_place labels place small = go (place == labels)
  where
    go : (b : Bool) → Feedless (cond b (codes "-") (decimal place))
    go true = ((λ e. omega (arith, e)), tt)
    go false = feedless_decimal place small

feedless_places : (labels : ℕ) (places : List ℕ) → AllByRecursion (λ n. n < 2 ^ 32) places → Feedless
    (spaced_places labels places)
feedless_places labels [] all = tt
feedless_places labels (place ∷ places) all = (
  (λ e. omega (arith, e)),
  feedless_append (place_word labels place) (spaced_places labels places)
      (feedless_place labels place all.0)
      (feedless_places labels places all.1),
)

few_numbers : (bound : ℕ) (numbers : List ℕ) → bound ≤ 1000 → AllByRecursion (λ n. n < bound) numbers → AllByRecursion
    (λ n. n < 2 ^ 32) numbers
few_numbers bound [] few all = tt
few_numbers bound (n ∷ numbers) few all = (omega (arith, few, all.0), few_numbers bound numbers few all.1)

number_line_no_end : (first : ℕ) (word : List ℕ) (n : ℕ) → first ≢ 101 → Feedless (first ∷ word) → n < 2 ^ 32 → HasNoEnd
    (number_line (first ∷ word) n)
number_line_no_end first word n other all small =
    no_end_line first (word ++ 32 ∷ decimal n) other
    (feedless_append (first ∷ word) (32 ∷ decimal n) all ((λ e. omega (arith, e)), feedless_decimal n small))

pairs_no_end : (labels : ℕ) (pairs : List (ℕ × ℕ)) → labels ≤ 256 → AllByRecursion
    (λ (p : ℕ × ℕ). (p.0 < labels) × (p.1 < labels)) pairs
    → HasNoEnd (flat_map beats_line pairs)
pairs_no_end labels [] few all = λ rest at inside is. absurd (omega (arith, inside))
pairs_no_end labels (pair ∷ pairs) few all =
    no_end_append (beats_line pair) (flat_map beats_line pairs)
    (no_end_line 98 (codes "eats" ++ spaced_numbers (pair.0 ∷ pair.1 ∷ [])) (λ e. omega (arith, e))
    (feedless_append (codes "beats") (spaced_numbers (pair.0 ∷ pair.1 ∷ [])) (
      (λ e. omega (arith, e)),
      (
        (λ e. omega (arith, e)),
        ((λ e. omega (arith, e)), ((λ e. omega (arith, e)), ((λ e. omega (arith, e)), tt))),
      ),
    )
    (feedless_numbers (pair.0 ∷ pair.1 ∷ []) (omega (arith, few, all.0.0), (omega (arith, few, all.0.1), tt)))))
    (pairs_no_end labels pairs few all.1)

-- ---- the end

abbrev IsFed : List ℕ → Type 0
IsFed text = (front : List ℕ) × (text ≡ front ++ 10 ∷ [])

fed_append : (text more : List ℕ) → IsFed more → IsFed (text ++ more)
fed_append text more (front, is) = (text ++ front, ap (λ t. text ++ t) is ∙ sym (append_assoc text front (10 ∷ [])))

fed_pairs : (text : List ℕ) → IsFed text → (pairs : List (ℕ × ℕ)) → IsFed (text ++ flat_map beats_line pairs)
fed_pairs text fed [] = subst IsFed (sym (append-nil text)) fed
fed_pairs text fed (pair ∷ pairs) =
    subst IsFed (append_assoc text (beats_line pair) (flat_map beats_line pairs))
    (fed_pairs (text ++ beats_line pair)
    (fed_append text (beats_line pair) (codes "beats" ++ spaced_numbers (pair.0 ∷ pair.1 ∷ []), refl)) pairs)

feed_before : (front more : List ℕ) → get_or ((front ++ 10 ∷ []) ++ more) (length (front ++ 10 ∷ []) - 1) 0 ≡ 10
feed_before front more =
    let place : length (front ++ 10 ∷ []) - 1 ≡ length front + 0 = omega (arith, length-append front (10 ∷ [])) in
    ap (λ k. get_or ((front ++ 10 ∷ []) ++ more) k 0) place
    ∙ ap (λ (t : List ℕ). get_or t (length front + 0) 0) (append_assoc front (10 ∷ []) more) ∙ get_or_after front
    (10 ∷ more) 0 0

end_here : (before rest : List ℕ) → IsFed before → IsEndLine (before ++ (end_line ++ rest)) (length before)
end_here before rest (front, is) = (
  inr (subst (λ (b : List ℕ). get_or (b ++ (end_line ++ rest)) (length b - 1) 0 ≡ 10) (sym is)
      (feed_before front (end_line ++ rest))),
  ap (take 4) (ap (λ k. drop k (before ++ (end_line ++ rest))) (sym (length_plus before)) ∙ drop_after before
      (end_line ++ rest) 0),
)
  where
    length_plus : (text : List ℕ) → length text + 0 ≡ length text
    length_plus text = omega arith

module _ (board : PlainBoard) (is : IsBoard board) where
  small_version : version_of board.labels board.start < 2 ^ 32
  small_version = go (some_blank board.labels board.start)
    where
      go : (b : Bool) → cond b 2 1 < 2 ^ 32
      go true = omega arith
      go false = omega arith

  small_places : AllByRecursion (λ n. n < 2 ^ 32) board.start
  small_places =
      few_numbers (places board) board.start (let few = few_places board in omega (arith, few, is.labels.1))
      (recursion_from_All (λ (place : ℕ). place < places board) board.start is.start.each_place)

  head_no_end : HasNoEnd (board_text_before_end board)
  head_no_end =
      no_end_append (version_line (version_of board.labels board.start) ++
      (labels_line board.labels ++ (pebbles_line board.pebbles ++ start_line board.labels board.start)))
      (flat_map beats_line board.pairs)
      (no_end_append (version_line (version_of board.labels board.start))
      (labels_line board.labels ++ (pebbles_line board.pebbles ++ start_line board.labels board.start))
      (number_line_no_end 98 (codes "oard") (version_of board.labels board.start) (λ e. omega (arith, e)) (
        (λ e. omega (arith, e)),
        (
          (λ e. omega (arith, e)),
          ((λ e. omega (arith, e)), ((λ e. omega (arith, e)), ((λ e. omega (arith, e)), tt))),
        ),
      ) small_version)
      (no_end_append (labels_line board.labels) (pebbles_line board.pebbles ++ start_line board.labels board.start)
      (number_line_no_end 108 (codes "abels") board.labels (λ e. omega (arith, e)) (
        (λ e. omega (arith, e)),
        (
          (λ e. omega (arith, e)),
          (
            (λ e. omega (arith, e)),
            (
              (λ e. omega (arith, e)),
              ((λ e. omega (arith, e)), ((λ e. omega (arith, e)), tt)),
            ),
          ),
        ),
      )
      (omega (arith, is.labels.1)))
      (no_end_append (pebbles_line board.pebbles) (start_line board.labels board.start)
      (number_line_no_end 112 (codes "ebbles") board.pebbles (λ e. omega (arith, e)) (
        (λ e. omega (arith, e)),
        (
          (λ e. omega (arith, e)),
          (
            (λ e. omega (arith, e)),
            (
              (λ e. omega (arith, e)),
              ((λ e. omega (arith, e)), ((λ e. omega (arith, e)), ((λ e. omega (arith, e)), tt))),
            ),
          ),
        ),
      )
      (omega (arith, is.pebbles.1)))
      (no_end_line 115 (codes "tart" ++ spaced_places board.labels board.start) (λ e. omega (arith, e))
      (feedless_append (codes "start") (spaced_places board.labels board.start) (
        (λ e. omega (arith, e)),
        (
          (λ e. omega (arith, e)),
          ((λ e. omega (arith, e)), ((λ e. omega (arith, e)), ((λ e. omega (arith, e)), tt))),
        ),
      )
      (feedless_places board.labels board.start small_places))))))
      (pairs_no_end board.labels board.pairs (omega (arith, is.labels.1))
      (recursion_from_All (λ (pair : ℕ × ℕ). (pair.0 < board.labels) ×
      (pair.1 < board.labels)) board.pairs is.pairs.of_labels))

  -- the board's length in a text that begins with it
  board_length_is : (rest : List ℕ) → IsBoardLength (board_text board ++ rest) (length (board_text board))
  board_length_is rest =
      let before = board_text_before_end board in
      let whole : board_text board ++ rest ≡ before ++ (end_line ++ rest) = append_assoc before end_line rest in
      inl (
        length before,
        (λ k below end. head_no_end (end_line ++ rest) k below (subst (λ t. IsEndLine t k) whole end)),
        subst (λ t. IsEndLine t (length before)) (sym whole) (end_here before rest fed),
        length-append before end_line,
      )
    where
      fed : IsFed (board_text_before_end board)
      fed =
          fed_pairs (version_line (version_of board.labels board.start) ++
          (labels_line board.labels ++ (pebbles_line board.pebbles
          ++ start_line board.labels board.start)))
          (fed_append (version_line (version_of board.labels board.start))
          (labels_line board.labels ++ (pebbles_line board.pebbles ++ start_line board.labels board.start))
          (fed_append (labels_line board.labels) (pebbles_line board.pebbles ++ start_line board.labels board.start)
          (fed_append (pebbles_line board.pebbles) (start_line board.labels board.start)
          (codes "start" ++ spaced_places board.labels board.start, refl)))) board.pairs

take_front : (text more : List ℕ) → take (length text) (text ++ more) ≡ text
take_front [] more = refl
take_front (byte ∷ text) more = ap (λ t. byte ∷ t) (take_front text more)

-- the board's text is as many bytes as the board's length
pub board_is_front : (board : PlainBoard) (text rest : List ℕ) (size : ℕ) → IsBoard board
    → text ≡ board_text board ++ rest
    → IsBoardLength text size → take size text ≡ board_text board
board_is_front board text rest size is same long =
    let own : IsBoardLength text (length (board_text board)) =
    subst (λ t. IsBoardLength t (length (board_text board))) (sym same) (board_length_is board is rest) in
    let sizes : size ≡ length (board_text board) = one_length text size (length (board_text board)) long own in
    ap (λ n. take n text) sizes ∙ ap (take (length (board_text board))) same ∙ take_front (board_text board) rest

-- a text begins with the text of one board at most
pub one_front : (board other : PlainBoard) (text rest more : List ℕ) → IsBoard board → IsBoard other
    → text ≡ board_text board ++ rest
    → text ≡ board_text other ++ more → (board ≡ other) × (rest ≡ more)
one_front board other text rest more is is_too same same_too =
    let long : IsBoardLength text (length (board_text board)) =
    subst (λ t. IsBoardLength t (length (board_text board))) (sym same) (board_length_is board is rest) in
    let fronts : board_text board ≡ board_text other =
    sym (board_is_front board text rest (length (board_text board)) is same long)
    ∙ board_is_front other text more (length (board_text board)) is_too same_too long in (
      one_board board other is is_too fronts,
      append_cancel_left (board_text other) rest more (ap (λ t. t ++ rest) (sym fronts) ∙ sym same ∙ same_too),
    )
