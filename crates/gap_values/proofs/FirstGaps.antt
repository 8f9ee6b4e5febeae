-- The first pebble whose gap closes first, and the value that its request lowers.
use Rattle.std.proofs.Common.{◌≡◌, ℕ, ◌+◌, ◌<◌, ◌≤◌, List, Option, None, Some, length, get_or, refl, sym, ap}
use Rattle.std.proofs.Common.{◌∙◌, subst, inl, inr, arith}
use Rattle.std.specs.List.{remove}
use Rattle.std.proofs.lemmas.Bool.{cases_lt}
use Rattle.board_text.specs.PlainBoard.{PlainBoard, IsBoard, IsConfiguration}
use Rattle.positions.specs.Value.{HasValue}
use Rattle.classes.specs.Classes.{class_of}
use Rattle.classes.specs.ClassGaps.{gap_at, index_in}
use Rattle.classes.specs.Numbers.{number_by_greatest}
use Rattle.classes.proofs.Cited.{class_of-own, gap_at-class, index-put}
use Rattle.gap_values.specs.BestOfGap.{IsFirstBelow, LeadBelow}
use Rattle.gap_values.specs.GapTables.{IsClosedBefore, IsFirstClosed, IsGapTable}
use Rattle.gap_values.specs.Inside.Words.{IsFirstGap, IsFirstWith, gap_table, gap_word}
use Rattle.gap_values.specs.RoundWords.{round_of_word}
use Rattle.gap_values.proofs.ClosedGaps.{first-closed, gap-is}
use Rattle.gap_values.proofs.LeadingBelow.{below-closed, closed-below}
use Rattle.gap_values.proofs.Words.{before-from, before-to, round-finite, round-none}

-- ---- a walk over the pebbles

at-most-open : (words held : List ℕ) (end word : ℕ) (pebble : Option ℕ) → IsFirstGap words held end word pebble
    → word ≤ 4294967295
at-most-open words held end word None is = omega (arith, is.first)
at-most-open words held end word (Some pebble) is = let low = is.first.1 in omega arith

pub first-more : (words held : List ℕ) (end word new : ℕ) (pebble : Option ℕ) → IsFirstGap words held end word pebble
    → gap_word words held end ≡ new → new < word → IsFirstGap words held (end + 1) new (Some end)
first-more words held end word new pebble was is less = record {
  least = λ other low. elim (cases_lt other end) [
    | inl before ↦ (let most = was.least other before in omega arith)
    | inr last ↦
        let same : end ≡ other = omega arith in
        let here : gap_word words held other ≡ new = ap (gap_word words held) (sym same) ∙ is in omega arith
  ];
  first = (
    omega arith,
    (let most = at-most-open words held end word pebble was in omega arith),
    is,
    λ other before. let most = was.least other before in omega arith,
  );
}

pub first-same : (words held : List ℕ) (end word new : ℕ) (pebble : Option ℕ) → IsFirstGap words held end word pebble
    → gap_word words held end ≡ new → word ≤ new → IsFirstGap words held (end + 1) word pebble
first-same words held end word new pebble was is most = record {
  least = λ other low. elim (cases_lt other end) [
    | inl before ↦ was.least other before
    | inr last ↦
        let same : end ≡ other = omega arith in
        let here : gap_word words held other ≡ new = ap (gap_word words held) (sym same) ∙ is in omega arith
  ];
  first = go pebble was.first;
}
  where
    go : (pebble : Option ℕ) → IsFirstWith words held end word pebble
        → IsFirstWith words held (end + 1) word pebble
    go None none = none
    go (Some p) some = (let low : p < end = some.0 in omega arith, some.1, some.2, some.3)

-- ---- the gap of a pebble, by the class of all

pub class-index : (held : List ℕ) (pebble : ℕ) → pebble < length held
    → index_in (get_or held pebble 0) (class_of held) < length (class_of held)
class-index held pebble inside =
    subst (λ l. index_in (get_or held pebble 0) l < length l) (sym (class_of-own held pebble inside))
    (index-put (get_or held pebble 0) (gap_at held pebble))

pub class-number : (held : List ℕ) (pebble : ℕ) → pebble < length held
    → number_by_greatest (remove (class_of held) (index_in (get_or held pebble 0) (class_of held)))
    ≡ number_by_greatest (gap_at held pebble)
class-number held pebble inside = ap number_by_greatest (gap_at-class held pebble inside)

-- ---- the value, and the request

module _ (board : PlainBoard) (words held : List ℕ) (table : IsGapTable board (gap_table words))
    (is_board : IsBoard board) (is : IsConfiguration board held) where
  is-first : (word : ℕ) (pebble : Option ℕ) → IsFirstGap words held board.pebbles word pebble
      → IsFirstClosed board (gap_table words) held (round_of_word word)
  is-first word None first bound = (
    λ before. (let low = before-to word bound before in absurd (omega (arith, low.1, first.first))),
    λ has.
        let low = before-to (gap_word words held has.0) bound has.2 in
        absurd (let most = first.least has.0 has.1 in omega (arith, low.1, most, first.first)),
  )
  is-first word (Some p) first bound = (
    λ before. (
      p,
      first.first.0,
      subst (λ w. IsClosedBefore (round_of_word w) bound) (sym first.first.2) before,
    ),
    λ has.
        let low = before-to (gap_word words held has.0) bound has.2 in
        let most = first.least has.0 has.1 in before-from word bound (omega (arith, low.0, most)) first.first.1,
  )

  pub first-value : (word : ℕ) (pebble : Option ℕ) → IsFirstGap words held board.pebbles word pebble
      → HasValue board held (round_of_word word)
  first-value word pebble first =
      first-closed board (gap_table words) held (round_of_word word) table is (is-first word pebble first)

  below : (p number : ℕ) → p < board.pebbles → gap_word words held p < 4294967295 → gap_word words held p ≤ number
      → LeadBelow board (gap_at held p) number
  below p number inside low most =
      closed-below board (gap_table words) table (gap_at held p) is_board (gap-is board held is p inside) number
      (gap_word words held p) refl low most

  not-below : (p number : ℕ) → p < board.pebbles → LeadBelow board (gap_at held p) number
      → gap_word words held p ≤ number
  not-below p number inside leads =
      (below-closed board (gap_table words) table (gap_at held p) is_board (gap-is board held is p inside) number
      (gap_word words held p) refl leads).0

  pub first-request : (word : ℕ) (pebble : Option ℕ) → IsFirstGap words held board.pebbles word pebble
      → IsFirstBelow board held (round_of_word word) pebble
  first-request word None first =
      subst (λ value. IsFirstBelow board held value None) (sym (round-none word (omega (arith, first.first)))) refl
  first-request word (Some p) first =
      let inside : p < board.pebbles = first.first.0 in
      let at : gap_word words held p ≡ word = first.first.2 in
      subst (λ value. IsFirstBelow board held value (Some p)) (sym (round-finite word first.first.1)) (
        (inside, below p word inside (omega (arith, at, first.first.1)) (omega (arith, at))),
        λ other leads. elim (cases_lt other p) [
          | inl before ↦
              let less : word < gap_word words held other = first.first.3 other before in
              absurd (let most = not-below other word leads.0 leads.1 in omega arith)
          | inr late ↦ late
        ],
      )
