-- Each text is that of a board, or has a fault.
use Rattle.std.proofs.Common.{◌≡◌, ℕ, zero, suc, ◌+◌, ◌<◌, ◌≤◌, ◌⊎◌, List, [], ◌∷◌, ◌++◌, length, subst, append_assoc}
use Rattle.std.proofs.Common.{refl, sym, ap, ◌∙◌, arith, inl, inr}
use Rattle.std.proofs.lemmas.Bool.{cases_eq}
use Rattle.std.proofs.lemmas.List.{append-nil, length-append}
use Rattle.std.proofs.lemmas.List.Elements.{All-nil}
use Rattle.std.specs.List.{flat_map}
use Rattle.board_text.specs.Ranges.{InRange, AreNumbers}
use Rattle.board_text.specs.PlainBoard.{PlainBoard, plain_board, IsBoard, ArePairs, AreLabels}
use Rattle.board_text.specs.BoardText.{version_line, labels_line, pebbles_line, beats_line, end_line}
use Rattle.board_text.specs.BoardText.{board_text_before_end, board_text}
use Rattle.board_text.specs.Inside.BoardText.{board_head}
use Rattle.board_text.specs.BoardFaults.{NotEnd, IsCut, PairFault}
use Rattle.board_text.specs.Inside.Parsing.{CanFollow}
use Rattle.board_text.specs.Readings.{IsBoardText, IsFaulty}
use Rattle.board_text.specs.declared.fault.BoardKind.{BoardKind}
use Rattle.board_text.specs.declared.fault.BoardKind.TheVariants.{Version, Labels, Pebbles, Start, Beats, SelfBeat}
use Rattle.board_text.specs.declared.fault.BoardKind.TheVariants.{TwoWay, Order, End, Trailing}
use Rattle.board_text.specs.declared.board.TheConstants.{MAX_LABELS, MAX_PEBBLES}
use Rattle.board_text.proofs.Decisions.{Decided, begins, number_stands, start_stands, pair_stands, contained, next}
use Rattle.board_text.proofs.PairLemmas.{pairs_push, line_push}
use Rattle.board_text.proofs.Faults.{head_taken, front_taken, has_pair_fault}
use Rattle.board_text.proofs.Places.{start_from_numbers, numbers_from_start}

-- the line after the pairs so far: `end`, a fault, or one more pair
data NextLine (labels : ℕ) (pairs : List (ℕ × ℕ)) (rest : List ℕ) : Type 0 where
  ends : (more : List ℕ) → rest ≡ end_line ++ more → NextLine labels pairs rest
  fault : (kind : BoardKind) → PairFault labels pairs rest kind → NextLine labels pairs rest
  pair : (p : ℕ × ℕ) (more : List ℕ) → CanFollow labels pairs p → rest ≡ beats_line p ++ more
      → NextLine labels pairs rest

is_cut : (rest : List ℕ) → Decided (IsCut rest)
is_cut [] = inl (inl refl)
is_cut (c ∷ more) =
    elim (cases_eq c 101) [
      | inl e ↦ inl (inr (more, ap (λ (d : ℕ). d ∷ more) e))
      | inr differ ↦ inr (λ h. elim h [
        | inl e ↦ cc
        | inr f ↦ let e = f.1 in let same : c ≡ 101 = cc in differ same
      ])
    ]

judged : (labels : ℕ) (pairs : List (ℕ × ℕ)) (rest : List ℕ) (p : ℕ × ℕ) (more : List ℕ) → AreLabels labels p
    → rest ≡ beats_line p ++ more → NextLine labels pairs rest
judged labels pairs rest p more are e =
    elim (cases_eq p.0 p.1) [
      | inl same ↦ fault SelfBeat (
        p.0,
        ((are.0, are.0), more, e ∙ ap (λ (y : ℕ). beats_line (p.0, y) ++ more) (sym same)),
      )
      | inr differ ↦ elim (contained pairs (p.1, p.0)) [
        | inl back ↦ fault TwoWay (p.0, p.1, (are, more, e), differ, back)
        | inr one_way ↦ elim (next pairs p) [
          | inl above ↦ pair p more (record { in_range = are; differ = differ; one_way = one_way; above = above }) e
          | inr low ↦ fault Order (p.0, p.1, (are, more, e), differ, one_way, low)
        ]
      ]
    ]

next_line : (labels : ℕ) (pairs : List (ℕ × ℕ)) (rest : List ℕ) → NextLine labels pairs rest
next_line labels pairs rest =
    elim (begins end_line rest) [
      | inl h ↦ ends h.0 h.1
      | inr never ↦ let not_end : NotEnd rest = λ u more all e. never (more, e) in elim (is_cut rest) [
        | inl cut ↦ fault End (not_end, cut)
        | inr whole ↦ elim (pair_stands labels beats_line rest) [
          | inl s ↦ judged labels pairs rest s.value s.more s.is s.spelled
          | inr lacks ↦ fault Beats (not_end, whole, lacks)
        ]
      ]
    ]

-- after the line `end` the text is that of a board, or has a fault
ended : (text : List ℕ) (b : PlainBoard) (more : List ℕ) → IsBoard b → text ≡ board_text b ++ more
    → IsBoardText text ⊎ IsFaulty text
ended text b [] is e = inl (b, is, e ∙ append-nil (board_text b))
ended text b (c ∷ more) is e = inr (6 + length b.pairs, Trailing, λ f. cc, (b, c, more, is, e, refl))

-- one more line
one_more : (b : PlainBoard) (p : ℕ × ℕ) (text rest more : List ℕ) → text ≡ board_text_before_end b ++ rest
    → rest ≡ beats_line p ++ more
    → text ≡ board_text_before_end (plain_board b.labels b.pebbles b.start (b.pairs ++ p ∷ [])) ++ more
one_more b p text rest more e f =
    let start = board_head b.labels b.pebbles b.start in
    front_taken (plain_board b.labels b.pebbles b.start (b.pairs ++ p ∷ [])) text
    (flat_map beats_line b.pairs ++ rest) more
    (e ∙ append_assoc start (flat_map beats_line b.pairs) rest)
    (line_push b.pairs p (flat_map beats_line b.pairs ++ rest) rest more refl f)

shorter : (p : ℕ × ℕ) (rest more : List ℕ) → rest ≡ beats_line p ++ more → length more < length rest
shorter p rest more e = omega (arith, ap length e, length-append (beats_line p) more)

from_line : (size : ℕ) (text : List ℕ) (b : PlainBoard) (rest : List ℕ) → length rest ≤ size → IsBoard b
    → text ≡ board_text_before_end b ++ rest → NextLine b.labels b.pairs rest → IsBoardText text ⊎ IsFaulty text
from_line size text b rest fits is e (ends more f) =
    ended text b more is (e ∙ ap (λ (t : List ℕ). board_text_before_end b ++ t) f
    ∙ sym (append_assoc (board_text_before_end b) end_line more))
from_line size text b rest fits is e (fault kind h) =
    inr (
      5 + length b.pairs,
      kind,
      λ m. subst (λ k. PairFault b.labels b.pairs rest k) m h,
      has_pair_fault text (5 + length b.pairs) kind b rest is e refl h,
    )
from_line zero text b rest fits is e (pair p more can f) = absurd (omega (arith, shorter p rest more f, fits))
from_line (suc size) text b rest fits is e (pair p more can f) =
    let longer = plain_board b.labels b.pebbles b.start (b.pairs ++ p ∷ []) in
    let is_longer : IsBoard longer =
    record {
      labels = is.labels;
      pebbles = is.pebbles;
      start = start_from_numbers longer (numbers_from_start b is.start);
      pairs = pairs_push b.labels b.pairs p is.pairs can;
    } in
    from_line size text longer more (omega (arith, shorter p rest more f, fits)) is_longer
    (one_more b p text rest more e f) (next_line b.labels (b.pairs ++ p ∷ []) more)

-- ---- the first four lines

no_pairs : (labels : ℕ) → ArePairs labels []
no_pairs labels = record {
  of_labels = All-nil (AreLabels labels);
  ascending = λ i j d less within. absurd (omega (arith, within));
  one_way = λ x y h g. omega (arith, h.1);
}

after_start : (text : List ℕ) (labels pebbles : ℕ) (start rest : List ℕ) → InRange 1 MAX_LABELS labels
    → InRange 1 MAX_PEBBLES pebbles → AreNumbers pebbles (labels + 1) start
    → text ≡ board_head labels pebbles start ++ rest → IsBoardText text ⊎ IsFaulty text
after_start text labels pebbles start rest in_labels in_pebbles are e =
    let b = plain_board labels pebbles start [] in
    let is : IsBoard b = record {
      labels = in_labels;
      pebbles = in_pebbles;
      start = start_from_numbers b are;
      pairs = no_pairs labels;
    } in
    from_line (length rest) text b rest (omega arith) is (front_taken b text rest rest e refl)
    (next_line labels [] rest)

after_pebbles : (text : List ℕ) (version labels pebbles : ℕ) (rest : List ℕ) → InRange 1 2 version
    → InRange 1 MAX_LABELS labels → InRange 1 MAX_PEBBLES pebbles
    → text ≡ version_line version ++ (labels_line labels ++ (pebbles_line pebbles ++ rest))
    → IsBoardText text ⊎ IsFaulty text
after_pebbles text version labels pebbles rest in_versions in_labels in_pebbles e =
    elim (start_stands version labels pebbles rest) [
      | inl s ↦ after_start text labels pebbles s.value s.more in_labels in_pebbles s.is.0
          (head_taken version labels pebbles s.value text rest s.more s.is.1 e s.spelled)
      | inr lacks ↦ inr (
        4,
        Start,
        λ f. cc,
        (refl, version, labels, pebbles, rest, in_versions, in_labels, in_pebbles, e, lacks),
      )
    ]

after_labels : (text : List ℕ) (version labels : ℕ) (rest : List ℕ) → InRange 1 2 version → InRange 1 MAX_LABELS labels
    → text ≡ version_line version ++ (labels_line labels ++ rest) → IsBoardText text ⊎ IsFaulty text
after_labels text version labels rest in_versions in_labels e =
    elim (number_stands 1 MAX_PEBBLES pebbles_line rest) [
      | inl s ↦ after_pebbles text version labels s.value s.more in_versions in_labels s.is
          (e ∙ ap (λ (t : List ℕ). version_line version ++ (labels_line labels ++ t)) s.spelled)
      | inr lacks ↦ inr (3, Pebbles, λ f. cc, (refl, version, labels, rest, in_versions, in_labels, e, lacks))
    ]

after_version : (text : List ℕ) (version : ℕ) (rest : List ℕ) → InRange 1 2 version
    → text ≡ version_line version ++ rest → IsBoardText text ⊎ IsFaulty text
after_version text version rest in_versions e =
    elim (number_stands 1 MAX_LABELS labels_line rest) [
      | inl s ↦ after_labels text version s.value s.more in_versions s.is
          (e ∙ ap (λ (t : List ℕ). version_line version ++ t) s.spelled)
      | inr lacks ↦ inr (2, Labels, λ f. cc, (refl, version, rest, in_versions, e, lacks))
    ]

pub board_or_fault : (text : List ℕ) → IsBoardText text ⊎ IsFaulty text
board_or_fault text =
    elim (number_stands 1 2 version_line text) [
      | inl s ↦ after_version text s.value s.more s.is s.spelled
      | inr lacks ↦ inr (1, Version, λ f. cc, (refl, lacks))
    ]
