-- From the parts of a text to its fault, or to its board.
use Rattle.std.proofs.Common.{◌≡◌, ℕ, ◌+◌, List, [], ◌∷◌, ◌++◌, length, take, drop, refl, subst, sym, ap, ◌∙◌}
use Rattle.std.proofs.Common.{append_assoc}
use Rattle.std.specs.List.{flat_map}
use Rattle.std.proofs.lemmas.List.{append-nil, take_at}
use Rattle.board_text.specs.declared.fault.BoardKind.{BoardKind}
use Rattle.board_text.specs.declared.fault.BoardKind.TheVariants.{Beats, SelfBeat, TwoWay, Order, End, Trailing}
use Rattle.board_text.specs.PlainBoard.{plain_board, PlainBoard, IsBoard, ArePairs, version_of}
use Rattle.board_text.specs.BoardText.{version_line, labels_line, pebbles_line, start_line, beats_line, end_line}
use Rattle.board_text.specs.BoardText.{board_text_before_end, board_text}
use Rattle.board_text.specs.Inside.BoardText.{board_head}
use Rattle.board_text.specs.BoardFaults.{PairFault, HasBoardFault}

regroup_head : (a b c d x : List ℕ) → a ++ (b ++ (c ++ (d ++ x))) ≡ (a ++ (b ++ (c ++ d))) ++ x
regroup_head a b c d x = simp append_assoc

-- the four lines at the head of a text, taken one after the other
pub head_taken : (version labels pebbles : ℕ) (start text rest more : List ℕ) → version_of labels start ≡ version
    → text ≡ version_line version ++ (labels_line labels ++ (pebbles_line pebbles ++ rest))
    → rest ≡ start_line labels start ++ more
    → text ≡ board_head labels pebbles start ++ more
head_taken version labels pebbles start text rest more same e f =
    e ∙ ap (λ v. version_line v ++ (labels_line labels ++ (pebbles_line pebbles ++ rest))) (sym same)
    ∙ ap (λ (t : List ℕ). version_line (version_of labels start)
    ++ (labels_line labels ++ (pebbles_line pebbles ++ t))) f
    ∙ regroup_head (version_line (version_of labels start)) (labels_line labels) (pebbles_line pebbles)
    (start_line labels start) more

pub front_taken : (b : PlainBoard) (text rest more : List ℕ) → text ≡ board_head b.labels b.pebbles b.start ++ rest
    → rest ≡ flat_map beats_line b.pairs ++ more → text ≡ board_text_before_end b ++ more
front_taken b text rest more e f =
    e ∙ ap (λ (t : List ℕ). board_head b.labels b.pebbles b.start ++ t) f
    ∙ sym (append_assoc (board_head b.labels b.pebbles b.start) (flat_map beats_line b.pairs) more)

-- a fault among the pairs is one of the text
pub has_pair_fault : (text : List ℕ) (line : ℕ) (kind : BoardKind) (b : PlainBoard) (rest : List ℕ) → IsBoard b
    → text ≡ board_text_before_end b ++ rest → line ≡ 5 + length b.pairs → PairFault b.labels b.pairs rest kind
    → HasBoardFault text line kind
has_pair_fault text line Beats b rest is e n h = (b, rest, is, e, n, h)
has_pair_fault text line SelfBeat b rest is e n h = (b, rest, is, e, n, h)
has_pair_fault text line TwoWay b rest is e n h = (b, rest, is, e, n, h)
has_pair_fault text line Order b rest is e n h = (b, rest, is, e, n, h)
has_pair_fault text line End b rest is e n h = (b, rest, is, e, n, h)
has_pair_fault text line kind b rest is e n h = absurd h

pub has_trailing : (text rest : List ℕ) (line : ℕ) (b : PlainBoard) → IsBoard b → text ≡ board_text b ++ rest
    → (rest ≡ [] → ⊥) → line ≡ 6 + length b.pairs → HasBoardFault text line Trailing
has_trailing text [] line b is e some n = absurd (some refl)
has_trailing text (c ∷ more) line b is e some n = (b, c, more, is, e, n)

-- the four lines at the head were read, and make a board with pairs that follow
pub record FrontRead (labels pebbles : ℕ) (start text rest : List ℕ) : Type 0 where
  pub is_board : (pairs : List (ℕ × ℕ)) → ArePairs labels pairs → IsBoard (plain_board labels pebbles start pairs)
  pub taken : text ≡ board_head labels pebbles start ++ rest

regroup_text : (a b c x : List ℕ) → a ++ ((b ++ c) ++ x) ≡ ((a ++ b) ++ c) ++ x
regroup_text a b c x = simp append_assoc

pub text_read : {labels pebbles : ℕ} {start text rest : List ℕ} → FrontRead labels pebbles start text rest
    → (pairs : List (ℕ × ℕ)) (more : List ℕ) → ArePairs labels pairs
    → rest ≡ (flat_map beats_line pairs ++ end_line) ++ more
    → IsBoard (plain_board labels pebbles start pairs)
    × (text ≡ board_text (plain_board labels pebbles start pairs) ++ more)
text_read {labels} {pebbles} {start} front pairs more are e = (
  front.is_board pairs are,
  front.taken ∙ ap (λ (t : List ℕ). board_head labels pebbles start ++ t) e
      ∙ regroup_text (board_head labels pebbles start) (flat_map beats_line pairs) end_line more,
)

-- the board whose fields are those that were read
pub is_found : (b : PlainBoard) (labels : ℕ) (start text : List ℕ) → labels ≡ b.labels → start ≡ b.start
    → IsBoard b × (text ≡ board_text b ++ [])
    → IsBoard (plain_board labels b.pebbles start b.pairs)
    × (text ≡ board_text (plain_board labels b.pebbles start b.pairs))
is_found b labels start text p q read = subst (λ (m : PlainBoard). IsBoard m × (text ≡ board_text m))
    (ap (λ l. plain_board l b.pebbles b.start b.pairs) (sym p)
    ∙ ap (λ s. plain_board labels b.pebbles s b.pairs) (sym q))
    (read.0, read.1 ∙ append-nil (board_text b))

pub start_kept : (n : ℕ) (old new : List ℕ) → length new ≡ n → take n (new ++ drop (length new) old) ≡ new
start_kept n old new len = take_at new (drop (length new) old) n len
