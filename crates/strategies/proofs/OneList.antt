-- A board has one document at most over positions, and that has one row at most at the same places.
use Rattle.std.proofs.Common.{◌≡◌, ℕ, zero, suc, ◌<◌, ◌↔◌, List, [], ◌∷◌, length, get_or, slice_index, refl, sym, ap}
use Rattle.std.proofs.Common.{◌∙◌, subst, arith}
use Rattle.std.specs.List.{AllPairs, Contains}
use Rattle.std.proofs.lemmas.List.{ext_get_or}
use Rattle.std.proofs.lemmas.List.Elements.{Contains-append_right}
use Rattle.std.proofs.lemmas.Map.Made.{Contains-tail}
use Rattle.board_text.specs.PlainBoard.{PlainBoard}
use Rattle.positions.specs.declared.value.Value.{Value}
use Rattle.positions.specs.declared.value.Value.TheVariants.{Finite}
use Rattle.positions.specs.Value.{HasValue}
use Rattle.positions.specs.Table.{AnswerRow, RequestRow}
use Rattle.positions.specs.Ranks.{rank_of}
use Rattle.positions.proofs.Cited.{same_value}
use Rattle.proof_text.specs.Proof.{PlainProof}
use Rattle.strategies.specs.Best.{IsBestAnswer, IsBestRequest}
use Rattle.positions.specs.Claim.{claim_of}
use Rattle.proof_text.specs.Arranged.{document_number}
use Rattle.proof_text.specs.Positions.{Positions, class_positions, configuration_positions}
use Rattle.strategies.specs.ClassDocument.{IsClassDocumentOf}
use Rattle.strategies.specs.Document.{IsDocumentOf}
use Rattle.strategies.specs.PositionDocument.{turns_of, AsksAdversary, IsLabellerRowOver, IsAdversaryRowOver}
use Rattle.strategies.specs.PositionDocument.{AreExactlyOver, IsDocumentOver}
use Rattle.strategies.proofs.BestAnswers.{same_answer}
use Rattle.strategies.proofs.BestRequests.{same_request}
use Rattle.strategies.specs.Inside.NumberedPositions.{ArePositions}

-- ---- ascending lists with the same members

module _ {X : Type 0} (rank : X → ℕ) where
  abbrev pub IsAscending : List X → Type 0
  IsAscending rows = AllPairs (λ first second. rank first < rank second) rows

  pub tail_ascends : (first : X) (rows : List X) → IsAscending (first ∷ rows) → IsAscending rows
  tail_ascends first rows ascends i j d less inside = ascends (suc i) (suc j) d (omega arith) (omega arith)

  pub behind_first : (first : X) (rows : List X) (row : X) → IsAscending (first ∷ rows) → Contains rows row
      → rank first < rank row
  behind_first first rows row ascends among =
      let larger : rank first < rank (get_or rows among.0 row) =
      ascends 0 (suc among.0) row (omega arith) (let inside : among.0 < length rows = among.1 in omega arith) in
      subst (λ (r : X). rank first < rank r) among.2 larger

  in_first : (first : X) (rows : List X) → Contains (first ∷ rows) first
  in_first first rows = (0, omega arith, refl)

  -- the first ones of both are the same
  same_first : (one other : X) (ones others : List X) → IsAscending (one ∷ ones) → IsAscending (other ∷ others)
      → Contains (one ∷ ones) other → Contains (other ∷ others) one → one ≡ other
  same_first one other ones others ascends also (zero, inside, same) there = same
  same_first one other ones others ascends also (suc place, inside, same) (zero, within, equal) = sym equal
  same_first one other ones others ascends also (suc place, inside, same) (suc at, within, equal) =
      let less : rank one < rank other = behind_first one ones other ascends (place, omega arith, same) in
      let more : rank other < rank one = behind_first other others one also (at, omega arith, equal) in
      absurd (omega arith)

  same_list : (ones others : List X) → IsAscending ones → IsAscending others
      → ((row : X) → Contains ones row ↔ Contains others row) → ones ≡ others
  same_list [] [] ascends also same = refl
  same_list [] (other ∷ others) ascends also same =
      let among = (same other).1 (in_first other others) in let inside : among.0 < 0 = among.1 in absurd (omega arith)
  same_list (one ∷ ones) [] ascends also same =
      let among = (same one).0 (in_first one ones) in let inside : among.0 < 0 = among.1 in absurd (omega arith)
  same_list (one ∷ ones) (other ∷ others) ascends also same =
      let equal : one ≡ other = same_first one other ones others ascends also ((same other).1 (in_first other others))
      ((same one).0 (in_first one ones)) in
      let level : rank one ≡ rank other = ap rank equal in
      let rest : ones ≡ others = same_list ones others (tail_ascends one ones ascends) (tail_ascends other others also)
      (λ row. (
        λ among. let larger : rank one < rank row = behind_first one ones row ascends among in
            Contains-tail other others row (λ is. omega (arith, ap rank is))
            ((same row).0 (Contains-append_right (one ∷ []) ones row among)),
        λ among. let larger : rank other < rank row = behind_first other others row also among in
            Contains-tail one ones row (λ is. omega (arith, ap rank is))
            ((same row).1 (Contains-append_right (other ∷ []) others row among)),
      )) in
      ap (λ (r : X). r ∷ ones) equal ∙ ap (λ (rs : List X). other ∷ rs) rest

-- lists of exactly the same rows are the same
pub same_rows : {X : Type 0} (number : List ℕ → ℕ) (IsRow : X → Type 0) (at : X → List ℕ) (ones others : List X)
    → AreExactlyOver number IsRow at ones
    → AreExactlyOver number IsRow at others → ones ≡ others
same_rows number IsRow at ones others exactly also =
    same_list (λ row. number (at row)) ones others exactly.ascending also.ascending (λ row. (
      λ among. (also.each row).1 ((exactly.each row).0 among),
      λ among. (exactly.each row).1 ((also.each row).0 among),
    ))

pub one_document_over : (positions : Positions) (number : List ℕ → ℕ) (board : PlainBoard)
    (first second : PlainProof)
    → IsDocumentOver positions number board first
    → IsDocumentOver positions number board second → first ≡ second
one_document_over positions number board first second one other =
    let value : other.value ≡ one.value =
    same_value board board.start other.value one.value other.has_value one.has_value in
    let claim : first.claim ≡ second.claim = one.claim ∙ sym (ap claim_of value) ∙ sym other.claim in
    let labeller : first.labeller ≡ second.labeller =
    same_rows number (IsLabellerRowOver positions board one.value)
    (λ (row : AnswerRow). row.at) first.labeller second.labeller one.labeller
    (subst (λ (v : Value). AreExactlyOver number (IsLabellerRowOver positions board v)
    (λ (row : AnswerRow). row.at) second.labeller) value other.labeller) in
    let adversary : first.adversary ≡ second.adversary =
    same_rows number (λ (row : RequestRow). AsksAdversary one.value × IsAdversaryRowOver positions board row)
    (λ (row : RequestRow). row.at) first.adversary second.adversary one.adversary
    (subst (λ (v : Value). AreExactlyOver number (λ (row : RequestRow). AsksAdversary v
    × IsAdversaryRowOver positions board row)
    (λ (row : RequestRow). row.at) second.adversary) value other.adversary) in
    let same : ◌≡◌ {A = PlainProof}
    (record { claim = first.claim; labeller = first.labeller; adversary = first.adversary }) second =
    rw (claim, labeller, adversary) refl in
    same

pub one_document : (board : PlainBoard) (first second : PlainProof) → IsDocumentOf board first
    → IsDocumentOf board second → first ≡ second
one_document board = one_document_over configuration_positions (rank_of board) board

pub one_class_document : (board : PlainBoard) (first second : PlainProof) → IsClassDocumentOf board first
    → IsClassDocumentOf board second → first ≡ second
one_class_document board = one_document_over (class_positions board.labels) (document_number board.labels) board

-- ---- one row at the same places

same_answers : (board : PlainBoard) (configuration ones others : List ℕ) → length ones ≡ board.pebbles
    → length others ≡ board.pebbles
    → ((pebble : ℕ) → pebble < board.pebbles → IsBestAnswer board configuration pebble (slice_index ones pebble))
    → ((pebble : ℕ) → pebble < board.pebbles → IsBestAnswer board configuration pebble (slice_index others pebble))
    → ones ≡ others
same_answers board configuration ones others size long best also =
    ext_get_or 0 ones others (size ∙ sym long)
    (λ k inside. same_answer board configuration k (slice_index ones k) (slice_index others k)
    (best k (omega (arith, inside, size))) (also k (omega (arith, inside, size))))

pub one_answer_row : (board : PlainBoard) (positions : Positions) (start : Value) (first second : AnswerRow)
    → IsLabellerRowOver positions board start first
    → IsLabellerRowOver positions board start second
    → first.at ≡ second.at → first ≡ second
one_answer_row board positions start first second one other at =
    let value : one.value ≡ other.value = same_value board second.at one.value other.value
    (subst (λ (c : List ℕ). HasValue board c one.value) at one.has_value) other.has_value in
    let turns : first.turns ≡ second.turns = one.turns ∙ ap (turns_of start) value ∙ sym other.turns in
    let answers : first.answers ≡ second.answers =
    same_answers board second.at first.answers second.answers one.one_each other.one_each
    (subst (λ (c : List ℕ). (pebble : ℕ) → pebble < board.pebbles
    → IsBestAnswer board c pebble (slice_index first.answers pebble)) at one.best) other.best in
    let same : ◌≡◌ {A = AnswerRow} (record { at = first.at; turns = first.turns; answers = first.answers }) second =
    rw (at, turns, answers) refl in
    same

finite_is : (a b : ℕ) → Finite a ≡ Finite b → a ≡ b
finite_is a b same = cc

pub one_request_row : (board : PlainBoard) (positions : Positions) → ArePositions board positions
    → (first second : RequestRow)
    → IsAdversaryRowOver positions board first
    → IsAdversaryRowOver positions board second → first.at ≡ second.at → first ≡ second
one_request_row board positions are first second one other at =
    let left : first.left ≡ second.left =
    finite_is first.left second.left (same_value board second.at (Finite first.left) (Finite second.left)
    (subst (λ (c : List ℕ). HasValue board c (Finite first.left)) at one.has_value) other.has_value) in
    let pebble : positions.asked first ≡ positions.asked second = same_request board second.at (positions.asked first)
    (positions.asked second) (subst (λ (c : List ℕ). IsBestRequest board c (positions.asked first)) at one.best)
    other.best in
    let request : first.request ≡ second.request = are.one first second one.asks other.asks at pebble in
    let same : ◌≡◌ {A = RequestRow} (record { at = first.at; left = first.left; request = first.request }) second =
    rw (at, left, request) refl in
    same
