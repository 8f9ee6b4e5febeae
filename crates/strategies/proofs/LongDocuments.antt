-- More normal places than have room in so many bytes make the document of a board longer.
use Rattle.std.proofs.Common.{◌≡◌, ◌≢◌, ◌==◌, ℕ, ◌+◌, ◌*◌, ◌^◌, ◌<◌, ◌≤◌, List, [], ◌∷◌, ◌++◌, length, map}
use Rattle.std.proofs.Common.{get_or, codes, suc, refl, sym, ap, ◌∙◌, subst, inl, inr, arith, true, Option}
use Rattle.std.proofs.Math.ListN.{get_or-map}
use Rattle.std.proofs.Math.Nat.{mul-le-mul_right}
use Rattle.std.specs.Cmp.{nat_eq_equiv}
use Rattle.std.specs.List.{All, AllPairs, Contains, flat_map}
use Rattle.std.specs.Prelude.{nat_eq}
use Rattle.std.proofs.lemmas.Bool.{cases_Bool}
use Rattle.std.proofs.lemmas.Bool.Decides.{Decides-eqb}
use Rattle.std.proofs.lemmas.Fmt.{decimal_nonempty}
use Rattle.std.specs.Fmt.{decimal}
use Rattle.std.proofs.lemmas.List.{get_or_default, length-append, length-map}
use Rattle.std.proofs.lemmas.List.Elements.{All-contains, Contains-get_or}
use Rattle.std.proofs.lemmas.Map.Made.{IsDistinct-from_AllPairs, is_member-Decides, length-le_from_is_member}
use Rattle.board_text.specs.LineForms.{with_line_feed}
use Rattle.board_text.specs.PlaceForms.{place_word, spaced_places}
use Rattle.board_text.specs.PlainBoard.{PlainBoard, IsBoard, IsConfiguration, places}
use Rattle.board_text.proofs.Cited.{few_places}
use Rattle.positions.specs.Claim.{claim_of}
use Rattle.positions.specs.declared.side.Side.{Side}
use Rattle.positions.specs.declared.value.Value.{Value}
use Rattle.positions.specs.declared.value.Value.TheVariants.{Finite, Forever}
use Rattle.positions.specs.Game.{moved}
use Rattle.positions.specs.Table.{AnswerRow, RequestRow}
use Rattle.positions.specs.Value.{HasValue}
use Rattle.positions.proofs.Cited.{moved_is_configuration, same_value}
use Rattle.proof_text.specs.Arranged.{arranged, document_number}
use Rattle.proof_text.specs.Positions.{normal_positions}
use Rattle.proof_text.specs.Proof.{PlainProof, asks_adversary, asks_labeller}
use Rattle.proof_text.specs.ProofText.{answer_line, class_request_line, turns_text}
use Rattle.strategies.specs.ClassDocument.{CannotBeMade}
use Rattle.strategies.specs.DocumentMoves.{IsRequestMove, LeadsOver}
use Rattle.strategies.specs.Inside.ClassSide.{class_labeller_side, class_adversary_side}
use Rattle.strategies.specs.Inside.Sections.{AreMoreReached, HasNoSection}
use Rattle.strategies.specs.Inside.Numbering.{by_order, class_numbered, IsClassNumber}
use Rattle.strategies.specs.Inside.ReachedOver.{IsReachedByAnswersOver, IsReachedByRequestsOver}
use Rattle.strategies.specs.PositionDocument.{AsksAdversary, IsLabellerRowOver, IsAdversaryRowOver, IsDocumentOver}
use Rattle.strategies.specs.Sides.{HasStrategy, claim_for, document_for}
use Rattle.strategies.specs.declared.unmade.Unmade.{Unmade}
use Rattle.strategies.specs.declared.unmade.Unmade.TheVariants.{Memory, TooLong}
use Rattle.strategies.specs.Inside.LongSections.{HasLongSections, HasNoRows}
use Rattle.strategies.specs.Inside.NormalForm.{IsNormalForm}
use Rattle.strategies.proofs.Numberings.{are_orders}
use Rattle.strategies.proofs.PositionLaws.{are_normal}
use Rattle.strategies.proofs.DocumentRows.{answer_row_for, request_row_for}
use Rattle.strategies.proofs.LongTexts.{adversary_section, in_class_text, labeller_section}
use Rattle.strategies.proofs.GatheredRows.{adversarys, labellers}
use Rattle.strategies.proofs.OneSide.{adversary_is, asks_finite, claim_is, labeller_is}
use Rattle.strategies.proofs.SomeDocument.{document_exists_over}
use Rattle.strategies.proofs.ValueOrder.{less_than_finite}

-- ---- the lengths of lines

-- each place has a space and a character at least
places_long : (labels most : ℕ) (held : List ℕ) → most < 2 ^ 64 → All (λ place. place < most) held
    → 2 * length held ≤ length (spaced_places labels held)
places_long labels most [] few all = omega arith
places_long labels most (place ∷ held) few all =
    let rest : 2 * length held ≤ length (spaced_places labels held) = places_long labels most held few
    (λ k d inside. all (suc k) d (omega (arith, inside))) in
    let low : place < most = all 0 place (omega arith) in
    let some : 1 ≤ length (place_word labels place) = word low in
    omega (arith, rest, some, length-append (32 ∷ place_word labels place) (spaced_places labels held))
  where
    word : place < most → 1 ≤ length (place_word labels place)
    word low = elim (cases_Bool (place == labels)) [
      | inl same ↦ rw same (omega arith)
      | inr other ↦ rw other (omega (arith, decimal_nonempty place (omega (arith, low, few))))
    ]

-- the words of a row, its places and the line feed
line_long : (at turns word more : List ℕ)
    → length at + length word + length more + 8
    ≤ length (with_line_feed (codes "at" ++ (at ++ (codes " for " ++ (turns ++ (word ++ more))))))
line_long at turns word more =
    let two : length (codes "at") ≡ 2 = refl in
    let five : length (codes " for ") ≡ 5 = refl in
    let words : List ℕ = codes "at" ++ (at ++ (codes " for " ++ (turns ++ (word ++ more)))) in
    omega (
      arith,
      length-append words (10 ∷ []),
      length-append (codes "at") (at ++ (codes " for " ++ (turns ++ (word ++ more)))),
      length-append at (codes " for " ++ (turns ++ (word ++ more))),
      length-append (codes " for ") (turns ++ (word ++ more)),
      length-append turns (word ++ more),
      length-append word more,
      two,
      five,
    )

lines_long : {X : Type 0} (size : ℕ) (line : X → List ℕ) (rows : List X)
    → All (λ row. size ≤ length (line row)) rows → size * length rows ≤ length (flat_map line rows)
lines_long size line [] all = omega arith
lines_long size line (row ∷ rows) all =
    let here : size ≤ length (line row) = all 0 row (omega arith) in
    let rest : size * length rows ≤ length (flat_map line rows) = lines_long size line rows
    (λ k d inside. all (suc k) d (omega (arith, inside))) in
    omega (arith, here, rest, length-append (line row) (flat_map line rows))

-- ---- rows for the classes that were reached

-- numbers without repetitions that are all among others are no more than these
apart_within : (numbers others : List ℕ) → AllPairs (λ first second. first ≢ second) numbers
    → ((number : ℕ) → Contains numbers number → Contains others number) → length numbers ≤ length others
apart_within numbers others apart among =
    length-le_from_is_member nat_eq_equiv numbers others
    (IsDistinct-from_AllPairs {eq = nat_eq} Decides-eqb numbers apart)
    (λ number is. (is_member-Decides {eq = nat_eq} Decides-eqb others number).1
    (among number ((is_member-Decides {eq = nat_eq} Decides-eqb numbers number).0 is)))

contains_map : {X : Type 0} (f : X → ℕ) (xs : List X) (x : X) → Contains xs x → Contains (map f xs) (f x)
contains_map f xs x (k, inside, is) =
    (k, rw (length-map xs f) inside, get_or-map f xs k x ∙ ap f is)

module _ (board : PlainBoard) (normal : List ℕ → List ℕ) (form : IsNormalForm board normal)
    (is_board : IsBoard board) where
  abbrev from : List ℕ
  from = normal board.start

  few : places board < 2 ^ 64
  few = omega (arith, few_places board is_board)

  -- the length of each line
  answers_long : (start : Value) (row : AnswerRow) → IsLabellerRowOver (normal_positions normal) board start row
      → 13 + 4 * board.pebbles ≤ length (answer_line board row)
  answers_long start row is =
      let at_is = (labellers board (normal_positions normal) (are_normal board normal form) (by_order board)
      is_board.start
      (λ (r : AnswerRow). r) (λ r. Unit {0}) start).is row is in
      let at_long = places_long board.labels (places board) row.at few at_is.each_place in
      let answers_long = places_long board.labels board.labels row.answers (omega (arith, is_board.labels.1))
      (λ k d inside. placed row is k d inside) in
      let word : length (codes " take") ≡ 5 = refl in
      omega (
        arith,
        line_long (spaced_places board.labels row.at) (turns_text row.turns) (codes " take")
            (spaced_places board.labels row.answers),
        at_long,
        answers_long,
        at_is.each_pebble,
        is.one_each,
        word,
      )
    where
      placed : (row : AnswerRow) → IsLabellerRowOver (normal_positions normal) board start row
          → (k : ℕ) (d : ℕ) → k < length row.answers → get_or row.answers k d < board.labels
      placed row is k d inside =
          let best = is.best k (omega (arith, inside, is.one_each)) in
          subst (λ label. label < board.labels) (get_or_default row.answers k 0 d inside) best.0.legal.is_label

  requests_long : (start : Value) (row : RequestRow) → IsAdversaryRowOver (normal_positions normal) board row
      → 13 + 2 * board.pebbles ≤ length (class_request_line board row)
  requests_long start row is =
      let at_is = (adversarys board (normal_positions normal) (are_normal board normal form) (by_order board)
      is_board.start
      (λ (r : RequestRow). r) (λ r. Unit {0})).is row is in
      let at_long = places_long board.labels (places board) row.at few at_is.each_place in
      let word : length (codes " ask") ≡ 4 = refl in
      omega (
        arith,
        line_long (spaced_places board.labels row.at) (decimal row.left) (codes " ask")
            (spaced_places board.labels (row.request ∷ [])),
        at_long,
        at_is.each_pebble,
        word,
        length-append (32 ∷ place_word board.labels row.request) [],
      )

  -- the claim of the document is that of the start's value
  claim_of_start : (side : Option Side) (start : Value) (proof : PlainProof)
      → IsDocumentOver (normal_positions normal) (document_number board.labels) board proof
      → HasValue board board.start start → (document_for side proof).claim ≡ claim_for side (claim_of start)
  claim_of_start side start proof is has = claim_is side proof ∙ ap (claim_for side)
      (is.claim ∙ ap claim_of (same_value board board.start is.value start is.has_value has))

  -- more classes of the labeller
  pub labeller_too_long : (side : Option Side) (start : Value) (bytes most : ℕ) → HasValue board board.start start
      → HasStrategy side start → asks_labeller (claim_for side (claim_of start)) ≡ true
      → bytes < (most + 1) * (13 + 4 * board.pebbles)
      → AreMoreReached (by_order board) (class_labeller_side board normal start) most → HasLongSections side board
      normal bytes
  labeller_too_long side start bytes most has strategy asked room (numbers, apart, each, more) =
      let made = document_exists_over board (normal_positions normal) (are_normal board normal form) (by_order board)
      (are_orders board) is_board.start in
      let proof : PlainProof = made.0 in
      let is : IsDocumentOver (normal_positions normal) (document_number board.labels) board proof = made.1 in
      let number_of : AnswerRow → ℕ = λ row. document_number board.labels row.at in
      let listed : (number : ℕ) → Contains numbers number → Contains (map number_of proof.labeller) number =
      λ number among.
      let found : IsClassNumber board number
      × IsReachedByAnswersOver (normal_positions normal) (by_order board) board number =
      All-contains (λ m. IsClassNumber board m
      × IsReachedByAnswersOver (normal_positions normal) (by_order board) board m) numbers number each among in
      let row = answer_row_for board (normal_positions normal) is.value found.1.holds.value found.1.moves
      (class_numbered board number)
      found.0.is
      found.1.reached found.1.holds.has_value found.1.holds.some in
      subst (Contains (map number_of proof.labeller)) (ap (document_number board.labels) row.2 ∙ found.0.number_is)
      (contains_map number_of proof.labeller row.0 ((is.labeller.each row.0).1 row.1)) in
      let some : most + 1 ≤ length proof.labeller =
      omega (
        arith,
        more,
        apart_within numbers (map number_of proof.labeller) apart listed,
        length-map proof.labeller number_of,
      ) in
      let size : ℕ = 13 + 4 * board.pebbles in
      let lines = lines_long size (answer_line board) proof.labeller
      (λ k d inside. answers_long is.value (get_or proof.labeller k d) ((is.labeller.each (get_or proof.labeller k d)).0
      (Contains-get_or proof.labeller k d inside))) in
      let wide : (most + 1) * size ≤ length proof.labeller * size = mul-le-mul_right size some in
      let same : claim_for side (claim_of start) ≡ (document_for side proof).claim =
      sym (claim_of_start side start proof is has) in
      let within = labeller_section board (document_for side proof) (ap asks_labeller (sym same) ∙ asked) in
      let rows = ap (λ (rs : List AnswerRow). length (flat_map (answer_line board) rs))
      (labeller_is side start proof strategy asked) in
      (proof, is, omega (arith, room, wide, lines, within, rows))

  -- the classes that best requests lead to from one of a finite value have finite values
  stays_finite : (here : List ℕ) (number : ℕ) (moves : List (ℕ × ℕ)) (to : List ℕ) → IsConfiguration board here
      → HasValue board here (Finite number) → LeadsOver (normal_positions normal) (IsRequestMove board) here moves to
      → (left : ℕ) × HasValue board to (Finite left)
  stays_finite here number [] to is has leads =
      (number, subst (λ (c : List ℕ). HasValue board c (Finite number)) leads has)
  stays_finite here number ((pebble, label) ∷ moves) to is has leads =
      let next : List ℕ = moved here pebble label in
      let is_next : IsConfiguration board next =
      moved_is_configuration board here pebble label leads.0.legal.is_label is in
      let less = less_than_finite board number next here has (leads.0.best.0.lowers label leads.0.legal) in
      stays_finite (normal next) less.0 moves to (form.is next is_next)
      (form.same_value next is_next (Finite less.0) less.2) leads.1

  -- more classes of the adversary
  pub adversary_too_long : (side : Option Side) (start : Value) (bytes most : ℕ) → HasValue board board.start start
      → HasStrategy side start → asks_adversary (claim_for side (claim_of start)) ≡ true
      → bytes < (most + 1) * (13 + 2 * board.pebbles)
      → AreMoreReached (by_order board) (class_adversary_side board normal start) most → HasLongSections side board
      normal bytes
  adversary_too_long side Forever bytes most has strategy asked room more =
      absurd (asks_finite side Forever asked)
  adversary_too_long side (Finite number) bytes most has strategy asked room (numbers, apart, each, more) =
      let made = document_exists_over board (normal_positions normal) (are_normal board normal form) (by_order board)
      (are_orders board) is_board.start in
      let proof : PlainProof = made.0 in
      let is : IsDocumentOver (normal_positions normal) (document_number board.labels) board proof = made.1 in
      let same : Finite number ≡ is.value = same_value board board.start (Finite number) is.value has is.has_value in
      let asks : AsksAdversary is.value = subst AsksAdversary same tt in
      let start_is : IsConfiguration board from = form.is board.start is_board.start in
      let start_has : HasValue board from (Finite number) =
      form.same_value board.start is_board.start (Finite number) has in
      let number_of : RequestRow → ℕ = λ row. document_number board.labels row.at in
      let listed : (n : ℕ) → Contains numbers n → Contains (map number_of proof.adversary) n =
      λ n among.
      let found : IsClassNumber board n
      × IsReachedByRequestsOver (normal_positions normal) (by_order board) board n =
      All-contains (λ m. IsClassNumber board m
      × IsReachedByRequestsOver (normal_positions normal) (by_order board) board m) numbers n each among in
      let left = stays_finite from number found.1.moves (class_numbered board n) start_is start_has found.1.reached in
      let row = request_row_for board (normal_positions normal) (are_normal board normal form) left.0 found.1.moves
      (class_numbered board n) found.0.is found.1.reached
      left.1 in
      subst (Contains (map number_of proof.adversary)) (ap (document_number board.labels) row.2 ∙ found.0.number_is)
      (contains_map number_of proof.adversary row.0 ((is.adversary.each row.0).1 (asks, row.1))) in
      let some : most + 1 ≤ length proof.adversary =
      omega (
        arith,
        more,
        apart_within numbers (map number_of proof.adversary) apart listed,
        length-map proof.adversary number_of,
      ) in
      let size : ℕ = 13 + 2 * board.pebbles in
      let lines = lines_long size (class_request_line board) proof.adversary
      (λ k d inside. requests_long is.value (get_or proof.adversary k d)
      ((is.adversary.each (get_or proof.adversary k d)).0
      (Contains-get_or proof.adversary k d inside)).1) in
      let wide : (most + 1) * size ≤ length proof.adversary * size = mul-le-mul_right size some in
      let claims : claim_for side (claim_of (Finite number)) ≡ (document_for side proof).claim =
      sym (claim_of_start side (Finite number) proof is has) in
      let within = adversary_section board (document_for side proof) (ap asks_adversary (sym claims) ∙ asked) in
      let rows = ap (λ (rs : List RequestRow). length (flat_map (class_request_line board) rs))
      (adversary_is side (Finite number) proof strategy asked) in
      (proof, is, omega (arith, room, wide, lines, within, rows))

  -- why rows aren't made is why the document isn't
  module _ (side : Option Side) (start : Value) (bytes most : ℕ) (has : HasValue board board.start start)
      (strategy : HasStrategy side start) where
    pub labeller_unmade : asks_labeller (claim_for side (claim_of start)) ≡ true
        → bytes < (most + 1) * (13 + 4 * board.pebbles)
        → (fault : Unmade) → HasNoSection (by_order board) (class_labeller_side board normal start) most fault
        → HasNoRows side board normal bytes fault
    labeller_unmade asked room TooLong more = labeller_too_long side start bytes most has strategy asked room more
    labeller_unmade asked room Memory none = tt

    pub adversary_unmade : asks_adversary (claim_for side (claim_of start)) ≡ true
        → bytes < (most + 1) * (13 + 2 * board.pebbles)
        → (fault : Unmade) → HasNoSection (by_order board) (class_adversary_side board normal start) most fault
        → HasNoRows side board normal bytes fault
    adversary_unmade asked room TooLong more = adversary_too_long side start bytes most has strategy asked room more
    adversary_unmade asked room Memory none = tt

-- why the rows by classes aren't made is why the document isn't
pub class_unmade : (side : Option Side) (board : PlainBoard) (bytes : ℕ) (fault : Unmade)
    → HasNoRows side board (arranged board.labels) bytes fault → CannotBeMade side board bytes fault
class_unmade side board bytes TooLong (proof, is, long) =
    (proof, is, omega (arith, long, in_class_text board (document_for side proof)))
class_unmade side board bytes Memory none = tt
