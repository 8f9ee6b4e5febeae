-- The rounds in which gaps close are found one after another.
use Rattle.std.proofs.Common.{◌≡◌, ◌≢◌, ℕ, suc, ◌+◌, ◌-◌, ◌<◌, ◌≤◌, ◌⊎◌, true, List, [], ◌∷◌, length, get_or, replicate}
use Rattle.std.proofs.Common.{sym, ap, ◌∙◌, subst, inl, inr, arith, ◌↔◌, refl}
use Rattle.std.specs.List.{remove}
use Rattle.std.proofs.lemmas.Bool.{cases_lt}
use Rattle.std.proofs.lemmas.List.{length-replicate, get_or-replicate}
use Rattle.std.proofs.lemmas.List.Elements.{All-nil}
use Rattle.board_text.specs.Domination.{has_bit}
use Rattle.board_text.specs.PlainBoard.{PlainBoard, IsBoard, DominatesPlace, places}
use Rattle.board_text.specs.declared.board.TheConstants.{MAX_LABELS}
use Rattle.classes.specs.Classes.{IsClass}
use Rattle.classes.specs.ClassGaps.{gap_at, member_with}
use Rattle.classes.specs.Numbers.{ways, number_by_greatest, class_with}
use Rattle.board_text.proofs.Cited.{label_is_place}
use Rattle.classes.proofs.Cited.{is-below, put-is, put-none, ways-zero, with-is, with-number, gap-below}
use Rattle.gap_values.specs.GapTables.{IsClosedBefore, ClosesBy}
use Rattle.gap_values.specs.Inside.Sets.{TellClosed, IsShut, IsPassed, ArePassed, AreGathered, AreFresh, AreTablesOf}
use Rattle.gap_values.specs.Inside.Sets.{IsInTables, IsOfRound, open_count}
use Rattle.gap_values.specs.Inside.Words.{gap_table, AreGapWords, AreRounds}
use Rattle.gap_values.specs.RoundWords.{round_of_word}
use Rattle.gap_values.proofs.ClosedParts.{shut-closes}
use Rattle.gap_values.proofs.ClosingSteps.{open-falls, open-few}
use Rattle.gap_values.proofs.TellingSteps.{sets-none}
use Rattle.gap_values.proofs.Words.{before-from, before-to, gap_at-index, result-is}

-- ---- words that agree before a round

abbrev pub Agree : ℕ → List ℕ → List ℕ → Type 0
Agree round old new =
    (n b : ℕ) → b ≤ round
    → IsClosedBefore (round_of_word (get_or old n 0)) b ↔ IsClosedBefore (round_of_word (get_or new n 0)) b

closes-agree : (board : PlainBoard) (old new : List ℕ) (round : ℕ) → Agree round old new
    → (gap : List ℕ) (b : ℕ) → b ≤ round
    → ClosesBy board (gap_table old) gap b → ClosesBy board (gap_table new) gap b
closes-agree board old new round agree gap b low closes = λ label answer.
    let has = closes label answer in
    (has.0, has.1, (agree (number_by_greatest (gap_at (member_with gap label) has.0)) b low).0 has.2)

closes-back : (board : PlainBoard) (old new : List ℕ) (round : ℕ) → Agree round old new
    → (gap : List ℕ) (b : ℕ) → b ≤ round
    → ClosesBy board (gap_table new) gap b → ClosesBy board (gap_table old) gap b
closes-back board old new round agree gap b low closes = λ label answer.
    let has = closes label answer in
    (has.0, has.1, (agree (number_by_greatest (gap_at (member_with gap label) has.0)) b low).1 has.2)

-- a word of no round yet
abbrev pub IsLate : ℕ → ℕ → Type 0
IsLate round word = (word ≡ 4294967295) ⊎ (word ≡ round)

late-not : (round word b : ℕ) → b ≤ round → IsLate round word → IsClosedBefore (round_of_word word) b → ⊥
late-not round word b low (inl none) before = let less = before-to word b before in omega (arith, less.1)
late-not round word b low (inr now) before = let less = before-to word b before in omega (arith, less.0)

pub before-later : (word low high : ℕ) → low ≤ high → IsClosedBefore (round_of_word word) low
    → IsClosedBefore (round_of_word word) high
before-later word low high less before =
    let is = before-to word low before in before-from word high (omega (arith, is.0)) is.1

closes-later : (board : PlainBoard) (words gap : List ℕ) (low high : ℕ) → low ≤ high
    → ClosesBy board (gap_table words) gap low → ClosesBy board (gap_table words) gap high
closes-later board words gap low high less closes = λ label answer.
    let has = closes label answer in
    let word : ℕ = get_or words (number_by_greatest (gap_at (member_with gap label) has.0)) 0 in
    (has.0, has.1, before-later word low high less has.2)

-- ---- between and in rounds

-- how many gaps there are, and the gap of a number
abbrev pub gap_count : PlainBoard → ℕ
gap_count board = ways (board.pebbles - 1) (places board)

abbrev pub gap_with : PlainBoard → ℕ → List ℕ
gap_with board n = class_with (places board) (board.pebbles - 1) n

-- the gap is closed before one more than the bound exactly if it closes by the bound
abbrev pub IsRight : PlainBoard → List ℕ → ℕ → ℕ → Type 0
IsRight board words n b =
    IsClosedBefore (round_of_word (get_or words n 0)) (suc b) ↔ ClosesBy board (gap_table words) (gap_with board n) b

-- below the round the words are right, none is of the round or later, and the sets tell of them
pub record IsAtRound (board : PlainBoard) (round : ℕ) (words : List ℕ) (sets : List (List ℕ)) : Type 0 where
  pub size : AreGapWords board words
  pub before : (n b : ℕ) → n < gap_count board → b < round → IsRight board words n b
  pub words_are : (n : ℕ) → n < gap_count board → (get_or words n 0 < round) ⊎ (get_or words n 0 ≡ 4294967295)
  pub few : round + open_count words ≤ gap_count board
  pub tell : TellClosed board words round sets

right-agree : (board : PlainBoard) (old new : List ℕ) (round : ℕ) → Agree round old new
    → (n b : ℕ) → b < round → IsRight board old n b → IsRight board new n b
right-agree board old new round agree n b low right = (
  λ before. closes-agree board old new round agree (gap_with board n) b (omega arith)
      (right.0 ((agree n (suc b) (omega arith)).1 before)),
  λ closes. (agree n (suc b) (omega arith)).0
      (right.1 (closes-back board old new round agree (gap_with board n) b (omega arith) closes)),
)

-- no gap is of the round before it
pub fresh-words : (board : PlainBoard) (round : ℕ) (words : List ℕ) (sets : List (List ℕ)) → round < 4294967295
    → IsAtRound board round words sets → AreFresh round words
fresh-words board round words sets low at n inside same = elim (at.words_are n (omega (arith, inside, at.size))) [
  | inl less ↦ omega (arith, less, same)
  | inr none ↦ omega (arith, none, same, low)
]

-- ---- the end of a round

-- a gap whose word is below a round closes by that round
closes-below : (board : PlainBoard) (round n : ℕ) (words : List ℕ) → n < gap_count board → round < 4294967295
    → ((n b : ℕ) → n < gap_count board → b < round → IsRight board words n b)
    → get_or words n 0 < round → ClosesBy board (gap_table words) (gap_with board n) (get_or words n 0)
closes-below board round n words n_low low before less =
    let word : ℕ = get_or words n 0 in
    (before n word n_low less).0 (before-from word (suc word) (omega arith) (omega arith))

-- if no gap closed in a round or later, what closes later closes by that round
closes-sooner : (board : PlainBoard) (words gap : List ℕ) (round b : ℕ) → IsBoard board → round < 4294967295
    → ((n : ℕ) → n < gap_count board → (get_or words n 0 < round) ⊎ (get_or words n 0 ≡ 4294967295))
    → IsClass (places board) (board.pebbles - 1) gap
    → ClosesBy board (gap_table words) gap b → ClosesBy board (gap_table words) gap round
closes-sooner board words gap round b is_board low below is closes = λ label answer.
    let has = closes label answer in
    let member : List ℕ = member_with gap label in
    let member_is = result-is board gap label is_board is answer.is_label in
    let size : length member ≡ board.pebbles = member_is.size in
    let pebble_low : has.0 < board.pebbles = has.1 in
    let at : gap_at member has.0 ≡ remove member has.0 =
    gap_at-index (places board) board.pebbles member has.0 member_is has.1 in
    let n : ℕ = number_by_greatest (gap_at member has.0) in
    let n_low : n < gap_count board =
    subst (λ g. number_by_greatest g < gap_count board) (sym at)
    (gap-below board member has.0 is_board member_is (omega arith)).0 in
    let late = before-to (get_or words n 0) b has.2 in (
      has.0,
      has.1,
      elim (below n n_low) [
        | inl less ↦ before-from (get_or words n 0) round less (omega arith)
        | inr none ↦ absurd (omega (arith, late.1))
      ],
    )

-- if all gaps that close do before a round, what is told of this round is told of all
pub told-of-all : (board : PlainBoard) (words : List ℕ) (round : ℕ) → 2 ≤ board.pebbles → (told : List (List ℕ))
    → ((n : ℕ) → n < gap_count board → get_or words n 0 < 4294967295 → get_or words n 0 < round)
    → TellClosed board words round told → TellClosed board words 4294967295 told
told-of-all board words round some told below tell = record {
  many = tell.many;
  each = λ list list_is label label_low.
      let n : ℕ = number_by_greatest (member_with list label) in
      let more : suc (board.pebbles - 2) ≡ board.pebbles - 1 = omega arith in
      let gap_is : IsClass (places board) (board.pebbles - 1) (member_with list label) =
      subst (λ k. IsClass (places board) k (member_with list label)) more
      (put-is (places board) (board.pebbles - 2) label list list_is (label_is_place board label label_low)) in
      let n_low : n < gap_count board = is-below (places board) (board.pebbles - 1) (member_with list label) gap_is in (
        λ has.
            let is = before-to (get_or words n 0) round ((tell.each list list_is label label_low).0 has) in
            before-from (get_or words n 0) 4294967295 is.1 is.1,
        λ before.
            let is = before-to (get_or words n 0) 4294967295 before in
            (tell.each list list_is label label_low).1
            (before-from (get_or words n 0) round (below n n_low is.1) is.1),
      );
}

-- a round that closed its open gaps that are shut
module _ (board : PlainBoard) (is_board : IsBoard board) (some : 2 ≤ board.pebbles) (round : ℕ)
    (old new : List ℕ) (sets : List (List ℕ)) (low : round < 4294967295) (at : IsAtRound board round old sets)
    (passed : ArePassed board sets round 0 0 (gap_count board) old new) where
  passed-at : (n : ℕ) → n < gap_count board → IsPassed board sets round n (get_or old n 0) (get_or new n 0)
  passed-at n n_low =
      let same : 0 + n ≡ n = omega arith in
      subst (λ k. IsPassed board sets round k (get_or old n 0) (get_or new n 0)) same
      (passed.passed n (omega arith) n_low)

  -- no word but those of open gaps changed
  pub changed : (n : ℕ)
      → (get_or new n 0 ≡ get_or old n 0) ⊎ ((get_or old n 0 ≡ 4294967295) × (get_or new n 0 ≡ round))
  changed n = elim (cases_lt n (gap_count board)) [
    | inl n_low ↦ (passed-at n n_low).changed
    | inr past ↦ inl (passed.behind n past)
  ]

  pub agree : Agree round old new
  agree n b most = elim (changed n) [
    | inl same ↦ (
      subst (λ w. IsClosedBefore (round_of_word w) b) (sym same),
      subst (λ w. IsClosedBefore (round_of_word w) b) same,
    )
    | inr closes ↦ (
      λ before. absurd (late-not round (get_or old n 0) b most (inl closes.0) before),
      λ before. absurd (late-not round (get_or new n 0) b most (inr closes.1) before),
    )
  ]

  old-open : (n : ℕ) → get_or new n 0 ≡ 4294967295 → get_or old n 0 ≡ 4294967295
  old-open n open_now = elim (changed n) [
    | inl same ↦ sym same ∙ open_now
    | inr closes ↦ closes.0
  ]

  pub is-gap : (n : ℕ) → n < gap_count board → IsClass (places board) (board.pebbles - 1) (gap_with board n)
  is-gap n n_low = (with-is (places board) (board.pebbles - 1) n n_low).is

  shut-is : (n : ℕ) → n < gap_count board → get_or old n 0 ≡ 4294967295
      → IsShut board sets (gap_with board n) ↔ ClosesBy board (gap_table old) (gap_with board n) round
  shut-is n n_low open_word =
      shut-closes board old round sets (gap_with board n) is_board some at.tell (is-gap n n_low)
      (ap (λ k. get_or old k 0) (with-is (places board) (board.pebbles - 1) n n_low).number_is ∙ open_word)

  pub new-words : (n : ℕ) → n < gap_count board → (get_or new n 0 < round + 1) ⊎ (get_or new n 0 ≡ 4294967295)
  new-words n n_low = elim (changed n) [
    | inl same ↦ elim (at.words_are n n_low) [
      | inl less ↦ inl (omega (arith, same))
      | inr none ↦ inr (same ∙ none)
    ]
    | inr closes ↦ inl (omega (arith, closes.1))
  ]

  new-before : (n b : ℕ) → n < gap_count board → b < round → IsRight board new n b
  new-before n b n_low b_low = right-agree board old new round agree n b b_low (at.before n b n_low b_low)

  right-now : (n : ℕ) → n < gap_count board → IsRight board new n round
  right-now n n_low = (
    λ before.
        let is = before-to (get_or new n 0) (suc round) before in
        elim (cases_lt (get_or new n 0) round) [
          | inl less ↦ closes-later board new (gap_with board n) (get_or new n 0) round (omega arith)
              (closes-below board round n new n_low low new-before less)
          | inr now ↦
              let word : get_or new n 0 ≡ round = omega (arith, is.0) in
              let was : get_or old n 0 ≡ 4294967295 =
              elim (changed n) [
                | inr closes ↦ closes.0
                | inl same ↦ elim (at.words_are n n_low) [
                  | inl less ↦ absurd (omega (arith, same, less, word))
                  | inr none ↦ none
                ]
              ] in
              closes-agree board old new round agree (gap_with board n) round (omega arith)
              ((shut-is n n_low was).0 ((passed-at n n_low).shut was word))
        ],
    λ closes. elim (new-words n n_low) [
      | inl less ↦ before-from (get_or new n 0) (suc round) (omega arith) (omega arith)
      | inr none ↦ absurd ((passed-at n n_low).left_open none
          ((shut-is n n_low (old-open n none)).1
          (closes-back board old new round agree (gap_with board n) round (omega arith) closes)))
    ],
  )

  -- once what the tables are told of is added, the sets are those of the next round
  pub round-told : (tables : ℕ) (told added : List (List ℕ)) → AreTablesOf board tables (IsOfRound round 0 new) told
      → AreGathered tables (length sets) 0 told sets added → TellClosed board new (round + 1) added
  round-told tables told added are sum =
      let many : length sets ≡ ways (board.pebbles - 2) (places board) = at.tell.many in
      record {
        many = sum.same_length ∙ many;
        each = λ list list_is label label_low.
            let few = is_board.labels.1 in
            let number : ℕ = number_by_greatest list in
            let inside : number < length sets =
            omega (arith, many, is-below (places board) (board.pebbles - 2) list list_is) in
            let first : 0 + number ≡ number = omega arith in
            let gap : ℕ = number_by_greatest (member_with list label) in
            let more : suc (board.pebbles - 2) ≡ board.pebbles - 1 = omega arith in
            let gap_is : IsClass (places board) (board.pebbles - 1) (member_with list label) =
            subst (λ k. IsClass (places board) k (member_with list label)) more
            (put-is (places board) (board.pebbles - 2) label list list_is (label_is_place board label label_low)) in
            let gap_low : gap < gap_count board =
            is-below (places board) (board.pebbles - 1) (member_with list label) gap_is in
            let size : length new ≡ gap_count board = passed.same_length ∙ at.size in
            let each = sum.each number label inside (omega arith) in
            let word : ℕ = get_or new gap 0 in (
              λ has. elim (each.0 has) [
                | inl before ↦ before-later word round (round + 1) (omega arith)
                    ((agree gap round (omega arith)).0 ((at.tell.each list list_is label label_low).0 before))
                | inr some_told ↦
                    let now = (are.each list list_is label label_low).0
                    (subst (λ n. IsInTables tables n told number label) many
                    (subst (λ n. IsInTables tables (length sets) told n label) first some_told)) in
                    let here : now.0 ≡ gap = omega (arith, now.1) in
                    let word_is : word ≡ round = ap (λ n. get_or new n 0) (sym here) ∙ now.3 in
                    before-from word (round + 1) (omega (arith, word_is)) (omega (arith, word_is, low))
              ],
              λ before.
                  let is = before-to word (round + 1) before in
                  each.1 (elim (cases_lt word round) [
                    | inl early ↦ inl ((at.tell.each list list_is label label_low).1
                        ((agree gap round (omega arith)).1 (before-from word round early is.1)))
                    | inr late ↦
                        let word_is : word ≡ round = (let under = is.0 in omega (arith, late)) in
                        inr (subst (λ n. IsInTables tables (length sets) told n label) (sym first)
                        (subst (λ n. IsInTables tables n told number label) (sym many)
                        ((are.each list list_is label label_low).1
                        (gap, omega arith, omega (arith, gap_low, size), word_is))))
                  ]),
            );
      }

  -- some gap closed: fewer are open
  pub some-closed : (n : ℕ) × (n < gap_count board) × (get_or new n 0 ≡ round) → open_count new < open_count old
  some-closed told =
      let size : length old ≡ gap_count board = at.size in
      let was : get_or old told.0 0 ≡ 4294967295 =
      elim (changed told.0) [
        | inr closes ↦ closes.0
        | inl same ↦ elim (at.words_are told.0 told.1) [
          | inl less ↦ absurd (omega (arith, same, less, told.2))
          | inr none ↦ none
        ]
      ] in
      open-falls round old new told.0 low passed.same_length (λ n under. changed n) (omega (arith, size, told.1)) was
      told.2

  -- and the next round begins
  pub next-round : (told : List (List ℕ)) → (n : ℕ) × (n < gap_count board) × (get_or new n 0 ≡ round)
      → TellClosed board new (round + 1) told
      → IsAtRound board (round + 1) new told
  next-round told some_told tell = record {
    size = passed.same_length ∙ at.size;
    before = λ n b n_low b_low. elim (cases_lt b round) [
      | inl before ↦ new-before n b n_low before
      | inr now ↦
          let same : round ≡ b = omega arith in
          subst (IsRight board new n) same (right-now n n_low)
    ];
    words_are = new-words;
    few = (let few = at.few in let fewer = some-closed some_told in omega arith);
    tell = tell;
  }

  -- what closed in the first round stays closed in it
  pub first-kept : (first : List (List ℕ)) → 1 ≤ round → TellClosed board old 1 first → TellClosed board new 1 first
  first-kept first some_round tell = record {
    many = tell.many;
    each = λ list list_is label label_low.
        let n : ℕ = number_by_greatest (member_with list label) in (
          λ has. (agree n 1 some_round).0 ((tell.each list list_is label label_low).0 has),
          λ before. (tell.each list list_is label label_low).1 ((agree n 1 some_round).1 before),
        );
  }

  -- what closed by this round is all that is closed
  pub all-told : (told : List (List ℕ)) → TellClosed board new (round + 1) told → TellClosed board new 4294967295 told
  all-told told = told-of-all board new (round + 1) some told (λ n n_low finite. elim (new-words n n_low) [
    | inl less ↦ less
    | inr none ↦ absurd (omega (arith, none, finite))
  ])

  -- no gap closed: the words are a table of gaps
  pub last-round : ((n : ℕ) → n < gap_count board → get_or new n 0 ≢ round) → AreRounds board new
  last-round none_closed =
      let below : (n : ℕ) → n < gap_count board → (get_or new n 0 < round) ⊎ (get_or new n 0 ≡ 4294967295) =
      λ n n_low. elim (new-words n n_low) [
        | inl less ↦ inl (let differs = none_closed n n_low in omega (arith, less, differs))
        | inr none ↦ inr none
      ] in
      let right : (n b : ℕ) → n < gap_count board → IsRight board new n b = λ n b n_low.
      elim (cases_lt b round) [
        | inl before ↦ new-before n b n_low before
        | inr past ↦ (
          λ before.
              let is = before-to (get_or new n 0) (suc b) before in
              elim (below n n_low) [
                | inl less ↦ closes-later board new (gap_with board n) (get_or new n 0) b (omega arith)
                    (closes-below board round n new n_low low new-before less)
                | inr none ↦ absurd (omega (arith, is.1))
              ],
          λ closes. elim (below n n_low) [
            | inl less ↦ before-from (get_or new n 0) (suc b) (omega arith) (omega arith)
            | inr none ↦
                let now = before-to (get_or new n 0) (suc round)
                ((right-now n n_low).1
                (closes-sooner board new (gap_with board n) round b is_board low below (is-gap n n_low) closes)) in
                absurd (omega (arith, now.1))
          ],
        )
      ] in
      record {
        size = passed.same_length ∙ at.size;
        table = λ gap is b.
            let n : ℕ = number_by_greatest gap in
            let n_low : n < gap_count board = is-below (places board) (board.pebbles - 1) gap is in
            subst (λ g. IsClosedBefore (round_of_word (get_or new n 0)) (suc b) ↔ ClosesBy board (gap_table new) g b)
            (with-number (places board) (board.pebbles - 1) gap is) (right n b n_low);
      }

-- ---- the first round

pub first-round : (board : PlainBoard) (words none : List ℕ) (sets : List (List ℕ))
    → words ≡ replicate (gap_count board) 4294967295
    → sets ≡ replicate (ways (board.pebbles - 2) (places board)) none
    → ((x : ℕ) → x < MAX_LABELS → (has_bit none x ≡ true) ↔ (x < 0)) → IsBoard board
    → IsAtRound board 0 words sets
first-round board words none sets all_open all_none empty is_board =
    let size : length words ≡ gap_count board = ap length all_open ∙ length-replicate {A =
    ℕ} (gap_count board) 4294967295 in
    record {
      size = size;
      before = λ n b n_low b_low. absurd (omega arith);
      words_are = λ n low. inr (ap (λ l. get_or l n 0) all_open
          ∙ get_or-replicate {A = ℕ} (gap_count board) n 4294967295 0 low);
      few = (let few = open-few words in omega arith);
      tell = sets-none board is_board (λ gap. IsClosedBefore (round_of_word (get_or words gap 0)) 0) none sets all_none
          empty (λ gap before. let is = before-to (get_or words gap 0) 0 before in omega (arith, is.0));
    }

-- ---- one pebble: its gap has no places, and each label answers with that gap again

pub lone-rounds : (board : PlainBoard) (words : List ℕ) → IsBoard board → board.pebbles ≡ 1
    → words ≡ replicate (gap_count board) 4294967295 → AreRounds board words
lone-rounds board words is_board one all_open =
    let none : board.pebbles - 1 ≡ 0 = omega arith in
    let count : gap_count board ≡ 1 = ap (λ n. ways n (places board)) none ∙ ways-zero (places board) in
    let size : length words ≡ gap_count board = ap length all_open ∙ length-replicate {A =
    ℕ} (gap_count board) 4294967295 in
    let word : get_or words 0 0 ≡ 4294967295 =
    ap (λ l. get_or l 0 0) all_open ∙ get_or-replicate {A = ℕ} (gap_count board) 0 4294967295 0 (omega arith) in
    let never : (b : ℕ) → IsClosedBefore (gap_table words []) b → ⊥ =
    λ b before. (let is = before-to (get_or words 0 0) b before in omega (arith, is.1, word)) in
    let label_low : 0 < board.labels = (let some = is_board.labels.0 in omega arith) in
    record {
      size = size;
      table = λ gap is b.
          let empty : gap ≡ [] = no-places gap (is.size ∙ none) in
          subst (λ g. IsClosedBefore (gap_table words g) (suc b) ↔ ClosesBy board (gap_table words) g b) (sym empty) (
            λ before. absurd (never (suc b) before),
            λ closes. absurd (
                let has = closes 0 (record { is_label = label_low; dominates = All-nil (DominatesPlace board 0) }) in
                let pebble_low : has.0 < board.pebbles = has.1 in
                let pebble : has.0 ≡ 0 = omega arith in
                never b (subst (λ g. IsClosedBefore (gap_table words g) b)
                (ap (gap_at (member_with [] 0)) pebble ∙ ap (λ l. gap_at l 0) (put-none 0)) has.2)
                ),
          );
    }
  where
    no-places : (gap : List ℕ) → length gap ≡ 0 → gap ≡ []
    no-places [] none = refl
    no-places (first ∷ others) none = absurd (omega arith)
