-- The rounds in which gaps close are found by the values of classes.
use Rattle.std.proofs.Common.{◌≡◌, ℕ, zero, suc, ◌+◌, ◌-◌, ◌<◌, ◌≤◌, ◌⊎◌, List, Some, None, get_or}
use Rattle.std.proofs.Common.{sym, ap, ◌∙◌, subst, inl, inr, arith, ◌↔◌}
use Rattle.std.proofs.lemmas.Bool.{cases_lt}
use Rattle.board_text.specs.PlainBoard.{PlainBoard, IsBoard, places}
use Rattle.board_text.proofs.Cited.{label_is_place}
use Rattle.positions.specs.Counts.{IsSmallest}
use Rattle.positions.specs.declared.value.Value.{Value}
use Rattle.positions.specs.declared.value.Value.TheVariants.{Finite, Forever}
use Rattle.positions.specs.Game.{AdversaryTree, moved}
use Rattle.positions.specs.Gaps.{AnswersGap}
use Rattle.positions.specs.Value.{HasValue}
use Rattle.positions.proofs.Trees.{lasts_at_most, not_both_trees, some_tree, stops_at_least}
use Rattle.classes.specs.Classes.{IsClass}
use Rattle.classes.specs.ClassGaps.{gap_at, member_with}
use Rattle.classes.specs.Numbers.{number_by_greatest}
use Rattle.classes.proofs.Cited.{AreLike, is-below, labeller-like, legal-answers, with-number}
use Rattle.gap_values.specs.ClassValues.{AreClassValues}
use Rattle.gap_values.specs.GapTables.{IsClosedBefore, HasClosedGap}
use Rattle.gap_values.specs.Inside.ClassRounds.{IsRoundOf, member_word}
use Rattle.gap_values.specs.Inside.Words.{AreGapWords, AreRounds, gap_table}
use Rattle.gap_values.specs.RoundWords.{round_of_word}
use Rattle.gap_values.proofs.ClosedGaps.{class-configuration, gap-is, member-like}
use Rattle.gap_values.proofs.Words.{before-from, before-to, result-is}

-- ---- values and trees

tree-of-value : (board : PlainBoard) (configuration : List ℕ) (value : Value) (bound : ℕ)
    → HasValue board configuration value → IsClosedBefore value bound ↔ AdversaryTree board bound configuration
tree-of-value board configuration (Finite depth) bound has = (
  λ less. stops_at_least board configuration (suc depth) bound (omega (arith, less)) has.1,
  λ tree. elim (cases_lt depth bound) [
    | inl less ↦ less
    | inr most ↦
        absurd (not_both_trees board bound configuration (lasts_at_most board configuration bound depth most has.0)
        tree)
  ],
)
tree-of-value board configuration Forever bound has = (
  λ before. absurd before,
  λ tree. absurd (not_both_trees board bound configuration (has bound) tree),
)

adversary-like : (board : PlainBoard) (depth : ℕ) (one other : List ℕ) → AreLike board one other
    → AdversaryTree board depth one → AdversaryTree board depth other
adversary-like board depth one other like tree = elim (some_tree board depth other) [
  | inr tree ↦ tree
  | inl lasts ↦ absurd (not_both_trees board depth one
      (labeller-like board depth other one
      (record { one_size = like.other_size; other_size = like.one_size; same = sym like.same }) lasts) tree)
]

-- ---- one gap

-- the words of the answers so far are below the round, which is 0 or one more than one of them
pub record IsRoundSoFar (board : PlainBoard) (words gap : List ℕ) (from round : ℕ) : Type 0 where
  pub below : (label : ℕ) → label < from → AnswersGap board gap label → member_word words gap label < round
  pub met : (round ≡ 0) ⊎ ((label : ℕ) × AnswersGap board gap label × (member_word words gap label + 1 ≡ round))
  pub few : round < 4294967295

module _ (board : PlainBoard) (words gap : List ℕ) where
  module _ (from label word : ℕ) (next : IsSmallest (λ l. (from ≤ l) × AnswersGap board gap l) (Some label))
      (is : word ≡ member_word words gap label) where
    below-next : (high : ℕ) → word < high → (other : ℕ) → other < label + 1 → AnswersGap board gap other
        → ((earlier : ℕ) → earlier < from → AnswersGap board gap earlier → member_word words gap earlier < high)
        → member_word words gap other < high
    below-next high less other low answer before = elim (cases_lt other from) [
      | inl early ↦ before other early answer
      | inr late ↦
          let least : label ≤ other = next.1 other (late, answer) in
          let same : label ≡ other = omega (arith, least, low) in
          subst (λ n. n < high) (is ∙ ap (member_word words gap) same) less
    ]

    pub round-more : (round : ℕ) → IsRoundSoFar board words gap from round → round ≤ word → word < 1048576
        → IsRoundSoFar board words gap (label + 1) (word + 1)
    round-more round was most low = record {
      below = λ other under answer. below-next (word + 1) (omega arith) other under answer
          (λ earlier early answers. (let less = was.below earlier early answers in omega (arith, less, most)));
      met = inr (label, next.0.1, ap (λ n. n + 1) (sym is));
      few = omega (arith, low);
    }

    pub round-kept : (round : ℕ) → IsRoundSoFar board words gap from round → word < round
        → IsRoundSoFar board words gap (label + 1) round
    round-kept round was less = record {
      below = λ other under answer. below-next round less other under answer was.below;
      met = was.met;
      few = was.few;
    }

    pub round-none : 4294967295 ≤ word → IsRoundOf board words gap 4294967295
    round-none none bound = (
      λ before. absurd (let is_before = before-to 4294967295 (suc bound) before in omega (arith, is_before.1)),
      λ all. absurd
          (let before = before-to (member_word words gap label) bound (all label next.0.1) in
          omega (arith, before.1, is, none)),
    )

  pub round-over : (from round : ℕ) → IsSmallest (λ l. (from ≤ l) × AnswersGap board gap l) None
      → IsRoundSoFar board words gap from round → IsRoundOf board words gap round
  round-over from round none was bound = (
    λ before label answer.
        let less = was.below label (early label answer) answer in
        let is = before-to round (suc bound) before in
        let few = was.few in
        before-from (member_word words gap label) bound (omega (arith, less, is.0)) (omega (arith, less, few)),
    λ all. elim was.met [
      | inl begins ↦ before-from round (suc bound) (omega (arith, begins)) was.few
      | inr last ↦
          let is = before-to (member_word words gap last.0) bound (all last.0 last.1) in
          before-from round (suc bound) (omega (arith, is.0, last.2)) was.few
    ],
  )
    where
      early : (label : ℕ) → AnswersGap board gap label → label < from
      early label answer = elim (cases_lt label from) [
        | inl before ↦ before
        | inr late ↦ absurd (none label (late, answer))
      ]

-- a finite value is below the limit of classes
pub word-small : (board : PlainBoard) (words gap : List ℕ) (label word : ℕ) → IsBoard board
    → AreClassValues board words → IsClass (places board) (board.pebbles - 1) gap → AnswersGap board gap label
    → word ≡ member_word words gap label → word < 4294967295 → word < 1048576
word-small board words gap label word is_board values is answer same finite =
    let member : List ℕ = member_with gap label in
    let low = is-below (places board) board.pebbles member (result-is board gap label is_board is answer.is_label) in
    let few = values.few (number_by_greatest member) low (omega (arith, same, finite)) in
    omega (arith, same, few)

-- ---- all gaps

module _ (board : PlainBoard) (words rounds : List ℕ) (is_board : IsBoard board) (values : AreClassValues board words)
    (each : (gap : List ℕ) → IsClass (places board) (board.pebbles - 1) gap
    → IsRoundOf board words gap (get_or rounds (number_by_greatest gap) 0)) where
  value-at : (class : List ℕ) → IsClass (places board) board.pebbles class
      → HasValue board class (round_of_word (get_or words (number_by_greatest class) 0))
  value-at class is =
      subst (λ c. HasValue board c (round_of_word (get_or words (number_by_greatest class) 0)))
      (with-number (places board) board.pebbles class is)
      (values.each (number_by_greatest class) (is-below (places board) board.pebbles class is))

  -- a class's value is below a bound exactly if a gap of it closes before the bound
  class-closed : (bound : ℕ) (class : List ℕ) → IsClass (places board) board.pebbles class
      → IsClosedBefore (round_of_word (get_or words (number_by_greatest class) 0)) bound
      ↔ HasClosedGap board (gap_table rounds) class bound
  class-closed zero class is = (
    λ before. absurd (let less = before-to (get_or words (number_by_greatest class) 0) 0 before in omega
        (arith, less.0)),
    λ has. absurd
        (let less = before-to (get_or rounds (number_by_greatest (gap_at class has.0)) 0) 0 has.2 in omega
        (arith, less.0)),
  )
  class-closed (suc bound) class is =
      let configuration = class-configuration board class is in
      let value : Value = round_of_word (get_or words (number_by_greatest class) 0) in
      let trees = tree-of-value board class value (suc bound) (value-at class is) in (
        λ before. (let tree = trees.0 before in (
          tree.0,
          tree.1,
          ((each (gap_at class tree.0) (gap-is board class configuration tree.0 tree.1)) bound).1 (λ label answer.
              (tree-at tree.0 tree.1 label answer).1
              (tree.2 label ((legal-answers board class tree.0 label configuration.each_pebble tree.1).1 answer))),
        )),
        λ has. trees.1 (
          has.0,
          has.1,
          λ label legal.
              let answer = (legal-answers board class has.0 label configuration.each_pebble has.1).0 legal in
              (tree-at has.0 has.1 label answer).0
              (((each (gap_at class has.0) (gap-is board class configuration has.0 has.1)) bound).0 has.2 label answer),
        ),
      )
    where
      tree-at : (pebble : ℕ) → pebble < board.pebbles → (label : ℕ) → AnswersGap board (gap_at class pebble) label
          → IsClosedBefore (round_of_word (member_word words (gap_at class pebble) label)) bound
          ↔ AdversaryTree board bound (moved class pebble label)
      tree-at pebble inside label answer =
          let configuration = class-configuration board class is in
          let gap : List ℕ = gap_at class pebble in
          let member : List ℕ = member_with gap label in
          let member_is = result-is board gap label is_board (gap-is board class configuration pebble inside)
          answer.is_label in
          let like = member-like board class configuration pebble inside label
          (label_is_place board label answer.is_label) in
          let trees = tree-of-value board member (round_of_word (member_word words gap label)) bound
          (value-at member member_is) in (
            λ before. adversary-like board bound member (moved class pebble label)
                (record { one_size = like.other_size; other_size = like.one_size; same = sym like.same })
                (trees.0 before),
            λ tree. trees.1 (adversary-like board bound (moved class pebble label) member like tree),
          )

  pub rounds-table : AreGapWords board rounds → AreRounds board rounds
  rounds-table size = record {
    size = size;
    table = λ gap is bound. (
      λ before label answer.
          (class-closed bound (member_with gap label) (result-is board gap label is_board is answer.is_label)).0
          ((each gap is bound).0 before label answer),
      λ closes. (each gap is bound).1 (λ label answer.
          (class-closed bound (member_with gap label) (result-is board gap label is_board is answer.is_label)).1
          (closes label answer)),
    );
  }
