use Rattle.std.proofs.Common.{◌≡◌, ◌∙◌, ◌<◌, ◌≤◌, List, ℕ, get_or, sym, ap, subst, arith}
use Rattle.std.proofs.lemmas.Bool.{le-leb, leb-true, lt-ltb, ltb-true}
use Rattle.board_text.specs.PlainBoard.{PlainBoard, IsBoard}
use Rattle.gap_values.specs.BestOfGap.{LeadBelow}
use Rattle.gap_values.specs.Inside.Rounds.{round_words}
use Rattle.gap_values.specs.Inside.Words.{AreRounds, gap_table}
use Rattle.gap_values.specs.RoundWords.{round_of_word}
use Rattle.gap_values.proofs.LeadingBelow.{below-closed, closed-below}
use Rattle.gap_values.proofs.values.GapValuesValueTable.leads_below.Goals as goal
use Rattle.gap_values.proofs.values.GapValuesValueTable.leads_below.Goals.{After-number}

module _ (c : After-number) where
  abbrev b : PlainBoard
  b = c.args._board.now

  abbrev gap : List ℕ
  gap = c.args.gap.now

  abbrev words : List ℕ
  words = round_words c.self.inside.rounds

  abbrev own : ℕ
  own = get_or c.words.result.now c.number.result 0

  same : c.self.inside.numbers ≡ b
  same = c.self.view_is ∙ c.requires.board

  rounds : AreRounds b words
  rounds = subst (λ board. AreRounds board words) same c.self.invariant.words

  round : gap_table words gap ≡ round_of_word own
  round =
      ap round_of_word (ap (λ n. get_or words n 0) (sym c.number.ensures.number)
      ∙ sym (ap (λ (l : List ℕ). get_or l c.number.result 0) c.words.ensures))

  is_board : IsBoard b
  is_board = subst IsBoard same c.self.invariant.is_board

  leads : own < 4294967295 → own ≤ c.args.number → LeadBelow b gap c.args.number
  leads = closed-below b (gap_table words) rounds.table gap is_board c.requires.is_gap c.args.number own round

  led : LeadBelow b gap c.args.number → (own ≤ c.args.number) × (own < 4294967295)
  led = below-closed b (gap_table words) rounds.table gap is_board c.requires.is_gap c.args.number own round

pub returns-then-own-lt-OPEN : goal.returns-then-own-lt-OPEN
returns-then-own-lt-OPEN c =
    let at = (goal.at.returns-then-own-lt-OPEN c).After-number in (
      λ low. leads at c.if-own-lt-OPEN.true (leb-true (own at) c.args.number low),
      λ below. le-leb (own at) c.args.number (led at below).0,
    )

pub returns-else-own-lt-OPEN : goal.returns-else-own-lt-OPEN
returns-else-own-lt-OPEN c =
    let at = (goal.at.returns-else-own-lt-OPEN c).After-number in
    let high : 4294967295 ≤ own at = c.if-own-lt-OPEN.false in (
      λ low. absurd (let less : own at < 4294967295 = ltb-true (own at) 4294967295 low in omega arith),
      λ below. lt-ltb (own at) 4294967295 (led at below).1,
    )
