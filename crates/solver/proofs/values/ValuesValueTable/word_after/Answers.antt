use Rattle.std.proofs.Common.{◌≡◌, ◌<◌, ◌≤◌, ◌∙◌, ℕ, List, length, slice_index, sym, ap, subst, arith}
use Rattle.std.proofs.lemmas.List.{get_or_read}
use Rattle.board_text.specs.PlainBoard.{PlainBoard, IsBoard, IsConfiguration, places}
use Rattle.positions.specs.Ranks.{configurations, rank_of}
use Rattle.positions.specs.Value.{HasValue}
use Rattle.classes.specs.ClassGaps.{member_with}
use Rattle.classes.proofs.Cited.{length-class_of}
use Rattle.gap_values.specs.RoundWords.{round_of_word}
use Rattle.gap_values.specs.declared.closing.TheConstants.{OPEN}
use Rattle.gap_values.proofs.Cited.{class-configuration, result-class, result-is}
use Rattle.solver.proofs.RankValues.{held-value, rank-few, rank-inside}
use Rattle.solver.proofs.values.ValuesValueTable.word_after.Goals as goal
use Rattle.solver.proofs.values.ValuesValueTable.word_after.Goals.{After-as_slice}

pub arrange-requires-clause-room : goal.arrange-requires-clause-room
arrange-requires-clause-room c =
    let is = subst IsBoard (c.self.view_is ∙ c.requires.board) c.self.invariant.is_board in
    omega (
      arith,
      is.pebbles,
      c.requires.is_gap.size,
      ap length c.arranged-class.ensures.class,
      length-class_of c.args.gap.now,
    )

module _ (c : After-as_slice) where
  abbrev b : PlainBoard
  b = c.self.inside.numbers

  same : b ≡ c.args._board.now
  same = c.self.view_is ∙ c.requires.board

  member : c.as_slice.result.now ≡ member_with c.args.gap.now c.args.label
  member = result-class (places c.args._board.now) c.args.gap.now c.arranged-class.result c.arrange.new.self
      c.as_slice.result.now c.args.label
      c.requires.is_gap.falls c.arranged-class.ensures.class c.arrange.ensures c.as_slice.ensures.value

  is : IsConfiguration b c.as_slice.result.now
  is =
      let is_board = subst IsBoard same c.self.invariant.is_board in
      subst (λ (board : PlainBoard). IsConfiguration board c.as_slice.result.now) (sym same)
      (subst (IsConfiguration c.args._board.now) (sym member)
      (class-configuration c.args._board.now (member_with c.args.gap.now c.args.label)
      (result-is c.args._board.now c.args.gap.now c.args.label is_board c.requires.is_gap c.requires.label)))

pub rank-requires : goal.rank-requires
rank-requires c =
    subst (λ (board : PlainBoard). IsConfiguration board c.as_slice.result.now) (sym c.space.ensures.value)
    (is (goal.at.rank-requires c).After-as_slice)

pub index-requires : goal.index-requires
index-requires c =
    let below = subst (λ (board : PlainBoard). c.rank.result < configurations board) c.space.ensures.value
    c.rank.ensures.below in
    omega (arith, rank-inside _ _ _ _ c.self.invariant c.rank.result below, c.self.inside.words.ok.0)

pub returns : goal.returns
returns c =
    let at = (goal.at.returns c).After-as_slice in
    let held : List ℕ = c.as_slice.result.now in
    let below = subst (λ (board : PlainBoard). c.rank.result < configurations board) c.space.ensures.value
    c.rank.ensures.below in
    let rank : c.rank.result ≡ rank_of (b at) held =
    c.rank.ensures.rank ∙ ap (λ (board : PlainBoard). rank_of board held) c.space.ensures.value in
    let read = get_or_read c.self.inside.words.items c.rank.result c.index.result.now
    (rank-inside _ _ _ _ c.self.invariant c.rank.result below) c.index.ensures 0 in record {
      few = subst (λ n. n ≤ OPEN) (sym read) (rank-few _ _ _ _ c.self.invariant c.rank.result below);
      value = subst (λ (l : List ℕ). HasValue c.args._board.now l (round_of_word c.index.result.now)) (member at)
          (subst (λ (board : PlainBoard). HasValue board held (round_of_word c.index.result.now)) (same at)
          (subst (HasValue (b at) held)
          (ap round_of_word (sym (read ∙ ap (slice_index c.self.inside.words.items) rank)))
          (held-value _ _ _ _ c.self.invariant held (is at))));
    }
