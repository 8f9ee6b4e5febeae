-- A gap closes: its open members are filed one after the other.
use Rattle.std.proofs.Common.{◌≡◌, ℕ, ◌+◌, ◌<◌, ◌≤◌, true, false, refl, arith, sym, ap, ◌∙◌, subst, length, slice_set}
use Rattle.graphs.specs.Numbered.{Numbered, graph_of}
use Rattle.positions.specs.declared.space.TheConstants.{MAX_CONFIGURATIONS}
use Rattle.graphs.specs.Graph.{PlainGraph, IsGraph}
use Rattle.graphs.proofs.Cited.{member-is}
use Rattle.solver.specs.Inside.Stage.{PlainStage, rank_filed, IsFiled, IsKeptStage, Closes}
use Rattle.solver.specs.Inside.Tables.{is_open}
use Rattle.solver.proofs.FiledRanks.{listed-away, filed-once}
use Rattle.solver.proofs.ListedWords.{IsClosing, closing-step, closing-end, shut-more, shut-same, all-shut}

-- a board that isn't too large, a value of at most its number of configurations, and one of its gaps
pub record IsToClose (s : PlainStage) (gap : ℕ) : Type 0 where
  pub is_graph : IsGraph (graph_of s.game)
  pub few : (graph_of s.game).configurations ≤ MAX_CONFIGURATIONS
  pub low : s.value ≤ (graph_of s.game).configurations
  pub is_gap : gap < (graph_of s.game).gaps

-- the gap's members with a place below `place` are filed if they were open, and nothing else changes
pub record IsClosingGap (s : PlainStage) (gap place : ℕ) (now : PlainStage) : Type 0 where
  pub kept : IsKeptStage s now
  pub strikes_is : now.strikes ≡ s.strikes
  pub counts_is : now.counts ≡ s.counts
  pub closing : IsClosing (graph_of s.game) gap s.value s.values now.values
  pub shut : (v : ℕ) → v < place → is_open now.values ((graph_of s.game).member gap v) ≡ false
  pub filed_are : IsFiled now

module _ (s : PlainStage) (gap place rank : ℕ) (now : PlainStage) (to_close : IsToClose s gap)
    (inside : place < (graph_of s.game).places) (rank_is : (graph_of s.game).member gap place ≡ rank)
    (so_far : IsClosingGap s gap place now) where
  abbrev a : PlainGraph
  a = (graph_of s.game)

  is : IsGraph a
  is = to_close.is_graph

  rank_in : rank < (graph_of s.game).configurations
  rank_in = subst (λ x. x < (graph_of s.game).configurations) rank_is (is.member_in gap place to_close.is_gap inside)

  length_is : length now.values ≡ (graph_of s.game).configurations
  length_is = so_far.filed_are.values_length ∙ ap (λ (p : Numbered). (graph_of p).configurations) so_far.kept.game_is

  pub in_words : rank < length now.values
  in_words = let size = length_is in let low = rank_in in omega arith

  pub gap-takes : is_open now.values rank ≡ true → IsClosingGap s gap (place + 1) (rank_filed now rank)
  gap-takes still =
      let value_is : now.value ≡ s.value = so_far.kept.value_is in
      let few = to_close.few in
      let low = to_close.low in
      let all : length s.values ≡ (graph_of s.game).configurations = sym so_far.closing.same_length ∙ length_is in
      record {
        kept = record {
          game_is = so_far.kept.game_is;
          value_is = so_far.kept.value_is;
          others = λ v d. listed-away now rank v (λ e. d (e ∙ value_is)) ∙ so_far.kept.others v d;
        };
        strikes_is = so_far.strikes_is;
        counts_is = so_far.counts_is;
        closing = subst (λ n. IsClosing a gap s.value s.values (slice_set now.values rank n)) (sym value_is)
            (closing-step a gap s.value s.values now.values rank rank_in all (λ e. omega arith) still
            (member-is a gap place rank inside rank_is) so_far.closing);
        shut = shut-more a gap place now.values rank rank_is so_far.shut (slice_set now.values rank now.value) now.value
            in_words (λ e. omega arith) refl;
        filed_are = filed-once now rank (record {
          filed_are = so_far.filed_are;
          few = rw so_far.kept.game_is few;
          low = rw (value_is, so_far.kept.game_is) low;
          is_rank = rw so_far.kept.game_is rank_in;
          still_open = still;
        });
      }

  pub gap-skips : is_open now.values rank ≡ false → IsClosingGap s gap (place + 1) now
  gap-skips shut = record {
    kept = so_far.kept;
    strikes_is = so_far.strikes_is;
    counts_is = so_far.counts_is;
    closing = so_far.closing;
    shut = shut-same a gap place now.values rank rank_is so_far.shut shut;
    filed_are = so_far.filed_are;
  }

pub gap-closed : (s : PlainStage) (gap place : ℕ) (now : PlainStage) → IsToClose s gap
    → (graph_of s.game).places ≤ place → IsClosingGap s gap place now → Closes s gap now
gap-closed s gap place now to_close all so_far = record {
  kept = so_far.kept;
  strikes_is = so_far.strikes_is;
  counts_is = so_far.counts_is;
  words = closing-end (graph_of s.game) gap s.value s.values now.values
      (all-shut (graph_of s.game) gap now.values (λ v h. so_far.shut v (omega arith))) so_far.closing;
  filed_are = so_far.filed_are;
}
