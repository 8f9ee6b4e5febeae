-- The configurations with the word 0 are listed, in ascending rank.
use Rattle.std.proofs.Common.{◌≡◌, ◌≢◌, ℕ, ◌+◌, ◌<◌, ◌≤◌, ◌==◌, inl, inr, Bool, true, false, cond, zero, suc, refl}
use Rattle.std.proofs.Common.{arith, sym, ap, ◌∙◌, subst, List, [], ◌∷◌, ◌++◌, length, get_or, slice_index}
use Rattle.std.specs.List.{AllPairs}
use Rattle.std.proofs.Math.ListN.{length-set}
use Rattle.std.proofs.lemmas.Bool.{cases_lt}
use Rattle.std.proofs.lemmas.List.Quantifiers.{all_pairs_push}
use Rattle.index_lists.specs.Lists.{times}
use Rattle.index_lists.proofs.Cited.{cond_same, cond_other, times-append}
use Rattle.positions.specs.declared.space.TheConstants.{MAX_CONFIGURATIONS}
use Rattle.graphs.specs.Graph.{PlainGraph, is_answered, lasts}
use Rattle.graphs.specs.Numbered.{Numbered, graph_of}
use Rattle.solver.specs.Inside.Stage.{PlainStage, filed_at, rank_listed}
use Rattle.solver.specs.Inside.Opening.{IsUnlisted, IsOpened}
use Rattle.solver.specs.Inside.Tables.{is_open, AreWords, AreFirstWords}
use Rattle.gap_values.specs.declared.closing.TheConstants.{OPEN}
use Rattle.solver.proofs.FiledRanks.{listed-here, listed-away}
use Rattle.graphs.proofs.Cited.{same_or_not, true_or_false}
use Rattle.solver.proofs.ListedWords.{times_one, times_none}
use Rattle.solver.proofs.StruckRanks.{in_list}

-- the configurations below a rank that have the word 0 are listed
pub record IsListing (s : PlainStage) (rank : ℕ) (now : PlainStage) : Type 0 where
  pub game_is : now.game ≡ s.game
  pub value_is : now.value ≡ 0
  pub values_is : now.values ≡ s.values
  pub counts_is : now.counts ≡ s.counts
  pub lists_length : length now.buckets ≡ (graph_of s.game).configurations + 1
  pub others : (v : ℕ) → 0 < v → filed_at now v ≡ []
  pub below : (x : ℕ) → 0 < times x (filed_at now 0) → x < rank
  pub once : (x : ℕ) → x < rank → times x (filed_at now 0) ≡ cond (slice_index s.values x == 0) 1 0
  pub ascending : AllPairs (λ first second. first < second) (filed_at now 0)

module _ (s : PlainStage) (rank : ℕ) (now : PlainStage) (so_far : IsListing s rank now) where
  -- the next configuration is in no list
  pub next-free : (v : ℕ) → times rank (filed_at now v) ≡ 0
  next-free zero = elim (cases_lt 0 (times rank (filed_at now 0))) [
    | inl some ↦ absurd (let low = so_far.below rank some in omega arith)
    | inr none ↦ omega arith
  ]
  next-free (suc v) = ap (times rank) (so_far.others (suc v) (omega arith))

  pub listing-skip : slice_index s.values rank ≢ 0 → IsListing s (rank + 1) now
  listing-skip other = record {
    game_is = so_far.game_is;
    value_is = so_far.value_is;
    values_is = so_far.values_is;
    counts_is = so_far.counts_is;
    lists_length = so_far.lists_length;
    others = so_far.others;
    below = λ x h. let low = so_far.below x h in omega arith;
    once = λ x h. elim (cases_lt x rank) [
      | inl before ↦ so_far.once x before
      | inr last ↦
          let here : x ≡ rank = omega arith in
          ap (λ y. times y (filed_at now 0)) here ∙ next-free 0
          ∙ sym (cond_other (slice_index s.values x) 0 1 0 (λ e. other (ap (slice_index s.values) (sym here) ∙ e)))
    ];
    ascending = so_far.ascending;
  }

  -- the list of 0 after a push
  longer : filed_at (rank_listed now rank) 0 ≡ filed_at now 0 ++ rank ∷ []
  longer =
      let value_is : now.value ≡ 0 = so_far.value_is in
      ap (filed_at (rank_listed now rank)) (sym value_is)
      ∙ listed-here now rank (let size = so_far.lists_length in omega arith)
      ∙ ap (λ v. filed_at now v ++ rank ∷ []) value_is

  pub listing-more : slice_index s.values rank ≡ 0 → IsListing s (rank + 1) (rank_listed now rank)
  listing-more none = record {
    game_is = so_far.game_is;
    value_is = so_far.value_is;
    values_is = so_far.values_is;
    counts_is = so_far.counts_is;
    lists_length = length-set now.buckets now.value (filed_at now now.value ++ rank ∷ []) ∙ so_far.lists_length;
    others = λ v h. listed-away now rank v (λ e. let z = so_far.value_is in omega arith) ∙ so_far.others v h;
    below = λ x h. elim (same_or_not x rank) [
      | inl here ↦ omega arith
      | inr other ↦
          let all = ap (times x) longer ∙ times-append x (filed_at now 0) (rank ∷ []) in
          let away = times_none rank x other in
          let low = so_far.below x (omega arith) in
          omega arith
    ];
    once = λ x h.
        let all = ap (times x) longer ∙ times-append x (filed_at now 0) (rank ∷ []) in
        elim (same_or_not x rank) [
          | inl here ↦
              let free : times x (filed_at now 0) ≡ 0 = ap (λ y. times y (filed_at now 0)) here ∙ next-free 0 in
              let one : times x (rank ∷ []) ≡ 1 = ap (λ y. times y (rank ∷ [])) here ∙ times_one rank in
              all ∙ (omega arith) ∙ sym (cond_same (slice_index s.values x) 0 1 0
              (ap (slice_index s.values) here ∙ none))
          | inr other ↦
              let away = times_none rank x other in
              let before = so_far.once x (omega arith) in
              all ∙ (omega arith) ∙ before
        ];
    ascending = rw longer (all_pairs_push (λ first second. first < second) (filed_at now 0) rank so_far.ascending
        (λ k d inside. so_far.below (get_or (filed_at now 0) k d) (in_list (filed_at now 0) k d inside)));
  }

-- ---- all of them

module _ (a : PlainGraph) (words : List ℕ) (are : AreFirstWords a words) where
  first-open : (x : ℕ) → x < a.configurations → is_open words x ≡ is_answered a (lasts a 0) x
  first-open x i = ap (λ w. w == OPEN) (are.each x i) ∙ by (is_answered a (lasts a 0) x)
    where
      by : (t : Bool) → (cond {A = ℕ} t OPEN 0 == OPEN) ≡ t
      by true = refl
      by false = refl

  first-zero : (x : ℕ) → x < a.configurations → is_open words x ≡ false
      → (slice_index words x ≡ 0) × (is_answered a (lasts a 0) x ≡ false)
  first-zero x i shut =
      let stuck : is_answered a (lasts a 0) x ≡ false = sym (first-open x i) ∙ shut in
      (are.each x i ∙ ap (λ t. cond {A = ℕ} t OPEN 0) stuck, stuck)

  -- the first words are right before the first round
  first-are-words : AreWords a (lasts a 0) words
  first-are-words = record {
    values_length = are.words_length;
    opened = first-open;
    lasting = λ x i shut. rw (first-zero x i shut).0 refl;
    stopping = λ x i shut. let zero = first-zero x i shut in rw zero.0 zero.1;
  }

pub all-listed : (s : PlainStage) (rank : ℕ) (now : PlainStage) → IsUnlisted s
    → (graph_of s.game).configurations ≤ MAX_CONFIGURATIONS → rank ≡ (graph_of s.game).configurations
    → IsListing s rank now
    → IsOpened now
all-listed s rank now are few all l = record {
  value_is = l.value_is;
  stage = record {
    counts_are = rw (l.game_is, l.counts_is) are.counts_are;
    words_are = rw (l.game_is, l.values_is) (first-are-words (graph_of s.game) s.values are.words_are);
    filed_are = record {
      values_length = ap length l.values_is ∙ are.words_are.words_length
          ∙ ap (λ (n : Numbered). (graph_of n).configurations) (sym l.game_is);
      lists_length = l.lists_length ∙ ap (λ (n : Numbered). (graph_of n).configurations + 1) (sym l.game_is);
      below = λ v x h. subst (λ (n : Numbered). x < (graph_of n).configurations) (sym l.game_is) (below v x h);
      once = λ v x low i. once v x (subst (λ (n : Numbered). v ≤ (graph_of n).configurations) l.game_is low)
          (subst (λ (n : Numbered). x < (graph_of n).configurations) l.game_is i)
          ∙ ap (λ (ws : List ℕ). cond (slice_index ws x == v) 1 0) (sym l.values_is);
    };
  };
  ascending = l.ascending;
  none_later = l.others;
}
  where
    below : (v x : ℕ) → 0 < times x (filed_at now v) → x < (graph_of s.game).configurations
    below zero x h = let low = l.below x h in omega arith
    below (suc v) x h = absurd (let none = ap (times x) (l.others (suc v) (omega arith)) in omega arith)

    other-word : (v x : ℕ) → suc v ≤ (graph_of s.game).configurations → x < (graph_of s.game).configurations
        → slice_index s.values x ≢ suc v
    other-word v x low i e = elim (true_or_false (is_answered (graph_of s.game) (lasts (graph_of s.game) 0) x)) [
      | inl going ↦ let word = are.words_are.each x i ∙ ap (λ t. cond {A = ℕ} t OPEN 0) going in omega arith
      | inr stuck ↦ let word = are.words_are.each x i ∙ ap (λ t. cond {A = ℕ} t OPEN 0) stuck in omega arith
    ]

    once : (v x : ℕ) → v ≤ (graph_of s.game).configurations → x < (graph_of s.game).configurations
        → times x (filed_at now v) ≡ cond (slice_index s.values x == v) 1 0
    once zero x low i = l.once x (omega arith)
    once (suc v) x low i = ap (times x) (l.others (suc v) (omega arith))
        ∙ sym (cond_other (slice_index s.values x) (suc v) 1 0 (other-word v x low i))
