-- The first configuration of the list to strike is struck.
use Rattle.std.proofs.Common.{◌≡◌, ◌≢◌, ℕ, ◌+◌, ◌<◌, ◌≤◌, ◌==◌, not, inl, inr, Bool, true, false, cond, suc, refl}
use Rattle.std.proofs.Common.{arith, sym, ap, ◌∙◌, subst, List, [], ◌∷◌, slice_index, slice_set}
use Rattle.std.proofs.lemmas.Bool.Decides.{nat_tests}
use Rattle.index_lists.specs.Lists.{times}
use Rattle.index_lists.proofs.Cited.{times-here, times-more, times-later}
use Rattle.graphs.specs.Numbered.{graph_of}
use Rattle.positions.specs.declared.space.TheConstants.{MAX_CONFIGURATIONS}
use Rattle.graphs.specs.Graph.{PlainGraph, IsGraph, live_answers, lasts}
use Rattle.solver.specs.Inside.Stage.{PlainStage, with_counts, strikes_copied, IsFiled, IsKeptStage, Closes, IsStruckAt}
use Rattle.solver.specs.Inside.Stage.{IsStriking}
use Rattle.solver.specs.Inside.Tables.{is_unstruck, IsCounted, AreWords}
use Rattle.graphs.proofs.Cited.{without, IsBetween, true_or_false, same_or_not, same_is, lasts-less}
use Rattle.solver.proofs.StruckTables.{IsCounted-same, AreWords-same, IsLiveAnswer, counted-struck, home-now}
use Rattle.solver.proofs.StruckTables.{words-some, words-closed}
use Rattle.solver.proofs.Strikes.{strike-home}

-- ---- the configurations that are not struck

pub some_times : (n : ℕ) → 0 < n → not (n == 0) ≡ true
some_times n h = grind (arith, nat_tests)

pub no_times : (n : ℕ) → n ≡ 0 → not (n == 0) ≡ false
no_times n h = grind (arith, nat_tests)

times_some : (n : ℕ) → not (n == 0) ≡ true → 0 < n
times_some n h = grind (arith, nat_tests)

module _ (a : PlainGraph) (r : ℕ) where
  pub unstruck-lasts : (todo : List ℕ) (x : ℕ) → lasts a (suc r) x ≡ true → is_unstruck a r todo x ≡ true
  unstruck-lasts todo x e = rw e refl

  pub unstruck-fails : (todo : List ℕ) (x : ℕ) → lasts a (suc r) x ≡ false
      → is_unstruck a r todo x ≡ not (times x todo == 0)
  unstruck-fails todo x e = rw e refl

  -- if the list to strike is empty, the unstruck configurations are those that last longer than the round
  pub unstruck-none : (x : ℕ) → lasts a (suc r) x ≡ is_unstruck a r [] x
  unstruck-none x = by (lasts a (suc r) x)
    where
      by : (b : Bool) → b ≡ cond b true (not (0 == 0))
      by true = refl
      by false = refl

  -- an unstruck configuration lasts as long as the round
  pub unstruck-between : IsGraph a → (todo : List ℕ) → ((x : ℕ) → 0 < times x todo → IsStruckAt a r x)
      → IsBetween a r (is_unstruck a r todo)
  unstruck-between is todo due = record {
    lower = λ y j e. unstruck-lasts todo y e;
    upper = λ y j e. elim (true_or_false (lasts a (suc r) y)) [
      | inl more ↦ lasts-less a is r y j more
      | inr fails ↦ (due y (times_some (times y todo) (sym (unstruck-fails todo y fails) ∙ e))).lasting
    ];
  }

  -- the first configuration to strike, which the round's value stops
  module _ (c : ℕ) (rest : List ℕ) (stops : lasts a (suc r) c ≡ false) where
    pub unstruck-first : is_unstruck a r (c ∷ rest) c ≡ true
    unstruck-first =
        unstruck-fails (c ∷ rest) c stops ∙ some_times (times c (c ∷ rest)) (times-here c c rest refl)

    -- after it is struck, the unstruck configurations are those of the rest of the list
    pub unstruck-rest : times c (c ∷ rest) ≤ 1 → (x : ℕ)
        → without (is_unstruck a r (c ∷ rest)) c x ≡ is_unstruck a r rest x
    unstruck-rest once x = elim (same_or_not x c) [
      | inl here ↦ subst (λ y. without (is_unstruck a r (c ∷ rest)) c y ≡ is_unstruck a r rest y) (sym here)
          (gone c ∙ sym (unstruck-fails rest c stops ∙ no_times (times c rest) none))
      | inr other ↦ same other ∙ ap (λ n. cond (lasts a (suc r) x) true (not (n == 0)))
          (times-later c x rest (λ d. other (sym d)))
    ]
      where
        none : times c rest ≡ 0
        none = let here : times c (c ∷ rest) ≡ 1 + times c rest = rw (same_is c c refl) refl in omega arith

        gone : (y : ℕ) → without (is_unstruck a r (c ∷ rest)) y y ≡ false
        gone y = grind (arith, nat_tests)

        same : x ≢ c → without (is_unstruck a r (c ∷ rest)) c x ≡ is_unstruck a r (c ∷ rest) x
        same other = grind (arith, nat_tests)

-- ---- the stage after a strike

-- in a round of a graph these are left to be struck
record IsStrikingIn (a : PlainGraph) (s : PlainStage) (todo : List ℕ) : Type 0 where
  pub round : ℕ
  pub value_is : s.value ≡ suc round
  pub counts_are : IsCounted a (is_unstruck a round todo) s.counts
  pub words_are : AreWords a (is_unstruck a round todo) s.values
  pub filed_are : IsFiled s
  pub due : (x : ℕ) → 0 < times x todo → IsStruckAt a round x
  pub once : (x : ℕ) → times x todo ≤ 1

-- the graph is that of the stage
striking-of : (s : PlainStage) (todo : List ℕ) (a : PlainGraph) → graph_of s.game ≡ a → IsStrikingIn a s todo
    → IsStriking s todo
striking-of s todo a same = subst (λ (p : PlainGraph). IsStrikingIn p s todo → IsStriking s todo) same (λ k. record {
  round = k.round;
  value_is = k.value_is;
  stage = record { counts_are = k.counts_are; words_are = k.words_are; filed_are = k.filed_are };
  due = k.due;
  once = k.once;
})

pub filed-counting : (s : PlainStage) (counts : List ℕ) → IsFiled s → IsFiled (with_counts s counts)
filed-counting s counts are =
    record { values_length = are.values_length; lists_length = are.lists_length; below = are.below; once = are.once }

module _ (s : PlainStage) (is : IsGraph (graph_of s.game)) (c : ℕ) (rest : List ℕ) (k : IsStriking s (c ∷ rest))
    (g n : ℕ) (g_is : g ≡ (graph_of s.game).struck c) where
  abbrev a : PlainGraph
  a = (graph_of s.game)

  abbrev above : ℕ → Bool
  above = is_unstruck a k.round (c ∷ rest)

  here : IsStruckAt a k.round c
  here = k.due c (times-here c c rest refl)

  pub gap-in : g < a.gaps
  gap-in = let low = here.has_gap in omega arith

  live : IsLiveAnswer a above c g
  live = record {
    is_graph = is;
    is_rank = here.is_rank;
    gap_is = g_is;
    in_gaps = gap-in;
    is_above = unstruck-first a k.round c rest here.stopping;
  }

  next : (x : ℕ) → x < a.configurations → without above c x ≡ is_unstruck a k.round rest x
  next x i = unstruck-rest a k.round c rest here.stopping (k.once c) x

  fewer : (x : ℕ) → times x rest ≤ 1
  fewer x = let once = k.once x in omega arith

  due : (x : ℕ) → 0 < times x rest → IsStruckAt a k.round x
  due x h = k.due x (times-more c x rest h)

  -- the count of the gap isn't 0 before the strike
  pub count-left : 0 < slice_index s.counts g
  count-left =
      let home = strike-home a is above c g here.is_rank g_is gap-in live.is_above in
      let counted = k.stage.counts_are.counted g gap-in in
      omega arith

  module _ (n_is : slice_index s.counts g ≡ n + 1) where
    now : live_answers a (without above c) g ≡ n
    now = home-now a above c g live n s.counts n_is k.stage.counts_are

    counts : IsCounted a (is_unstruck a k.round rest) (slice_set s.counts g n)
    counts = IsCounted-same a is (without above c) (is_unstruck a k.round rest) next (slice_set s.counts g n)
        (counted-struck a above c g live n s.counts n_is k.stage.counts_are)

    pub struck-some : 0 < n → IsStriking (with_counts s (slice_set s.counts g n)) rest
    struck-some some = record {
      round = k.round;
      value_is = k.value_is;
      stage = record {
        counts_are = counts;
        words_are = AreWords-same a is (without above c) (is_unstruck a k.round rest) next s.values
            (words-some a above c g live n now s.values some k.stage.words_are);
        filed_are = filed-counting s (slice_set s.counts g n) k.stage.filed_are;
      };
      due = due;
      once = fewer;
    }

    pub struck-closed : (s' : PlainStage) → n ≡ 0 → (graph_of s.game).configurations ≤ MAX_CONFIGURATIONS
        → s.value ≤ (graph_of s.game).configurations → Closes (with_counts s (slice_set s.counts g n)) g s'
        → IsStriking s' rest
    struck-closed s' none few low closes =
        let value_is : s.value ≡ suc k.round = k.value_is in
        striking-of s' rest a (ap graph_of closes.kept.game_is) (record {
          round = k.round;
          value_is = closes.kept.value_is ∙ value_is;
          counts_are = rw closes.counts_is counts;
          words_are = AreWords-same a is (without above c) (is_unstruck a k.round rest) next s'.values
              (words-closed a above c g live s.values s'.values (now ∙ none) k.stage.words_are k.round
              (unstruck-between a k.round is (c ∷ rest) k.due) here.stopping (λ e. omega arith)
              (rw (← value_is) closes.words));
          filed_are = closes.filed_are;
          due = due;
          once = fewer;
        })

-- ---- one strike after another

pub kept-on : (s t u : PlainStage) → IsKeptStage s t → IsKeptStage t u → IsKeptStage s u
kept-on s t u one two = record {
  game_is = two.game_is ∙ one.game_is;
  value_is = two.value_is ∙ one.value_is;
  others = λ v d. two.others v (λ e. d (e ∙ one.value_is)) ∙ one.others v d;
}

-- a stage that has copied the configurations from the store has the same ones to strike
pub striking-taken : (s : PlainStage) (todo : List ℕ) → IsStriking s todo → IsStriking (strikes_copied s) todo
striking-taken s todo k = record {
  round = k.round;
  value_is = k.value_is;
  stage = record {
    counts_are = k.stage.counts_are;
    words_are = k.stage.words_are;
    filed_are = record {
      values_length = k.stage.filed_are.values_length;
      lists_length = k.stage.filed_are.lists_length;
      below = k.stage.filed_are.below;
      once = k.stage.filed_are.once;
    };
  };
  due = k.due;
  once = k.once;
}

pub kept-taken : (s t : PlainStage) → IsKeptStage (strikes_copied s) t → IsKeptStage s t
kept-taken s t k = record { game_is = k.game_is; value_is = k.value_is; others = k.others }
