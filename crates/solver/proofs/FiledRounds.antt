-- After the won configurations of a finished round are filed, the stage is ready for the next round.
use Rattle.std.proofs.Common.{◌≡◌, ℕ, ◌+◌, ◌-◌, ◌<◌, ◌≤◌, inl, inr, true, false, suc, arith, refl, sym, ap, ◌∙◌, subst}
use Rattle.std.proofs.Common.{List, [], ◌∷◌, ◌++◌, length, take, drop, slice_index, slice_set, get_or, get_or-set_other}
use Rattle.std.proofs.Common.{get_or-set_same}
use Rattle.std.proofs.lemmas.Bool.{cases_lt}
use Rattle.std.proofs.lemmas.List.{append_assoc, take_more, take-append-drop}
use Rattle.index_lists.specs.Lists.{times}
use Rattle.index_lists.proofs.Cited.{cond_other, times-append, times-here}
use Rattle.positions.specs.Counts.{HasSize}
use Rattle.positions.specs.declared.space.TheConstants.{MAX_CONFIGURATIONS}
use Rattle.positions.proofs.Cited.{same_size}
use Rattle.graphs.specs.Graph.{PlainGraph, IsGraph, live_answers, lasts}
use Rattle.graphs.specs.Numbered.{Numbered, graph_of}
use Rattle.solver.specs.Ending.{IsRoundEnd}
use Rattle.solver.specs.Solving.{IsWorth, AnswerLasts}
use Rattle.solver.specs.Inside.Stage.{PlainStage, filed_at, rank_filed, as_solving, IsStriking, IsUnstruck, FilesAll}
use Rattle.solver.specs.Inside.Stage.{TakesCounts}
use Rattle.solver.specs.Inside.Tables.{is_open, is_unstruck, IsCounted, AreWords}
use Rattle.graphs.proofs.Cited.{value_of_lasts, lasts_of_value, same_test, true_or_false, true_not_false, same_or_not}
use Rattle.graphs.proofs.Cited.{lasts-less}
use Rattle.solver.proofs.StruckTables.{IsCounted-same, AreWords-same, same-open}
use Rattle.solver.proofs.FiledRanks.{listed-away, listed-here, filed-once}
use Rattle.solver.proofs.ListedWords.{valued_word, times_one, times_none}
use Rattle.solver.proofs.AnswerSizes.{above-size}
use Rattle.solver.proofs.StageStrikes.{unstruck-none, filed-counting}

-- ---- filing one after the other

pub files-more : (s : PlainStage) (ranks : List ℕ) (rank : ℕ) (now : PlainStage)
    → (graph_of s.game).configurations ≤ MAX_CONFIGURATIONS → s.value ≤ (graph_of s.game).configurations
    → rank < (graph_of s.game).configurations → is_open s.values rank ≡ true → times rank ranks ≡ 0
    → FilesAll s ranks now → FilesAll s (ranks ++ rank ∷ []) (rank_filed now rank)
files-more s ranks rank now few low i still new so_far =
    let value_is : now.value ≡ s.value = so_far.kept.value_is in
    let same : (graph_of now.game).configurations ≡ (graph_of s.game).configurations =
    ap (λ (n : Numbered). (graph_of n).configurations) so_far.kept.game_is in
    let open_now : is_open now.values rank ≡ true =
    same-open (slice_index now.values rank) (slice_index s.values rank) (so_far.elsewhere rank new) ∙ still in
    let inside : rank < length now.values = (let size = so_far.filed_are.values_length in omega arith) in
    let room : now.value < length now.buckets = (let size = so_far.filed_are.lists_length in omega arith) in
    record {
      kept = record {
        game_is = so_far.kept.game_is;
        value_is = value_is;
        others = λ v d. listed-away now rank v (λ e. d (e ∙ value_is)) ∙ so_far.kept.others v d;
      };
      counts_is = so_far.counts_is;
      there = λ x h. elim (same_or_not x rank) [
        | inl here ↦ ap (slice_index (slice_set now.values rank now.value)) here
            ∙ get_or-set_same now.values rank now.value 0 inside ∙ value_is
        | inr other ↦ get_or-set_other now.values rank x now.value 0 other
            ∙ so_far.there x (let all = times-append x ranks (rank ∷ []) in let none = times_none rank x other in
            omega arith)
      ];
      elsewhere = λ x h.
          let all = times-append x ranks (rank ∷ []) in
          get_or-set_other now.values rank x now.value 0
          (λ here. absurd (let one = times_one rank in let at = ap (λ y. times y (rank ∷ [])) here in omega arith))
          ∙ so_far.elsewhere x (omega arith);
      listed = ap (filed_at (rank_filed now rank)) (sym value_is)
          ∙ listed-here now rank room
          ∙ ap (λ (l : List ℕ). l ++ rank ∷ []) (ap (filed_at now) value_is ∙ so_far.listed)
          ∙ append_assoc (filed_at s s.value) ranks (rank ∷ []);
      filed_are = filed-once now rank (record {
        filed_are = so_far.filed_are;
        few = omega (arith, few, same);
        low = omega (arith, low, same, value_is);
        is_rank = omega (arith, i, same);
        still_open = open_now;
      });
    }

-- the number at a place of a list without repetitions: it is in the list, and not among those before it
pub record IsNextOf (xs : List ℕ) (i : ℕ) : Type 0 where
  pub there : 0 < times (get_or xs i 0) xs
  pub new : times (get_or xs i 0) (take i xs) ≡ 0
  pub front : take (i + 1) xs ≡ take i xs ++ get_or xs i 0 ∷ []

pub is-next : (xs : List ℕ) (i : ℕ) → i < length xs → ((x : ℕ) → times x xs ≤ 1) → IsNextOf xs i
is-next xs i inside once =
    let x : ℕ = get_or xs i 0 in
    let front : take (i + 1) xs ≡ take i xs ++ x ∷ [] = take_more xs i 0 inside in
    let parts : xs ≡ take (i + 1) xs ++ drop (i + 1) xs = sym (take-append-drop (i + 1) xs) in
    let all : times x xs ≡ times x (take (i + 1) xs) + times x (drop (i + 1) xs) =
    ap (times x) parts ∙ times-append x (take (i + 1) xs) (drop (i + 1) xs) in
    let first : times x (take (i + 1) xs) ≡ times x (take i xs) + times x (x ∷ []) =
    ap (times x) front ∙ times-append x (take i xs) (x ∷ []) in
    let one = times_one x in
    let most = once x in
    record { there = omega arith; new = omega arith; front = front }

none_listed : (xs : List ℕ) → ((x : ℕ) → times x xs ≡ 0) → xs ≡ []
none_listed [] none = refl
none_listed (y ∷ ys) none = absurd (omega (arith, none y, times-here y y ys refl))

-- ---- the stage of a finished round

module _ (s : PlainStage) (unstruck : IsUnstruck s) where
  abbrev a : PlainGraph
  a = graph_of s.game

  is : IsGraph a
  is = unstruck.small.is_graph

  abbrev r : ℕ
  r = unstruck.round

  rounds-is : s.value - 1 ≡ r
  rounds-is = let v = unstruck.value_is in omega arith

  -- a configuration that has the next value is open
  worth-lasts : (x : ℕ) → IsWorth s.game x (suc (s.value - 1))
      → (lasts a (suc r) x ≡ true) × (lasts a (suc (suc r)) x ≡ false)
  worth-lasts x worth = subst (λ k. (lasts a (suc k) x ≡ true) × (lasts a (suc (suc k)) x ≡ false)) rounds-is
      (lasts_of_value s.game unstruck.is_board (suc (s.value - 1)) x worth.is_rank worth.has_value)

  pub worth-open : (won counts : List ℕ) → IsRoundEnd (as_solving s false) won counts → (x : ℕ) → 0 < times x won
      → (x < (graph_of s.game).configurations) × (is_open s.values x ≡ true)
  worth-open won counts end x h =
      let worth = (end.next x).0 h in
      (worth.is_rank, unstruck.stage.words_are.opened x worth.is_rank ∙ (worth-lasts x worth).0)

  -- no configuration has the value yet
  none-valued : (x : ℕ) → x < (graph_of s.game).configurations → slice_index s.values x ≡ s.value → ⊥
  none-valued x i at =
      let few = unstruck.small.few in
      let low = unstruck.small.low in
      let words = unstruck.stage.words_are in
      let shut : is_open s.values x ≡ false = valued_word s.values x (λ e. omega arith) in
      let lasting : lasts a (suc r) x ≡ true =
      subst (λ k. lasts a k x ≡ true) (at ∙ unstruck.value_is) (words.lasting x i shut) in
      true_not_false (lasts a (suc r) x) lasting (sym (words.opened x i) ∙ shut)

  none-filed : filed_at s s.value ≡ []
  none-filed = none_listed (filed_at s s.value) (λ x. elim (cases_lt x (graph_of s.game).configurations) [
    | inl inside ↦ unstruck.stage.filed_are.once s.value x unstruck.small.low inside
        ∙ cond_other (slice_index s.values x) s.value 1 0 (none-valued x inside)
    | inr outside ↦ elim (cases_lt 0 (times x (filed_at s s.value))) [
      | inl some ↦ absurd (omega (arith, unstruck.stage.filed_are.below s.value x some, outside))
      | inr none ↦ omega (arith, none)
    ]
  ])

  module _ (won counts : List ℕ) (end : IsRoundEnd (as_solving s false) won counts)
      (m t : PlainStage) (files : FilesAll s won m) (takes : TakesCounts m counts t) where
    -- a configuration that lasts the round and wasn't won lasts one request more
    lost-lasts : (x : ℕ) → x < (graph_of s.game).configurations → times x won ≡ 0 → lasts a (suc r) x ≡ true
        → lasts a (suc (suc r)) x ≡ true
    lost-lasts x i none e = elim (true_or_false (lasts a (suc (suc r)) x)) [
      | inl so ↦ so
      | inr stops ↦ absurd (
          let has = value_of_lasts s.game unstruck.is_board (suc r) x i e stops in
          let worth : IsWorth s.game x (suc (s.value - 1)) =
          subst (λ k. IsWorth s.game x (suc k)) (sym rounds-is) (record { is_rank = i; has_value = has }) in
          let some = (end.next x).1 worth in omega arith)
    ]

    end-words : AreWords a (lasts a (suc r)) m.values
    end-words = record {
      values_length =
          files.filed_are.values_length ∙ ap (λ (n : Numbered). (graph_of n).configurations) files.kept.game_is;
      opened = λ x i. elim (cases_lt 0 (times x won)) [
        | inl some ↦ shut x some ∙ sym (worth-lasts x ((end.next x).0 some)).1
        | inr more ↦ (let none : times x won ≡ 0 = omega arith in
            same-open (slice_index m.values x) (slice_index s.values x) (files.elsewhere x none)
            ∙ unstruck.stage.words_are.opened x i ∙ same_now x i none)
      ];
      lasting = λ x i e. elim (cases_lt 0 (times x won)) [
        | inl some ↦ subst (λ k. lasts a k x ≡ true) (sym (files.there x some ∙ unstruck.value_is))
            (worth-lasts x ((end.next x).0 some)).0
        | inr more ↦ (let none : times x won ≡ 0 = omega arith in let word = files.elsewhere x none in
            subst (λ k. lasts a k x ≡ true) (sym word)
            (unstruck.stage.words_are.lasting x i (sym (same-open _ _ word) ∙ e)))
      ];
      stopping = λ x i e. elim (cases_lt 0 (times x won)) [
        | inl some ↦ subst (λ k. lasts a (suc k) x ≡ false) (sym (files.there x some ∙ unstruck.value_is))
            (worth-lasts x ((end.next x).0 some)).1
        | inr more ↦ (let none : times x won ≡ 0 = omega arith in let word = files.elsewhere x none in
            subst (λ k. lasts a (suc k) x ≡ false) (sym word)
            (unstruck.stage.words_are.stopping x i (sym (same-open _ _ word) ∙ e)))
      ];
    }
      where
        shut : (x : ℕ) → 0 < times x won → is_open m.values x ≡ false
        shut x some = let few = unstruck.small.few in let low = unstruck.small.low in let at = files.there x some in
            valued_word m.values x (λ e. omega arith)

        same_now : (x : ℕ) → x < (graph_of s.game).configurations → times x won ≡ 0
            → lasts a (suc r) x ≡ lasts a (suc (suc r)) x
        same_now x i none =
            same_test (lasts a (suc r) x) (lasts a (suc (suc r)) x) (lost-lasts x i none) (lasts-less a is (suc r) x i)

    end-counts : IsCounted a (lasts a (suc r)) t.counts
    end-counts = record {
      counts_length = takes.counts_length ∙ ap length files.counts_is ∙ unstruck.stage.counts_are.counts_length;
      counted = λ g i. takes.each g (subst (λ (n : Numbered). g < (graph_of n).gaps) (sym files.kept.game_is) i)
          ∙ same_size (AnswerLasts s.game g (suc r)) (slice_index counts g) (live_answers a (lasts a (suc r)) g)
          (subst (λ k. HasSize (AnswerLasts s.game g (suc k)) (slice_index counts g)) rounds-is (end.above g i))
          (above-size s.game unstruck.is_board (suc r) g i);
    }

    -- they are filed in the order in which they were won
    pub end-order : filed_at t t.value ≡ won
    end-order = subst (λ q. filed_at q q.value ≡ won) (sym takes.rest)
        (ap (filed_at m) files.kept.value_is ∙ files.listed ∙ ap (λ (l : List ℕ). l ++ won) none-filed)

    pub end-struck : IsStriking t []
    end-struck = subst (λ q. IsStriking q []) (sym takes.rest) (record {
      round = r;
      value_is = files.kept.value_is ∙ unstruck.value_is;
      stage = record {
        counts_are = subst (λ (q : Numbered). IsCounted (graph_of q) (is_unstruck (graph_of q) r []) t.counts)
            (sym files.kept.game_is)
            (IsCounted-same a is (lasts a (suc r)) (is_unstruck a r []) (λ x i. unstruck-none a r x) t.counts
            end-counts);
        words_are = subst (λ (q : Numbered). AreWords (graph_of q) (is_unstruck (graph_of q) r []) m.values)
            (sym files.kept.game_is)
            (AreWords-same a is (lasts a (suc r)) (is_unstruck a r []) (λ x i. unstruck-none a r x) m.values
            end-words);
        filed_are = filed-counting m t.counts files.filed_are;
      };
      due = λ x h. absurd (omega arith);
      once = λ x. omega arith;
    })
