-- A solver's values, open members and answers to strike fit the rules, and its lists are ready for the first step.
use Rattle.std.proofs.Common.{◌≡◌, ◌⊎◌, ℕ, zero, suc, ◌+◌, ◌<◌, ◌≤◌, ◌↔◌, Bool, true, false, cond, List, refl, sym, ap}
use Rattle.std.proofs.Common.{◌∙◌, inl, inr, subst, arith, Option, Some, None}
use Rattle.std.specs.List.{filter}
use Rattle.std.proofs.lemmas.Bool.{cases_lt}
use Rattle.index_lists.specs.Lists.{times}
use Rattle.board_text.specs.PlainBoard.{IsBoard}
use Rattle.positions.specs.declared.value.Value.TheVariants.{Finite}
use Rattle.positions.specs.Game.{LabellerTree}
use Rattle.positions.specs.Value.{HasValue}
use Rattle.positions.specs.Counts.{HasSize}
use Rattle.positions.proofs.Cited.{same_size}
use Rattle.graphs.specs.Graph.{PlainGraph, IsGraph, count_below, live_answers, is_struck, lasts}
use Rattle.graphs.specs.Numbered.{Numbered, graph_of, configuration_of}
use Rattle.graphs.proofs.Cited.{none_some, some_same, true_or_false, true_not_false, lasts-less, lasts-at-most}
use Rattle.graphs.proofs.Cited.{next-gives, next-closed, next-fails}
use Rattle.graphs.proofs.Cited.{numbered-is, tree_of_lasts, lasts_of_tree, value_of_lasts, lasts_of_value}
use Rattle.solver.specs.Solving.{Solving, IsSolving, AnswerLasts, bucket, source, IsWorth, to_strike}
use Rattle.solver.specs.Striking.{stands, tally}
use Rattle.solver.proofs.Cited.{above-size, is-struck, live-tally, stands-true, stands-false, struck-is}
use Rattle.solver.proofs.Cited.{times-filter-true, times-filter-le}
use Rattle.retro_core.specs.Round.{IsDue}
use Rattle.retro_core.proofs.Rules.{value_before, rules_of, IsStruckIn, IsToWin, AreSound, AreReadyLists}
use Rattle.retro_core.proofs.Homes.{live-sum, tally-filter}

-- ---- the value before a round

-- a test that holds exactly of the numbers below v has the count v
count-prefix : (n v : ℕ) (test : ℕ → Bool) → v ≤ n → ((k : ℕ) → k < n → k < v → test k ≡ true)
    → ((k : ℕ) → k < n → v ≤ k → test k ≡ false) → count_below n test ≡ v
count-prefix zero v test most low high = omega arith
count-prefix (suc n) v test most low high = elim (cases_lt n v) [
  | inl last ↦ (
      let rest = count-prefix n n test (omega arith) (λ k i j. low k (omega arith) (omega arith))
      (λ k i j. absurd (omega arith)) in
      ap (λ (b : Bool). count_below n test + cond b 1 0) (low n (omega arith) last) ∙ (omega arith))
  | inr past ↦ (
      let rest = count-prefix n v test past (λ k i j. low k (omega arith) j) (λ k i j. high k (omega arith) j) in
      ap (λ (b : Bool). count_below n test + cond b 1 0) (high n (omega arith) past) ∙ (omega arith))
]

-- a configuration that doesn't last longer than the round has a value of at most the round's
pub record Stops (a : PlainGraph) (round rank : ℕ) : Type 0 where
  pub value : ℕ
  pub most : value ≤ round
  pub lasting : lasts a value rank ≡ true
  pub stopping : lasts a (suc value) rank ≡ false

stops-at : (a : PlainGraph) (round rank : ℕ) → lasts a (suc round) rank ≡ false → Stops a round rank
stops-at a zero rank stop = record { value = zero; most = omega arith; lasting = refl; stopping = stop }
stops-at a (suc round) rank stop = elim (true_or_false (lasts a (suc round) rank)) [
  | inl lasting ↦ record { value = suc round; most = omega arith; lasting = lasting; stopping = stop }
  | inr before ↦ (let found = stops-at a round rank before in let low = found.most in
      record { value = found.value; most = omega arith; lasting = found.lasting; stopping = found.stopping })
]

base-open : (a : PlainGraph) (round rank : ℕ) → lasts a (suc round) rank ≡ true → value_before a round rank ≡ None
base-open a round rank e = ap (λ (b : Bool). cond b None (Some (count_below round (λ k. lasts a (suc k) rank)))) e

base-value : (a : PlainGraph) → IsGraph a → (round rank value : ℕ) → rank < a.configurations → value ≤ round
    → lasts a value rank ≡ true → lasts a (suc value) rank ≡ false → value_before a round rank ≡ Some value
base-value a is round rank value i most lasting stopping =
    let stop : lasts a (suc round) rank ≡ false = elim (true_or_false (lasts a (suc round) rank)) [
      | inr stop ↦ stop
      | inl more ↦ absurd (true_not_false (lasts a (suc value) rank)
          (lasts-at-most a is (suc value) (suc round) rank i (omega arith) more) stopping)
    ] in
    ap (λ (b : Bool). cond b None (Some (count_below round (λ k. lasts a (suc k) rank)))) stop
    ∙ ap Some (count-prefix round value (λ k. lasts a (suc k) rank) most
    (λ k j low. lasts-at-most a is (suc k) value rank i (omega arith) lasting)
    (λ k j high. elim (true_or_false (lasts a (suc k) rank)) [
      | inr fails ↦ fails
      | inl more ↦ absurd (true_not_false (lasts a (suc value) rank)
          (lasts-at-most a is (suc value) (suc k) rank i (omega arith) more) stopping)
    ]))

-- two words that say the same values are equal
pub same-word : (one other : Option ℕ) → ((v : ℕ) → one ≡ Some v → other ≡ Some v)
    → ((v : ℕ) → other ≡ Some v → one ≡ Some v) → one ≡ other
same-word (Some n) other there back = sym (there n refl)
same-word None None there back = refl
same-word None (Some n) there back = back n refl

-- the word before a round says a value exactly if it is the configuration's and at most the round's
pub base-is : (n : Numbered) → IsBoard n.board → (round rank value : ℕ) → rank < (graph_of n).configurations
    → (value_before (graph_of n) round rank ≡ Some value)
    ↔ ((value ≤ round) × HasValue n.board (configuration_of n rank) (Finite value))
base-is n board_is round rank value i =
    let a : PlainGraph = graph_of n in
    let is = numbered-is n board_is in (
      λ e. elim (true_or_false (lasts a (suc round) rank)) [
        | inl more ↦ absurd (none_some value (sym (base-open a round rank more) ∙ e))
        | inr stop ↦ (
            let found = stops-at a round rank stop in
            let same : found.value ≡ value =
            some_same found.value value (sym
            (base-value a is round rank found.value i found.most found.lasting found.stopping) ∙ e) in (
              subst (λ v. v ≤ round) same found.most,
              subst (λ v. HasValue n.board (configuration_of n rank) (Finite v)) same
                  (value_of_lasts n board_is found.value rank i found.lasting found.stopping),
            ))
      ],
      λ has. let last = lasts_of_value n board_is value rank i has.1 in
          base-value a is round rank value i has.0 last.0 last.1,
    )

-- ---- the rules of a round, from the game

-- an open member of a gap lasts longer than the round
record IsOpenMember (s : Solving) (g rank : ℕ) : Type 0 where
  pub is_rank : rank < (graph_of s.game).configurations
  pub lasting : lasts (graph_of s.game) (suc s.rounds) rank ≡ true
  pub place : ℕ
  pub is_place : place < (graph_of s.game).places
  pub member : (graph_of s.game).member g place ≡ rank

module _ (s : Solving) (sol : IsSolving s) where
  abbrev a : PlainGraph
  a = graph_of s.game

  abbrev r : ℕ
  r = s.rounds

  is : IsGraph a
  is = numbered-is s.game sol.is_board

  open-member : (g rank : ℕ) → g < a.gaps → 0 < times rank (source s g) → IsOpenMember s g rank
  open-member g rank in_gaps there =
      let m = sol.sources.members g rank in_gaps there in
      let i = is.member_in g m.0 in_gaps m.1 in
      let tree = (sol.sources.listed g m.0 in_gaps m.1).0 (subst (λ x. 0 < times x (source s g)) m.2 there) in
      record {
        is_rank = subst (λ x. x < a.configurations) (sym m.2) i;
        lasting = subst (λ x. lasts a (suc s.rounds) x ≡ true) (sym m.2)
            (lasts_of_tree s.game sol.is_board (suc s.rounds) (a.member g m.0) i tree);
        place = m.0;
        is_place = m.1;
        member = sym m.2;
      }

  -- a configuration is to be won exactly if it has the next value
  pub to-win-is : (width rank : ℕ) → IsToWin (rules_of s width) rank ↔ IsWorth s.game rank (suc s.rounds)
  to-win-is width rank = (
    λ win.
        let member = open-member win.gap rank win.is_gap win.is_open in
        let stopping : lasts a (suc (suc r)) rank ≡ false =
        next-closed a
        (lasts a (suc r)) rank win.gap member.place win.is_gap member.is_place member.member win.none_above in
        record {
          is_rank = member.is_rank;
          has_value = value_of_lasts s.game sol.is_board (suc r) rank member.is_rank member.lasting stopping;
        },
    λ worth.
        let last = lasts_of_value s.game sol.is_board (suc r) rank worth.is_rank worth.has_value in
        let found = next-fails a (lasts a (suc r)) rank last.1 in
        let v : ℕ = found.2.0 in
        let tree = tree_of_lasts s.game sol.is_board (suc r) rank worth.is_rank last.0 in
        record {
          gap = found.0;
          is_gap = found.1;
          none_above = found.3;
          is_open = subst (λ x. 0 < times x (source s found.0)) found.2.2
              ((sol.sources.listed found.0 v found.1 found.2.1).1
              (subst (λ x. LabellerTree s.game.board (suc r) (configuration_of s.game x)) (sym found.2.2) tree));
        },
  )

  -- a configuration is to be struck exactly if it has the round's value and is an answer in some gap
  pub struck-in-is : (width rank : ℕ) → IsStruckIn (rules_of s width) rank ↔ IsDue s.game rank s.rounds
  struck-in-is width rank = (
    λ struck. record {
      worth = record {
        is_rank = struck.is_rank;
        has_value = ((base-is s.game sol.is_board s.rounds rank s.rounds struck.is_rank).0 struck.has_value).1;
      };
      struck = struck.has_gap;
    },
    λ due. record {
      is_rank = due.worth.is_rank;
      has_gap = due.struck;
      has_value =
          (base-is s.game sol.is_board s.rounds rank s.rounds due.worth.is_rank).1 (omega arith, due.worth.has_value);
    },
  )

  pub sound-is : (width : ℕ) → AreSound (rules_of s width)
  sound-is width = record {
    opened = λ g rank in_gaps there.
        let member = open-member g rank in_gaps there in
        (member.is_rank, base-open (graph_of s.game) s.rounds rank member.lasting);
  }

  -- the answers that last the round are those that last one request more and those filed at the round's value
  live-splits : (g : ℕ) → g < a.gaps → live_answers a (lasts a r) g
      ≡ live_answers a (lasts a (suc r)) g + live_answers a (stands (bucket s r)) g
  live-splits g in_gaps = live-sum a is (lasts a r) (lasts a (suc r)) (stands (bucket s r)) g in_gaps
      (λ c i. elim (true_or_false (lasts a (suc r) c)) [
        | inl more ↦ by (lasts a r c) (lasts a (suc r) c) (stands (bucket s r) c) (lasts-less a is r c i more) (inl (
          more,
          stands-false (bucket s r) c (elim (cases_lt 0 (times c (bucket s r))) [
            | inr none ↦ omega arith
            | inl some ↦ absurd (true_not_false (lasts a (suc r) c) more (filed c i some).1)
          ]),
        ))
        | inr stop ↦ elim (true_or_false (lasts a r c)) [
          | inl last ↦ by (lasts a r c) (lasts a (suc r) c) (stands (bucket s r) c) last
              (inr (
                stop,
                stands-true (bucket s r) c
                    ((sol.buckets.filed r c i).1 (omega arith, value_of_lasts s.game sol.is_board r c i last stop)),
              ))
          | inr fails ↦ none (lasts a r c) (lasts a (suc r) c) (stands (bucket s r) c) fails stop
              (stands-false (bucket s r) c (elim (cases_lt 0 (times c (bucket s r))) [
                | inr nothing ↦ omega arith
                | inl some ↦ absurd (true_not_false (lasts a r c) (filed c i some).0 fails)
              ]))
        ]
      ])
    where
      filed : (c : ℕ) → c < a.configurations → 0 < times c (bucket s r)
          → (lasts a r c ≡ true) × (lasts a (suc r) c ≡ false)
      filed c i h = lasts_of_value s.game sol.is_board r c i ((sol.buckets.filed r c i).0 h).1

      by : (f g h : Bool) → f ≡ true → ((g ≡ true) × (h ≡ false)) ⊎ ((g ≡ false) × (h ≡ true))
          → ◌≡◌ {A = ℕ} (cond f 1 0) (cond g 1 0 + cond h 1 0)
      by f g h e (inl one) = rw (e, one.0, one.1) refl
      by f g h e (inr one) = rw (e, one.0, one.1) refl

      none : (f g h : Bool) → f ≡ false → g ≡ false → h ≡ false → ◌≡◌ {A = ℕ} (cond f 1 0) (cond g 1 0 + cond h 1 0)
      none f g h e d c = rw (e, d, c) refl

  first-count : (g count : ℕ) → g < a.gaps → HasSize (AnswerLasts s.game g r) count
      → count ≡ live_answers a (lasts a r) g
  first-count g count i size =
      same_size (AnswerLasts s.game g r) count (live_answers a (lasts a r) g) size
      (above-size s.game sol.is_board r g i)

  pub ready-is : (width : ℕ) (count : ℕ → ℕ) (value : ℕ → Option ℕ) (todo : List ℕ) → 0 < width
      → ((gap : ℕ) → gap < a.gaps → HasSize (AnswerLasts s.game gap r) (count gap))
      → ((rank word : ℕ) → rank < a.configurations → (value rank ≡ Some word)
      ↔ ((word ≤ r) × HasValue s.game.board (configuration_of s.game rank) (Finite word)))
      → todo ≡ to_strike s → AreReadyLists (rules_of s width) count value todo
  ready-is width count value todo some_width counts values picked =
      let home : ℕ → ℕ = a.struck in
      let from_bucket : (x : ℕ) → 0 < times x todo → (is_struck a x ≡ true) × (0 < times x (bucket s r)) = λ x h.
      let h' : 0 < times x (filter (is_struck a) (bucket s r)) = subst (λ (xs : List ℕ). 0 < times x xs) picked h in
      let fewer = times-filter-le (is_struck a) x (bucket s r) in
      (times-filter-true (is_struck a) x (bucket s r) h', omega arith) in
      record {
        counts = λ g i.
            let first = first-count g (count g) i (counts g i) in
            let split = live-splits g i in
            let stand = live-tally a is g (bucket s r) i (sol.buckets.ranks r) (sol.buckets.once r) in
            let pick : tally home g todo ≡ tally home g (bucket s r) =
            ap (tally home g) picked ∙ tally-filter home (is_struck a) g (bucket s r) (λ x h fails e.
            true_not_false (is_struck a x) (struck-is a x (subst (λ m. m < a.gaps) (sym e) i)) fails) in
            omega arith;
        values = λ x i. same-word (value x) (value_before a r x)
            (λ v e. (base-is s.game sol.is_board r x v i).1 ((values x v i).0 e))
            (λ v e. (values x v i).1 ((base-is s.game sol.is_board r x v i).0 e));
        due = λ x h.
            let from = from_bucket x h in
            let i = sol.buckets.ranks r x from.1 in
            (struck-in-is width x).1 (record {
              worth = record { is_rank = i; has_value = ((sol.buckets.filed r x i).0 from.1).1 };
              struck = is-struck a x from.0;
            });
        once = λ x. let few = sol.buckets.once r x in let fewer = times-filter-le (is_struck a) x (bucket s r) in
            let same = ap (times x) picked in omega arith;
        settled = λ g x i none. elim (cases_lt 0 (times x (source s g))) [
          | inr nothing ↦ omega arith
          | inl some ↦ absurd (
              let member = open-member g x i some in
              let gives : 0 < live_answers a (lasts a r) g =
              next-gives a (lasts a r) x g member.place member.lasting i member.is_place member.member in
              let first = first-count g (count g) i (counts g i) in
              omega arith)
        ];
        some_width = some_width;
      }
