-- The facts of a machine between its calls.
use Rattle.std.proofs.Common.{◌≡◌, ◌≢◌, ℕ, ◌+◌, ◌-◌, ◌&&◌, ◌==◌, ◌<◌, ◌≤◌, ◌↔◌, inl, inr, Bool, true, false, cond, suc}
use Rattle.std.proofs.Common.{refl, arith, sym, ap, ◌∙◌, subst, List, [], ◌∷◌, length, map, get_or, slice_index}
use Rattle.std.proofs.Common.{slice_index_or, Option, Some, None}
use Rattle.std.specs.List.{filter, AllPairs, range_with_len}
use Rattle.std.proofs.lemmas.Bool.{cases_lt}
use Rattle.std.proofs.lemmas.List.{get_or-map}
use Rattle.std.proofs.lemmas.List.FromFn.{length-map-range_with_len, get_or-map-range_with_len}
use Rattle.std.proofs.lemmas.List.Kept.{AllPairs-filter}
use Rattle.index_lists.specs.Lists.{times}
use Rattle.index_lists.proofs.Cited.{cond_same, cond_other, times-here}
use Rattle.board_text.specs.PlainBoard.{IsBoard}
use Rattle.positions.specs.declared.value.Value.TheVariants.{Finite, Forever}
use Rattle.positions.specs.Ranks.{configurations}
use Rattle.positions.specs.Value.{HasValue}
use Rattle.graphs.specs.Numbered.{Numbered, graph_of, configuration_of}
use Rattle.solver.specs.Words.{value_of_word, AreFirstCounts, AreFirstValues}
use Rattle.graphs.proofs.Cited.{numbered-is, numbered-shows, some-configurations, number-below, number-value, worth-is}
use Rattle.graphs.proofs.Cited.{tree_of_lasts, lasts_of_tree, forever_of_lasts, member-is, count_below-some}
use Rattle.graphs.proofs.Cited.{count_below-less, count_below-bound, both_true, none_some, some_same, true_or_false}
use Rattle.graphs.proofs.Cited.{true_not_false, same_or_not, lasts-less, lasts-at-most}
use Rattle.solver.specs.Inside.Opening.{IsOpened}
use Rattle.solver.proofs.AnswerSizes.{live-size, above-size}
use Rattle.positions.specs.declared.space.TheConstants.{MAX_CONFIGURATIONS}
use Rattle.graphs.specs.Graph.{PlainGraph, IsGraph, count_below, is_member, lasts, is_struck, live_answers}
use Rattle.positions.specs.Counts.{HasSize}
use Rattle.graphs.specs.NumberedRanks.{number_in}
use Rattle.graphs.specs.Lasting.{LastsExactly, LastsForever}
use Rattle.solver.specs.Solving.{Solving, AreOpenMembers, IsSolving, NoneHas, AnswerLasts, AnswerForever}
use Rattle.solver.specs.Inside.Stage.{first_lists, PlainStage, filed_at, due_strikes, at_next_value, IsFiled, IsStage}
use Rattle.solver.specs.Inside.Stage.{IsKeptStage, IsStriking, IsUnstruck, IsState}
use Rattle.solver.specs.Inside.Tables.{IsLast, is_open, open_members, is_unstruck, struck_rounds, AreWords}
use Rattle.solver.proofs.Strikes.{lasts-forever}
use Rattle.solver.proofs.StruckRanks.{counted-alike, words-alike, filtered-times, is-struck}
use Rattle.solver.proofs.FiledRanks.{past}
use Rattle.solver.proofs.ListedRanks.{times-filter-true, times-filter-le}
use Rattle.solver.proofs.ListedWords.{valued_word, times_true}
use Rattle.solver.proofs.Sources.{member-times, members-are}
use Rattle.solver.proofs.StageStrikes.{unstruck-lasts, unstruck-fails, unstruck-none, some_times, no_times}

-- ---- words

-- a configuration has one value at most
pub word_is : (a : PlainGraph) → IsGraph a → (j k x : ℕ) → x < a.configurations → lasts a j x ≡ true
    → lasts a (suc j) x ≡ false → lasts a k x ≡ true → lasts a (suc k) x ≡ false → j ≡ k
word_is a is j k x i one stop other end = elim (same_or_not j k) [
  | inl e ↦ e
  | inr d ↦ elim (cases_lt j k) [
    | inl less ↦ absurd (true_not_false (lasts a (suc j) x) (lasts-at-most a is (suc j) k x i (omega arith) other) stop)
    | inr more ↦ absurd (true_not_false (lasts a (suc k) x) (lasts-at-most a is (suc k) j x i (omega arith) one) end)
  ]
]

-- the word of a configuration that isn't open is its value
pub word-at : (a : PlainGraph) → IsGraph a → (above : ℕ → Bool) (values : List ℕ) (j x : ℕ) → x < a.configurations
    → AreWords a above values → is_open values x ≡ false → lasts a j x ≡ true → lasts a (suc j) x ≡ false
    → slice_index values x ≡ j
word-at a is above values j x i w shut one stop =
    word_is a is (slice_index values x) j x i (w.lasting x i shut) (w.stopping x i shut) one stop

pub filed-there : (s : PlainStage) (v x : ℕ) → IsFiled s → v ≤ (graph_of s.game).configurations
    → x < (graph_of s.game).configurations → slice_index s.values x ≡ v → 0 < times x (filed_at s v)
filed-there s v x f i j e =
    let once = f.once v x i j in let one = cond_same {A = ℕ} (slice_index s.values x) v 1 0 e in omega arith

pub filed-word : (s : PlainStage) (v x : ℕ) → IsFiled s → v ≤ (graph_of s.game).configurations
    → x < (graph_of s.game).configurations → 0 < times x (filed_at s v) → slice_index s.values x ≡ v
filed-word s v x f i j h = elim (same_or_not (slice_index s.values x) v) [
  | inl e ↦ e
  | inr d ↦ absurd (let once = f.once v x i j in let none = cond_other {A = ℕ} (slice_index s.values x) v 1 0 d in
      omega arith)
]

-- a value at which a configuration is filed is in range
pub value-in-range : (s : PlainStage) (v x : ℕ) → IsFiled s → 0 < times x (filed_at s v)
    → v ≤ (graph_of s.game).configurations
value-in-range s v x f h = elim (cases_lt ((graph_of s.game).configurations) v) [
  | inr low ↦ low
  | inl high ↦ absurd (let none = ap (times x) (past s.buckets v (let size = f.lists_length in omega arith)) in
      omega arith)
]

cond_few : (c : Bool) → cond {A = ℕ} c 1 0 ≤ 1
cond_few true = omega arith
cond_few false = omega arith

pub filed-few : (s : PlainStage) (v x : ℕ) → IsFiled s → times x (filed_at s v) ≤ 1
filed-few s v x f = elim (cases_lt 0 (times x (filed_at s v))) [
  | inr none ↦ omega arith
  | inl some ↦ let once = f.once v x (value-in-range s v x f some) (f.below v x some) in let few =
      cond_few (slice_index s.values x == v) in omega arith
]

-- ---- the start and the end of a round

module _ (s : PlainStage) (is : IsGraph (graph_of s.game))
    (few : (graph_of s.game).configurations ≤ MAX_CONFIGURATIONS) where
  abbrev a : PlainGraph
  a = (graph_of s.game)

  -- a configuration that is filed at a value has it
  filed-lasts : (above : ℕ → Bool) (v x : ℕ) → AreWords a above s.values → IsFiled s
      → v ≤ (graph_of s.game).configurations → 0 < times x (filed_at s v)
      → (lasts a v x ≡ true) × (lasts a (suc v) x ≡ false)
  filed-lasts above v x w f low h =
      let i = f.below v x h in
      let word = filed-word s v x f low i h in
      let shut = valued_word s.values x (λ e. omega arith) in (
        subst (λ n. lasts a n x ≡ true) word (w.lasting x i shut),
        subst (λ n. lasts a (suc n) x ≡ false) word (w.stopping x i shut),
      )

  pub round-starts : (r : ℕ) → r < (graph_of s.game).configurations → s.value ≡ suc r → (todo : List ℕ)
      → todo ≡ filter (is_struck a) (filed_at s r) → IsStage (lasts a r) s → IsStriking s todo
  round-starts r i value_is todo todo_are stage =
      let alike : (x : ℕ) → x < a.configurations → is_struck a x ≡ true → lasts a r x ≡ is_unstruck a r todo x =
      λ x j holds. elim (true_or_false (lasts a (suc r) x)) [
        | inl more ↦ lasts-less a is r x j more ∙ sym (unstruck-lasts a r todo x more)
        | inr fails ↦
            let times_are : times x todo ≡ times x (filed_at s r) =
            ap (times x) todo_are ∙ filtered-times (is_struck a) x (filed_at s r) holds in
            elim (true_or_false (lasts a r x)) [
              | inl one ↦
                  let word = word-at a is (lasts a r) s.values r x j stage.words_are
                  (stage.words_are.opened x j ∙ fails) one fails in
                  let there = filed-there s r x stage.filed_are (omega arith) j word in
                  one ∙ sym (unstruck-fails a r todo x fails ∙ some_times (times x todo) (omega arith))
              | inr none ↦ none ∙ sym (unstruck-fails a r todo x fails
                  ∙ no_times (times x todo) (elim (cases_lt 0 (times x (filed_at s r))) [
                    | inr nothing ↦ omega arith
                    | inl some ↦ absurd (true_not_false (lasts a r x)
                        (filed-lasts (lasts a r) r x stage.words_are stage.filed_are (omega arith) some).0 none)
                  ]))
            ]
      ] in
      record {
        round = r;
        value_is = value_is;
        stage = record {
          counts_are = counted-alike a is (lasts a r) (is_unstruck a r todo) alike s.counts stage.counts_are;
          words_are = words-alike a is (lasts a r) (is_unstruck a r todo) alike s.values stage.words_are;
          filed_are = stage.filed_are;
        };
        due = λ x h.
            let among : 0 < times x (filter (is_struck a) (filed_at s r)) =
            subst (λ (xs : List ℕ). 0 < times x xs) todo_are h in
            let fewer = times-filter-le (is_struck a) x (filed_at s r) in
            let some : 0 < times x (filed_at s r) = omega arith in
            let word = filed-lasts (lasts a r) r x stage.words_are stage.filed_are (omega arith) some in
            record {
              is_rank = stage.filed_are.below r x some;
              lasting = word.0;
              stopping = word.1;
              has_gap = is-struck a x (times-filter-true (is_struck a) x (filed_at s r) among);
            };
        once = λ x. let all = ap (times x) todo_are in let fewer = times-filter-le (is_struck a) x (filed_at s r) in
            let one = filed-few s r x stage.filed_are in omega arith;
      }

  pub round-ends : (k : IsStriking s []) → IsStage (lasts a (suc k.round)) s
  round-ends k =
      let alike : (x : ℕ) → x < a.configurations → is_struck a x ≡ true
      → is_unstruck a k.round [] x ≡ lasts a (suc k.round) x = λ x j holds. sym (unstruck-none a k.round x) in
      record {
        counts_are =
            counted-alike a is (is_unstruck a k.round []) (lasts a (suc k.round)) alike s.counts k.stage.counts_are;
        words_are =
            words-alike a is (is_unstruck a k.round []) (lasts a (suc k.round)) alike s.values k.stage.words_are;
        filed_are = k.stage.filed_are;
      }

  -- a round that files nothing is the last
  pub round-last : (r : ℕ) → r < (graph_of s.game).configurations → IsStage (lasts a (suc r)) s
      → filed_at s (suc r) ≡ [] → IsLast a (suc r)
  round-last r i stage none = record {
    lasting = λ x j one. elim (true_or_false (lasts a (suc (suc r)) x)) [
      | inl more ↦ more
      | inr fails ↦ absurd (
          let word = word-at a is (lasts a (suc r)) s.values (suc r) x j stage.words_are
          (stage.words_are.opened x j ∙ fails) one fails in
          let there = filed-there s (suc r) x stage.filed_are (omega arith) j word in
          let gone = ap (times x) none in
          omega arith)
    ];
  }

  pub some_in : (xs : List ℕ) → length xs ≢ 0 → (x : ℕ) × (0 < times x xs)
  some_in [] d = absurd (d refl)
  some_in (x ∷ xs) d = (x, times-here x x xs refl)

  -- after a round that files configurations fewer last
  pub round-further : (r : ℕ) → r < (graph_of s.game).configurations
      → count_below ((graph_of s.game).configurations) (lasts a r) + r ≤ (graph_of s.game).configurations
      → IsStage (lasts a (suc r)) s → length (filed_at s (suc r)) ≢ 0
      → (0 < count_below ((graph_of s.game).configurations) (lasts a (suc r)))
      × (count_below ((graph_of s.game).configurations) (lasts a (suc r)) + suc r ≤ (graph_of s.game).configurations)
  round-further r i bound stage filed =
      let found = some_in (filed_at s (suc r)) filed in
      let x = found.0 in
      let j : x < (graph_of s.game).configurations = stage.filed_are.below (suc r) x found.1 in
      let word = filed-lasts (lasts a (suc r)) (suc r) x stage.words_are stage.filed_are (omega arith) found.1 in
      let n = (graph_of s.game).configurations in
      let fewer : count_below n (lasts a (suc r)) < count_below n (lasts a r) =
      elim (cases_lt (count_below n (lasts a (suc r))) (count_below n (lasts a r))) [
        | inl less ↦ less
        | inr as_many ↦ absurd (true_not_false (lasts a (suc (suc r)) x)
            (lasts-forever a is r (λ y k e. elim (true_or_false (lasts a (suc r) y)) [
              | inl more ↦ more
              | inr fails ↦ absurd (let less =
                  count_below-less n y (lasts a (suc r)) (lasts a r) k fails e (λ z m. lasts-less a is r z m) in
                  omega arith)
            ]) (suc (suc r)) x j (lasts-less a is r x j word.0)) word.1)
      ] in
      (count_below-some n (lasts a (suc r)) x j word.0, omega arith)

-- ---- the state of a machine

not_true : false ≡ true → ⊥
not_true e = cc

filed-turned : (s : PlainStage) → IsFiled s → IsFiled (at_next_value s)
filed-turned s f =
    record { values_length = f.values_length; lists_length = f.lists_length; below = f.below; once = f.once }

pub start-state : (s : PlainStage) → IsBoard s.game.board → (graph_of s.game).configurations ≤ MAX_CONFIGURATIONS
    → configurations s.game.board ≤ MAX_CONFIGURATIONS → IsOpened s
    → IsState (at_next_value s) ((at_next_value s).value - 1) false
start-state s board few small opened =
    let some = some-configurations s.game board in
    let zero_is : 0 ≡ s.value + 1 - 1 = (let at = opened.value_is in omega arith) in
    subst (λ n. IsState (at_next_value s) n false) zero_is (record {
      is_board = board;
      is_graph = numbered-is s.game board;
      few = few;
      small = small;
      value_is = (let at = opened.value_is in omega arith);
      stage = record {
        counts_are = opened.stage.counts_are;
        words_are = opened.stage.words_are;
        filed_are = filed-turned s opened.stage.filed_are;
      };
      some = count_below-some (graph_of s.game).configurations (lasts (graph_of s.game) 0) 0 some refl;
      bound =
          (let most = count_below-bound (graph_of s.game).configurations (lasts (graph_of s.game) 0) in omega arith);
      last = λ e. absurd (not_true e);
      ascending = opened.ascending;
      last_filed = λ some. absurd (omega arith);
    })

map-ascends : (f : ℕ → ℕ) (from n : ℕ) → ((v w : ℕ) → v < w → w < from + n → f v < f w)
    → AllPairs (λ first second. first < second) (map f (range_with_len from n))
map-ascends f from n grows = λ i j d less low.
    let size = length-map-range_with_len f from n in
    let at = get_or-map-range_with_len f from n i (from + i) d (omega (arith, less, low, size)) refl in
    let next = get_or-map-range_with_len f from n j (from + j) d (omega (arith, low, size)) refl in
    rw (at, next) (grows (from + i) (from + j) (omega (arith, less)) (omega (arith, low, size)))

module _ (s : PlainStage) (round : ℕ) (is_done : Bool) (st : IsState s round is_done) where
  abbrev graph : PlainGraph
  graph = (graph_of s.game)

  is-graph : IsGraph graph
  is-graph = st.is_graph

  pub round-below : round < graph.configurations
  round-below = let some = st.some in let bound = st.bound in omega arith

  -- an open configuration lasts more requests than the rounds
  pub open-lasts : (x : ℕ) → x < graph.configurations → is_open s.values x ≡ true → lasts graph (suc round) x ≡ true
  open-lasts x i e = lasts-at-most graph is-graph (suc round) (suc (struck_rounds is_done round)) x i (later is_done)
      (sym (st.stage.words_are.opened x i) ∙ e)
    where
      later : (d : Bool) → suc round ≤ suc (struck_rounds d round)
      later true = omega arith
      later false = omega arith

  -- a configuration that lasts more requests than the rounds is open
  pub lasts-open : (x : ℕ) → x < graph.configurations → lasts graph (suc round) x ≡ true → is_open s.values x ≡ true
  lasts-open x i e = st.stage.words_are.opened x i ∙ by is_done refl
    where
      by : (d : Bool) → is_done ≡ d → lasts graph (suc (struck_rounds is_done round)) x ≡ true
      by true done = ap (λ d. lasts graph (suc (struck_rounds d round)) x) done ∙ (st.last done).lasting x i e
      by false going = ap (λ d. lasts graph (suc (struck_rounds d round)) x) going ∙ e

  -- the word of a configuration that isn't open is at most the number of rounds
  pub word-few : (x : ℕ) → x < graph.configurations → is_open s.values x ≡ false → slice_index s.values x ≤ round
  word-few x i shut = elim (cases_lt round (slice_index s.values x)) [
    | inr most ↦ most
    | inl more ↦ absurd (true_not_false (is_open s.values x)
        (lasts-open x i (lasts-at-most graph is-graph (suc round) (slice_index s.values x) x i (omega arith)
        (st.stage.words_are.lasting x i shut))) shut)
  ]

  pub word-value : (x : ℕ) → x < graph.configurations → is_open s.values x ≡ false
      → LastsExactly graph x (slice_index s.values x)
  word-value x i shut = record {
    is_rank = i;
    lasting = st.stage.words_are.lasting x i shut;
    stopping = st.stage.words_are.stopping x i shut;
  }

  -- a configuration with a value of at most the number of rounds has it as its word
  pub value-word : (j x : ℕ) → j ≤ round → LastsExactly graph x j
      → (is_open s.values x ≡ false) × (slice_index s.values x ≡ j)
  value-word j x most value =
      let i = value.is_rank in
      let shut : is_open s.values x ≡ false = elim (true_or_false (is_open s.values x)) [
        | inr shut ↦ shut
        | inl still ↦ absurd (true_not_false (lasts graph (suc j) x)
            (lasts-at-most graph is-graph (suc j) (suc round) x i (omega arith) (open-lasts x i still)) value.stopping)
      ] in (
        shut,
        word-at graph is-graph (lasts graph
            (struck_rounds is_done round)) s.values j x i st.stage.words_are shut value.lasting value.stopping,
      )

  pub forever-of : is_done ≡ true → (x : ℕ) → x < graph.configurations → lasts graph (suc round) x ≡ true
      → LastsForever graph x
  forever-of done x i e = λ depth. lasts-forever graph is-graph (suc round) (st.last done).lasting depth x i e

  -- a number lasts exactly the value of its configuration
  worth : (x v : ℕ) → x < graph.configurations
      → LastsExactly graph x v ↔ HasValue s.game.board (configuration_of s.game x) (Finite v)
  worth x v i = worth-is s.game.board graph (configuration_of s.game) is-graph (numbered-shows s.game st.is_board) x v i

  pub none-has : is_done ≡ true → NoneHas s.game.board (suc round)
  none-has done = λ c ok has.
      let x : ℕ = number_in s.game c in
      let i = number-below s.game st.is_board c ok in
      let exact = (worth x (suc round) i).1 ((number-value s.game st.is_board c ok (Finite (suc round))).0 has) in
      true_not_false (lasts graph (suc (suc round)) x) ((st.last done).lasting x i exact.lasting) exact.stopping

  pub filed-exactly : (v x : ℕ) → x < graph.configurations
      → (0 < times x (filed_at s v)) ↔ ((v ≤ round) × HasValue s.game.board (configuration_of s.game x) (Finite v))
  filed-exactly v x i = (
    λ h. let low = value-in-range s v x st.stage.filed_are h in
        let few = st.few in
        let word : slice_index s.values x ≡ v = filed-word s v x st.stage.filed_are low i h in
        let shut = valued_word s.values x (λ e. omega arith) in (
          subst (λ j. j ≤ round) word (word-few x i shut),
          (worth x v i).0 (subst (λ j. LastsExactly graph x j) word (word-value x i shut)),
        ),
    λ has. let word = value-word v x has.0 ((worth x v i).1 has.1) in
        let most : v ≤ round = has.0 in
        let below = round-below in
        filed-there s v x st.stage.filed_are (omega arith) i word.1,
  )

  -- the list of a gap has its open members
  pub source-shown : (g : ℕ) → g < graph.gaps
      → get_or (first_lists graph.gaps (open_members graph s.values)) g [] ≡ open_members graph s.values g
  source-shown g i = get_or-map-range_with_len (open_members graph s.values) 0 graph.gaps g g [] i (omega arith)

  cond_some : (c d : Bool) → c ≡ true → d ≡ true → 0 < cond {A = ℕ} (c && d) 1 0
  cond_some c d e f = rw (e, f) (omega arith)

  abbrev shown : Solving
  shown = record {
    game = s.game;
    rounds = round;
    is_done = is_done;
    buckets = s.buckets;
    sources = first_lists graph.gaps (open_members graph s.values);
    due = due_strikes s;
  }

  open-members : AreOpenMembers shown
  open-members = record {
    listed = λ g v i j.
        let x = graph.member g v in
        let x_in = is-graph.member_in g v i j in
        let count = member-times graph is-graph (is_open s.values) g i x in
        rw (source-shown g i) (
          λ h. tree_of_lasts s.game st.is_board (suc round) x x_in
              (open-lasts x x_in (both_true (is_open s.values x) (is_member graph g x) (times_true _ _ h count)).0),
          λ tree. let e = lasts_of_tree s.game st.is_board (suc round) x x_in tree in
              let some = cond_some (is_open s.values x) (is_member graph g x) (lasts-open x x_in e)
              (member-is graph g v x j refl) in
              omega arith,
        );
    once = λ g x i j. rw (source-shown g i)
        (let count = member-times graph is-graph (is_open s.values) g i x in
        let few = cond_few (is_open s.values x && is_member graph g x) in omega arith);
    members = λ g x i. rw (source-shown g i) (λ h.
        let m = members-are graph (is_open s.values) g 0 graph.places x h in
        let low = m.below in
        (m.label, omega arith, sym m.is));
    ascending = λ g i. rw (source-shown g i) (AllPairs-filter (λ first second. first < second) (is_open s.values) _
        (map-ascends (graph.member g) 0 graph.places (λ v w less low. is-graph.ascending g v w i less (omega arith))));
  }

  pub due-is : due_strikes s ≡ filter (is_struck graph) (filed_at s round)
  due-is = ap (λ v. filter (is_struck graph) (filed_at s v)) (let at = st.value_is in omega arith)

  pub solving_of : IsSolving shown
  solving_of = record {
    is_board = st.is_board;
    few = st.few;
    small = st.small;
    below = round-below;
    buckets = record {
      filed = filed-exactly;
      once = λ v x. filed-few s v x st.stage.filed_are;
      ranks = st.stage.filed_are.below;
      ascending = st.ascending;
    };
    sources = open-members;
    due = due-is;
    forever = λ done x i tree. forever_of_lasts s.game st.is_board x i
        (forever-of done x i (lasts_of_tree s.game st.is_board (suc round) x i tree));
  }

  -- a word says the value that the board gives to the configuration that its number stands for
  pub value-read : (x : ℕ) → x < graph.configurations → (o : Option ℕ) → o ≡ value_of_word (slice_index s.values x)
      → (v : ℕ) → (o ≡ Some v) ↔ ((v ≤ round) × HasValue s.game.board (configuration_of s.game x) (Finite v))
  value-read x i o is v =
      let word : ℕ = slice_index s.values x in
      elim (true_or_false (is_open s.values x)) [
        | inl still ↦
            let none : o ≡ None = is ∙ ap (λ (t : Bool). cond t None (Some word)) still in (
              λ e. absurd (none_some v (sym none ∙ e)),
              λ has. absurd (true_not_false (is_open s.values x) still
                  (value-word v x has.0 ((worth x v i).1 has.1)).0),
            )
        | inr shut ↦
            let some : o ≡ Some word = is ∙ ap (λ (t : Bool). cond t None (Some word)) shut in (
              λ e. let same : word ≡ v = some_same word v (sym some ∙ e) in (
                subst (λ j. j ≤ round) same (word-few x i shut),
                (worth x v i).0 (subst (λ j. LastsExactly graph x j) same (word-value x i shut)),
              ),
              λ has. some ∙ ap Some (value-word v x has.0 ((worth x v i).1 has.1)).1,
            )
      ]

  pub first-values : AreFirstValues shown (map value_of_word s.values)
  first-values x value i = value-read x i (slice_index_or (map value_of_word s.values) x None)
      (get_or-map value_of_word s.values x 0 None (let size = st.stage.filed_are.values_length in omega arith)) value

  pub counts-before : (g : ℕ) → g < graph.gaps → is_done ≡ false
      → HasSize (AnswerLasts s.game g round) (slice_index s.counts g)
  counts-before g i going =
      subst (HasSize (AnswerLasts s.game g round))
      (sym (st.stage.counts_are.counted g i
      ∙ ap (λ d. live_answers graph (lasts graph (struck_rounds d round)) g) going))
      (above-size s.game st.is_board round g i)

  pub first-counts : is_done ≡ false → AreFirstCounts shown s.counts
  first-counts going gap i = counts-before gap i going

  pub counts-after : (g : ℕ) → g < graph.gaps → is_done ≡ true
      → HasSize (AnswerForever s.game g) (slice_index s.counts g)
  counts-after g i done =
      subst (HasSize (AnswerForever s.game g))
      (sym (st.stage.counts_are.counted g i
      ∙ ap (λ d. live_answers graph (lasts graph (struck_rounds d round)) g) done))
      (live-size graph g (lasts graph (suc round))
      (λ v. HasValue s.game.board (configuration_of s.game (graph.member g v)) Forever) (λ v j.
      let low = is-graph.member_in g v i j in (
        λ e. forever_of_lasts s.game st.is_board (graph.member g v) low (forever-of done (graph.member g v) low e),
        λ forever. lasts_of_tree s.game st.is_board (suc round) (graph.member g v) low (forever (suc round)),
      )))

  -- ---- a round, from the state before it

  pub to-begin : is_done ≡ false → IsStriking s (due_strikes s)
  to-begin going = round-starts s st.is_graph st.few round round-below st.value_is (due_strikes s) due-is
      (subst (λ d. IsStage (lasts graph (struck_rounds d round)) s) going st.stage)

  -- before a round nothing of its value is struck
  pub unstruck-of : is_done ≡ false → IsUnstruck s
  unstruck-of going = record {
    is_board = st.is_board;
    round = round;
    value_is = st.value_is;
    small = record {
      is_graph = st.is_graph;
      few = st.few;
      low = (let at = st.value_is in let below = round-below in omega arith);
    };
    stage = subst (λ d. IsStage (lasts graph (struck_rounds d round)) s) going st.stage;
  }

  module _ (s' : PlainStage) (struck : IsStriking s' []) (kept : IsKeptStage s s') where
    value_is : s'.value ≡ suc round
    value_is = kept.value_is ∙ st.value_is

    same_round : suc struck.round ≡ suc round
    same_round = sym struck.value_is ∙ value_is

    graph' : IsGraph (graph_of s'.game)
    graph' = subst IsGraph (sym (ap graph_of kept.game_is)) st.is_graph

    board' : IsBoard s'.game.board
    board' = subst (λ (n : Numbered). IsBoard n.board) (sym kept.game_is) st.is_board

    few' : (graph_of s'.game).configurations ≤ MAX_CONFIGURATIONS
    few' = subst (λ (p : PlainGraph). p.configurations ≤ MAX_CONFIGURATIONS) (sym (ap graph_of kept.game_is)) st.few

    small' : configurations s'.game.board ≤ MAX_CONFIGURATIONS
    small' = subst (λ (n : Numbered). configurations n.board ≤ MAX_CONFIGURATIONS) (sym kept.game_is) st.small

    below' : round < (graph_of s'.game).configurations
    below' = subst (λ (p : PlainGraph). round < p.configurations) (sym (ap graph_of kept.game_is)) round-below

    after : IsStage (lasts ((graph_of s'.game)) (suc round)) s'
    after = subst (λ n. IsStage (lasts ((graph_of s'.game)) n) s') same_round (round-ends s' graph' few' struck)

    other : (v : ℕ) → v ≤ round → filed_at s' v ≡ filed_at s v
    other v most = kept.others v (λ e. let at = st.value_is in omega arith)

    pub last-state : length (filed_at s' s'.value) ≡ 0 → IsState s' round true
    last-state none = record {
      is_board = board';
      is_graph = graph';
      few = few';
      small = small';
      value_is = value_is;
      stage = after;
      some = subst (λ (p : PlainGraph). 0 < count_below p.configurations (lasts p round))
          (sym (ap graph_of kept.game_is)) st.some;
      bound = subst (λ (p : PlainGraph). count_below p.configurations (lasts p round) + round ≤ p.configurations)
          (sym (ap graph_of kept.game_is)) st.bound;
      last = λ e. round-last s' graph' few' round below' after
          (ap (filed_at s') (sym value_is) ∙ empty (filed_at s' s'.value) none);
      ascending = subst (λ (xs : List ℕ). AllPairs (λ first second. first < second) xs)
          (sym (other 0 (omega arith))) st.ascending;
      last_filed =
          λ some. subst (λ (xs : List ℕ). 0 < length xs) (sym (other round (omega arith))) (st.last_filed some);
    }
      where
        empty : (xs : List ℕ) → length xs ≡ 0 → xs ≡ []
        empty [] e = refl
        empty (x ∷ xs) e = absurd (omega arith)

    some_length : (n : ℕ) → n ≢ 0 → 0 < n
    some_length n d = omega (arith, d)

    further : length (filed_at s' s'.value) ≢ 0
        → (0 < count_below ((graph_of s'.game).configurations) (lasts ((graph_of s'.game)) (suc round)))
        × (count_below ((graph_of s'.game).configurations) (lasts ((graph_of s'.game)) (suc round)) + suc round ≤
        (graph_of s'.game).configurations)
    further some = round-further s' graph' few' round below'
        (subst (λ (p : PlainGraph). count_below p.configurations (lasts p round) + round ≤ p.configurations)
        (sym (ap graph_of kept.game_is)) st.bound) after
        (λ none. some (ap (λ v. length (filed_at s' v)) value_is ∙ none))

    -- the next value is below the number of configurations
    pub next-below : length (filed_at s' s'.value) ≢ 0 → s'.value < (graph_of s'.game).configurations
    next-below some =
        let more = further some in let one = more.0 in let all = more.1 in let at = value_is in omega arith

    pub further-state : is_done ≡ false → length (filed_at s' s'.value) ≢ 0
        → IsState (at_next_value s') (suc round) false
    further-state going some =
        let more = further some in record {
          is_board = board';
          is_graph = graph';
          few = few';
          small = small';
          value_is = (let at = value_is in omega arith);
          stage = record {
            counts_are = after.counts_are;
            words_are = after.words_are;
            filed_are = filed-turned s' after.filed_are;
          };
          some = more.0;
          bound = more.1;
          last = λ e. absurd (not_true e);
          ascending = subst (λ (xs : List ℕ). AllPairs (λ first second. first < second) xs)
              (sym (other 0 (omega arith))) st.ascending;
          last_filed =
              λ _. subst (λ v. 0 < length (filed_at s' v)) value_is (some_length (length (filed_at s' s'.value)) some);
        }
