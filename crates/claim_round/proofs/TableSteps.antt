-- Each step on the table keeps the rule: it is one step more of the history, or none.
use Rattle.std.proofs.Common.{◌≡◌, ◌≢◌, ℕ, zero, suc, ◌+◌, ◌-◌, ◌*◌, ◌%◌, ◌^◌, ◌<◌, ◌≤◌, ◌==◌, Bool, true, false, cond}
use Rattle.std.proofs.Common.{eqb, List, [], ◌∷◌, ◌++◌, length, drop, set, get_or, refl, sym, ap, ◌∙◌, subst, inl, inr}
use Rattle.std.proofs.Common.{arith, Some, None}
use Rattle.graphs.specs.Numbered.{graph_of}
use Rattle.std.specs.Prelude.{slice_index}
use Rattle.std.proofs.lemmas.List.{map-set, map_push, length-map, length-take, length-drop}
use Rattle.std.proofs.lemmas.List.Elements.{All-push, All-set}
use Rattle.std.specs.List.{sum_by}
use mathlib.Core.Option.{none, some, some-ne-none}
use prog.Atomic.{either}
use lib.ListN.{get_elem?}
use Rattle.atomic_table.specs.Table.{State, Me, step, keeps, Allows, Splits, Joins}
use Rattle.atomic_table.proofs.Lists.{exchanged, set_again}
use Rattle.index_lists.specs.Lists.{times}
use Rattle.index_lists.proofs.Cited.{distinct-length, same_is, differ_is}
use Rattle.solver.specs.Solving.{Solving, source}
use Rattle.retro_core.specs.Round.{PlainSeat, IsLawful, spent_seat, first_of, seat_struck, seat_tried, seat_kept}
use Rattle.retro_core.specs.Round.{seat_new, seat_joined}
use Rattle.retro_core.specs.declared.step.Step.TheVariants as steps
use Rattle.retro_core.specs.declared.step.Seen.TheVariants as seen
use Rattle.retro_core.specs.Stepping.{Does}
use Rattle.graphs.proofs.Cited.{same_or_not}
use Rattle.claim_round.specs.Shared.{Key, View, kept_part, new_part, view_joined}
use Rattle.claim_round.specs.History.{IsHistory, seats_of}
use Rattle.claim_round.specs.Rule.{Unit0, Kept, KnowsRound, most_members, size, entry_bound, spent_view}
use Rattle.claim_round.specs.Plays.{TableStrikes, TableTries, Looks, IsBounded, view_struck, view_tried}
use Rattle.claim_round.specs.declared.words.TheConstants.{OPEN}
use Rattle.solver.specs.Words.{value_of_word}
use Rattle.claim_round.specs.Words.{round_of_words}
use Rattle.claim_round.proofs.Histories.{history-lawful, history-call, history-split, history-join, IsToldBy}
use Rattle.claim_round.proofs.WordSteps.{word-strike, word-try}
use Rattle.claim_round.proofs.Loads.{few_members, load_struck, load_claimed, load_cut, load_glue}
use Rattle.claim_round.proofs.Totals.{get_elsewhere, knows_at, seat_read, total_at, total_set, total_cut, total_glue}
use Rattle.claim_round.proofs.Totals.{width_at, won_total, view_at}

pub put_back : (l : List ℕ) (i : ℕ) → set l i (get_or l i 0) ≡ l
put_back [] i = refl
put_back (x ∷ xs) zero = refl
put_back (x ∷ xs) (suc i) = ap (λ (ys : List ℕ). x ∷ ys) (put_back xs i)

-- there are as many words as gaps and configurations together
pub words_length : (s : Solving) (w : ℕ) (words : List ℕ) (seats : List PlainSeat)
    → IsLawful (round_of_words s w words seats)
    → length words ≡ (graph_of s.game).gaps + (graph_of s.game).configurations
words_length s w words seats law =
    let G : ℕ = (graph_of s.game).gaps in
    let a = length-take G words in
    let b = length-drop G words in
    let m = length-map (drop G words) value_of_word in
    let c = law.counts_length in
    let v = law.values_length in
    by_sizes (length words) G ((graph_of s.game).configurations) (omega arith) (omega arith)
  where
    by_sizes : (n g c : ℕ) → g ≤ n → n - g ≡ c → n ≡ g + c
    by_sizes n g c low e = omega arith

-- a state of the table that keeps the rule is a lawful round
pub kept-lawful : (k : Key) (s : State Unit0 View) → Kept k s
    → IsLawful (round_of_words k.solving k.width s.words (seats_of s.views))
kept-lawful k s kept = history-lawful k s.words s.views kept.solving kept.history

-- the seat's next call comes after all steps that it knows
since_at : (k : Key) (s : State Unit0 View) (kept : Kept k s) (id : ℕ) (v : View) → get_elem? s.views id ≡ some v
    → v.since ≤ length kept.history.steps
since_at k s kept id v at = (view_at (IsToldBy kept.history.steps) s.views id v kept.history.told at).1

-- a view that has a width and the round's key knows the round
known : (k : Key) (v : View) → v.key ≡ k → 0 < v.has.width → KnowsRound k v
known k v same wide = record { round = λ _. same; nothing = λ none. absurd (omega arith) }

pub strike_allowed : (k : Key) (slots id : ℕ) (me : Me Unit0 View) (gap : ℕ) → 0 < me.0.has.width
    → 0 < length me.0.has.todo
    → gap ≡ (graph_of k.solving.game).struck (first_of me.0.has.todo)
    → Allows (Kept k) slots id me gap (λ n. (n + (2 ^ 64 - 1)) % 2 ^ 64) (TableStrikes (step slots gap 1 0 none) me)
strike_allowed k slots id me gap wide some_todo gap_is s kept same at small =
    let v : View = me.0 in
    let n : ℕ = slice_index s.words gap in
    let place : ℕ = length kept.history.steps in
    let w : View = view_struck v gap n place in
    let seats : List PlainSeat = seats_of s.views in
    let knows : v.key ≡ k = knows_at k s.views id v kept.knows at wide in
    let after : set seats id (seat_struck k.solving gap n v.has) ≡ seats_of (set s.views id w) =
    ap (λ (q : Key). set seats id (seat_struck q.solving gap n v.has)) (sym knows)
    ∙ sym (map-set (λ (u : View). u.has) s.views id w) in
    let done = word-strike k.solving k.width s.words seats kept.solving (kept-lawful k s kept) id v.has
    (seat_read s.views id v at) gap (seats_of (set s.views id w)) some_todo gap_is after in
    let low : gap < (graph_of k.solving.game).gaps = done.gap_in in
    let history : IsHistory k (set s.words gap (n - 1)) (set s.views id w) =
    history-call k s.words (set s.words gap (n - 1)) s.views kept.history (steps.Strike id)
    (seen.Struck (first_of v.has.todo) (cond (n == 1) (Some gap) None)) id v w at done.strikes refl refl refl in
    let few : sum_by (entry_bound (most_members k)) (set s.views id w) ≤ most_members k * size k = (
    let sum = total_set (entry_bound (most_members k)) s.views id v w at in
    let members : length (source v.key.solving gap) ≤ most_members k =
    subst (λ (q : Key). length (source q.solving gap) ≤ most_members k) (sym knows)
    (few_members k.solving kept.solving gap low) in
    let less = load_struck (most_members k) v gap n place some_todo members in
    let f = kept.few in
    omega arith) in
    let P : ℕ → Type 0 = λ m. Kept k
    (record { words = set s.words gap m; homes = s.homes; views = set s.views id w }) in
    let kept' : P (n - 1) = record {
      solving = kept.solving;
      history = history;
      knows = All-set (KnowsRound k) s.views id w (known k w knows wide) kept.knows;
      few = few;
    } in
    let positive : 0 < n = done.some_left in
    let fits : n < 18446744073709551616 = small in
    let less : n - 1 ≡ (n + 18446744073709551615) % 18446744073709551616 = omega arith in
    (w, keeps, tt, subst P less kept', (place, since_at k s kept id v at, refl, refl, positive))

-- the won list of a seat has no repetitions, and at most as many entries as there are configurations
won_few : (k : Key) (words : List ℕ) (views : List View) (id : ℕ) (v : View)
    → IsLawful (round_of_words k.solving k.width words (seats_of views)) → get_elem? views id ≡ some v
    → ((x : ℕ) → times x v.has.won ≤ 1) × (length v.has.won ≤ size k)
won_few k words views id v law at =
    let once : (x : ℕ) → times x v.has.won ≤ 1 = λ x.
    let all = won_total x views in let part = total_at (λ u. times x u.has.won) views id v at in let o =
    law.won_once x in omega arith in (
      once,
      distinct-length (size k) v.has.won once (λ x high. elim (same_or_not (times x v.has.won) 0) [
        | inl never ↦ never
        | inr once_or_more ↦ absurd (
            let all = won_total x views in
            let part = total_at (λ u. times x u.has.won) views id v at in
            let low = (law.won x (omega arith)).is_rank in
            omega arith)
      ]),
    )

pub claim_allowed : (k : Key) (slots id : ℕ) (me : Me Unit0 View) (i next : ℕ)
    → k.solving.rounds < (graph_of k.solving.game).configurations → 0 < me.0.has.width → 0 < length me.0.has.owed
    → i ≡ (graph_of k.solving.game).gaps + first_of me.0.has.owed → next ≡ suc k.solving.rounds
    → Allows (Kept k) slots id me i (λ n. either (eqb n OPEN) next n) (TableTries (step slots i OPEN next none) me)
claim_allowed k slots id me i next below wide some_owed here is_next s kept same at small =
    let v : View = me.0 in
    let n : ℕ = slice_index s.words i in
    let place : ℕ = length kept.history.steps in
    let w : View = view_tried v n place in
    let seats : List PlainSeat = seats_of s.views in
    let c : ℕ = first_of v.has.owed in
    let G : ℕ = (graph_of k.solving.game).gaps in
    let r : ℕ = suc k.solving.rounds in
    let knows : v.key ≡ k = knows_at k s.views id v kept.knows at wide in
    let top = kept.solving.few in
    let not_open : r ≢ OPEN = λ e. absurd (omega arith) in
    let is : slice_index s.words (G + c) ≡ n = ap (slice_index s.words) (sym here) in
    let P : ℕ → Type 0 = λ m. Kept k (record { words = set s.words i m; homes = s.homes; views = set s.views id w }) in
    let keep : (m : ℕ) → IsHistory k (set s.words i m) (set s.views id w) → P m = λ m history. record {
      solving = kept.solving;
      history = history;
      knows = All-set (KnowsRound k) s.views id w (known k w knows wide) kept.knows;
      few = (let sum = total_set (entry_bound (most_members k)) s.views id v w at in let less =
          load_claimed (most_members k) v n place in let f = kept.few in omega arith);
    } in
    let after : Bool → List PlainSeat = λ won. set seats id (seat_tried won v.has) in
    let now : (won : Bool) → (n == OPEN) ≡ won → after won ≡ seats_of (set s.views id w) = λ won e.
    ap (λ (o : Bool). set seats id (seat_tried o v.has)) (sym e) ∙ sym (map-set (λ (u : View). u.has) s.views id w) in
    let done = word-try k.solving k.width s.words seats kept.solving (kept-lawful k s kept) id v.has
    (seat_read s.views id v at) after not_open some_owed (λ won. refl) in
    let all : P (either (eqb n OPEN) next n) = elim done [
      | inl won ↦ (
          let hit : n ≡ OPEN = sym is ∙ won.is_open in
          let is_won : (n == OPEN) ≡ true = same_is n OPEN hit in
          let does : Does (round_of_words k.solving k.width s.words seats) (steps.Try id) (seen.Tried c (n == OPEN))
          (round_of_words k.solving k.width (set s.words i next) (seats_of (set s.views id w))) =
          subst (λ (p : Bool × ℕ × ℕ × List PlainSeat). Does (round_of_words k.solving k.width s.words seats)
          (steps.Try id) (seen.Tried c p.0) (round_of_words k.solving k.width (set s.words p.1 p.2) p.3))
          (λ j. (sym is_won j, sym here j, sym is_next j, now true is_won j)) won.tries in
          exchanged n OPEN next P (λ _. keep next
          (history-call k s.words (set s.words i next) s.views kept.history (steps.Try id)
          (seen.Tried c (n == OPEN)) id v w at does refl refl refl)) (λ miss. absurd (miss hit)))
      | inr lost ↦ (
          let word : n ≡ r = sym is ∙ lost.has_next in
          let miss : n ≢ OPEN = λ e. not_open (sym word ∙ e) in
          let is_lost : (n == OPEN) ≡ false = differ_is n OPEN miss in
          let does : Does (round_of_words k.solving k.width s.words seats) (steps.Try id) (seen.Tried c (n == OPEN))
          (round_of_words k.solving k.width (set s.words i n) (seats_of (set s.views id w))) =
          subst (λ (p : Bool × List ℕ × List PlainSeat). Does (round_of_words k.solving k.width s.words seats)
          (steps.Try id) (seen.Tried c p.0) (round_of_words k.solving k.width p.1 p.2))
          (λ j. (sym is_lost j, sym (put_back s.words i) j, now false is_lost j)) lost.tries in
          exchanged n OPEN next P (λ hit. absurd (miss hit))
          (λ _. keep n (history-call k s.words (set s.words i n) s.views kept.history (steps.Try id)
          (seen.Tried c (n == OPEN)) id v w at does refl refl refl)))
    ] in
    let bounded = won_few k (set s.words i (either (eqb n OPEN) next n)) (set s.views id w) id w
    (history-lawful k (set s.words i (either (eqb n OPEN) next n)) (set s.views id w) kept.solving all.history)
    (set_there s.views id v w at) in (
      w,
      keeps,
      tt,
      all,
      (
        place,
        since_at k s kept id v at,
        refl,
        refl,
        subst (λ (q : Key). length w.has.won ≤ size q) (sym knows) bounded.1,
      ),
    )
  where
    set_there : (views : List View) (j : ℕ) (v u : View) → get_elem? views j ≡ some v
        → get_elem? (set views j u) j ≡ some u
    set_there [] j v u e = absurd (some-ne-none v (sym e))
    set_there (x ∷ xs) zero v u e = refl
    set_there (x ∷ xs) (suc j) v u e = set_there xs j v u e

pub split_allowed : (k : Key) (id : ℕ) (v : View) → 2 ≤ v.has.width → Splits (Kept k) id v (kept_part v) (new_part v)
split_allowed k id v wide s kept at =
    let a : View = kept_part v in
    let b : View = new_part v in
    let seats : List PlainSeat = seats_of s.views in
    let read : get_or seats id spent_seat ≡ v.has = seat_read s.views id v at in
    let knows : v.key ≡ k = knows_at k s.views id v kept.knows at (omega arith) in
    let after : set seats id (seat_kept (get_or seats id spent_seat)) ++ seat_new (get_or seats id spent_seat) ∷ []
    ≡ seats_of (set s.views id a ++ b ∷ []) =
    ap (λ (u : PlainSeat). set seats id (seat_kept u) ++ seat_new u ∷ []) read
    ∙ ap (λ (l : List PlainSeat). l ++ seat_new v.has ∷ []) (sym (map-set (λ (u : View). u.has) s.views id a))
    ∙ sym (map_push (λ (u : View). u.has) (set s.views id a) b) in
    let does : Does (round_of_words k.solving k.width s.words seats) (steps.Split id) (seen.Parted (length seats))
    (round_of_words k.solving k.width s.words (seats_of (set s.views id a ++ b ∷ []))) = record {
      wide = subst (λ (u : PlainSeat). 2 ≤ u.width) (sym read) wide;
      next_number = refl;
      after_is = ap (λ (l : List PlainSeat). round_of_words k.solving k.width s.words l) (sym after);
    } in
    record {
      solving = kept.solving;
      history = history-split k s.words s.words s.views kept.history (steps.Split id)
          (seen.Parted (length seats)) id v a b at does refl refl refl refl refl;
      knows = All-push (KnowsRound k) (set s.views id a) b
          (All-set (KnowsRound k) s.views id a (known k a knows (omega arith)) kept.knows)
          (known k b knows (omega arith));
      few = subst (λ n. n ≤ most_members k * size k)
          (sym (total_cut (entry_bound (most_members k)) s.views id v a b at (load_cut (most_members k) v))) kept.few;
    }

pub join_allowed : (k : Key) (id : ℕ) (v : View) (other : ℕ) (u : View) → 0 < v.has.width → 0 < u.has.width
    → Joins (Kept k) id v other u (view_joined v u) spent_view
join_allowed k id v other u wide other_wide s kept at apart there =
    let a : View = view_joined v u in
    let seats : List PlainSeat = seats_of s.views in
    let differ : id ≢ other = λ e. apart (sym e) in
    let there' : get_elem? s.views other ≡ some u = sym (get_elsewhere s.views id other a differ) ∙ there in
    let read : get_or seats id spent_seat ≡ v.has = seat_read s.views id v at in
    let other_read : get_or seats other spent_seat ≡ u.has = seat_read s.views other u there' in
    let knows : v.key ≡ k = knows_at k s.views id v kept.knows at wide in
    let after : set (set seats id (seat_joined (get_or seats id spent_seat)
    (get_or seats other spent_seat))) other spent_seat ≡ seats_of (set (set s.views id a) other spent_view) =
    ap (λ (p : PlainSeat × PlainSeat). set (set seats id (seat_joined p.0 p.1)) other spent_seat)
    (λ j. (read j, other_read j))
    ∙ ap (λ (l : List PlainSeat). set l other spent_seat) (sym (map-set (λ (w : View). w.has) s.views id a))
    ∙ sym (map-set (λ (w : View). w.has) (set s.views id a) other spent_view) in
    let does : Does (round_of_words k.solving k.width s.words seats) (steps.Join id other) seen.Joined
    (round_of_words k.solving k.width s.words (seats_of (set (set s.views id a) other spent_view))) = record {
      differ = differ;
      has_into = subst (λ (w : PlainSeat). 0 < w.width) (sym read) wide;
      has_from = subst (λ (w : PlainSeat). 0 < w.width) (sym other_read) other_wide;
      after_is = ap (λ (l : List PlainSeat). round_of_words k.solving k.width s.words l) (sym after);
    } in
    record {
      solving = kept.solving;
      history = history-join k s.words s.words s.views kept.history
          (steps.Join id other) seen.Joined id other v u a spent_view at there' there does refl refl refl refl refl;
      knows = All-set (KnowsRound k) (set s.views id a) other spent_view
          (record { round = λ h. absurd (omega arith); nothing = λ _. refl })
          (All-set (KnowsRound k) s.views id a (known k a knows (omega arith)) kept.knows);
      few = subst (λ n. n ≤ most_members k * size k)
          (sym (total_glue (entry_bound (most_members k)) s.views id other v u a spent_view at there
          (let l = load_glue (most_members k) v u in omega arith))) kept.few;
    }

pub look_allowed : (k : Key) (slots id : ℕ) (me : Me Unit0 View) (i : ℕ) → 0 < me.0.has.width
    → Allows (Kept k) slots id me i (λ n. n) (Looks (step slots i 0 0 none) me)
look_allowed k slots id me i wide s kept same at small =
    let v : View = me.0 in
    let law = kept-lawful k s kept in
    let knows : v.key ≡ k = knows_at k s.views id v kept.knows at wide in
    let few = won_few k s.words s.views id v law at in
    let bounded : IsBounded v = record {
      width = subst (λ (q : Key). v.has.width ≤ q.width) (sym knows)
          (let all = law.widths in let part = width_at (seats_of s.views) id in let here =
          ap (λ (u : PlainSeat). u.width) (seat_read s.views id v at) in omega arith);
      once = few.0;
      won = subst (λ (q : Key). length v.has.won ≤ size q) (sym knows) few.1;
      load = subst (λ (q : Key). entry_bound (most_members q) v ≤ most_members q * size q) (sym knows)
          (let a = total_at (entry_bound (most_members k)) s.views id v at in let f = kept.few in omega arith);
    } in
    let P : List ℕ × List View → Type 0 = λ p. Kept k (record { words = p.0; homes = s.homes; views = p.1 }) in
    let as_it_was : P (set s.words i (get_or s.words i 0), set s.views id v) =
    subst P (λ j. (sym (put_back s.words i) j, sym (set_again s.views id v at) j)) kept in
    (v, keeps, tt, as_it_was, (refl, bounded))
