-- Each step of a round keeps its rules.
use Rattle.std.proofs.Common.{drop, ◌≡◌, ◌≢◌, ◌⊎◌, ℕ, zero, suc, ◌+◌, ◌-◌, ◌/◌, ◌<◌, ◌≤◌, ◌==◌, true, false, cond, List}
use Rattle.std.proofs.Common.{[], ◌∷◌, ◌++◌, length, set, refl, sym, ap, ◌∙◌, inl, inr, subst, arith, Option, Some}
use Rattle.std.proofs.Common.{None, slice_get}
use Rattle.std.specs.List.{All, sum_by}
use Rattle.std.proofs.lemmas.List.Elements.{All-cons, All-push, All-set}
use Rattle.std.proofs.lemmas.List.Sums.{sum_by-le-sum_by}
use Rattle.index_lists.specs.Lists.{times}
use Rattle.index_lists.proofs.Cited.{cond_same, cond_other, times-append}
use Rattle.retro_core.specs.Round.{PlainSeat, spent_seat, first_of, seat_tried, seat_kept, seat_new, seat_joined}
use Rattle.retro_core.proofs.Rules.{Fits, Rules, IsStruckIn, IsToWin, value_word, held_in, AreSound, AreReadyLists}
use Rattle.retro_core.proofs.Rules.{AreKept}
use Rattle.graphs.proofs.Cited.{same_or_not}
use Rattle.solver.specs.Striking.{tally}
use Rattle.retro_core.proofs.SeatSums.{total-set, total-at, total-cut, total-glue, times-cut, tally-append, tally-cut}

one_if : (x y : ℕ) → x ≡ y → ◌≡◌ {A = ℕ} (cond (x == y) 1 0) 1
one_if x y e = cond_same {A = ℕ} x y 1 0 e

none_if : (x y : ℕ) → x ≢ y → ◌≡◌ {A = ℕ} (cond (x == y) 1 0) 0
none_if x y ne = cond_other {A = ℕ} x y 1 0 ne

pub times_here : (x : ℕ) (xs : List ℕ) → times x (x ∷ xs) ≡ 1 + times x xs
times_here x xs = let h = one_if x x refl in omega arith

-- a list is its first element and the rest
pub split_first : (xs : List ℕ) → 0 < length xs → xs ≡ first_of xs ∷ drop 1 xs
split_first [] h = absurd (omega arith)
split_first (x ∷ xs) h = refl

pub word_none : (k : Rules) (c n : ℕ) → n ≡ 0 → value_word k c n ≡ k.base c
word_none k c zero e = refl
word_none k c (suc n) e = absurd (omega arith)

pub word_some : (k : Rules) (c n : ℕ) → 0 < n → value_word k c n ≡ Some (suc k.round)
word_some k c zero h = absurd (omega arith)
word_some k c (suc n) h = refl

one_more : (x c : ℕ) (xs : List ℕ) → times x (xs ++ c ∷ []) ≡ times x xs + cond (c == x) 1 0
one_more x c xs = let r = times-append x xs (c ∷ []) in omega arith

-- the seat after a strike that found the count n
abbrev pub seat_after : Rules → ℕ → PlainSeat → PlainSeat
seat_after k n v =
    record v { todo = drop 1 v.todo; owed = cond (n == 1) (v.owed ++ k.opens (k.home (first_of v.todo))) v.owed }

-- the entries of the owed list after a strike
owed-after : (k : Rules) (v : PlainSeat) (n x : ℕ)
    → ((n ≡ 1) × (times x (seat_after k n v).owed ≡ times x v.owed + times x (k.opens (k.home (first_of v.todo)))))
    ⊎ ((n ≢ 1) × (times x (seat_after k n v).owed ≡ times x v.owed))
owed-after k v n x =
    let more : List ℕ = k.opens (k.home (first_of v.todo)) in
    elim (same_or_not n 1) [
      | inl e ↦ inl (e, ap (times x) (cond_same n 1 (v.owed ++ more) v.owed e) ∙ times-append x v.owed more)
      | inr ne ↦ inr (ne, ap (times x) (cond_other n 1 (v.owed ++ more) v.owed ne))
    ]

-- a seat that struck, and the words after it
pub record AreStruck (k : Rules) (count : ℕ → ℕ) (value : ℕ → Option ℕ) (seats : List PlainSeat) (id : ℕ)
    (v : PlainSeat) (count' : ℕ → ℕ) : Type 0 where
  pub some_left : 0 < count (k.home (first_of v.todo))
  pub kept : AreKept k count' value (set seats id (seat_after k (count (k.home (first_of v.todo))) v))

-- the first owed configuration is open, and the claim that wins it keeps the rules
pub record IsWon (k : Rules) (count : ℕ → ℕ) (value : ℕ → Option ℕ) (seats : List PlainSeat) (id : ℕ) (v : PlainSeat)
    (value' : ℕ → Option ℕ) : Type 0 where
  pub open_yet : value (first_of v.owed) ≡ None
  pub kept : value' (first_of v.owed) ≡ Some (suc k.round)
      → ((x : ℕ) → x < k.size → x ≢ first_of v.owed → value' x ≡ value x)
      → AreKept k count value' (set seats id (seat_tried true v))

pub record IsNotWon (k : Rules) (count : ℕ → ℕ) (value : ℕ → Option ℕ) (seats : List PlainSeat) (id : ℕ)
    (v : PlainSeat) : Type 0 where
  pub has_next : value (first_of v.owed) ≡ Some (suc k.round)
  pub stands : 0 < sum_by (λ u. times (first_of v.owed) u.won) seats
  pub kept : AreKept k count value (set seats id (seat_tried false v))

-- seats that keep the rules
module _ (k : Rules) (count : ℕ → ℕ) (value : ℕ → Option ℕ) (seats : List PlainSeat)
    (law : AreKept k count value seats) where
  -- seats whose lists together are the same keep the rules too
  same-kept : (all : List PlainSeat)
      → ((x : ℕ) → sum_by (λ u. times x u.todo) all ≡ sum_by (λ u. times x u.todo) seats)
      → ((g : ℕ) → sum_by (λ u. tally k.home g u.todo) all ≡ sum_by (λ u. tally k.home g u.todo) seats)
      → ((x : ℕ) → sum_by (λ u. times x u.won) all ≡ sum_by (λ u. times x u.won) seats)
      → ((x : ℕ) → sum_by (held_in x) all ≡ sum_by (held_in x) seats)
      → sum_by (λ u. u.width) all ≡ sum_by (λ u. u.width) seats → All Fits all → AreKept k count value all
  same-kept all todo tallies won held width fits = record {
    values = λ x small. law.values x small ∙ ap (value_word k x) (sym (won x));
    due = λ x there. law.due x (let s = todo x in omega arith);
    due_once = λ x. let s = todo x in let o = law.due_once x in omega arith;
    counts = λ g small. let s = tallies g in let o = law.counts g small in omega arith;
    next = λ x there. law.next x (let s = held x in omega arith);
    won_once = λ x. let s = won x in let o = law.won_once x in omega arith;
    closed = λ g x small none_left there. let o = law.closed g x small none_left there in let s = held x in omega arith;
    widths = width ∙ law.widths;
    fits = fits;
  }

  -- one of them
  module _ (id : ℕ) (v : PlainSeat) (at : slice_get seats id ≡ Some v) where
    pub strikes : (count' : ℕ → ℕ) → 0 < v.width → 0 < length v.todo
        → count' (k.home (first_of v.todo)) ≡ count (k.home (first_of v.todo)) - 1
        → ((g : ℕ) → g < k.gaps → g ≢ k.home (first_of v.todo) → count' g ≡ count g)
        → AreStruck k count value seats id v count'
    strikes count' wide some_todo here elsewhere =
        let c : ℕ = first_of v.todo in
        let more : List ℕ = drop 1 v.todo in
        let g : ℕ = k.home c in
        let n : ℕ = count g in
        let w : PlainSeat = seat_after k n v in
        let cut : v.todo ≡ c ∷ more = split_first v.todo some_todo in
        let one_todo : times c v.todo ≡ 1 + times c more = ap (times c) cut ∙ times_here c more in
        let part_todo = total-at (λ u. times c u.todo) seats id v at in
        let may : IsStruckIn k c = law.due c (omega arith) in
        let inside : g < k.gaps = may.has_gap in
        let one_tally : tally k.home g v.todo ≡ 1 + tally k.home g more =
        ap (tally k.home g) cut ∙ (let h = one_if g g refl in omega arith) in
        let part_tally = total-at (λ u. tally k.home g u.todo) seats id v at in
        let known = law.counts g inside in
        let some_left : 0 < n = omega arith in
        let todo_cut : (x : ℕ) → times x v.todo ≡ cond (c == x) 1 0 + times x more = λ x. ap (times x) cut in
        let todo_all : (x : ℕ) → sum_by (λ u. times x u.todo) (set seats id w) ≤ sum_by (λ u. times x u.todo) seats =
        λ x. let s = total-set (λ u. times x u.todo) seats id v w at in let p = todo_cut x in omega arith in
        let won_same : (x : ℕ) → sum_by (λ u. times x u.won) (set seats id w) ≡ sum_by (λ u. times x u.won) seats =
        λ x. let s = total-set (λ u. times x u.won) seats id v w at in omega arith in
        record {
          some_left = some_left;
          kept = record {
            values = λ x small. law.values x small ∙ ap (value_word k x) (sym (won_same x));
            due = λ x there. law.due x (let s = todo_all x in omega arith);
            due_once = λ x. let s = todo_all x in let o = law.due_once x in omega arith;
            counts = λ j small. elim (same_or_not j g) [
              | inl e ↦ (
                  let s = total-set (λ u. tally k.home g u.todo) seats id v w at in
                  let sum : n - 1 ≡ k.live g + sum_by (λ u. tally k.home g u.todo) (set seats id w) = omega arith in
                  let P : ℕ → Type 0 = λ m. count' m
                  ≡ k.live m + sum_by (λ u. tally k.home m u.todo) (set seats id w) in
                  subst P (sym e) (here ∙ sum))
              | inr ne ↦ (
                  let s = total-set (λ u. tally k.home j u.todo) seats id v w at in
                  let no : ◌≡◌ {A = ℕ} (cond (g == j) 1 0) 0 = none_if g j (λ e. ne (sym e)) in
                  let mine : tally k.home j v.todo
                  ≡ cond (g == j) 1 0 + tally k.home j more = ap (tally k.home j) cut in
                  let old = law.counts j small in
                  elsewhere j small ne ∙ (omega arith))
            ];
            next = λ x there.
                let s = total-set (held_in x) seats id v w at in
                elim (owed-after k v n x) [
                  | inl o ↦ elim (same_or_not (sum_by (held_in x) seats) 0) [
                    | inl z ↦ record {
                      gap = g;
                      is_gap = inside;
                      none_above = (let one = o.0 in omega arith);
                      is_open = (let sum = o.1 in omega arith);
                    }
                    | inr nz ↦ law.next x (omega arith)
                  ]
                  | inr o ↦ law.next x (let sum = o.1 in omega arith)
                ];
            won_once = λ x. let s = won_same x in let o = law.won_once x in omega arith;
            closed = λ j x small none there.
                let s = total-set (held_in x) seats id v w at in
                elim (same_or_not j g) [
                  | inl e ↦ (
                      let none' : count' g ≡ 0 = subst (λ (m : ℕ). count' m ≡ 0) e none in
                      let there' : 0 < times x (k.opens g) = subst (λ (m : ℕ). 0 < times x (k.opens m)) e there in
                      elim (owed-after k v n x) [
                        | inl o ↦ (let sum = o.1 in omega arith)
                        | inr o ↦ absurd (o.0 (omega arith))
                      ])
                  | inr ne ↦ (
                      let old : 0 < sum_by (held_in x) seats =
                      law.closed j x small (sym (elsewhere j small ne) ∙ none) there in
                      elim (owed-after k v n x) [
                        | inl o ↦ (let sum = o.1 in omega arith)
                        | inr o ↦ (let sum = o.1 in omega arith)
                      ])
                ];
            widths = let s = total-set (λ u. u.width) seats id v w at in let o = law.widths in omega arith;
            fits = All-set Fits seats id w (λ no_width. absurd (omega arith)) law.fits;
          };
        }

    module _ (sound : AreSound k) (wide : 0 < v.width) (some_owed : 0 < length v.owed) where
      owed_cut : (x : ℕ) → times x v.owed ≡ cond (first_of v.owed == x) 1 0 + times x (drop 1 v.owed)
      owed_cut x = ap (times x) (split_first v.owed some_owed)

      pub first-next : IsToWin k (first_of v.owed)
      first-next =
          let part = total-at (held_in (first_of v.owed)) seats id v at in
          let cut = owed_cut (first_of v.owed) in
          let one = one_if (first_of v.owed) (first_of v.owed) refl in
          law.next (first_of v.owed) (omega arith)

      pub first-known : (first_of v.owed < k.size) × (k.base (first_of v.owed) ≡ None)
      first-known = let may = first-next in sound.opened may.gap (first_of v.owed) may.is_gap may.is_open

      won-keeps : (value' : ℕ → Option ℕ) → sum_by (λ u. times (first_of v.owed) u.won) seats ≡ 0
          → value' (first_of v.owed) ≡ Some (suc k.round)
          → ((x : ℕ) → x < k.size → x ≢ first_of v.owed → value' x ≡ value x)
          → AreKept k count value' (set seats id (seat_tried true v))
      won-keeps value' none here elsewhere =
          let f : ℕ = first_of v.owed in
          let w : PlainSeat = seat_tried true v in
          let is_one : ◌≡◌ {A = ℕ} (cond (f == f) 1 0) 1 = one_if f f refl in
          let won_sum : (x : ℕ) → sum_by (λ u. times x u.won) (set seats id w)
          ≡ sum_by (λ u. times x u.won) seats + cond (f == x) 1 0 =
          λ x. let s = total-set (λ u. times x u.won) seats id v w at in let o = one_more x f v.won in omega arith in
          let won_else : (x : ℕ) → x ≢ f
          → sum_by (λ u. times x u.won) (set seats id w) ≡ sum_by (λ u. times x u.won) seats =
          λ x ne. let s = won_sum x in let z = none_if f x (λ e. ne (sym e)) in omega arith in
          let won_here : sum_by (λ u. times f u.won) (set seats id w) ≡ 1 = let s = won_sum f in omega arith in
          let held_same : (x : ℕ) → sum_by (held_in x) (set seats id w) ≡ sum_by (held_in x) seats =
          λ x. let s = total-set (held_in x) seats id v w at in let o = one_more x f v.won in let cut = owed_cut x in
          omega arith in
          record {
            values = λ x small. elim (same_or_not x f) [
              | inl e ↦ (
                  let P : ℕ → Type 0 = λ m. value' m ≡ value_word k m (sum_by (λ u. times m u.won) (set seats id w)) in
                  subst P (sym e)
                  (here ∙ sym (word_some k f (sum_by (λ u. times f u.won) (set seats id w)) (omega arith))))
              | inr ne ↦ elsewhere x small ne ∙ law.values x small ∙ ap (value_word k x) (sym (won_else x ne))
            ];
            due = λ x there. law.due x (let s = total-set (λ u. times x u.todo) seats id v w at in omega arith);
            due_once =
                λ x. let s = total-set (λ u. times x u.todo) seats id v w at in let o = law.due_once x in omega arith;
            counts = λ g small.
                let s = total-set (λ u. tally k.home g u.todo) seats id v w at in
                let o = law.counts g small in omega arith;
            next = λ x there. law.next x (let s = held_same x in omega arith);
            won_once = λ x. elim (same_or_not x f) [
              | inl e ↦ subst (λ (m : ℕ). sum_by (λ u. times m u.won) (set seats id w) ≤ 1) (sym e) (omega arith)
              | inr ne ↦ (let s = won_else x ne in let o = law.won_once x in omega arith)
            ];
            closed = λ g x small none_left there.
                let o : 0 < sum_by (held_in x) seats = law.closed g x small none_left there in
                let s = held_same x in omega arith;
            widths = let s = total-set (λ u. u.width) seats id v w at in let o = law.widths in omega arith;
            fits = All-set Fits seats id w (λ no_width. absurd (omega arith)) law.fits;
          }

      not-won-keeps : 0 < sum_by (λ u. times (first_of v.owed) u.won) seats
          → AreKept k count value (set seats id (seat_tried false v))
      not-won-keeps some_won =
          let f : ℕ = first_of v.owed in
          let w : PlainSeat = seat_tried false v in
          let won_same : (x : ℕ) → sum_by (λ u. times x u.won) (set seats id w) ≡ sum_by (λ u. times x u.won) seats =
          λ x. let s = total-set (λ u. times x u.won) seats id v w at in omega arith in
          let held_sum : (x : ℕ) → sum_by (held_in x) seats ≡ sum_by (held_in x) (set seats id w) + cond (f == x) 1 0 =
          λ x. let s = total-set (held_in x) seats id v w at in let cut = owed_cut x in omega arith in
          let held_still : (x : ℕ) → 0 < sum_by (held_in x) seats → 0 < sum_by (held_in x) (set seats id w) = λ x there.
          elim (same_or_not x f) [
            | inl e ↦ subst (λ (m : ℕ). 0 < sum_by (held_in m) (set seats id w)) (sym e)
                (let s = won_same f in let l =
                sum_by-le-sum_by (λ u. times f u.won) (held_in f) (set seats id w) (λ u. omega arith) in omega arith)
            | inr ne ↦ (let z = none_if f x (λ e. ne (sym e)) in let s = held_sum x in omega arith)
          ] in
          record {
            values = λ x small. law.values x small ∙ ap (value_word k x) (sym (won_same x));
            due = λ x there. law.due x (let s = total-set (λ u. times x u.todo) seats id v w at in omega arith);
            due_once =
                λ x. let s = total-set (λ u. times x u.todo) seats id v w at in let o = law.due_once x in omega arith;
            counts = λ g small. let s = total-set (λ u. tally k.home g u.todo) seats id v w at in let o =
                law.counts g small in omega arith;
            next = λ x there. law.next x (let s = held_sum x in omega arith);
            won_once = λ x. let s = won_same x in let o = law.won_once x in omega arith;
            closed = λ g x small none_left there. held_still x (law.closed g x small none_left there);
            widths = let s = total-set (λ u. u.width) seats id v w at in let o = law.widths in omega arith;
            fits = All-set Fits seats id w (λ no_width. absurd (omega arith)) law.fits;
          }

      -- the first owed configuration is won or not, by its word
      pub tries : ((value' : ℕ → Option ℕ) → IsWon k count value seats id v value') ⊎ IsNotWon k count value seats id v
      tries =
          let f : ℕ = first_of v.owed in
          let known = first-known in
          let word = law.values f known.0 in
          let T : ℕ = sum_by (λ u. times f u.won) seats in
          elim (same_or_not T 0) [
            | inl z ↦ inl (λ value'.
                record { open_yet = word ∙ word_none k f T z ∙ known.1; kept = won-keeps value' z })
            | inr nz ↦ inr (record {
              has_next = word ∙ word_some k f T (omega arith);
              stands = omega arith;
              kept = not-won-keeps (omega arith);
            })
          ]

    pub splits : 2 ≤ v.width → AreKept k count value (set seats id (seat_kept v) ++ seat_new v ∷ [])
    splits wide =
        let a : PlainSeat = seat_kept v in
        let b : PlainSeat = seat_new v in
        let all : List PlainSeat = set seats id a ++ b ∷ [] in
        let m : ℕ = length v.todo - length v.todo / 2 in
        let half : v.width / 2 + v.width / 2 ≤ v.width = omega arith in
        let some_half : 0 < v.width / 2 = omega arith in
        same-kept all
        (λ x. total-cut (λ u. times x u.todo) seats id v a b at (times-cut x m v.todo))
        (λ g. total-cut (λ u. tally k.home g u.todo) seats id v a b at (tally-cut k.home g m v.todo))
        (λ x. total-cut (λ u. times x u.won) seats id v a b at (omega arith))
        (λ x. total-cut (held_in x) seats id v a b at (omega arith))
        (total-cut (λ u. u.width) seats id v a b at (omega arith))
        (All-push Fits (set seats id a) b (All-set Fits seats id a (λ none. absurd (omega arith)) law.fits)
        (λ none. absurd (omega arith)))

    pub joins : (other : ℕ) (u : PlainSeat) → slice_get seats other ≡ Some u → id ≢ other → 0 < v.width
        → AreKept k count value (set (set seats id (seat_joined v u)) other spent_seat)
    joins other u there differ wide =
        let a : PlainSeat = seat_joined v u in
        let all : List PlainSeat = set (set seats id a) other spent_seat in
        same-kept all
        (λ x. total-glue (λ w. times x w.todo) seats id other v u a spent_seat at there differ
        (let s = times-append x v.todo u.todo in omega arith))
        (λ g. total-glue (λ w. tally k.home g w.todo) seats id other v u a spent_seat at there differ
        (let s = tally-append k.home g v.todo u.todo in omega arith))
        (λ x. total-glue (λ w. times x w.won) seats id other v u a spent_seat at there differ
        (let s = times-append x v.won u.won in omega arith))
        (λ x. total-glue (held_in x) seats id other v u a spent_seat at there differ
        (let s = times-append x v.won u.won in let t = times-append x v.owed u.owed in omega arith))
        (total-glue (λ w. w.width) seats id other v u a spent_seat at there differ (omega arith))
        (All-set Fits (set seats id a) other spent_seat (λ none. refl)
        (All-set Fits seats id a (λ none. absurd (omega arith)) law.fits))

pub opens : (k : Rules) (count : ℕ → ℕ) (value : ℕ → Option ℕ) (todo : List ℕ) → AreReadyLists k count value todo
    → AreKept k count value (record { width = k.width; todo = todo; owed = []; won = [] } ∷ [])
opens k count value todo ready = record {
  values = λ x small. ready.values x small;
  due = λ x there. ready.due x (omega arith);
  due_once = λ x. let o = ready.once x in omega arith;
  counts = λ g small. let o = ready.counts g small in omega arith;
  next = λ x there. absurd (omega arith);
  won_once = λ x. omega arith;
  closed = λ g x small none_left there. let o = ready.settled g x small none_left in absurd (omega arith);
  widths = omega arith;
  fits =
      All-cons Fits _ [] (λ none. absurd (let s = ready.some_width in omega arith)) (λ k d below. absurd (omega arith));
}
