-- The machine's code makes the steps of a round, and keeps rounds lawful.
use Rattle.std.proofs.Common.{◌≡◌, ◌≢◌, ℕ, zero, suc, ◌+◌, ◌-◌, ◌<◌, ◌≤◌, ◌==◌, Bool, true, false, cond, List, [], ◌∷◌}
use Rattle.std.proofs.Common.{◌++◌, length, map, set, refl, sym, ap, ◌∙◌, subst, arith, Option, Some, None, get_or}
use Rattle.std.proofs.Common.{get_or-set_other}
use Rattle.std.specs.Option.{is_none}
use Rattle.std.proofs.lemmas.Bool.Decides.{nat_tests}
use Rattle.std.proofs.Math.ListN.{get_or-map}
use Rattle.std.proofs.lemmas.List.{get_or_default, length-map, map-set, set_comm, set-set, set-append_left, set-get_or}
use Rattle.graphs.specs.Graph.{PlainGraph}
use Rattle.graphs.specs.Numbered.{graph_of}
use Rattle.gap_values.specs.declared.closing.TheConstants.{OPEN}
use Rattle.solver.specs.Solving.{Solving, IsSolving}
use Rattle.solver.specs.Words.{value_of_word}
use Rattle.retro_core.specs.Round.{PlainSeat, Round, spent_seat, seat_at, IsDue, IsLawful, first_of, seat_struck}
use Rattle.retro_core.specs.Round.{seat_tried, seat_kept, round_of}
use Rattle.retro_core.specs.Round.{seat_new, seat_joined, round_struck, first_is_open, round_tried}
use Rattle.retro_core.specs.declared.step.Step.TheVariants as steps
use Rattle.retro_core.specs.declared.step.StepFault.TheVariants as faults
use Rattle.retro_core.specs.Stepping.{Strikes, Tries, Splits, Joins, ClosesGap, Refuses}
use Rattle.index_lists.proofs.Cited.{cond_other}
use Rattle.retro_core.proofs.SeatSums.{total-set, total-at, get-elsewhere}
use Rattle.retro_core.proofs.RoundLaws.{seat-there}
use Rattle.retro_core.proofs.RoundSteps.{first-due, strike-lawful, try-lawful, split-lawful, join-lawful}

-- ---- seats as the code reads them

pub seat-inside : (seats : List PlainSeat) (id : ℕ) → 0 < (get_or seats id spent_seat).width → id < length seats
seat-inside [] id wide = absurd (omega arith)
seat-inside (v ∷ seats) zero wide = omega arith
seat-inside (v ∷ seats) (suc id) wide = let rest = seat-inside seats id wide in omega arith

-- a seat that has a width is read alike with any default
pub seat-read : (seats : List PlainSeat) (id : ℕ) (v : PlainSeat) → 0 < (get_or seats id spent_seat).width
    → v ≡ get_or seats id v → v ≡ get_or seats id spent_seat
seat-read seats id v wide e = e ∙ get_or_default seats id v spent_seat (seat-inside seats id wide)

pub some-of : (n : ℕ) (b : Bool) → b ≡ (n == 0) → b ≡ false → 0 < n
some-of n b is no_more = grind (arith, nat_tests)

-- a lawful round of these parts, and a seat of it that has a width
module _ (s : Solving) (w : ℕ) (counts : List ℕ) (values : List (Option ℕ)) (seats : List PlainSeat) (old : Round)
    (is : round_of s w counts values seats ≡ old)
    (sol : IsSolving s) (law : IsLawful (round_of s w counts values seats)) (id : ℕ)
    (has_width : 0 < (seat_at old id).width) where
  abbrev pub here : Round
  here = round_of s w counts values seats

  pub wide : 0 < (get_or seats id spent_seat).width
  wide = subst (λ r. 0 < (seat_at r id).width) (sym is) has_width

  -- the list of a seat that was read is the list of the round's seat
  pub read-list : (list : PlainSeat → List ℕ) (v : PlainSeat) (ranks : List ℕ) → v ≡ get_or seats id v → ranks ≡ list v
      → ranks ≡ list (get_or seats id spent_seat)
  read-list list v ranks v_is e = e ∙ ap list (seat-read seats id v wide v_is)

  -- ---- strike

  pub due-read : (v : PlainSeat) (ranks : List ℕ) → v ≡ get_or seats id v → ranks ≡ v.todo → 0 < length ranks
      → IsDue s.game (get_or ranks 0 0) s.rounds
  due-read v ranks v_is e some =
      let todo = read-list (λ u. u.todo) v ranks v_is e in
      subst (λ (l : List ℕ). IsDue s.game (get_or l 0 0) s.rounds) (sym todo)
      (first-due here law id (subst (λ (l : List ℕ). 0 < length l) todo some))

  pub record IsStriking (ranks : List ℕ) (gap count : ℕ) (after : PlainSeat) (closed : Option ℕ) : Type 0 where
    pub some_left : 0 < count
    pub lawful : IsLawful (round_of s w (set counts gap (count - 1)) values (set seats id after))
    pub strikes : closed ≡ cond (count == 1) (Some gap) None
        → Strikes old id (get_or ranks 0 0) closed
        (round_of s w (set counts gap (count - 1)) values (set seats id after))

  pub striking : (v : PlainSeat) (ranks : List ℕ) (gap count : ℕ) (v' after : PlainSeat) (closed : Option ℕ)
      → v ≡ get_or seats id v → ranks ≡ v.todo → 0 < length ranks
      → gap < (graph_of s.game).gaps → gap ≡ (graph_of s.game).struck (get_or ranks 0 0) → count ≡ get_or counts gap 0
      → v' ≡ get_or seats id v' → after ≡ seat_struck s gap count v' → IsStriking ranks gap count after closed
  striking v ranks gap count v' after closed v_is e some in_gaps gap_is count_is v'_is after_is =
      let a : PlainGraph = graph_of s.game in
      let seat : PlainSeat = get_or seats id spent_seat in
      let todo : ranks ≡ seat.todo = read-list (λ u. u.todo) v ranks v_is e in
      let some' : 0 < length seat.todo = subst (λ (l : List ℕ). 0 < length l) todo some in
      let gap_same : a.struck (first_of seat.todo) ≡ gap =
      ap (λ (l : List ℕ). a.struck (get_or l 0 0)) (sym todo) ∙ sym gap_is in
      let done = strike-lawful here sol law id some' in
      let left : 0 < get_or counts gap 0 = subst (λ g. 0 < get_or counts g 0) gap_same done.some_left in
      let seat_is : after ≡ seat_struck s gap (get_or counts gap 0) seat =
      after_is ∙ ap (seat_struck s gap count) (seat-read seats id v' wide v'_is)
      ∙ ap (λ n. seat_struck s gap n seat) count_is in
      let same : round_struck here id gap ≡ round_of s w (set counts gap (count - 1)) values (set seats id after) =
      ap (λ n. round_of s w (set counts gap (n - 1)) values
      (set seats id (seat_struck s gap (get_or counts gap 0) seat))) (sym count_is)
      ∙ ap (λ u. round_of s w (set counts gap (count - 1)) values (set seats id u)) (sym seat_is) in
      record {
        some_left = omega arith;
        lawful = subst IsLawful same (subst (λ g. IsLawful (round_struck here id g)) gap_same done.lawful);
        strikes = λ closed_is. subst (λ r. Strikes r id (get_or ranks 0 0) closed
            (round_of s w (set counts gap (count - 1)) values (set seats id after))) is (record {
              some_todo = some';
              first = ap (λ (l : List ℕ). get_or l 0 0) todo;
              gap = gap;
              is_gap = in_gaps;
              gap_is = gap_is;
              closed_is = closed_is ∙ ap (λ n. cond (n == 1) (Some gap) None) count_is;
              after_is = sym same;
            });
      }

  -- a strike that closes its gap takes memory, so it may be refused
  pub closing : (v : PlainSeat) (ranks : List ℕ) (gap count : ℕ) → v ≡ get_or seats id v → ranks ≡ v.todo
      → 0 < length ranks
      → gap < (graph_of s.game).gaps → gap ≡ (graph_of s.game).struck (get_or ranks 0 0) → count ≡ get_or counts gap 0
      → count ≡ 1 → Refuses old (steps.Strike id) faults.Memory
  closing v ranks gap count v_is e some in_gaps gap_is count_is one =
      let a : PlainGraph = graph_of s.game in
      let todo : ranks ≡ (get_or seats id spent_seat).todo = read-list (λ u. u.todo) v ranks v_is e in
      let gap_same : gap ≡ a.struck (first_of (get_or seats id spent_seat).todo) =
      gap_is ∙ ap (λ (l : List ℕ). a.struck (get_or l 0 0)) todo in
      subst (λ r. (0 < length (seat_at r id).todo) × ClosesGap r id) is (
        subst (λ (l : List ℕ). 0 < length l) todo some,
        record {
          struck = subst (λ g. g < a.gaps) gap_same in_gaps;
          last = ap (λ g. get_or counts g 0) (sym gap_same) ∙ sym count_is ∙ one;
        },
      )

  -- ---- claim

  pub owed-read : (v : PlainSeat) (ranks : List ℕ) → v ≡ get_or seats id v → ranks ≡ v.owed → 0 < length ranks
      → get_or ranks 0 0 < length values
  owed-read v ranks v_is e some =
      let owed = read-list (λ u. u.owed) v ranks v_is e in
      let low = (try-lawful here sol law id (subst (λ (l : List ℕ). 0 < length l) owed some)).is_rank in
      let same = ap (λ (l : List ℕ). get_or l 0 0) owed in
      let long = law.values_length in
      omega arith

  pub record IsTrying (ranks : List ℕ) (won : Bool) (values' : List (Option ℕ)) (after : PlainSeat) : Type 0 where
    pub lawful : IsLawful (round_of s w counts values' (set seats id after))
    pub tries : Tries old id (get_or ranks 0 0) won (round_of s w counts values' (set seats id after))

  pub trying : (v : PlainSeat) (ranks : List ℕ) (word : Option ℕ) (won : Bool) (values' : List (Option ℕ))
      (v' after : PlainSeat)
      → v ≡ get_or seats id v → ranks ≡ v.owed → 0 < length ranks
      → word ≡ get_or values (get_or ranks 0 0) word → won ≡ is_none word
      → values' ≡ cond won (set values (get_or ranks 0 0) (Some (suc s.rounds))) values
      → v' ≡ get_or seats id v' → after ≡ seat_tried won v' → IsTrying ranks won values' after
  trying v ranks word won values' v' after v_is e some word_is won_is values_are v'_is after_is =
      let seat : PlainSeat = get_or seats id spent_seat in
      let owed : ranks ≡ seat.owed = read-list (λ u. u.owed) v ranks v_is e in
      let first : get_or ranks 0 0 ≡ first_of seat.owed = ap (λ (l : List ℕ). get_or l 0 0) owed in
      let some' : 0 < length seat.owed = subst (λ (l : List ℕ). 0 < length l) owed some in
      let done = try-lawful here sol law id some' in
      let open_is : won ≡ first_is_open here id =
      won_is ∙ ap is_none (word_is ∙ get_or_default values (get_or ranks 0 0) word None
      (owed-read v ranks v_is e some) ∙ ap (λ x. get_or values x None) first) in
      let same : round_of s w counts values' (set seats id after) ≡ round_tried here id =
      ap (λ (l : List (Option ℕ)). round_of s w counts l (set seats id after))
      (values_are ∙ ap (λ x. cond won (set values x (Some (suc s.rounds))) values) first)
      ∙ ap (λ u. round_of s w counts (cond won (set values (first_of seat.owed) (Some (suc s.rounds))) values)
      (set seats id u)) (after_is ∙ ap (seat_tried won) (seat-read seats id v' wide v'_is))
      ∙ ap (λ o. round_of s w counts (cond o (set values (first_of seat.owed) (Some (suc s.rounds))) values)
      (set seats id (seat_tried o seat))) open_is in
      record {
        lawful = subst IsLawful (sym same) done.lawful;
        tries = subst (λ r. Tries r id (get_or ranks 0 0) won (round_of s w counts values' (set seats id after))) is
            (record { some_owed = some'; first = first; won_is = open_is; after_is = same });
      }

  -- ---- split

  pub record IsSplitting (seats' : List PlainSeat) (new_seat : ℕ) : Type 0 where
    pub lawful : IsLawful (round_of s w counts values seats')
    pub splits : new_seat ≡ length seats → Splits old id new_seat (round_of s w counts values seats')

  pub splitting : (v half : PlainSeat) (pushed : List PlainSeat) (v' after : PlainSeat) (new_seat : ℕ)
      → (seat_at old id).width ≢ 1 → v ≡ get_or seats id v → half ≡ seat_new v → pushed ≡ seats ++ half ∷ []
      → v' ≡ get_or pushed id v' → after ≡ seat_kept v' → IsSplitting (set pushed id after) new_seat
  splitting v half pushed v' after new_seat not_one v_is half_is pushed_is v'_is after_is =
      let seat : PlainSeat = get_or seats id spent_seat in
      let inside : id < length seats = seat-inside seats id wide in
      let two : 2 ≤ seat.width = two_of seat.width wide (λ e. not_one (ap (λ r. (seat_at r id).width) (sym is) ∙ e)) in
      let half_same : half ≡ seat_new seat = half_is ∙ ap seat_new (seat-read seats id v wide v_is) in
      let read : v' ≡ seat = v'_is ∙ ap (λ (l : List PlainSeat). get_or l id v') pushed_is
      ∙ in_front seats (half ∷ []) id v' inside in
      let same : set pushed id after ≡ set seats id (seat_kept seat) ++ seat_new seat ∷ [] =
      ap (λ (l : List PlainSeat). set l id after) pushed_is ∙ set-append_left seats (half ∷ []) id after inside
      ∙ ap (λ u. set seats id u ++ half ∷ []) (after_is ∙ ap seat_kept read)
      ∙ ap (λ u. set seats id (seat_kept seat) ++ u ∷ []) half_same in
      record {
        lawful = subst (λ (l : List PlainSeat). IsLawful (round_of s w counts values l)) (sym same)
            (split-lawful here sol law id two);
        splits = λ number. subst (λ r. Splits r id new_seat (round_of s w counts values (set pushed id after))) is
            (record { wide = two; next_number = number; after_is = ap (round_of s w counts values) same });
      }
    where
      two_of : (n : ℕ) → 0 < n → n ≢ 1 → 2 ≤ n
      two_of n some more = omega (arith, more)

      in_front : (xs ys : List PlainSeat) (i : ℕ) (d : PlainSeat) → i < length xs
          → get_or (xs ++ ys) i d ≡ get_or xs i spent_seat
      in_front [] ys i d low = absurd (omega arith)
      in_front (x ∷ xs) ys zero d low = refl
      in_front (x ∷ xs) ys (suc i) d low = in_front xs ys i d (omega arith)

  -- ---- join

  module _ (from : ℕ) (from_has_width : 0 < (seat_at old from).width) (differ : id ≢ from) where
    pub from_wide : 0 < (get_or seats from spent_seat).width
    from_wide = subst (λ r. 0 < (seat_at r from).width) (sym is) from_has_width

    -- after the other seat was taken out, the seat that is joined into reads as before
    pub into-read : (v : PlainSeat) → v ≡ get_or (set seats from spent_seat) id v → v ≡ get_or seats id spent_seat
    into-read v v_is = v_is ∙ get_or-set_other seats from id spent_seat v differ
        ∙ get_or_default seats id v spent_seat (seat-inside seats id wide)

    pub widths-fit : (v u : PlainSeat) → v ≡ get_or seats id spent_seat → u ≡ get_or seats from spent_seat
        → v.width + u.width ≤ w
    widths-fit v u v_is u_is =
        let at = seat-there seats id wide in
        let there = seat-there seats from from_wide in
        let mine = ap (λ (x : PlainSeat). x.width) v_is in
        let other = ap (λ (x : PlainSeat). x.width) u_is in
        let without = total-set (λ x. x.width) seats from (get_or seats from spent_seat) spent_seat there in
        let part = total-at (λ x. x.width) (set seats from spent_seat) id (get_or seats id spent_seat)
        (subst (λ (o : Option PlainSeat). o ≡ Some (get_or seats id spent_seat))
        (sym (get-elsewhere seats from id spent_seat (λ e. differ (sym e)))) at) in
        let all = law.widths in
        omega arith

    -- if the lists couldn't be taken over, both seats are put back and the list of seats is as before
    pub put-back : (v u : PlainSeat) → v ≡ get_or seats id spent_seat → u ≡ get_or seats from spent_seat
        → set (set (set seats from spent_seat) id v) from u ≡ seats
    put-back v u v_is u_is =
        ap (λ (l : List PlainSeat). set l from u) (set_comm seats from id spent_seat v (λ e. differ (sym e)))
        ∙ set-set (set seats id v) from spent_seat u
        ∙ ap (λ x. set (set seats id x) from u) v_is
        ∙ ap (λ (l : List PlainSeat). set l from u) (set-get_or seats id spent_seat)
        ∙ ap (set seats from) u_is ∙ set-get_or seats from spent_seat

    pub record IsJoining (seats' : List PlainSeat) : Type 0 where
      pub lawful : IsLawful (round_of s w counts values seats')
      pub joins : Joins old id from (round_of s w counts values seats')

    pub joining : (v u after : PlainSeat) → v ≡ get_or seats id spent_seat → u ≡ get_or seats from spent_seat
        → after ≡ seat_joined v u → IsJoining (set (set seats from spent_seat) id after)
    joining v u after v_is u_is after_is =
        let seat : PlainSeat = get_or seats id spent_seat in
        let other : PlainSeat = get_or seats from spent_seat in
        let same : set (set seats from spent_seat) id after ≡ set
        (set seats id (seat_joined seat other)) from spent_seat =
        set_comm seats from id spent_seat after (λ e. differ (sym e))
        ∙ ap (λ x. set (set seats id x) from spent_seat)
        (after_is ∙ ap (λ x. seat_joined x u) v_is ∙ ap (seat_joined seat) u_is) in
        record {
          lawful = subst (λ (l : List PlainSeat). IsLawful (round_of s w counts values l)) (sym same)
              (join-lawful here sol law id from differ wide from_wide);
          joins = subst (λ r. Joins r id from (round_of s w counts values (set (set seats from spent_seat) id after)))
              is
              (record {
                differ = differ;
                has_into = wide;
                has_from = from_wide;
                after_is = ap (round_of s w counts values) same;
              });
        }

    pub allowed : ((id ≡ from → ⊥) × (0 < (seat_at old id).width) × (0 < (seat_at old from).width))
    allowed = subst (λ r. (id ≡ from → ⊥) × (0 < (seat_at r id).width) × (0 < (seat_at r from).width)) is
        (differ, wide, from_wide)

-- ---- values as words

-- a word is open exactly if it says no value
pub open-word : (word : ℕ) → (word == OPEN) ≡ is_none (value_of_word word)
open-word word = by (word == OPEN)
  where
    by : (none : Bool) → none ≡ is_none (cond none None (Some word))
    by true = refl
    by false = refl

-- the values after a configuration has got the next value
pub values-won : (words : List ℕ) (rank next : ℕ) → next < OPEN
    → map value_of_word (set words rank next) ≡ set (map value_of_word words) rank (Some next)
values-won words rank next small =
    map-set value_of_word words rank next
    ∙ ap (set (map value_of_word words) rank) (cond_other next OPEN None (Some next) (λ e. omega arith))

-- the machine's claim: the first owed configuration's word is read, and gets the next value if it is open
module _ (s : Solving) (w : ℕ) (counts words : List ℕ) (seats : List PlainSeat) (old : Round)
    (is : round_of s w counts (map value_of_word words) seats ≡ old)
    (sol : IsSolving s) (law : IsLawful (round_of s w counts (map value_of_word words) seats)) (id : ℕ)
    (has_width : 0 < (seat_at old id).width) where
  pub owed-word : (v : PlainSeat) (ranks : List ℕ) → v ≡ get_or seats id v → ranks ≡ v.owed → 0 < length ranks
      → get_or ranks 0 0 < length words
  owed-word v ranks v_is e some =
      let low = owed-read s w counts (map value_of_word words) seats old is sol law id has_width v ranks v_is e some in
      let same = length-map words value_of_word in
      omega arith

  word-read : (rank word : ℕ) → word ≡ get_or words rank word
      → value_of_word word ≡ get_or (map value_of_word words) rank (value_of_word word)
  word-read rank word word_is = ap value_of_word word_is ∙ sym (get_or-map value_of_word words rank word)

  pub claiming : (v : PlainSeat) (ranks : List ℕ) (word round : ℕ) (words' : List ℕ) (v' after : PlainSeat)
      → v ≡ get_or seats id v → ranks ≡ v.owed → 0 < length ranks
      → word ≡ get_or words (get_or ranks 0 0) word → round ≡ s.rounds
      → words' ≡ cond (word == OPEN) (set words (get_or ranks 0 0) (round + 1)) words
      → v' ≡ get_or seats id v' → after ≡ seat_tried (word == OPEN) v'
      → IsTrying s w counts (map value_of_word words) seats old is sol law id has_width ranks (word == OPEN)
      (map value_of_word words') after
  claiming v ranks word round words' v' after v_is e some word_is round_is words_are v'_is after_is =
      trying s w counts values seats old is sol law id has_width v ranks (value_of_word word) (word == OPEN)
      (map value_of_word words') v' after v_is e some
      (word-read rank word word_is) (open-word word)
      (ap (map value_of_word) words_are ∙ by (word == OPEN)) v'_is after_is
    where
      values : List (Option ℕ)
      values = map value_of_word words

      rank : ℕ
      rank = get_or ranks 0 0

      small : round + 1 < OPEN
      small = let low = sol.below in let few = sol.few in omega arith

      by : (won : Bool)
          → map value_of_word (cond won (set words rank (round + 1)) words)
          ≡ cond won (set values rank (Some (suc s.rounds))) values
      by true = values-won words rank (round + 1) small
          ∙ (let next : round + 1 ≡ suc s.rounds = omega arith in ap (λ (n : ℕ). set values rank (Some n)) next)
      by false = refl

-- ---- the answers of a branch

pub count-then : (count gap : ℕ) (closed : Option ℕ) → count ≡ 1 → closed ≡ Some gap
    → closed ≡ cond (count == 1) (Some gap) None
count-then count gap closed one e = e ∙ ap (λ (n : ℕ). cond (n == 1) (Some gap) None) (sym one)

pub count-else : (count gap : ℕ) (closed : Option ℕ) → count ≢ 1 → closed ≡ None
    → closed ≡ cond (count == 1) (Some gap) None
count-else count gap closed other e = e ∙ sym (cond_other count 1 (Some gap) None other)
