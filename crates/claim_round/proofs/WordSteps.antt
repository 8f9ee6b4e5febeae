-- The steps of the machine on words in one list: the words that a strike and a claim of a lawful
-- round find, and their answers.
use Rattle.std.proofs.Common.{◌≡◌, ◌≢◌, ◌⊎◌, ℕ, suc, ◌+◌, ◌-◌, ◌<◌, ◌==◌, Bool, true, false, cond, List, map, length}
use Rattle.std.proofs.Common.{take, drop, set, sym, ap, ◌∙◌, inl, inr, subst, arith, Option, Some, None, get_or}
use Rattle.std.proofs.Common.{slice_index}
use Rattle.graphs.specs.Numbered.{graph_of}
use Rattle.std.specs.Option.{is_none}
use Rattle.std.proofs.lemmas.List.{get_or-map, map-set, take-set-le, drop-set-lt, drop-set-add, get_or-take}
use Rattle.std.proofs.lemmas.List.{get_or-drop, length-map}
use Rattle.std.proofs.Math.Seq.{take-set-lt}
use Rattle.index_lists.proofs.Cited.{cond_same, cond_other}
use Rattle.solver.specs.Solving.{Solving, IsSolving}
use Rattle.retro_core.specs.Round.{PlainSeat, Round, spent_seat, IsLawful, first_of, seat_struck, seat_tried}
use Rattle.retro_core.specs.Round.{round_struck, round_tried, first_is_open, round_of}
use Rattle.retro_core.specs.Stepping.{Strikes, Tries}
use Rattle.graphs.proofs.Cited.{same_or_not}
use Rattle.retro_core.proofs.Cited.{strike-lawful, try-lawful}
use Rattle.claim_round.specs.declared.words.TheConstants.{OPEN}
use Rattle.solver.specs.Words.{value_of_word}
use Rattle.claim_round.specs.Words.{round_of_words}

-- a lawful round on words, and a seat of it
module _ (s : Solving) (w : ℕ) (words : List ℕ) (seats : List PlainSeat) (sol : IsSolving s)
    (law : IsLawful (round_of_words s w words seats)) (id : ℕ) (v : PlainSeat)
    (read : get_or seats id spent_seat ≡ v) where
  abbrev pub here : Round
  here = round_of_words s w words seats

  -- a strike that found the count n
  pub record IsWordStruck (gap : ℕ) (after : List PlainSeat) : Type 0 where
    pub gap_in : gap < (graph_of s.game).gaps
    pub some_left : 0 < slice_index words gap
    pub strikes : Strikes here id (first_of v.todo) (cond (slice_index words gap == 1) (Some gap) None)
        (round_of_words s w (set words gap (slice_index words gap - 1)) after)

  pub word-strike : (gap : ℕ) (after : List PlainSeat) → 0 < length v.todo
      → gap ≡ (graph_of s.game).struck (first_of v.todo)
      → set seats id (seat_struck s gap (slice_index words gap) v) ≡ after → IsWordStruck gap after
  word-strike gap after some gap_is after_is =
      let seat : PlainSeat = get_or seats id spent_seat in
      let G : ℕ = (graph_of s.game).gaps in
      let some' : 0 < length seat.todo = subst (λ (u : PlainSeat). 0 < length u.todo) (sym read) some in
      let done = strike-lawful here sol law id some' in
      let at : (graph_of s.game).struck (first_of seat.todo) ≡ gap =
      ap (λ (u : PlainSeat). (graph_of s.game).struck (first_of u.todo)) read ∙ sym gap_is in
      let low : gap < G = subst (λ g. g < G) at done.gap_in in
      let n : ℕ = slice_index words gap in
      let word : slice_index (take G words) gap ≡ n = get_or-take G words gap 0 low in
      let counts : set (take G words) gap (n - 1) ≡ take G (set words gap (n - 1)) =
      sym (take-set-lt G words gap (n - 1) low) in
      let values : drop G words ≡ drop G (set words gap (n - 1)) = sym (drop-set-lt G words gap (n - 1) low) in
      let same : round_struck here id gap ≡ round_of_words s w (set words gap (n - 1)) after =
      ap (λ m. round_of s w (set (take G words) gap (m - 1)) (map value_of_word (drop G words))
      (set seats id (seat_struck s gap m seat))) word
      ∙ ap (λ (u : PlainSeat). round_of s w (set (take G words) gap (n - 1)) (map value_of_word (drop G words))
      (set seats id (seat_struck s gap n u))) read
      ∙ ap (λ (l : List PlainSeat). round_of s w (set (take G words) gap (n - 1))
      (map value_of_word (drop G words)) l) after_is
      ∙ ap (λ (l : List ℕ). round_of s w l (map value_of_word (drop G words)) after) counts
      ∙ ap (λ (l : List ℕ). round_of s w (take G (set words gap (n - 1))) (map value_of_word l) after) values in
      record {
        gap_in = low;
        some_left = subst (λ m. 0 < m) word (subst (λ g. 0 < slice_index (take G words) g) at done.some_left);
        strikes = record {
          some_todo = some';
          first = ap (λ (u : PlainSeat). first_of u.todo) (sym read);
          gap = gap;
          is_gap = low;
          gap_is = gap_is;
          closed_is = ap (λ m. cond (m == 1) (Some gap) None) (sym word);
          after_is = sym same;
        };
      }

  -- a claim that found the word open, or the next value
  pub record IsWordWon (c : ℕ) (after : List PlainSeat) : Type 0 where
    pub is_open : slice_index words ((graph_of s.game).gaps + c) ≡ OPEN
    pub tries : Tries here id c true (round_of_words s w (set words ((graph_of s.game).gaps + c) (suc s.rounds)) after)

  pub record IsWordLost (c : ℕ) (after : List PlainSeat) : Type 0 where
    pub has_next : slice_index words ((graph_of s.game).gaps + c) ≡ suc s.rounds
    pub tries : Tries here id c false (round_of_words s w words after)

  pub word-try : (after : Bool → List PlainSeat) → suc s.rounds ≢ OPEN → 0 < length v.owed
      → ((won : Bool) → set seats id (seat_tried won v) ≡ after won)
      → IsWordWon (first_of v.owed) (after true) ⊎ IsWordLost (first_of v.owed) (after false)
  word-try after small some after_is =
      let seat : PlainSeat = get_or seats id spent_seat in
      let c : ℕ = first_of v.owed in
      let G : ℕ = (graph_of s.game).gaps in
      let r : ℕ = suc s.rounds in
      let old : List (Option ℕ) = map value_of_word (drop G words) in
      let some' : 0 < length seat.owed = subst (λ (u : PlainSeat). 0 < length u.owed) (sym read) some in
      let first : first_of seat.owed ≡ c = ap (λ (u : PlainSeat). first_of u.owed) read in
      let done = try-lawful here sol law id some' in
      let long : c < length (drop G words) =
      (let e = law.values_length in let m = length-map (drop G words) value_of_word in let low = done.is_rank in
      omega arith) in
      let word : get_or old c None ≡ value_of_word (slice_index words (G + c)) =
      get_or-map value_of_word (drop G words) c 0 None long ∙ ap value_of_word (get_or-drop G words c 0) in
      let at : get_or old (first_of seat.owed) None ≡ value_of_word (slice_index words (G + c)) =
      ap (λ x. get_or old x None) first ∙ word in
      let round : (won : Bool) → won ≡ first_is_open here id
      → round_of s w (take G words) (cond won (set old c (Some r)) old) (after won) ≡ round_tried here id =
      λ won is.
      ap (λ (l : List PlainSeat). round_of s w (take G words) (cond won (set old c (Some r)) old) l)
      (sym (after_is won))
      ∙ ap (λ (u : PlainSeat). round_of s w (take G words) (cond won (set old (first_of u.owed) (Some r)) old)
      (set seats id (seat_tried won u))) (sym read)
      ∙ ap (λ (o : Bool). round_of s w (take G words) (cond o (set old (first_of seat.owed) (Some r)) old)
      (set seats id (seat_tried o seat))) is in
      elim done.word [
        | inl none ↦ (
            let opened : true ≡ first_is_open here id = sym (ap is_none none) in
            let counts : take G (set words (G + c) r) ≡ take G words = take-set-le G words (G + c) r (omega arith) in
            let next : value_of_word r ≡ Some r = cond_other r OPEN None (Some r) small in
            let values : map value_of_word (drop G (set words (G + c) r)) ≡ set old c (Some r) =
            ap (map value_of_word) (drop-set-add G words c r) ∙ map-set value_of_word (drop G words) c r
            ∙ ap (set old c) next in
            inl (record {
              is_open = word_open (slice_index words (G + c)) (sym at ∙ none);
              tries = record {
                some_owed = some';
                first = sym first;
                won_is = opened;
                after_is =
                    ap (λ (l : List ℕ). round_of s w l (map value_of_word (drop G (set words (G + c) r)))
                    (after true)) counts
                    ∙ ap (λ (l : List (Option ℕ)). round_of s w (take G words) l (after true)) values
                    ∙ round true opened;
              };
            }))
        | inr has ↦ (
            let shut : false ≡ first_is_open here id = sym (ap is_none has) in
            inr (record {
              has_next = word_value (slice_index words (G + c)) r (sym at ∙ has);
              tries = record { some_owed = some'; first = sym first; won_is = shut; after_is = round false shut };
            }))
      ]
    where
      some_not_none : (n : ℕ) → Some n ≡ None → ⊥
      some_not_none n e = cc

      same_number : (m n : ℕ) → Some m ≡ Some n → m ≡ n
      same_number m n e = cc

      word_open : (word : ℕ) → value_of_word word ≡ None → word ≡ OPEN
      word_open word e = elim (same_or_not word OPEN) [
        | inl same ↦ same
        | inr other ↦ absurd (some_not_none word (sym (cond_other word OPEN None (Some word) other) ∙ e))
      ]

      word_value : (word value : ℕ) → value_of_word word ≡ Some value → word ≡ value
      word_value word value e = elim (same_or_not word OPEN) [
        | inl same ↦ absurd (some_not_none value (sym e ∙ cond_same word OPEN None (Some word) same))
        | inr other ↦ same_number word value (sym (cond_other word OPEN None (Some word) other) ∙ e)
      ]
