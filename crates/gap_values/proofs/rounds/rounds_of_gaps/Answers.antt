use Rattle.std.proofs.Common.{◌≡◌, ◌∙◌, ◌<◌, ◌≤◌, ◌+◌, ◌-◌, ◌*◌, ℕ, List, length, replicate, drop, get_or, sym, ap}
use Rattle.std.proofs.Common.{subst, arith, ◌↔◌, ◌≢◌, ◌++◌, [], ◌∷◌, take, IsTrue, false, true≢false}
use Rattle.std.proofs.lemmas.List.{length-replicate, take_at}
use Rattle.std.proofs.lemmas.Result.{err_from_is_err_and}
use Rattle.board_text.specs.PlainBoard.{places}
use Rattle.classes.specs.Numbers.{ways}
use Rattle.gap_values.specs.Inside.OpenWords.{AreClosedFrom, open_below}
use Rattle.gap_values.specs.Inside.Sets.{ArePassed, AreGathered, AreFresh, AreTablesOf, HasRound, IsOfRound, TellClosed}
use Rattle.console.proofs.Cited.{none_told, nothing_told, told_more}
use Rattle.gap_values.proofs.ClosedBehind.{closed-kept}
use Rattle.gap_values.proofs.OpenCounts.{all-rounds, lone-counts, none-so-far, one-more}
use Rattle.gap_values.proofs.RoundSteps.{IsAtRound, gap_count, first-round, last-round, lone-rounds, next-round}
use Rattle.gap_values.proofs.RoundSteps.{all-told, first-kept, fresh-words, some-closed, round-told}
use Rattle.gap_values.proofs.rounds.rounds_of_gaps.Given.{Over}
use Rattle.gap_values.proofs.rounds.rounds_of_gaps.Goals as goal
use Rattle.gap_values.proofs.rounds.rounds_of_gaps.Goals.{In_ok-words, After-close_open-some}
use Rattle.gap_values.proofs.rounds.rounds_of_gaps.Goals.{then-round-eq0+in_ok-extend_from_slice, else-round-eq0}

words-open : (g : Over) (c : In_ok-words g)
    → c.in_ok-words.words.items ≡ replicate (gap_count c.args.board.now) 4294967295
words-open g c =
    let count : c.gaps.result ≡ gap_count c.args.board.now = c.gaps.ensures.value ∙ ap gap_count c.requires.board in
    c.in_ok-words.ensures.items_if_clones_equal (λ y e. e) ∙ ap (λ n. replicate n 4294967295) count

pub returns-then-pebbles-eq1-clause-rounds : goal.returns-then-pebbles-eq1-clause-rounds
returns-then-pebbles-eq1-clause-rounds g c =
    let one = c.if-pebbles-eq1.true in
    record {
      is_board = c.pebbles.ensures.is_board;
      words = lone-rounds c.args.board.now c.in_ok-words.words.items c.pebbles.ensures.is_board
          (sym c.pebbles.ensures.value ∙ one)
          (words-open g (goal.at.returns-then-pebbles-eq1-clause-rounds g c).In_ok-words);
      first = λ some. absurd (omega (arith, some, one, c.pebbles.ensures.value));
      closed = λ some. absurd (omega (arith, some, one, c.pebbles.ensures.value));
    }

pub loop-round-init : goal.loop-round-init
loop-round-init g c =
    let lists : c.ways-lists.result ≡ ways (c.args.board.now.pebbles - 2) (places c.args.board.now) =
    c.ways-lists.ensures.value ∙ ap (λ n. ways (n - 2) c.places.result) c.pebbles-2.ensures.value
    ∙ ap (ways (c.args.board.now.pebbles - 2)) c.places.ensures.value in
    record {
      at = first-round c.args.board.now c.in_ok-words.words.items c.below.result c.in_ok-closed.closed.items
          (words-open g (goal.at.loop-round-init g c).In_ok-words)
          (c.in_ok-closed.ensures.items_if_clones_equal (λ y e. e) ∙ ap (λ n. replicate n c.below.result) lists)
          c.below.ensures c.pebbles.ensures.is_board;
      shut = record {
        within = omega (arith, c.len-end.ensures, c.in_ok-words.words.ok.0);
        each = λ index past under. absurd (omega (arith, past, under, c.len-end.ensures, c.in_ok-words.words.ok.0));
      };
      tables = ap length (c.in_ok-tables.ensures.items_if_clones_equal (λ y e. e))
          ∙ length-replicate {A = List ℕ} (c.tables.result * c.ways-lists.result) c.below-2.result
          ∙ ap (λ n. n * c.ways-lists.result) c.tables.ensures.value
          ∙ ap (λ n. g.M.RoundMaker.tables_of c.args.maker.now * n) lists;
      none = λ begun. c.in_ok-first.ensures.items;
      first = λ some. absurd (omega arith);
      told = (
        [],
        none-so-far c.args.board.now c.in_ok-words.words.items,
        none_told (g.W.Watch.tells c.args.watch.now) 1 c.args.told.now,
      );
    }

-- the gaps of the round were passed
module _ (g : Over) (c : After-close_open-some g) where
  abbrev old : List ℕ
  old = c.loop-round.words.items

  abbrev new : List ℕ
  new = take c.loop-round.words.len
      (c.close_open-some.new.words ++ drop (length c.close_open-some.new.words) c.loop-round.words.items)

  some : 2 ≤ c.args.board.now.pebbles
  some =
      let least = c.pebbles.ensures.is_board.pebbles.0 in
      omega (arith, least, c.if-pebbles-eq1.false, c.pebbles.ensures.value)

  low : c.loop-round.round < 4294967295
  low = let few = c.loop-round.invariant.at.few in omega (arith, few, c.requires.few)

  new-is : new ≡ c.close_open-some.new.words
  new-is = take_at c.close_open-some.new.words (drop (length c.close_open-some.new.words) c.loop-round.words.items)
      c.loop-round.words.len (c.close_open-some.auto.words ∙ c.deref_mut.ensures.len)

  passed : ArePassed c.args.board.now c.loop-round.closed.items c.loop-round.round 0 0 (gap_count c.args.board.now) old
      new
  passed =
      let size : length c.deref_mut.result.now ≡ gap_count c.args.board.now =
      ap length c.deref_mut.ensures.value ∙ c.loop-round.invariant.at.size in
      subst (λ (l : List ℕ). ArePassed c.args.board.now c.loop-round.closed.items c.loop-round.round 0 0
      (gap_count c.args.board.now) old l) (sym new-is)
      (subst (λ (l : List ℕ). ArePassed c.args.board.now c.loop-round.closed.items c.loop-round.round 0 0
      (gap_count c.args.board.now) l c.close_open-some.new.words) c.deref_mut.ensures.value
      (subst (λ n. ArePassed c.args.board.now c.loop-round.closed.items c.loop-round.round 0 0 n
      c.deref_mut.result.now c.close_open-some.new.words) size
      (subst (λ (l : List (List ℕ)). ArePassed c.args.board.now l c.loop-round.round 0 0
      (length c.deref_mut.result.now) c.deref_mut.result.now c.close_open-some.new.words) c.deref.ensures.value
      c.close_open-some.ensures.passed)))

pub close_open-some-requires : goal.close_open-some-requires
close_open-some-requires g c =
    let least = c.pebbles.ensures.is_board.pebbles.0 in
    let two : 2 ≤ c.args.board.now.pebbles =
    omega (arith, least, c.if-pebbles-eq1.false, c.pebbles.ensures.value) in
    let at = c.loop-round.invariant.at in
    let low : c.loop-round.round < 4294967295 = omega (arith, at.few, c.requires.few) in
    let sets : length c.deref.result.now ≡ ways (c.args.board.now.pebbles - 2) (places c.args.board.now) =
    ap length c.deref.ensures.value ∙ at.tell.many in
    let words : length c.deref_mut.result.now ≡ gap_count c.args.board.now =
    ap length c.deref_mut.ensures.value ∙ at.size in
    let fresh : AreFresh c.loop-round.round c.deref_mut.result.now =
    subst (AreFresh c.loop-round.round) (sym c.deref_mut.ensures.value)
    (fresh-words c.args.board.now c.loop-round.round c.loop-round.words.items c.loop-round.closed.items low at) in (
      omega (arith, c.requires.narrow),
      (
        c.requires.can_make,
        (
          record {
            narrow = c.requires.narrow;
            fits = c.requires.fits;
            same_board = c.requires.board;
            some = two;
            each_list = sets;
            is_round = low;
          },
          (
            record {
              gaps = omega (arith, words);
              fresh = fresh;
              many = ap length c.deref_mut-in-loop-round.ensures.value ∙ c.loop-round.invariant.tables;
            },
            subst (λ (l : List ℕ). AreClosedFrom l c.loop-round.end) (sym c.deref_mut.ensures.value)
                c.loop-round.invariant.shut,
          ),
        ),
      ),
    )

-- the tables that were told of the round
told-is : (g : Over) (c : After-close_open-some g)
    → take c.loop-round.tables.len
    (c.close_open-some.new.told ++ drop (length c.close_open-some.new.told) c.loop-round.tables.items)
    ≡ c.close_open-some.new.told
told-is g c = take_at c.close_open-some.new.told (drop (length c.close_open-some.new.told) c.loop-round.tables.items)
    c.loop-round.tables.len (c.close_open-some.auto.told ∙ c.deref_mut-in-loop-round.ensures.len)

pub add-requires : goal.add-requires
add-requires g c =
    let at = (goal.at.add-requires g c).After-close_open-some in
    let tables : ℕ = g.M.RoundMaker.tables_of c.args.maker.now in
    let told : c.deref-in-loop-round.result.now ≡ c.close_open-some.new.told =
    c.deref-in-loop-round.ensures.value ∙ told-is g at in
    let sets : length c.deref_mut-in-loop-round-2.result.now
    ≡ ways (c.args.board.now.pebbles - 2) (places c.args.board.now) =
    ap length c.deref_mut-in-loop-round-2.ensures.value ∙ c.loop-round.invariant.at.tell.many in (
      omega (arith, c.requires.narrow),
      (
        c.requires.can_make,
        (
          c.requires.narrow,
          ap length told ∙ c.close_open-some.auto.told ∙ ap length c.deref_mut-in-loop-round.ensures.value
              ∙ c.loop-round.invariant.tables ∙ ap (λ n. tables * n) (sym sets),
        ),
      ),
    )

-- whether some gaps closed
some-told : (g : Over) (c : After-close_open-some g) → IsTrue c.close_open-some.result
    ↔ ((gap : ℕ) × (gap < gap_count c.args.board.now) × (get_or (new g c) gap 0 ≡ c.loop-round.round))
some-told g c =
    let size : length (new g c) ≡ gap_count c.args.board.now =
    (passed g c).same_length ∙ c.loop-round.invariant.at.size in
    let says : IsTrue c.close_open-some.result ↔ HasRound c.loop-round.round (new g c) =
    subst (λ (l : List ℕ). IsTrue c.close_open-some.result ↔ HasRound c.loop-round.round l) (sym (new-is g c))
    c.close_open-some.ensures.some in (
      λ yes. (let found = says.0 yes in (found.0, omega (arith, found.1, size), found.2)),
      λ found. says.1 (found.0, omega (arith, found.1, size), found.2),
    )

-- none closed
none-closed : (g : Over) (c : After-close_open-some g) → c.close_open-some.result ≡ false → (gap : ℕ)
    → gap < gap_count c.args.board.now → get_or (new g c) gap 0 ≢ c.loop-round.round
none-closed g c no_one gap inside closed =
    true≢false (sym ((some-told g c).1 (gap, inside, closed)) ∙ no_one)

-- sets to which the tables were added are told of what closed, and are kept as they are
record IsAdded (g : Over) (c : After-close_open-some g) (added : List (List ℕ)) : Type 0 where
  told : TellClosed c.args.board.now (new g c) (c.loop-round.round + 1) added
  kept : take c.loop-round.closed.len (added ++ drop (length added) c.loop-round.closed.items) ≡ added

is-added : (g : Over) (c : After-close_open-some g) (told from added : List (List ℕ))
    → told ≡ take c.loop-round.tables.len
    (c.close_open-some.new.told ++ drop (length c.close_open-some.new.told) c.loop-round.tables.items)
    → from ≡ c.loop-round.closed.items → length from ≡ c.loop-round.closed.len
    → AreGathered (g.M.RoundMaker.tables_of c.args.maker.now) (length from) 0 told from added → IsAdded g c added
is-added g c told from added told_taken from_is size are =
    let b = c.args.board.now in
    let tables : ℕ = g.M.RoundMaker.tables_of c.args.maker.now in
    let told_all : told ≡ c.close_open-some.new.told = told_taken ∙ told-is g c in
    record {
      told = round-told b c.pebbles.ensures.is_board (some g c) c.loop-round.round (old g c) (new g c)
          c.loop-round.closed.items (low g c) c.loop-round.invariant.at (passed g c) tables
          c.close_open-some.new.told added
          (subst (λ (l : List ℕ). AreTablesOf b tables (IsOfRound c.loop-round.round 0 l) c.close_open-some.new.told)
          (sym (new-is g c)) c.close_open-some.ensures.tell)
          (subst (λ (l : List (List ℕ)). AreGathered tables (length l) 0 c.close_open-some.new.told l added) from_is
          (subst (λ (l : List (List ℕ)). AreGathered tables (length from) 0 l from added) told_all are));
      kept = take_at added (drop (length added) c.loop-round.closed.items) c.loop-round.closed.len
          (are.same_length ∙ size);
    }

-- what is told first is of the first round, after it and later ones
first-begun : (g : Over) (c : After-close_open-some g) (first taken added : List (List ℕ)) → IsAdded g c added
    → c.loop-round.round ≡ 0 → first ≡ c.loop-round.first.items ++ taken → taken ≡ take c.loop-round.closed.len
    (added ++ drop (length added) c.loop-round.closed.items)
    → TellClosed c.args.board.now (new g c) 1 first
first-begun g c first taken added is begun first_is taken_is =
    let all : first ≡ added = first_is ∙ ap (λ (l : List (List ℕ)). l ++ taken) (c.loop-round.invariant.none begun)
    ∙ taken_is ∙ is.kept in
    subst (TellClosed c.args.board.now (new g c) 1) (sym all)
    (subst (λ n. TellClosed c.args.board.now (new g c) (n + 1) added) begun is.told)

first-later : (g : Over) (c : After-close_open-some g) (first : List (List ℕ)) → c.loop-round.round ≢ 0
    → first ≡ c.loop-round.first.items → TellClosed c.args.board.now (new g c) 1 first
first-later g c first begun first_is =
    let later : 1 ≤ c.loop-round.round = omega (arith, begun) in
    subst (TellClosed c.args.board.now (new g c) 1) (sym first_is)
    (first-kept c.args.board.now c.pebbles.ensures.is_board (some g c) c.loop-round.round (old g c) (new g c)
    c.loop-round.closed.items (low g c) c.loop-round.invariant.at (passed g c) c.loop-round.first.items later
    (c.loop-round.invariant.first later))

pub returns-then-not-some-clause-rounds : goal.returns-then-not-some-clause-rounds
returns-then-not-some-clause-rounds g c =
    let at = (goal.at.returns-then-not-some-clause-rounds g c).After-close_open-some in
    let b = c.args.board.now in
    let added = is-added g at _ _ c.add.new.sets c.deref-in-loop-round.ensures.value
    c.deref_mut-in-loop-round-2.ensures.value c.deref_mut-in-loop-round-2.ensures.len c.add.ensures in
    record {
      is_board = c.pebbles.ensures.is_board;
      words = last-round b c.pebbles.ensures.is_board (some g at) c.loop-round.round (old g at) (new g at)
          c.loop-round.closed.items (low g at) c.loop-round.invariant.at (passed g at)
          (none-closed g at c.if-not-some.true);
      first = λ some_pebbles. elim c.if-round-eq0.branch [
        | then-round-eq0+in_ok-extend_from_slice w ↦ first-begun g at c.if-round-eq0.first.items _
            c.add.new.sets added w.if-round-eq0.true
            (ap (λ v. v.items) w.first-is ∙ w.in_ok-extend_from_slice.ensures.items)
            w.deref-then-round-eq0.ensures.value
        | else-round-eq0 w ↦ first-later g at c.if-round-eq0.first.items w.if-round-eq0.false
            (ap (λ v. v.items) w.first-is)
      ];
      closed = λ some_pebbles. subst (λ (l : List (List ℕ)). TellClosed b (new g at) 4294967295 l)
          (sym added.kept)
          (all-told b c.pebbles.ensures.is_board (some g at) c.loop-round.round (old g at) (new g at)
          c.loop-round.closed.items (low g at) c.loop-round.invariant.at (passed g at) c.add.new.sets
          added.told);
    }

pub loop-round-smaller : goal.loop-round-smaller
loop-round-smaller g c =
    let at = (goal.at.loop-round-smaller g c).After-close_open-some in
    some-closed c.args.board.now c.pebbles.ensures.is_board (some g at) c.loop-round.round (old g at) (new g at)
    c.loop-round.closed.items (low g at) c.loop-round.invariant.at (passed g at)
    ((some-told g at).0 c.if-not-some.false)

pub loop-round-preserved : goal.loop-round-preserved
loop-round-preserved g c =
    let at = (goal.at.loop-round-preserved g c).After-close_open-some in
    let b = c.args.board.now in
    let added = is-added g at _ _ c.add.new.sets c.deref-in-loop-round.ensures.value
    c.deref_mut-in-loop-round-2.ensures.value c.deref_mut-in-loop-round-2.ensures.len c.add.ensures in
    let so_far = c.loop-round.invariant.told in
    let tells = g.W.Watch.tells c.args.watch.now in
    let opened : ℕ = open_below (new g at) (length (new g at)) in
    let next : c.loop-round.round + 1 ≡ 1 + length so_far.0 = omega (arith, so_far.1.size) in
    record {
      at = subst (λ (l : List (List ℕ)). IsAtRound b (c.loop-round.round + 1) (new g at) l)
          (sym added.kept)
          (next-round b c.pebbles.ensures.is_board (some g at) c.loop-round.round (old g at) (new g at)
          c.loop-round.closed.items (low g at) c.loop-round.invariant.at (passed g at) c.add.new.sets
          ((some-told g at).0 c.if-not-some.false) added.told);
      shut = subst (λ (l : List ℕ). AreClosedFrom l c.end_of_open-end.result) c.deref-in-loop-round-2.ensures.value
          c.end_of_open-end.ensures;
      tables = ap length (told-is g at) ∙ c.close_open-some.auto.told
          ∙ ap length c.deref_mut-in-loop-round.ensures.value ∙ c.loop-round.invariant.tables;
      none = λ begun. absurd (omega (arith, begun));
      first = λ some_round. elim c.if-round-eq0.branch [
        | then-round-eq0+in_ok-extend_from_slice w ↦ first-begun g at c.if-round-eq0.first.items _
            c.add.new.sets added w.if-round-eq0.true
            (ap (λ v. v.items) w.first-is ∙ w.in_ok-extend_from_slice.ensures.items)
            w.deref-then-round-eq0.ensures.value
        | else-round-eq0 w ↦ first-later g at c.if-round-eq0.first.items w.if-round-eq0.false
            (ap (λ v. v.items) w.first-is)
      ];
      told = (
        so_far.0 ++ opened ∷ [],
        one-more b c.pebbles.ensures.is_board (some g at) c.loop-round.round (old g at) (new g at)
            c.loop-round.closed.items (low g at) c.loop-round.invariant.at (passed g at) so_far.0 so_far.1
            ((some-told g at).0 c.if-not-some.false),
        told_more tells 1 so_far.0 opened c.args.told.now c.loop-round.told c.tell_open.new.told so_far.2
            (subst (λ k. tells c.loop-round.told c.tell_open.new.told k opened) next
            (subst (λ (l : List ℕ). tells c.loop-round.told c.tell_open.new.told (c.loop-round.round + 1)
            (open_below l (length l))) c.deref-in-loop-round-3.ensures.value c.tell_open.ensures)),
      );
    }

pub returns-then-pebbles-eq1-clause-told : goal.returns-then-pebbles-eq1-clause-told
returns-then-pebbles-eq1-clause-told g c =
    let open_words = words-open g (goal.at.returns-then-pebbles-eq1-clause-told g c).In_ok-words in (
      [],
      lone-counts c.args.board.now c.in_ok-words.words.items open_words
          (lone-rounds c.args.board.now c.in_ok-words.words.items c.pebbles.ensures.is_board
          (sym c.pebbles.ensures.value ∙ c.if-pebbles-eq1.true) open_words),
      none_told (g.W.Watch.tells c.args.watch.now) 1 c.args.told.now,
    )

pub returns-in_err-extend_from_slice-clause-untold : goal.returns-in_err-extend_from_slice-clause-untold
returns-in_err-extend_from_slice-clause-untold g c =
    let so_far = c.loop-round.invariant.told in
    let same = nothing_told (g.W.Watch.tells c.args.watch.now) 1 so_far.0 c.args.told.now c.loop-round.told
    (omega (arith, so_far.1.size, c.if-round-eq0.true)) so_far.2 in
    let p = err_from_is_err_and c.from_residual-in_err-extend_from_slice.result
    c.from_residual-in_err-extend_from_slice.ensures.1 in
    rw (p.1, p.2) same

pub returns-then-not-some-clause-told : goal.returns-then-not-some-clause-told
returns-then-not-some-clause-told g c =
    let at = (goal.at.returns-then-not-some-clause-told g c).After-close_open-some in
    let b = c.args.board.now in
    let so_far = c.loop-round.invariant.told in (
      so_far.0,
      all-rounds b c.pebbles.ensures.is_board (some g at) c.loop-round.round (old g at) (new g at)
          c.loop-round.closed.items (low g at) c.loop-round.invariant.at (passed g at) so_far.0 so_far.1
          (none-closed g at c.if-not-some.true),
      so_far.2,
    )

pub end_of_open-end-requires : goal.end_of_open-end-requires
end_of_open-end-requires g c =
    let at = (goal.at.end_of_open-end-requires g c).After-close_open-some in
    subst (λ (l : List ℕ). AreClosedFrom l c.loop-round.end) (sym c.deref-in-loop-round-2.ensures.value)
    (closed-kept c.args.board.now c.loop-round.closed.items c.loop-round.round (gap_count c.args.board.now)
    c.loop-round.end
    (old g at) (new g at) (passed g at) c.loop-round.invariant.shut)
