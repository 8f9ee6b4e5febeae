-- Plays over known bytes have one end and one text.
use Rattle.std.proofs.Common.{◌≡◌, ◌≢◌, ◌∙◌, ◌^◌, ℕ, zero, suc, ◌<◌, ◌≤◌, ◌⊎◌, inl, inr, List, [], ◌∷◌, ◌++◌}
use Rattle.std.proofs.Common.{length, Option, Some, None}
use Rattle.std.proofs.Common.{refl, sym, ap, subst, arith, append-nil, append_assoc, length-append, take}
use Rattle.std.specs.Fmt.{decimal}
use Rattle.std.specs.Io.KnownBytes.{IsAtEnd}
use Rattle.std.specs.List.{AllByRecursion, flat_map}
use Rattle.std.proofs.lemmas.Fmt.{decimal_nonempty}
use Rattle.std.proofs.lemmas.List.{append_cancel_left, append_cancel_right, nil_from_length, same_from_push}
use Rattle.std.proofs.lemmas.List.{take-append-le}
use Rattle.std.proofs.lemmas.List.Elements.{recursion_from_All}
use Rattle.board_text.proofs.Cited.{between}
use Rattle.board_text.specs.LineForms.{with_line_feed}
use Rattle.player.specs.Laws.{IsGame}
use Rattle.player.specs.Play.{FullLinesCame, LinesCame, LinesWereAll}
use Rattle.player.specs.Transcript.{AreResponses, Game, Going, IsPlayed, IsResponse, IsTranscript, Over, PersonAnswers}
use Rattle.player.specs.Transcript.{PersonAsks, PersonClimbs, Standing, no_answer_line, no_request_line, stopped_line}
use Rattle.player.specs.Words.{BeginsTooLong, HasNoFeed, IsLine}
use Rattle.player.specs.declared.end.PlayEnd.{PlayEnd}
use Rattle.player.specs.declared.end.PlayEnd.TheVariants.{Stopped}
use Rattle.player.proofs.Cited.{one_transcript}

-- ---- lines that are cut from the same bytes

abbrev pub Feedless : List ℕ → Type 0
Feedless line = AllByRecursion (λ byte. byte ≢ 10) line

one_line : (line other rest more : List ℕ) → Feedless line → Feedless other
    → with_line_feed line ++ rest ≡ with_line_feed other ++ more
    → (line ≡ other) × (rest ≡ more)
one_line [] [] rest more p q e = (refl, cc)
one_line [] (second ∷ others) rest more p q e = let same : 10 ≡ second = cc in absurd (q.0 (sym same))
one_line (first ∷ line) [] rest more p q e = let same : first ≡ 10 = cc in absurd (p.0 same)
one_line (first ∷ line) (second ∷ others) rest more p q e =
    let same : first ≡ second = cc in
    let later : with_line_feed line ++ rest ≡ with_line_feed others ++ more = cc in
    let both = one_line line others rest more p.1 q.1 later in
    (rw (same, both.0) refl, both.1)

abbrev pub joined : List (List ℕ) → List ℕ
joined lines = flat_map with_line_feed lines

joined_append : (lines others : List (List ℕ)) → joined (lines ++ others) ≡ joined lines ++ joined others
joined_append [] others = refl
joined_append (line ∷ lines) others =
    ap (λ t. with_line_feed line ++ t) (joined_append lines others) ∙ sym
    (append_assoc (with_line_feed line) (joined lines) (joined others))

abbrev pub AreLines : List (List ℕ) → Type 0
AreLines lines = AllByRecursion IsLine lines

feedless : (line : List ℕ) → IsLine line → Feedless line
feedless line is = recursion_from_All (λ (byte : ℕ). byte ≢ 10) line is.no_feed

-- the second lines are the first ones and more
pub record Goes_on (lines : List (List ℕ)) (tail : List ℕ) (others : List (List ℕ)) (rest : List ℕ) : Type 0 where
  pub more : List (List ℕ)
  pub lines_are : others ≡ lines ++ more
  pub tail_is : tail ≡ joined more ++ rest
  pub each : AreLines more

one_cut : (lines others : List (List ℕ)) (tail rest : List ℕ) → AreLines lines → AreLines others
    → joined lines ++ tail ≡ joined others ++ rest → Goes_on lines tail others rest ⊎ Goes_on others rest lines tail
one_cut [] others tail rest p q e = inl (record { more = others; lines_are = refl; tail_is = e; each = q })
one_cut (line ∷ lines) [] tail rest p q e = inr (record {
  more = line ∷ lines;
  lines_are = refl;
  tail_is = sym e;
  each =
      p;
})
one_cut (line ∷ lines) (other ∷ others) tail rest p q e =
    let first = one_line line other (joined lines ++ tail) (joined others ++ rest) (feedless line p.0)
    (feedless other q.0)
    (sym (append_assoc (with_line_feed line) (joined lines) tail) ∙ e ∙ append_assoc (with_line_feed other)
    (joined others) rest) in
    elim (one_cut lines others tail rest p.1 q.1 first.1) [
      | inl goes ↦ inl (record {
        more = goes.more;
        lines_are = rw (first.0, goes.lines_are) refl;
        tail_is =
            goes.tail_is;
        each = goes.each;
      })
      | inr goes ↦ inr (record {
        more = goes.more;
        lines_are = rw (first.0, goes.lines_are) refl;
        tail_is =
            goes.tail_is;
        each = goes.each;
      })
    ]

-- ---- the bytes with one line feed more

-- the lines and the tail are the bytes and a line feed. If nothing is left, the last line isn't empty
pub record Cuts (bytes : List ℕ) (lines : List (List ℕ)) (tail : List ℕ) : Type 0 where
  pub cut : bytes ++ 10 ∷ [] ≡ joined lines ++ tail
  pub each : AreLines lines
  pub some : tail ≡ [] → (before : List (List ℕ)) × (last : List ℕ) × (lines ≡ before ++ last ∷ []) × (last ≢ [])

-- how the tail stands to the bytes that came after the lines
abbrev pub Leaves : List ℕ → Option (List ℕ) → List ℕ → Type 0
Leaves rest left tail = ((more : List ℕ) × (tail ≡ rest ++ more)) × (IsAtEnd left → rest ≡ [] → length tail ≤ 1)

pub cuts : (bytes : List ℕ) (left : Option (List ℕ)) (lines : List (List ℕ)) (rest : List ℕ) → LinesCame
    (between (Some bytes) left) lines rest
    → (tail : List ℕ) × Cuts bytes lines tail × Leaves rest left tail
cuts bytes left lines rest came = go left came.came
  where
    each : AreLines lines
    each = recursion_from_All IsLine lines came.each

    whole : (left : Option (List ℕ)) → rest ≡ [] → LinesWereAll (between (Some bytes) left) lines → (tail : List ℕ)
        × Cuts bytes lines tail × Leaves rest left tail
    whole None none all = absurd all.read.0
    whole (Some over) none all =
        let cut : bytes ++ 10 ∷ [] ≡ joined lines ++ [] =
        ap (λ b. b ++ 10 ∷ []) (all.read.0 ∙ ap (λ o. (joined all.before ++ all.last) ++ o) all.read.1 ∙ append-nil
        (joined all.before ++ all.last))
        ∙ append_assoc (joined all.before) all.last (10 ∷ [])
        ∙ ap (λ l. joined all.before ++ l) (sym (append-nil (with_line_feed all.last)))
        ∙ sym (joined_append all.before (all.last ∷ [])) ∙ ap joined (sym all.lines_are) ∙ sym
        (append-nil (joined lines)) in (
          [],
          record { cut = cut; each = each; some = λ e. (all.before, all.last, all.lines_are, all.some) },
          ((([], rw none refl), λ end e. omega arith)),
        )

    go : (left : Option (List ℕ)) → FullLinesCame (between (Some bytes) left) lines rest ⊎
        ((rest ≡ []) × LinesWereAll (between (Some bytes) left) lines)
        → (tail : List ℕ) × Cuts bytes lines tail × Leaves rest left tail
    go left (inr (none, all)) = whole left none all
    go None (inl full) = absurd full
    go (Some over) (inl full) =
        let tail = rest ++ (over ++ 10 ∷ []) in
        let cut : bytes ++ 10 ∷ [] ≡ joined lines ++ tail =
        ap (λ b. b ++ 10 ∷ []) full ∙ append_assoc (joined lines ++ rest) over (10 ∷ []) ∙ append_assoc
        (joined lines) rest (over ++ 10 ∷ []) in (
          tail,
          record {
            cut = cut;
            each = each;
            some = λ e.
                let size : length tail ≡ 0 = ap length e in
                absurd (omega (arith, size, length-append rest (over ++ 10 ∷ []), length-append over (10 ∷ [])));
          },
          (
            (over ++ 10 ∷ [], refl),
            λ end none. (
                let all : length rest ≡ 0 = ap length none in
                let empty : length over ≡ 0 = ap length end in
                omega (arith, all, empty, length-append rest (over ++ 10 ∷ []), length-append over (10 ∷ []))
                ),
          ),
        )

-- ---- plays that go on

over_stays : (game : Game) (end : PlayEnd) (lines : List (List ℕ)) → AreResponses game (Over end) lines [] (Over end)
over_stays game end [] = (refl, refl)
over_stays game end (line ∷ lines) = ([], [], Over end, still game, over_stays game end lines, refl)
  where
    still : (game : Game) → IsResponse game (Over end) line [] (Over end)
    still (PersonAsks board) = (refl, refl)
    still (PersonAnswers board) = (refl, refl)
    still (PersonClimbs levels) = (refl, refl)

responses_append : (game : Game) (from mid to : Standing) (lines others : List (List ℕ)) (text more : List ℕ)
    → AreResponses game from lines text mid → AreResponses game mid others more to → AreResponses game from
    (lines ++ others) (text ++ more) to
responses_append game from mid to [] others text more first second =
    rw first.0 (subst (λ (s : Standing). AreResponses game s others more to) (sym first.1) second)
responses_append game from mid to (line ∷ lines) others text more (said, later, next, brings, rest, is) second = (
  said,
  later ++ more,
  next,
  brings,
  responses_append game next mid to lines others later more rest second,
  ap
      (λ t. t ++ more) is ∙ append_assoc said later more,
)

played_more : (game : Game) (lines others : List (List ℕ)) (text : List ℕ) (end : PlayEnd) → IsPlayed game lines text
    (Over end)
    → IsPlayed game (lines ++ others) text (Over end)
played_more game lines others text end is = record {
  opening = is.opening;
  first = is.first;
  more = is.more ++ [];
  opens = is.opens;
  brings = responses_append game is.first (Over end) (Over end) lines others is.more [] is.brings
      (over_stays game end others);
  text_is = is.text_is ∙ ap (λ t. is.opening ++ t) (sym (append-nil is.more));
}

played_line : (game : Game) (lines : List (List ℕ)) (line text said : List ℕ) (from to : Standing)
    → IsPlayed game lines text from
    → IsResponse game from line said to → IsPlayed game (lines ++ line ∷ []) (text ++ said) to
played_line game lines line text said from to is brings = record {
  opening = is.opening;
  first = is.first;
  more = is.more ++ (said ++ []);
  opens = is.opens;
  brings = responses_append game is.first from to lines (line ∷ []) is.more (said ++ []) is.brings
      (said, [], to, brings, (refl, refl), refl);
  text_is = ap (λ t. t ++ said) is.text_is ∙ append_assoc is.opening is.more said
      ∙ ap (λ t. is.opening ++ (is.more ++ t)) (sym (append-nil said));
}

no_numeral : (number : ℕ) → number < 2 ^ 32 → [] ≢ decimal number
no_numeral number small same =
    let some = decimal_nonempty number (omega (arith, small)) in
    let none : 0 ≡ length (decimal number) = ap length same in omega (arith, some, none)

-- an empty line is no move, which is said
refused_line : (game : Game) (at : List ℕ) (requests : ℕ) → IsGame game
    → (said : List ℕ) × (0 < length said) × IsResponse game (Going at requests) [] said (Going at requests)
refused_line (PersonAsks board) at requests is = (
  no_request_line,
  omega arith,
  inr (inr (
    (
      (λ e. cc),
      λ pebble inside. no_numeral pebble
          (omega (arith, inside, is.pebbles.1)),
    ),
    refl,
    refl,
  )),
)
refused_line (PersonClimbs levels) at requests is = (
  no_request_line,
  omega arith,
  inr (inr (
    (
      (λ e. cc),
      λ pebble inside. no_numeral pebble
          (omega (arith, inside, is.1)),
    ),
    refl,
    refl,
  )),
)
refused_line (PersonAnswers board) at requests is = (
  no_answer_line,
  omega arith,
  inr (inr (
    (
      (λ e. cc),
      λ pebble label legal. no_numeral label
          (omega (arith, legal.1.is_label, is.labels.1)) legal.2,
    ),
    refl,
    refl,
  )),
)

-- the same lines don't leave a play going and end it
never_both : (game : Game) (lines : List (List ℕ)) (text other at : List ℕ) (end : PlayEnd) (requests : ℕ) → IsGame game
    → IsPlayed game lines text (Over end) → IsPlayed game lines other (Going at requests) → ⊥
never_both game lines text other at end requests is over going =
    let bad = refused_line game at requests is in
    let first = one_transcript game lines text (other ++ stopped_line requests) end (Stopped requests) is (inl over)
    (inr (at, other, requests, going, refl, refl)) in
    let second = one_transcript game (lines ++ [] ∷ []) text ((other ++ bad.0) ++ stopped_line requests) end
    (Stopped requests) is
    (inl (played_more game lines ([] ∷ []) text end over))
    (inr (
      at,
      other ++ bad.0,
      requests,
      played_line game lines [] other bad.0 (Going at requests)
          (Going at requests) going bad.2,
      refl,
      refl,
    )) in
    let same : length (other ++ stopped_line requests) ≡ length ((other ++ bad.0) ++ stopped_line requests) =
    ap length (sym first.0 ∙ second.0) in
    omega (
      arith,
      same,
      bad.1,
      length-append other (stopped_line requests),
      length-append (other ++ bad.0)
          (stopped_line requests),
      length-append other bad.0,
    )

-- ---- the end of a play

-- nothing, or one line feed, is no line and more unless that line is empty and the last
no_more : (bytes : List ℕ) (lines more : List (List ℕ)) (tail rest : List ℕ) → Cuts bytes (lines ++ more) rest
    → tail ≡ joined more ++ rest → length tail ≤ 1 → more ≡ []
no_more bytes lines [] tail rest cuts is short = refl
no_more bytes lines (line ∷ []) tail rest cuts is short =
    let size : length tail ≡ length ((with_line_feed line ++ []) ++ rest) = ap length is in
    let parts = length-append (with_line_feed line ++ []) rest in
    let part = length-append (with_line_feed line) [] in
    let feed = length-append line (10 ∷ []) in
    let empty : line ≡ [] = nil_from_length line (omega (arith, size, parts, part, feed, short)) in
    let none : rest ≡ [] = nil_from_length rest (omega (arith, size, parts, part, feed, short)) in
    let last = cuts.some none in
    let same = same_from_push lines last.0 line last.1 last.2 in
    absurd (last.3 (sym same.1 ∙ empty))
no_more bytes lines (line ∷ second ∷ more) tail rest cuts is short =
    let size : length tail ≡ length ((with_line_feed line ++ (with_line_feed second ++ joined more)) ++ rest) =
    ap length is in
    absurd (omega (
      arith,
      size,
      short,
      length-append (with_line_feed line ++
          (with_line_feed second ++ joined more)) rest,
      length-append (with_line_feed line) (with_line_feed second ++ joined more),
      length-append (with_line_feed second)
          (joined more),
      length-append line (10 ∷ []),
      length-append second (10 ∷ []),
    ))

-- bytes that begin with too long a line don't begin with a line
feed_at : (line more : List ℕ) (size : ℕ) → length line ≤ size → HasNoFeed
    (take (suc size) (with_line_feed line ++ more)) → ⊥
feed_at line more size short none = go line size short (recursion_from_All (λ (byte : ℕ). byte ≢ 10) _ none)
  where
    go : (line : List ℕ) (size : ℕ) → length line ≤ size → Feedless (take (suc size) (with_line_feed line ++ more)) → ⊥
    go [] size short none = none.0 refl
    go (first ∷ line) zero short none = absurd (omega (arith, short))
    go (first ∷ line) (suc size) short none = go line size (omega (arith, short)) none.1

pub too_long_is : (rest more : List ℕ) → BeginsTooLong rest → BeginsTooLong (rest ++ more)
too_long_is rest more is = record {
  long = omega (arith, is.long, length-append rest more);
  no_feed = subst HasNoFeed (sym (take-append-le (suc 64) rest more (omega (arith, is.long)))) is.no_feed;
}

no_line : (tail : List ℕ) (more : List (List ℕ)) (rest : List ℕ) → BeginsTooLong tail → AreLines more
    → tail ≡ joined more ++ rest → more ≡ []
no_line tail [] rest long each is = refl
no_line tail (line ∷ more) rest long each is =
    absurd (feed_at line (joined more ++ rest) 64 each.0.short
    (subst (λ t. HasNoFeed (take (suc 64) t)) (is ∙ append_assoc (with_line_feed line)
    (joined more) rest) long.no_feed))

module _ (game : Game) (bytes : List ℕ) where
  -- the play is over after these lines, or they were all that came
  pub record HasEndedBy (lines : List (List ℕ)) (tail text : List ℕ) : Type 0 where
    pub cut : Cuts bytes lines tail
    pub end : PlayEnd
    pub transcript : IsTranscript game lines text end
    pub ends : IsPlayed game lines text (Over end) ⊎ ((length tail ≤ 1) × (length lines < 1000000))

  -- the lines left the play going, and no further line may be read
  pub record HasStoppedAt (lines : List (List ℕ)) (tail text : List ℕ) : Type 0 where
    pub cut : Cuts bytes lines tail
    pub at : List ℕ
    pub requests : ℕ
    pub goes : IsPlayed game lines text (Going at requests)
    pub limit : (length lines ≡ 1000000) ⊎ BeginsTooLong tail

module _ (game : Game) (is : IsGame game) (bytes : List ℕ) where
  abbrev pub Few : List (List ℕ) → Type 0
  Few lines = length lines ≤ 1000000

  from_cuts : (lines others : List (List ℕ)) (tail rest : List ℕ) → Cuts bytes lines tail → Cuts bytes others rest
      → Goes_on lines tail others rest ⊎ Goes_on others rest lines tail
  from_cuts lines others tail rest one two = one_cut lines others tail rest one.each two.each (sym one.cut ∙ two.cut)

  -- a stopped play has read all lines that it can
  none_after : (lines others : List (List ℕ)) (tail rest text : List ℕ) → HasStoppedAt game bytes lines tail text
      → Few others
      → Goes_on lines tail others rest → others ≡ lines
  none_after lines others tail rest text stops few goes =
      goes.lines_are ∙ ap (λ m. lines ++ m) (empty stops.limit) ∙ append-nil lines
    where
      empty : (length lines ≡ 1000000) ⊎ BeginsTooLong tail → goes.more ≡ []
      empty (inl full) =
          let size : length others ≡ length (lines ++ goes.more) = ap length goes.lines_are in
          nil_from_length goes.more (omega (arith, full, few, size, length-append lines goes.more))
      empty (inr long) = no_line tail goes.more rest long goes.each goes.tail_is

  -- a play whose lines were all that came has no more of them
  all_read : (lines others : List (List ℕ)) (tail rest : List ℕ) → length tail ≤ 1 → Cuts bytes others rest
      → Goes_on lines tail others rest → others ≡ lines
  all_read lines others tail rest short cut goes =
      let none = no_more bytes lines goes.more tail rest
      (subst (λ l. Cuts bytes l rest) goes.lines_are cut) goes.tail_is short in
      goes.lines_are ∙ ap (λ m. lines ++ m) none ∙ append-nil lines

  -- ended and stopped exclude each other, with the same lines
  apart_at : (lines : List (List ℕ)) (tail rest text other : List ℕ) → HasEndedBy game bytes lines tail text
      → HasStoppedAt game bytes lines rest other → ⊥
  apart_at lines tail rest text other ended stops = go ended.ends stops.limit
    where
      same_tail : tail ≡ rest
      same_tail = append_cancel_left (joined lines) tail rest (sym ended.cut.cut ∙ stops.cut.cut)

      go : IsPlayed game lines text (Over ended.end) ⊎ ((length tail ≤ 1) × (length lines < 1000000))
          → (length lines ≡ 1000000) ⊎ BeginsTooLong rest → ⊥
      go (inl over) limit = never_both game lines text other stops.at ended.end stops.requests is over stops.goes
      go (inr (short, few)) (inl full) = absurd (omega (arith, few, full))
      go (inr (short, few)) (inr long) = let size : length tail ≡ length rest =
          ap length same_tail in absurd (omega (arith, size, short, long.long))

  pub ended_or_stopped : (lines others : List (List ℕ)) (tail rest text other : List ℕ) → Few lines
      → HasEndedBy game bytes lines tail text → HasStoppedAt game bytes others rest other → ⊥
  ended_or_stopped lines others tail rest text other few ended stops =
      elim (from_cuts lines others tail rest ended.cut stops.cut) [
        | inr goes ↦
            let same : lines ≡ others = none_after others lines rest tail other stops few goes in
            apart_at others tail rest text other (subst (λ l. HasEndedBy game bytes l tail text) same ended) stops
        | inl goes ↦ elim ended.ends [
          | inl over ↦ never_both game others text other stops.at ended.end stops.requests is
              (subst (λ l. IsPlayed game l text (Over ended.end)) (sym goes.lines_are)
              (played_more game lines goes.more text ended.end over)) stops.goes
          | inr (short, less) ↦
              let same : others ≡ lines = all_read lines others tail rest short stops.cut goes in
              apart_at lines tail rest text other ended (subst (λ l. HasStoppedAt game bytes l rest other) same stops)
        ]
      ]

  -- the first lines end the play as the second do
  ended_first : (lines others : List (List ℕ)) (tail rest text other : List ℕ) → HasEndedBy game bytes lines tail text
      → HasEndedBy game bytes others rest other
      → Goes_on lines tail others rest → text ≡ other
  ended_first lines others tail rest text other one two goes = elim one.ends [
    | inl over ↦
        (one_transcript game others text other one.end two.end is
        (inl (subst (λ l. IsPlayed game l text (Over one.end)) (sym goes.lines_are)
        (played_more game lines goes.more text one.end over))) two.transcript).0
    | inr (short, less) ↦
        let same : others ≡ lines = all_read lines others tail rest short two.cut goes in
        (one_transcript game others text other one.end two.end is
        (subst (λ l. IsTranscript game l text one.end) (sym same) one.transcript) two.transcript).0
  ]

  pub two_ended : (lines others : List (List ℕ)) (tail rest text other : List ℕ) → HasEndedBy game bytes lines tail text
      → HasEndedBy game bytes others rest other → text ≡ other
  two_ended lines others tail rest text other one two = elim (from_cuts lines others tail rest one.cut two.cut) [
    | inl goes ↦ ended_first lines others tail rest text other one two goes
    | inr goes ↦ sym (ended_first others lines rest tail other text two one goes)
  ]

  same_stops : (lines : List (List ℕ)) (text other at standing : List ℕ) (requests more : ℕ) → IsPlayed game lines text
      (Going at requests)
      → IsPlayed game lines other (Going standing more) → text ≡ other
  same_stops lines text other at standing requests more one two =
      let both = one_transcript game lines (text ++ stopped_line requests) (other ++ stopped_line more)
      (Stopped requests) (Stopped more) is
      (inr (at, text, requests, one, refl, refl)) (inr (standing, other, more, two, refl, refl)) in
      let count : requests ≡ more = cc in
      append_cancel_right text other (stopped_line requests) (both.0 ∙ ap (λ n. other ++ stopped_line n) (sym count))

  pub two_stopped : (lines others : List (List ℕ)) (tail rest text other : List ℕ) → Few lines → Few others
      → HasStoppedAt game bytes lines tail text → HasStoppedAt game bytes others rest other → text ≡ other
  two_stopped lines others tail rest text other few few_too one two =
      elim (from_cuts lines others tail rest one.cut two.cut) [
        | inl goes ↦
            let same : others ≡ lines = none_after lines others tail rest text one few_too goes in
            same_stops lines text other one.at two.at one.requests two.requests one.goes
            (subst (λ l. IsPlayed game l other (Going two.at two.requests)) same two.goes)
        | inr goes ↦
            let same : lines ≡ others = none_after others lines rest tail other two few goes in
            same_stops lines text other one.at two.at one.requests two.requests one.goes
            (subst (λ l. IsPlayed game l other (Going two.at two.requests)) (sym same) two.goes)
      ]
