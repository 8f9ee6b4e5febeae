-- The matches of one level of a parse that passes.
use Rattle.std.proofs.Common.{◌≡◌, ◌∙◌, ◌<◌, ◌&&◌, ◌||◌, not, ℕ, Bool, true, false, true≢false, List, [], ◌∷◌, length}
use Rattle.std.proofs.Common.{Option, Some, None, is_some, refl, sym, ap, subst, inl, inr, cond, arith, drop, ◌==◌}
use Rattle.std.specs.Prelude.{find, fold, pos, unwrap_or}
use Rattle.std.specs.List.{list_all}
use Rattle.std.specs.Option.{option_map_or}
use Rattle.std.specs.Str.{bytes_eq}
use Rattle.std.specs.Str.Parse.{starts_with_minus}
use Rattle.std.proofs.lemmas.Int.{ints}
use Rattle.std.proofs.lemmas.Slice.Eq.{bytes_eq-Decides}
use Rattle.clap.specs.Lexer.{long_of, without_minus}
use Rattle.clap.specs.Values.{is_request}
use Rattle.clap.specs.ValueTests.{is_signed_in, is_unsigned_in}
use Rattle.clap.specs.Walk.{Held, Names, Row, Rule, Step, Text, Waiting, Walk, action_of, after_step, arg_by_id}
use Rattle.clap.specs.Walk.{arg_by_index, default_rows, finished, first_of, has_row, idle, is_empty, is_pending}
use Rattle.clap.specs.Walk.{long_or_other, next, nothing_held, one_of, option, positional, positional_held, reading_by}
use Rattle.clap.specs.Walk.{rows_after, settled, subcommand, subcommand_met, subcommand_or_other, takes_several}
use Rattle.clap.specs.Walk.{to_positional, trailing, value, walk, walk_from, walked, walked_from, with_default}
use Rattle.clap.specs.Walk.{word_met}
use Rattle.clap.specs.Simple.{Shape}
use Rattle.clap.specs.Takes.{default_passes, flag_word_passes, is_valid, level_passes, other_passes, positional_passes}
use Rattle.clap.specs.Takes.{settle_passes, step_passes, turn_passes, value_passes, values_pass, walk_passes}
use Rattle.clap.specs.Takes.{word_passes}
use Rattle.clap.specs.declared.builder.value_parser.Reading.TheVariants.{AsWritten, WithoutMinus}
use Rattle.clap.specs.declared.builder.value_parser.ValueParser.TheVariants as vp
use Rattle.clap.specs.declared.parser.matches.ValueSource.TheVariants.{DefaultValue}
use Rattle.std.proofs.lemmas.Bool.{eqb-true}
use Rattle.clap.proofs.ValueTestLemmas.{accepts-Accepts, Accepts-accepts}
use Rattle.clap.proofs.WalkLemmas.{both}
use Rattle.command_line.specs.Inside.Reading.{has_flag, is_flag_text}
use Rattle.command_line.proofs.RowFacts.{Each, Fits, GoodRule, either, found_each, some_first, with_fits}
use Rattle.command_line.proofs.Defaults.{HasRow}
use Rattle.command_line.proofs.WalkFits.{Good, IsNoCommand, RowsFit, long_no_command, long_word_fits, settled_fits}

-- ---- one word

other_fits : (s : Shape) (o : Option Text) (waiting : Waiting) (position : ℕ) (word : Text) (h : Held) → Good s.rules
    → other_passes s o word h ≡ true → RowsFit s.rules h
    → RowsFit s.rules (subcommand_or_other s.rules o waiting position word h).0
other_fits s (Some name) waiting position word h good pass each = each
other_fits s None waiting position word h good pass each = go (bytes_eq word (45 ∷ 45 ∷ [])) pass
  where
    go : (b : Bool) → (b || flag_word_passes s.rules s.args_override_self (long_of word) word h) ≡ true
        → RowsFit s.rules (cond b (h, trailing position) (long_or_other s.rules waiting word (long_of word) h)).0
    go true p = each
    go false p = long_word_fits s.rules s.args_override_self waiting word (long_of word) h good p each

met_fits : (s : Shape) (names : Names) (is_trailing : Bool) (waiting : Waiting) (position : ℕ) (word : Text) (h : Held)
    → Good s.rules
    → word_passes s names is_trailing waiting word h ≡ true → RowsFit s.rules h
    → RowsFit s.rules (word_met s.rules names is_trailing waiting position word h).0
met_fits s names true waiting position word h good pass each = each
met_fits s names false waiting position word h good pass each =
    other_fits s (subcommand_met names waiting word) waiting position word h good pass each

other_no_command : (c : List Rule) (waiting : Waiting) (position : ℕ) (word : Text) (h : Held)
    → IsNoCommand (subcommand_or_other c None waiting position word h).1
other_no_command c waiting position word h = go (bytes_eq word (45 ∷ 45 ∷ []))
  where
    go : (b : Bool) → IsNoCommand (cond b (h, trailing position) (long_or_other c waiting word (long_of word) h)).1
    go true = tt
    go false = long_no_command c waiting word (long_of word) h

leaf_no_command : (c : List Rule) (is_trailing : Bool) (waiting : Waiting) (position : ℕ) (word : Text) (h : Held)
    → IsNoCommand (word_met c [] is_trailing waiting position word h).1
leaf_no_command c true waiting position word h = tt
leaf_no_command c false idle position word h = other_no_command c idle position word h
leaf_no_command c false (option id) position word h = other_no_command c (option id) position word h
leaf_no_command c false positional position word h = other_no_command c positional position word h

positional_fits : (c : List Rule) (again : Bool) (a : Rule) (word : Text) (h : Held) → Good c
    → positional_passes c again a h ≡ true
    → RowsFit c h → RowsFit c (positional_held c a word h)
positional_fits c again a word h good pass each = go (is_pending a h.pending && takes_several a) pass
  where
    go : (b : Bool) → (b || settle_passes c again h) ≡ true → RowsFit c (cond b h (settled c h))
    go true p = each
    go false p = settled_fits c again h good p each

value_fits : (s : Shape) (o : Option Rule) (word : Text) (w : Walk) (h : Held) → Good s.rules
    → option_map_or (λ a. positional_passes s.rules s.args_override_self a h) o false ≡ true → RowsFit s.rules h
    → RowsFit s.rules (to_positional s.rules o word w h).held
value_fits s None word w h good pass each = each
value_fits s (Some a) word w h good pass each = positional_fits s.rules s.args_override_self a word h good pass each

step_fits : (s : Shape) (word : Text) (w : Walk) (h : Held) (step : Step) → Good s.rules
    → step_passes s w.position h step ≡ true
    → RowsFit s.rules h → RowsFit s.rules (after_step s.rules word w h step).held
step_fits s word w h (next waiting) good pass each = each
step_fits s word w h (trailing position) good pass each = each
step_fits s word w h (subcommand name) good pass each = each
step_fits s word w h value good pass each = value_fits s (arg_by_index s.rules w.position) word w h good pass each

value_stays : (c : List Rule) (o : Option Rule) (word : Text) (w : Walk) (h : Held) → w.stopped ≡ None
    → (to_positional c o word w h).stopped ≡ None
value_stays c None word w h none = none
value_stays c (Some a) word w h none = refl

step_stays : (c : List Rule) (word : Text) (w : Walk) (h : Held) (step : Step) → IsNoCommand step → w.stopped ≡ None
    → (after_step c word w h step).stopped ≡ None
step_stays c word w h (next waiting) fine none = none
step_stays c word w h (trailing position) fine none = none
step_stays c word w h (subcommand name) fine none = absurd fine
step_stays c word w h value fine none = value_stays c (arg_by_index c w.position) word w h none

turn_fits : (s : Shape) (w : Walk) (word : Text) (o : Option (Text × List Text)) → Good s.rules → o ≡ None
    → w.stopped ≡ None
    → (is_some o || (word_passes s [] w.is_trailing w.waiting word w.held
    && step_passes s w.position (word_met s.rules [] w.is_trailing w.waiting w.position word w.held).0
    (word_met s.rules [] w.is_trailing w.waiting w.position word w.held).1)) ≡ true
    → RowsFit s.rules w.held
    → ((walked_from s.rules [] o w word).stopped ≡ None) × RowsFit s.rules (walked_from s.rules [] o w word).held
turn_fits s w word (Some p) good none stopped pass each = cc
turn_fits s w word None good none stopped pass each =
    let met = word_met s.rules [] w.is_trailing w.waiting w.position word w.held in
    let parts = both (word_passes s [] w.is_trailing w.waiting word w.held)
    (step_passes s w.position met.0 met.1) pass in (
      step_stays s.rules word w met.0 met.1
          (leaf_no_command s.rules w.is_trailing w.waiting w.position word w.held) stopped,
      step_fits s word w met.0 met.1 good parts.1
          (met_fits s [] w.is_trailing w.waiting w.position word w.held good parts.0 each),
    )

walk_fits : (s : Shape) (w : Walk) (words : List Text) → Good s.rules → w.stopped ≡ None
    → walk_passes s [] w words ≡ true
    → RowsFit s.rules w.held → RowsFit s.rules (fold (walked s.rules []) w words).held
unfolding walk_passes walked
walk_fits s w [] good stopped pass each = each
walk_fits s w (word ∷ rest) good stopped pass each =
    let parts = both (turn_passes s [] w word) (walk_passes s [] (walked s.rules [] w word) rest) pass in
    let after = turn_fits s w word w.stopped good stopped stopped parts.0 each in
    walk_fits s (walked s.rules [] w word) rest good after.0 parts.1 after.1

-- ---- defaults

default_fits : (c : List Rule) (a : Rule) (values : List Text) (rows : List Row) → GoodRule c a
    → (is_empty values || (not (is_request (action_of a)) && values_pass a values)) ≡ true → Each (Fits c) rows
    → Each (Fits c) (default_rows a.id (reading_by a) values rows)
default_fits c a [] rows good pass each = each
default_fits c a (v ∷ vs) rows good pass each =
    elim (either (is_empty (v ∷ vs)) (not (is_request (action_of a)) && values_pass a (v ∷ vs)) pass) [
      | inl none ↦ let bad = eqb-true _ _ none in absurd (omega (arith, bad))
      | inr passed ↦ with_fits c a DefaultValue (v ∷ vs) rows good.0 (omega arith)
          (both (not (is_request (action_of a))) (values_pass a (v ∷ vs)) passed).1 each
    ]

one_default : (c : List Rule) (a : Rule) (rows : List Row) → GoodRule c a → default_passes a ≡ true → Each (Fits c) rows
    → Each (Fits c) (with_default rows a)
one_default c a rows good pass each = go (has_row a.id rows)
  where
    go : (b : Bool) → Each (Fits c) (cond b rows (default_rows a.id (reading_by a) a.defaults rows))
    go true = each
    go false = default_fits c a a.defaults rows good pass each

defaults_fit : (c xs : List Rule) (rows : List Row) → Each (GoodRule c) xs → list_all default_passes xs ≡ true
    → Each (Fits c) rows
    → Each (Fits c) (fold with_default rows xs)
defaults_fit c [] rows good pass each = each
defaults_fit c (a ∷ xs) rows good pass each =
    let parts = both (default_passes a) (list_all default_passes xs) pass in
    defaults_fit c xs (with_default rows a) good.1 parts.1 (one_default c a rows good.0 parts.0 each)

-- ---- a level with no commands below it

pub level_fits : (s : Shape) (words : List Text) → Good s.rules → level_passes s [] nothing_held words false ≡ true
    → Each (Fits s.rules) (rows_after s.rules [] words)
    × (is_valid s (rows_after s.rules [] words) false ≡ true)
level_fits s words good pass =
    let end = (walk s.rules [] nothing_held words).held in
    let a = both (walk_passes s [] (walk_from nothing_held) words)
    (settle_passes s.rules s.args_override_self end &&
    (list_all default_passes s.rules && is_valid s (finished s.rules end) false)) pass in
    let b = both (settle_passes s.rules s.args_override_self end)
    (list_all default_passes s.rules && is_valid s (finished s.rules end) false) a.1 in
    let d = both (list_all default_passes s.rules) (is_valid s (finished s.rules end) false) b.1 in
    let walked_fits = walk_fits s (walk_from nothing_held) words good refl a.0 tt in (
      defaults_fit s.rules s.rules (settled s.rules end).rows good d.0
          (settled_fits s.rules s.args_override_self end good b.0 walked_fits),
      d.1,
    )

-- ---- an argument with a row can be read

fitting_row : (c : List Rule) (id : Text) (rows : List Row) (o : Option Row) → find (λ r. bytes_eq r.id id) rows ≡ o
    → Each (Fits c) rows
    → is_some o ≡ true
    → (r : Row) × (find (λ r. bytes_eq r.id id) rows ≡ Some r) × Fits c r × (r.id ≡ id)
fitting_row c id rows None e each h = absurd (true≢false (sym h))
fitting_row c id rows (Some r) e each h =
    let found = found_each (Fits c) (λ r. bytes_eq r.id id) rows r each e in
    (r, e, found.0, (bytes_eq-Decides r.id id).0 found.1)

fitting_value : (c : List Rule) (a : Rule) (id : Text) (rows : List Row) → Each (Fits c) rows → arg_by_id c id ≡ Some a
    → HasRow id rows
    → (r : Row) × (v : Text) × (vs : List Text) × (find (λ r. bytes_eq r.id id) rows ≡ Some r) × (r.values ≡ v ∷ vs)
    × (value_passes a v ≡ true) × (r.reading ≡ reading_by a)
fitting_value c a id rows each known there =
    let row = fitting_row c id rows (find (λ r. bytes_eq r.id id) rows) refl each there in
    let fits = row.2 in
    let same : fits.0 ≡ a = some_first fits.0 a (sym fits.1 ∙ (ap (arg_by_id c) row.3 ∙ known)) in
    go row.0 row.1 row.0.values refl fits.2 (subst (λ z. values_pass z row.0.values ≡ true) same fits.3)
    (fits.4 ∙ ap reading_by same)
  where
    go : (r : Row) → find (λ r. bytes_eq r.id id) rows ≡ Some r → (values : List Text) → r.values ≡ values
        → 0 < length values → values_pass a values ≡ true → r.reading ≡ reading_by a
        → (r : Row) × (v : Text) × (vs : List Text) × (find (λ r. bytes_eq r.id id) rows ≡ Some r) × (r.values ≡ v ∷ vs)
        × (value_passes a v ≡ true) × (r.reading ≡ reading_by a)
    go r found [] is some pass how = absurd (omega arith)
    go r found (v ∷ vs) is some pass how =
        (r, v, vs, found, is, (both (value_passes a v) (values_pass a vs) pass).0, how)

pub text_there : (c : List Rule) (a : Rule) (id : Text) (rows : List Row) → Each (Fits c) rows → arg_by_id c id ≡ Some a
    → HasRow id rows
    → is_some (first_of id rows) ≡ true
text_there c a id rows each known there =
    let got = fitting_value c a id rows each known there in
    rw (got.3, got.4) refl

pub choice_there : (c : List Rule) (a : Rule) (id : Text) (is_choice : Text → Bool) (rows : List Row)
    → Each (Fits c) rows → arg_by_id c id ≡ Some a
    → ((t : Text) → value_passes a t ≡ true → is_choice t ≡ true) → HasRow id rows
    → option_map_or is_choice (first_of id rows) false ≡ true
choice_there c a id is_choice rows each known passes there =
    let got = fitting_value c a id rows each known there in
    rw (got.3, got.4) (passes got.1 got.5)

pub flag_there : (c : List Rule) (a : Rule) (id : Text) (rows : List Row) → Each (Fits c) rows → arg_by_id c id ≡ Some a
    → reading_by a ≡ AsWritten → ((t : Text) → value_passes a t ≡ true → is_flag_text t ≡ true) → HasRow id rows
    → has_flag rows id ≡ true
flag_there c a id rows each known how passes there =
    let got = fitting_value c a id rows each known there in
    let reads : got.0.reading ≡ AsWritten = got.6 ∙ how in
    let one : one_of id rows ≡ Some got.1 = rw (got.3, got.4, reads) refl in
    ap (λ (o : Option Text). option_map_or is_flag_text o false) one ∙ passes got.1 got.5

without_minus-cond : (t : List ℕ) → without_minus t ≡ cond (starts_with_minus t) (drop 1 t) t
without_minus-cond [] = refl
without_minus-cond (x ∷ xs) = go (x == 45)
  where
    go : (b : Bool) → unwrap_or (cond b (Some xs) None) (x ∷ xs) ≡ cond b xs (x ∷ xs)
    go true = refl
    go false = refl

unsigned : (most : ℕ) (t : Text) → is_signed_in (pos 1) (pos most) t ≡ true
    → is_unsigned_in 1 most (without_minus t) ≡ true
unsigned most t e =
    go (starts_with_minus t) refl
  where
    go : (b : Bool) → starts_with_minus t ≡ b → is_unsigned_in 1 most (without_minus t) ≡ true
    go true minus =
        let passed = accepts-Accepts false (vp.Signed (pos 1) (pos most)) t e in
        let low_ok = rw minus at passed.2 in
        absurd (omega (arith, ints))
    go false minus =
        let passed = accepts-Accepts false (vp.Signed (pos 1) (pos most)) t e in
        let is : without_minus t ≡ t = without_minus-cond t ∙ ap (λ (b : Bool). cond b (drop 1 t) t) minus in
        let low_ok = rw minus at passed.2 in
        let high_ok = rw minus at passed.3 in
        let fits = rw minus at passed.1 in
        let numeral = rw minus at passed.0 in
        rw is (Accepts-accepts false (vp.Unsigned 1 most) t
        (numeral, omega (arith, ints, fits.sfits), omega (arith, ints), omega (arith, ints)))

pub number_there : (c : List Rule) (a : Rule) (id : Text) (most : ℕ) (rows : List Row) → Each (Fits c) rows
    → arg_by_id c id ≡ Some a
    → reading_by a ≡ WithoutMinus → ((t : Text) → value_passes a t ≡ true → is_signed_in (pos 1) (pos most) t ≡ true)
    → HasRow id rows → option_map_or (is_unsigned_in 1 most) (one_of id rows) false ≡ true
number_there c a id most rows each known how passes there =
    let got = fitting_value c a id rows each known there in
    let reads : got.0.reading ≡ WithoutMinus = got.6 ∙ how in
    let one : one_of id rows ≡ Some (without_minus got.1) = rw (got.3, got.4, reads) refl in
    ap (λ (o : Option Text). option_map_or (is_unsigned_in 1 most) o false) one
    ∙ unsigned most got.1 (passes got.1 got.5)
