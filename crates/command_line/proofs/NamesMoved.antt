-- The addresses of a parser's names change no rows of a walk.
use Rattle.std.proofs.Common.{◌≡◌, ◌∙◌, ◌&&◌, ◌||◌, ℕ, Bool, true, false, List, [], ◌∷◌, length, Option, Some, None}
use Rattle.std.proofs.Common.{refl, ap, cond, map, option_map}
use Rattle.std.specs.Prelude.{find, fold, zero, suc, slice_get, drop, encode_utf8}
use Rattle.std.specs.Borrow.{Bor}
use Rattle.std.specs.List.{list_any}
use Rattle.std.specs.Str.{bytes_eq, chars}
use Rattle.clap.specs.Facts.{parser_of_value}
use Rattle.clap.specs.Lexer.{long_of, short_of}
use Rattle.clap.specs.Values.{reading_of, same_text}
use Rattle.clap.specs.ValueTests.{accepts}
use Rattle.clap.specs.Walk.{Held, Names, Outcome, Row, Rule, Step, Text, Waiting, Walk, action_of, after_flag}
use Rattle.clap.specs.Walk.{after_step, arg_by_id, arg_by_index, arg_by_long, arg_by_short, attached_value, bundle}
use Rattle.clap.specs.Walk.{bundle_met, bundle_step, default_rows, done, finished, flag_met, has_row, idle, is_multiple}
use Rattle.clap.specs.Walk.{is_pending, long_met, long_or_other, long_word, next, next_position, nothing_held, option}
use Rattle.clap.specs.Walk.{option_met, option_word, plain, plain_word, positional, positional_held, pushed, reacted}
use Rattle.clap.specs.Walk.{reading_by, refused, rows_after, settled, settled_rows, short_met, short_or_plain}
use Rattle.clap.specs.Walk.{subcommand, subcommand_met, subcommand_or_other, takes_several, takes_values, to_positional}
use Rattle.clap.specs.Walk.{trailing, used, used_as, used_by_id, value, values_or_missing, waits, walk, walk_from}
use Rattle.clap.specs.Walk.{walked, walked_from, with_default, word_met}
use Rattle.clap.specs.declared.builder.value_parser.Reading.{Reading}
use Rattle.clap.specs.declared.builder.value_parser.ValueParser.{ValueParser}
use Rattle.clap.specs.declared.builder.value_parser.ValueParser.TheVariants as vp
use Rattle.command_line.specs.Commands.{reference_to}

-- the parser with its names somewhere else
abbrev pub moved_parser : ValueParser → ValueParser
moved_parser vp.String = vp.String
moved_parser vp.NonEmptyString = vp.NonEmptyString
moved_parser vp.Bool = vp.Bool
moved_parser vp.Boolish = vp.Boolish
moved_parser vp.Falsey = vp.Falsey
moved_parser (vp.Signed low high) = vp.Signed low high
moved_parser (vp.Unsigned low high) = vp.Unsigned low high
moved_parser vp.Float = vp.Float
moved_parser vp.Char = vp.Char
moved_parser (vp.Names names) = vp.Names (reference_to (map (λ t. reference_to t.now) names.now))
moved_parser (vp.Values values) = vp.Values values

abbrev pub moved : Rule → Rule
moved a = record a { parser = option_map moved_parser a.parser }

abbrev pub all_moved : List Rule → List Rule
all_moved c = map moved c

reading_same : (p : ValueParser) → reading_of (moved_parser p) ≡ reading_of p
reading_same vp.String = refl
reading_same vp.NonEmptyString = refl
reading_same vp.Bool = refl
reading_same vp.Boolish = refl
reading_same vp.Falsey = refl
reading_same (vp.Signed low high) = refl
reading_same (vp.Unsigned low high) = refl
reading_same vp.Float = refl
reading_same vp.Char = refl
reading_same (vp.Names names) = refl
reading_same (vp.Values values) = refl

pub reading_stays : (a : Rule) → reading_by (moved a) ≡ reading_by a
reading_stays a = go a.parser
  where
    go : (o : Option ValueParser)
        → reading_of (parser_of_value (option_map moved_parser o)) ≡ reading_of (parser_of_value o)
    go None = refl
    go (Some p) = reading_same p

names_same : (b : Bool) (t : Text) (names : List (Bor Text))
    → list_any (λ (name : Bor Text). same_text b name.now t) (map (λ (s : Bor Text). reference_to s.now) names)
    ≡ list_any (λ (name : Bor Text). same_text b name.now t) names
names_same b t [] = refl
names_same b t (s ∷ rest) = ap (λ (x : Bool). same_text b s.now t || x) (names_same b t rest)

accepts_same : (b : Bool) (p : ValueParser) (t : Text) → accepts b (moved_parser p) t ≡ accepts b p t
accepts_same b vp.String t = refl
accepts_same b vp.NonEmptyString t = refl
accepts_same b vp.Bool t = refl
accepts_same b vp.Boolish t = refl
accepts_same b vp.Falsey t = refl
accepts_same b (vp.Signed low high) t = refl
accepts_same b (vp.Unsigned low high) t = refl
accepts_same b vp.Float t = refl
accepts_same b vp.Char t = refl
accepts_same b (vp.Names names) t = names_same b t names.now
accepts_same b (vp.Values values) t = refl

pub accepts_stay : (b : Bool) (o : Option ValueParser) (t : Text)
    → accepts b (parser_of_value (option_map moved_parser o)) t ≡ accepts b (parser_of_value o) t
accepts_stay b None t = refl
accepts_stay b (Some p) t = accepts_same b p t

pub find_same : (q : Rule → Bool) (c : List Rule) → ((a : Rule) → q (moved a) ≡ q a)
    → find q (all_moved c) ≡ option_map moved (find q c)
find_same q [] same = refl
find_same q (a ∷ c) same =
    ap (λ (b : Bool). cond b (Some (moved a)) (find q (all_moved c))) (same a) ∙ go (find_same q c same) (q a)
  where
    go : find q (all_moved c) ≡ option_map moved (find q c) → (b : Bool)
        → cond b (Some (moved a)) (find q (all_moved c)) ≡ option_map moved (cond b (Some a) (find q c))
    go later true = refl
    go later false = later

pub by_id : (c : List Rule) (id : Text) → arg_by_id (all_moved c) id ≡ option_map moved (arg_by_id c id)
by_id c id = find_same (λ a. bytes_eq a.id id) c (λ a. refl)

pub by_long : (c : List Rule) (name : Text) → arg_by_long (all_moved c) name ≡ option_map moved (arg_by_long c name)
by_long c name = find_same _ c (λ a. refl)

pub by_short : (c : List Rule) (x : ℕ) → arg_by_short (all_moved c) x ≡ option_map moved (arg_by_short c x)
by_short c x = find_same _ c (λ a. refl)

pub by_index : (c : List Rule) (i : ℕ) → arg_by_index (all_moved c) i ≡ option_map moved (arg_by_index c i)
by_index c i = find_same _ c (λ a. refl)

-- ---- one use

abbrev with_rows : Held → List Row → Held
with_rows h rows = record h { rows = rows; pending = None }

abbrev with_pending : Held → Text × List Text → Held
with_pending h p = record h { pending = Some p }

used_same : (a : Rule) (values : List Text) (rows : List Row) → used (moved a) values rows ≡ used a values rows
used_same a values rows =
    ap (λ (how : Reading). used_as (action_of a) a.id how (values_or_missing a values) rows) (reading_stays a)

used_by_same : (o : Option Rule) (values : List Text) (rows : List Row)
    → used_by_id (option_map moved o) values rows ≡ used_by_id o values rows
used_by_same None values rows = refl
used_by_same (Some a) values rows = used_same a values rows

rows_same : (c : List Rule) (o : Option (Text × List Text)) (rows : List Row)
    → settled_rows (all_moved c) o rows ≡ settled_rows c o rows
rows_same c None rows = refl
rows_same c (Some p) rows =
    ap (λ (o : Option Rule). used_by_id o p.1 rows) (by_id c p.0) ∙ used_by_same (arg_by_id c p.0) p.1 rows

pub settled_same : (c : List Rule) (h : Held) → settled (all_moved c) h ≡ settled c h
settled_same c h = ap (λ (rows : List Row). with_rows h rows) (rows_same c h.pending h.rows)

pub reacted_same : (c : List Rule) (a : Rule) (values : List Text) (h : Held)
    → reacted (all_moved c) (moved a) values h ≡ reacted c a values h
reacted_same c a values h = ap (λ (k : Held). with_rows h (used (moved a) values k.rows)) (settled_same c h)
    ∙ ap (λ (rows : List Row). with_rows h rows) (used_same a values (settled c h).rows)

option_same : (c : List Rule) (a : Rule) (v : Option Text) (h : Held)
    → option_met (all_moved c) (moved a) v h ≡ option_met c a v h
option_same c a (Some v) h = ap (λ (k : Held). (k, done)) (reacted_same c a (v ∷ []) h)
option_same c a None h = ap (λ (k : Held). (with_pending k (a.id, []), waits a.id)) (settled_same c h)

flag_same : (c : List Rule) (a : Rule) (v : Option Text) (h : Held)
    → flag_met (all_moved c) (moved a) v h ≡ flag_met c a v h
flag_same c a (Some v) h = refl
flag_same c a None h = ap (λ (k : Held). (k, done)) (reacted_same c a [] h)

-- ---- one word

long_same : (c : List Rule) (o : Option Rule) (v : Option Text) (h : Held)
    → long_met (all_moved c) (option_map moved o) v h ≡ long_met c o v h
long_same c None v h = refl
long_same c (Some a) v h = go (takes_values a)
  where
    go : (b : Bool)
        → cond b (option_met (all_moved c) (moved a) v h) (flag_met (all_moved c) (moved a) v h)
        ≡ cond b (option_met c a v h) (flag_met c a v h)
    go true = option_same c a v h
    go false = flag_same c a v h

short_same : (c : List Rule) (o : Option Rule) (rest : Text) (h : Held) (f g : Held → Held × Outcome)
    → ((k : Held) → f k ≡ g k)
    → short_met (all_moved c) (option_map moved o) rest h f ≡ short_met c o rest h g
short_same c None rest h f g same = refl
short_same c (Some a) rest h f g same = go (takes_values a)
  where
    go : (b : Bool)
        → cond b (option_met (all_moved c) (moved a) (attached_value rest) h) (f (reacted (all_moved c) (moved a) [] h))
        ≡ cond b (option_met c a (attached_value rest) h) (g (reacted c a [] h))
    go true = option_same c a (attached_value rest) h
    go false = ap f (reacted_same c a [] h) ∙ same (reacted c a [] h)

step_same : (c : List Rule) (o : Option ℕ) (flags : Text) (skip : ℕ) (so_far : Outcome) (h : Held)
    (f g : Text → ℕ → Outcome → Held → Held × Outcome)
    → ((t : Text) (s : ℕ) (u : Outcome) (k : Held) → f t s u k ≡ g t s u k)
    → bundle_step (all_moved c) o flags skip so_far h f ≡ bundle_step c o flags skip so_far h g
step_same c None flags skip so_far h f g same = refl
step_same c (Some x) flags zero so_far h f g same =
    let rest = drop (length (encode_utf8 x)) flags in
    ap (λ (o : Option Rule). short_met (all_moved c) o rest h (f rest 0 done)) (by_short c x)
    ∙ short_same c (arg_by_short c x) rest h (f rest 0 done) (g rest 0 done) (λ k. same rest 0 done k)
step_same c (Some x) flags (suc skip) so_far h f g same = same (drop (length (encode_utf8 x)) flags) skip so_far h

pub bundle_same : (c : List Rule) (k : ℕ) (flags : Text) (skip : ℕ) (so_far : Outcome) (h : Held)
    → bundle_met (all_moved c) k flags skip so_far h ≡ bundle_met c k flags skip so_far h
unfolding bundle_met
bundle_same c zero flags skip so_far h = refl
bundle_same c (suc k) flags skip so_far h =
    step_same c (slice_get (chars flags) 0) flags skip so_far h (bundle_met (all_moved c) k) (bundle_met c k)
    (λ t s u g. bundle_same c k t s u g)

option_word_same : (o : Option Rule) (id word : Text) (h : Held)
    → option_word (option_map moved o) id word h ≡ option_word o id word h
option_word_same None id word h = refl
option_word_same (Some a) id word h = refl

plain_same : (c : List Rule) (waiting : Waiting) (word : Text) (h : Held)
    → plain_word (all_moved c) waiting word h ≡ plain_word c waiting word h
plain_same c idle word h = refl
plain_same c (option id) word h = ap (λ (x : Held × Waiting). (x.0, next x.1))
    (ap (λ (o : Option Rule). option_word o id word h) (by_id c id) ∙ option_word_same (arg_by_id c id) id word h)
plain_same c positional word h = refl

after_flag_same : (c : List Rule) (waiting : Waiting) (word : Text) (h : Held) (o : Outcome)
    → after_flag (all_moved c) waiting word h o ≡ after_flag c waiting word h o
after_flag_same c waiting word h done = refl
after_flag_same c waiting word h (waits id) = refl
after_flag_same c waiting word h plain = plain_same c waiting word h
after_flag_same c waiting word h refused = plain_same c waiting word h

long_word_same : (c : List Rule) (waiting : Waiting) (word name : Text) (v : Option Text) (h : Held)
    → long_word (all_moved c) waiting word name v h ≡ long_word c waiting word name v h
long_word_same c waiting word name v h =
    ap (λ (x : Held × Outcome). after_flag (all_moved c) waiting word x.0 x.1)
    (ap (λ (o : Option Rule). long_met (all_moved c) o v h) (by_long c name) ∙ long_same c (arg_by_long c name) v h)
    ∙ after_flag_same c waiting word (long_met c (arg_by_long c name) v h).0 (long_met c (arg_by_long c name) v h).1

short_word_same : (c : List Rule) (waiting : Waiting) (word : Text) (o : Option Text) (h : Held)
    → short_or_plain (all_moved c) waiting word o h ≡ short_or_plain c waiting word o h
short_word_same c waiting word None h = plain_same c waiting word h
short_word_same c waiting word (Some flags) h =
    ap (λ (x : Held × Outcome). after_flag (all_moved c) waiting word x.0 x.1)
    (bundle_same c (length flags) flags h.skip plain (record h { skip = 0 }))
    ∙ after_flag_same c waiting word (bundle c flags h).0 (bundle c flags h).1

long_or_other_same : (c : List Rule) (waiting : Waiting) (word : Text) (o : Option (Text × Option Text)) (h : Held)
    → long_or_other (all_moved c) waiting word o h ≡ long_or_other c waiting word o h
long_or_other_same c waiting word (Some p) h = long_word_same c waiting word p.0 p.1 h
long_or_other_same c waiting word None h = short_word_same c waiting word (short_of word) h

other_same : (c : List Rule) (o : Option Text) (waiting : Waiting) (position : ℕ) (word : Text) (h : Held)
    → subcommand_or_other (all_moved c) o waiting position word h ≡ subcommand_or_other c o waiting position word h
other_same c (Some name) waiting position word h = refl
other_same c None waiting position word h = go (bytes_eq word (45 ∷ 45 ∷ []))
  where
    go : (b : Bool) → cond b (h, trailing position) (long_or_other (all_moved c) waiting word (long_of word) h)
        ≡ cond b (h, trailing position) (long_or_other c waiting word (long_of word) h)
    go true = refl
    go false = long_or_other_same c waiting word (long_of word) h

pub met_same : (c : List Rule) (names : Names) (is_trailing : Bool) (waiting : Waiting) (position : ℕ) (word : Text)
    (h : Held)
    → word_met (all_moved c) names is_trailing waiting position word h
    ≡ word_met c names is_trailing waiting position word h
met_same c names true waiting position word h = refl
met_same c names false waiting position word h =
    other_same c (subcommand_met names waiting word) waiting position word h

-- ---- the walk

held_same : (c : List Rule) (a : Rule) (word : Text) (h : Held)
    → positional_held (all_moved c) (moved a) word h ≡ positional_held c a word h
held_same c a word h =
    ap (λ (k : Held). pushed a.id word (cond (is_pending a h.pending && takes_several a) h k)) (settled_same c h)

abbrev at_positional : Rule → Walk → Held → Walk
at_positional a w h = record {
  held = h;
  waiting = cond (is_multiple a) positional idle;
  position = next_position a w.position;
  is_trailing = w.is_trailing || a.trailing_var_arg;
  stopped = None;
}

to_same : (c : List Rule) (o : Option Rule) (word : Text) (w : Walk) (h : Held)
    → to_positional (all_moved c) (option_map moved o) word w h ≡ to_positional c o word w h
to_same c None word w h = refl
to_same c (Some a) word w h = ap (λ (k : Held). at_positional a w k) (held_same c a word h)

after_same : (c : List Rule) (word : Text) (w : Walk) (h : Held) (step : Step)
    → after_step (all_moved c) word w h step ≡ after_step c word w h step
after_same c word w h (next waiting) = refl
after_same c word w h (trailing position) = refl
after_same c word w h (subcommand name) = refl
after_same c word w h value = ap (λ (o : Option Rule). to_positional (all_moved c) o word w h) (by_index c w.position)
    ∙ to_same c (arg_by_index c w.position) word w h

from_same : (c : List Rule) (names : Names) (o : Option (Text × List Text)) (w : Walk) (word : Text)
    → walked_from (all_moved c) names o w word ≡ walked_from c names o w word
from_same c names (Some p) w word = refl
from_same c names None w word =
    let met = word_met c names w.is_trailing w.waiting w.position word w.held in
    ap (λ (x : Held × Step). after_step (all_moved c) word w x.0 x.1)
    (met_same c names w.is_trailing w.waiting w.position word w.held)
    ∙ after_same c word w met.0 met.1

pub walked_same : (c : List Rule) (names : Names) (w : Walk) (word : Text)
    → walked (all_moved c) names w word ≡ walked c names w word
unfolding walked
walked_same c names w word = from_same c names w.stopped w word

pub walk_same : (c : List Rule) (names : Names) (w : Walk) (words : List Text)
    → fold (walked (all_moved c) names) w words ≡ fold (walked c names) w words
walk_same c names w [] = refl
walk_same c names w (word ∷ rest) =
    ap (λ (x : Walk). fold (walked (all_moved c) names) x rest) (walked_same c names w word)
    ∙ walk_same c names (walked c names w word) rest

pub default_same : (rows : List Row) (a : Rule) → with_default rows (moved a) ≡ with_default rows a
default_same rows a =
    ap (λ (how : Reading). cond (has_row a.id rows) rows (default_rows a.id how a.defaults rows)) (reading_stays a)

defaults_same : (rows : List Row) (xs : List Rule) → fold with_default rows (all_moved xs) ≡ fold with_default rows xs
defaults_same rows [] = refl
defaults_same rows (a ∷ xs) = ap (λ (r : List Row). fold with_default r (all_moved xs)) (default_same rows a)
    ∙ defaults_same (with_default rows a) xs

pub finished_same : (c : List Rule) (h : Held) → finished (all_moved c) h ≡ finished c h
finished_same c h =
    ap (λ (k : Held). fold with_default k.rows (all_moved c)) (settled_same c h) ∙ defaults_same (settled c h).rows c

pub rows_after_same : (c : List Rule) (names : Names) (words : List Text)
    → rows_after (all_moved c) names words ≡ rows_after c names words
rows_after_same c names words =
    ap (λ (w : Walk). finished (all_moved c) w.held) (walk_same c names (walk_from nothing_held) words)
    ∙ finished_same c (walk c names nothing_held words).held
