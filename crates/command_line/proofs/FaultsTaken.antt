-- A command finds no fault in words exactly if it takes them.
use Rattle.std.proofs.Common.{◌≡◌, ◌∙◌, ◌+◌, ◌↔◌, ◌&&◌, ◌||◌, not, ℕ, Bool, true, false, true≢false, List, [], ◌∷◌}
use Rattle.std.proofs.Common.{length, Option, Some, None, codes, is_some, refl, sym, ap, cond, arith, subst}
use Rattle.std.specs.Prelude.{zero, suc, slice_get, drop, encode_utf8, find, min, nat_le}
use Rattle.std.specs.List.{list_all, list_any}
use Rattle.std.specs.Option.{option_map_or}
use Rattle.std.specs.Str.{bytes_eq, chars}
use Rattle.std.proofs.lemmas.Bool.Decides.{nat_tests}
use Rattle.std.proofs.lemmas.Slice.Eq.{bytes_eq-Decides}
use Rattle.clap.specs.Facts.{explicit_source, parser_of_value, unwrap_or_range}
use Rattle.clap.specs.Faults.{action_fault, bundle_fault, bundle_step_fault, check_fault, count_fault, default_fault}
use Rattle.clap.specs.Faults.{defaults_fault, entered_fault, fault_of, flag_word_fault, flags_fault, level_fault}
use Rattle.clap.specs.Faults.{long_fault, option_fault, other_fault, positional_fault, react_fault, set_fault}
use Rattle.clap.specs.Faults.{settle_fault, short_fault, step_fault, stray_fault, turn_fault, use_fault, values_fault}
use Rattle.clap.specs.Faults.{walk_fault, word_fault}
use Rattle.clap.specs.Kinds.{Kinds, check_kinds, or_else, range_kinds, request_kinds}
use Rattle.clap.specs.Lexer.{long_of, short_of}
use Rattle.clap.specs.Matches.{count_text}
use Rattle.clap.specs.Simple.{Shape, built, entered, label_of, names_of}
use Rattle.clap.specs.Takes.{action_passes, bundle_passes, bundle_step_passes, count_passes, default_passes}
use Rattle.clap.specs.Takes.{entered_passes, flag_word_passes, flags_pass, is_given, is_valid, level_passes}
use Rattle.clap.specs.Takes.{long_passes, option_passes, other_passes, positional_passes, react_passes, set_passes}
use Rattle.clap.specs.Takes.{settle_passes, short_passes, step_passes, takes, turn_passes, use_passes, value_passes}
use Rattle.clap.specs.Takes.{values_pass, walk_passes, word_passes}
use Rattle.clap.specs.Values.{is_request, refused_kind}
use Rattle.clap.specs.Walk.{Held, Names, Row, Rule, Step, Text, Waiting, Walk, action_of, answers_to, arg_by_id}
use Rattle.clap.specs.Walk.{arg_by_index, arg_by_long, arg_by_short, attached_value, count_of, finished, has_row}
use Rattle.clap.specs.Walk.{is_empty, is_pending, most_values, next, nothing_held, reacted, settled, subcommand}
use Rattle.clap.specs.Walk.{subcommand_met, takes_several, takes_values, trailing, value, values_or_missing, walk}
use Rattle.clap.specs.Walk.{walk_from, walked, with_default, word_met}
use Rattle.clap.specs.declared.builder.action.ArgAction.{ArgAction}
use Rattle.clap.specs.declared.builder.action.ArgAction.TheVariants.{Set, Append, SetTrue, SetFalse, Count, Help}
use Rattle.clap.specs.declared.builder.action.ArgAction.TheVariants.{HelpShort, HelpLong, Version}
use Rattle.clap.specs.declared.error.kind.ErrorKind.TheVariants as kind
use Rattle.clap.proofs.OnLiterals.{clap_on_literals}
use Rattle.clap.proofs.WalkLemmas.{both}
use Rattle.command_line.specs.Commands.{program}
use Rattle.command_line.specs.Reading.{asks_for_help}

-- there are no faults
abbrev pub none : Kinds → Bool
none [] = true
none (k ∷ ks) = false

none_else : (a b : Kinds) (x y : Bool) → none a ≡ x → none b ≡ y → none (or_else a b) ≡ (x && y)
none_else [] b x y first second = ap (λ (u : Bool). u && none b) first ∙ ap (λ (u : Bool). x && u) second
none_else (k ∷ ks) b x y first second = ap (λ (u : Bool). u && none b) first ∙ ap (λ (u : Bool). x && u) second

-- ---- one use

value_none : (a : Rule) (passes : Bool) → none (cond passes [] (refused_kind (parser_of_value a.parser) ∷ [])) ≡ passes
value_none a true = refl
value_none a false = refl

values_none : (a : Rule) (ts : List Text) → none (values_fault a ts) ≡ values_pass a ts
values_none a [] = refl
values_none a (t ∷ ts) =
    none_else _ (values_fault a ts) (value_passes a t) (values_pass a ts) (value_none a (value_passes a t))
    (values_none a ts)

count_none : (a : Rule) (values : List Text) (rows : List Row)
    → none (count_fault a values rows) ≡ count_passes a values rows
count_none a [] rows = value_none a (value_passes a (count_text (min (count_of a.id rows + 1) 255)))
count_none a (v ∷ vs) rows = values_none a (v ∷ vs)

repeat_none : (has again : Bool) → none (cond (has && not again) (kind.ArgumentConflict ∷ []) []) ≡ (not has || again)
repeat_none true true = refl
repeat_none true false = refl
repeat_none false again = refl

set_none : (again : Bool) (a : Rule) (values : List Text) (rows : List Row)
    → none (set_fault again a values rows) ≡ set_passes again a values rows
set_none again a values rows =
    none_else _ (values_fault a values) (not (has_row a.id rows) || again) (values_pass a values)
    (repeat_none (has_row a.id rows) again) (values_none a values)

action_none : (x : ArgAction) (again : Bool) (a : Rule) (values : List Text) (rows : List Row)
    → none (action_fault x again a values rows) ≡ action_passes x again a values rows
action_none Set again a values rows = set_none again a values rows
action_none SetTrue again a values rows = set_none again a values rows
action_none SetFalse again a values rows = set_none again a values rows
action_none Append again a values rows = values_none a values
action_none Count again a values rows = count_none a values rows
action_none Help again a values rows = refl
action_none HelpShort again a values rows = refl
action_none HelpLong again a values rows = refl
action_none Version again a values rows = refl

range_none : (least most n : ℕ) → none (range_kinds least most n) ≡ (nat_le least n && nat_le n most)
range_none least most n = grind (arith, nat_tests)

and_then : (x y z : Bool) → ((x && y) && z) ≡ (x && (y && z))
and_then true y z = refl
and_then false y z = refl

use_none : (again : Bool) (a : Rule) (values : List Text) (rows : List Row)
    → none (use_fault again a values rows) ≡ use_passes again a values rows
use_none again a values rows =
    let least = (unwrap_or_range a.range).start_inclusive in
    let action = action_passes (action_of a) again a (values_or_missing a values) rows in
    none_else (range_kinds least (most_values a) (length values)) _ _ action
    (range_none least (most_values a) (length values))
    (action_none (action_of a) again a (values_or_missing a values) rows)
    ∙ and_then (nat_le least (length values)) (nat_le (length values) (most_values a)) action

-- ---- the walk

used_none : (again : Bool) (o : Option Rule) (values : List Text) (rows : List Row)
    → none (option_map_or (λ a. use_fault again a values rows) o [])
    ≡ option_map_or (λ a. use_passes again a values rows) o true
used_none again None values rows = refl
used_none again (Some a) values rows = use_none again a values rows

pending_none : (c : List Rule) (again : Bool) (rows : List Row) (o : Option (Text × List Text))
    → none (option_map_or (λ p. option_map_or (λ a. use_fault again a p.1 rows) (arg_by_id c p.0) []) o [])
    ≡ option_map_or (λ p. option_map_or (λ a. use_passes again a p.1 rows) (arg_by_id c p.0) true) o true
pending_none c again rows None = refl
pending_none c again rows (Some p) = used_none again (arg_by_id c p.0) p.1 rows

settle_none : (c : List Rule) (again : Bool) (h : Held) → none (settle_fault c again h) ≡ settle_passes c again h
settle_none c again h = pending_none c again h.rows h.pending

react_none : (c : List Rule) (again : Bool) (a : Rule) (values : List Text) (h : Held)
    → none (react_fault c again a values h) ≡ react_passes c again a values h
react_none c again a values h =
    none_else (settle_fault c again h) _ (settle_passes c again h) (use_passes again a values (settled c h).rows)
    (settle_none c again h)
    (use_none again a values (settled c h).rows)

option_none : (c : List Rule) (again : Bool) (a : Rule) (v : Option Text) (h : Held)
    → none (option_fault c again a v h) ≡ option_passes c again a v h
option_none c again a (Some v) h = react_none c again a (v ∷ []) h
option_none c again a None h = settle_none c again h

flag_none : (c : List Rule) (again : Bool) (a : Rule) (v : Option Text) (h : Held)
    → none (cond (is_some v) (kind.TooManyValues ∷ []) (react_fault c again a [] h))
    ≡ (not (is_some v) && react_passes c again a [] h)
flag_none c again a (Some v) h = refl
flag_none c again a None h = react_none c again a [] h

long_none : (c : List Rule) (again : Bool) (o : Option Rule) (v : Option Text) (h : Held)
    → none (long_fault c again o v h) ≡ long_passes c again o v h
long_none c again None v h = refl
long_none c again (Some a) v h = go (takes_values a)
  where
    go : (b : Bool)
        → none
        (cond b (option_fault c again a v h) (cond (is_some v) (kind.TooManyValues ∷ []) (react_fault c again a [] h)))
        ≡ cond b (option_passes c again a v h) (not (is_some v) && react_passes c again a [] h)
    go true = option_none c again a v h
    go false = flag_none c again a v h

short_none : (c : List Rule) (again : Bool) (o : Option Rule) (rest : Text) (h : Held) (fault : Held → Kinds)
    (pass : Held → Bool)
    → ((k : Held) → none (fault k) ≡ pass k)
    → none (short_fault c again o rest h fault) ≡ short_passes c again o rest h pass
short_none c again None rest h fault pass same = refl
short_none c again (Some a) rest h fault pass same = go (takes_values a)
  where
    go : (b : Bool)
        → none
        (cond b (option_fault c again a (attached_value rest) h)
        (or_else (react_fault c again a [] h) (fault (reacted c a [] h))))
        ≡ cond b (option_passes c again a (attached_value rest) h)
        (react_passes c again a [] h && pass (reacted c a [] h))
    go true = option_none c again a (attached_value rest) h
    go false =
        none_else (react_fault c again a [] h) _ (react_passes c again a [] h) (pass (reacted c a [] h))
        (react_none c again a [] h) (same (reacted c a [] h))

bundle_step_none : (c : List Rule) (again : Bool) (o : Option ℕ) (flags : Text) (skip : ℕ) (h : Held)
    (fault : Text → ℕ → Held → Kinds) (pass : Text → ℕ → Held → Bool)
    → ((t : Text) (s : ℕ) (k : Held) → none (fault t s k) ≡ pass t s k)
    → none (bundle_step_fault c again o flags skip h fault) ≡ bundle_step_passes c again o flags skip h pass
bundle_step_none c again None flags skip h fault pass same = refl
bundle_step_none c again (Some x) flags zero h fault pass same =
    let rest = drop (length (encode_utf8 x)) flags in
    short_none c again (arg_by_short c x) rest h (fault rest 0) (pass rest 0) (λ k. same rest 0 k)
bundle_step_none c again (Some x) flags (suc skip) h fault pass same = same (drop (length (encode_utf8 x)) flags) skip h

flags_none : (c : List Rule) (again : Bool) (k : ℕ) (flags : Text) (skip : ℕ) (h : Held)
    → none (flags_fault c again k flags skip h) ≡ flags_pass c again k flags skip h
unfolding flags_fault flags_pass
flags_none c again zero flags skip h = refl
flags_none c again (suc k) flags skip h =
    bundle_step_none c again (slice_get (chars flags) 0) flags skip h (flags_fault c again k) (flags_pass c again k)
    (λ t s g. flags_none c again k t s g)

short_word_none : (c : List Rule) (again : Bool) (o : Option Text) (h : Held)
    → none (option_map_or (λ flags. bundle_fault c again flags h) o [])
    ≡ option_map_or (λ flags. bundle_passes c again flags h) o true
short_word_none c again None h = refl
short_word_none c again (Some flags) h = flags_none c again (length flags) flags h.skip (record h { skip = 0 })

flag_word_none : (c : List Rule) (again : Bool) (o : Option (Text × Option Text)) (word : Text) (h : Held)
    → none (flag_word_fault c again o word h) ≡ flag_word_passes c again o word h
flag_word_none c again (Some p) word h = long_none c again (arg_by_long c p.0) p.1 h
flag_word_none c again None word h = short_word_none c again (short_of word) h

help_none : (asks off : Bool)
    → none (cond (asks && not off) (kind.DisplayHelp ∷ kind.InvalidSubcommand ∷ []) []) ≡ (not asks || off)
help_none true true = refl
help_none true false = refl
help_none false off = refl

dashes_none : (b : Bool) (found : Kinds) (pass : Bool) → none found ≡ pass → none (cond b [] found) ≡ (b || pass)
dashes_none true found pass same = refl
dashes_none false found pass same = same

other_none : (s : Shape) (o : Option Text) (word : Text) (h : Held)
    → none (other_fault s o word h) ≡ other_passes s o word h
other_none s (Some name) word h = help_none (bytes_eq name (codes "help")) s.disable_help_subcommand
other_none s None word h =
    dashes_none (bytes_eq word (45 ∷ 45 ∷ [])) _ _ (flag_word_none s.rules s.args_override_self (long_of word) word h)

word_none : (s : Shape) (names : Names) (is_trailing : Bool) (waiting : Waiting) (word : Text) (h : Held)
    → none (word_fault s names is_trailing waiting word h) ≡ word_passes s names is_trailing waiting word h
word_none s names is_trailing waiting word h =
    dashes_none is_trailing _ _ (other_none s (subcommand_met names waiting word) word h)

positional_none : (c : List Rule) (again : Bool) (a : Rule) (h : Held)
    → none (positional_fault c again a h) ≡ positional_passes c again a h
positional_none c again a h = dashes_none (is_pending a h.pending && takes_several a) _ _ (settle_none c again h)

stray_some : (s : Shape) (leaf : Bool)
    → none (cond leaf (kind.UnknownArgument ∷ []) (kind.UnknownArgument ∷ kind.InvalidSubcommand ∷ [])) ≡ false
stray_some s true = refl
stray_some s false = refl

place_none : (s : Shape) (o : Option Rule) (h : Held)
    → none (option_map_or (λ a. positional_fault s.rules s.args_override_self a h) o (stray_fault s))
    ≡ option_map_or (λ a. positional_passes s.rules s.args_override_self a h) o false
place_none s None h = stray_some s s.is_leaf
place_none s (Some a) h = positional_none s.rules s.args_override_self a h

step_none : (s : Shape) (position : ℕ) (h : Held) (step : Step)
    → none (step_fault s position h step) ≡ step_passes s position h step
step_none s position h (next waiting) = refl
step_none s position h (trailing place) = refl
step_none s position h (subcommand name) = refl
step_none s position h value = place_none s (arg_by_index s.rules position) h

pub turn_none : (s : Shape) (names : Names) (w : Walk) (word : Text)
    → none (turn_fault s names w word) ≡ turn_passes s names w word
turn_none s names w word =
    let met = word_met s.rules names w.is_trailing w.waiting w.position word w.held in
    dashes_none (is_some w.stopped) _ _
    (none_else (word_fault s names w.is_trailing w.waiting word w.held) _
    (word_passes s names w.is_trailing w.waiting word w.held) (step_passes s w.position met.0 met.1)
    (word_none s names w.is_trailing w.waiting word w.held) (step_none s w.position met.0 met.1))

words_none : (s : Shape) (names : Names) (w : Walk) (words : List Text)
    → none (walk_fault s names w words) ≡ walk_passes s names w words
unfolding walk_fault walk_passes
words_none s names w [] = refl
words_none s names w (word ∷ rest) =
    none_else (turn_fault s names w word) _ (turn_passes s names w word)
    (walk_passes s names (walked s.rules names w word) rest) (turn_none s names w word)
    (words_none s names (walked s.rules names w word) rest)

-- ---- after the walk, at a command whose defaults can be read and whose arguments have no rule on one another

request_none : (x : ArgAction) → none (request_kinds x) ≡ not (is_request x)
request_none Set = refl
request_none SetTrue = refl
request_none SetFalse = refl
request_none Append = refl
request_none Count = refl
request_none Help = refl
request_none HelpShort = refl
request_none HelpLong = refl
request_none Version = refl

given_default_none : (a : Rule) (skip : Bool) → default_passes a ≡ true
    → none (cond (skip || is_empty a.defaults) [] (or_else (request_kinds (action_of a)) (values_fault a a.defaults)))
    ≡ true
given_default_none a true pass = refl
given_default_none a false pass = go (is_empty a.defaults) pass
  where
    go : (b : Bool) → (b || (not (is_request (action_of a)) && values_pass a a.defaults)) ≡ true
        → none (cond b [] (or_else (request_kinds (action_of a)) (values_fault a a.defaults))) ≡ true
    go true p = refl
    go false p =
        none_else (request_kinds (action_of a)) (values_fault a a.defaults) _ _ (request_none (action_of a))
        (values_none a a.defaults) ∙ p

defaults_none : (rows : List Row) (c : List Rule) → list_all default_passes c ≡ true
    → none (defaults_fault rows c) ≡ true
unfolding defaults_fault
defaults_none rows [] pass = refl
defaults_none rows (a ∷ c) pass =
    let parts = both (default_passes a) (list_all default_passes c) pass in
    none_else (default_fault rows a) (defaults_fault (with_default rows a) c) true true
    (given_default_none a (has_row a.id rows) parts.0)
    (defaults_none (with_default rows a) c parts.1)

wanted : (rows : List Row) (c : List Rule)
    → not (list_any (λ a. a.required && not (is_given a.id rows)) c)
    ≡ list_all (λ a. not a.required || is_given a.id rows) c
wanted rows [] = refl
wanted rows (a ∷ c) = go (wanted rows c) a.required (is_given a.id rows)
  where
    go : not (list_any (λ a. a.required && not (is_given a.id rows)) c)
        ≡ list_all (λ a. not a.required || is_given a.id rows) c → (r g : Bool)
        → not ((r && not g) || list_any (λ a. a.required && not (is_given a.id rows)) c)
        ≡ ((not r || g) && list_all (λ a. not a.required || is_given a.id rows) c)
    go later true true = later
    go later true false = refl
    go later false g = later

-- the last checks, by their tests
checks_none : (below help some_given subcommand negates missing : Bool)
    → none
    (check_kinds (not below && (help && not some_given)) (not below && subcommand)
    (not (negates && below) && missing))
    ≡ ((not help || (below || some_given)) && ((not subcommand || below) && ((negates && below) || not missing)))
checks_none true true g true true m = refl
checks_none true true g true false true = refl
checks_none true true g true false false = refl
checks_none true true g false true m = refl
checks_none true true g false false true = refl
checks_none true true g false false false = refl
checks_none true false g true true m = refl
checks_none true false g true false true = refl
checks_none true false g true false false = refl
checks_none true false g false true m = refl
checks_none true false g false false true = refl
checks_none true false g false false false = refl
checks_none false true false s n m = refl
checks_none false true true true n m = refl
checks_none false true true false true true = refl
checks_none false true true false true false = refl
checks_none false true true false false true = refl
checks_none false true true false false false = refl
checks_none false false g true n m = refl
checks_none false false g false true true = refl
checks_none false false g false true false = refl
checks_none false false g false false true = refl
checks_none false false g false false false = refl

check_none : (s : Shape) (rows : List Row) (below : Bool) → list_all (λ a. a.is_free) s.rules ≡ true
    → none (check_fault s rows below) ≡ is_valid s rows below
check_none s rows below free =
    let missing = list_any (λ a. a.required && not (is_given a.id rows)) s.rules in
    let some_given = list_any (λ r. explicit_source r.source) rows in
    checks_none below s.arg_required_else_help some_given s.subcommand_required s.subcommand_negates_reqs missing
    ∙ ap
    (λ (b : Bool). (not s.arg_required_else_help || (below || some_given)) &&
    ((not s.subcommand_required || below) && ((s.subcommand_negates_reqs && below) || b)))
    (wanted rows s.rules)
    ∙ ap (λ (b : Bool). (not s.arg_required_else_help || (below || some_given)) && ((not s.subcommand_required || below)
    && (b && ((s.subcommand_negates_reqs && below) || list_all (λ a. not a.required || is_given a.id rows) s.rules))))
    (sym free)

-- the defaults of a command can be read, and its arguments have no rule on one another
abbrev is_sound : Shape → Bool
is_sound s = list_all default_passes s.rules && list_all (λ a. a.is_free) s.rules

exchanged : (x y z : Bool) → (x && (y && z)) ≡ (y && (x && z))
exchanged true y z = refl
exchanged false true z = refl
exchanged false false z = refl

level_none : (s : Shape) (names : Names) (h : Held) (words : List Text) (has_subcommand : Bool) (below : Kinds)
    (passes : Bool)
    → is_sound s ≡ true → none below ≡ passes
    → none (level_fault s names h words has_subcommand below) ≡ (passes && level_passes s names h words has_subcommand)
level_none s names h words has_subcommand below passes sound same =
    let end = (walk s.rules names h words).held in
    let parts = both (list_all default_passes s.rules) (list_all (λ a. a.is_free) s.rules) sound in
    let walked = walk_passes s names (walk_from h) words in
    let settles = settle_passes s.rules s.args_override_self end in
    let valid = is_valid s (finished s.rules end) has_subcommand in
    none_else (walk_fault s names (walk_from h) words) _ walked
    (passes && (settles && (list_all default_passes s.rules && valid)))
    (words_none s names (walk_from h) words)
    (none_else below _ passes (settles && (list_all default_passes s.rules && valid)) same
    (none_else (settle_fault s.rules s.args_override_self end) _ settles (list_all default_passes s.rules && valid)
    (settle_none s.rules s.args_override_self end)
    (none_else (defaults_fault (settled s.rules end).rows s.rules) _ (list_all default_passes s.rules) valid
    (defaults_none (settled s.rules end).rows s.rules parts.0 ∙ sym parts.0)
    (check_none s (finished s.rules end) has_subcommand parts.1))))
    ∙ exchanged walked passes (settles && (list_all default_passes s.rules && valid))

named_none : (p : Text × List Text) (shapes : List Shape) → list_all is_sound shapes ≡ true
    → none
    (option_map_or (λ s. level_fault s [] nothing_held p.1 false [])
    (find (λ s. answers_to p.0 (label_of s)) shapes) [])
    ≡ option_map_or (λ s. level_passes s [] nothing_held p.1 false)
    (find (λ s. answers_to p.0 (label_of s)) shapes) true
named_none p [] sound = refl
named_none p (s ∷ shapes) sound =
    go (named_none p shapes (both (is_sound s) (list_all is_sound shapes) sound).1) (answers_to p.0 (label_of s))
  where
    go : none
        (option_map_or (λ s. level_fault s [] nothing_held p.1 false [])
        (find (λ s. answers_to p.0 (label_of s)) shapes) [])
        ≡ option_map_or (λ s. level_passes s [] nothing_held p.1 false)
        (find (λ s. answers_to p.0 (label_of s)) shapes) true → (b : Bool)
        → none
        (option_map_or (λ s. level_fault s [] nothing_held p.1 false [])
        (cond b (Some s) (find (λ s. answers_to p.0 (label_of s)) shapes)) [])
        ≡ option_map_or (λ s. level_passes s [] nothing_held p.1 false)
        (cond b (Some s) (find (λ s. answers_to p.0 (label_of s)) shapes)) true
    go later true =
        level_none s [] nothing_held p.1 false [] true (both (is_sound s) (list_all is_sound shapes) sound).0 refl
    go later false = later

entered_none : (stop : Option (Text × List Text))
    → none (entered_fault (built program) stop) ≡ entered_passes (built program) stop
unfolding clap_on_literals
entered_none None = refl
entered_none (Some p) = named_none p (built program).subs refl

none_is : (words : List Text) → none (fault_of program words) ≡ takes program words
unfolding clap_on_literals
none_is words =
    let rest = drop 1 words in
    let top = (built program).top in
    let stop = (walk top.rules (names_of (built program)) nothing_held rest).stopped in
    level_none top (names_of (built program)) nothing_held rest (is_some (entered (built program) stop))
    (entered_fault (built program) stop)
    (entered_passes (built program) stop) refl (entered_none stop)

pub none_there : (found : Kinds) → none found ≡ true → found ≡ []
none_there [] is = refl
none_there (k ∷ ks) is = absurd (true≢false (sym is))

pub faults_or_taken : (words : List Text) → (fault_of program words ≡ []) ↔ (takes program words ≡ true)
faults_or_taken words = (
  (λ empty. sym (none_is words) ∙ ap none empty),
  (λ taken. none_there (fault_of program words) (none_is words ∙ taken)),
)

help_word : (name : Text) (rest : List Text)
    → fault_of program (name ∷ codes "help" ∷ rest) ≡ kind.DisplayHelp ∷ kind.InvalidSubcommand ∷ []
unfolding clap_on_literals
help_word name rest = refl

-- after the word `help` clap finds that help was asked for, or that no such command is there
pub help_found : (words : List Text) → asks_for_help words ≡ true
    → fault_of program words ≡ kind.DisplayHelp ∷ kind.InvalidSubcommand ∷ []
help_found [] asks = absurd (true≢false (sym asks))
help_found (name ∷ []) asks = absurd (true≢false (sym asks))
help_found (name ∷ word ∷ rest) asks =
    subst (λ (w : Text). fault_of program (name ∷ w ∷ rest) ≡ kind.DisplayHelp ∷ kind.InvalidSubcommand ∷ [])
    (sym ((bytes_eq-Decides word (codes "help")).0 asks)) (help_word name rest)
