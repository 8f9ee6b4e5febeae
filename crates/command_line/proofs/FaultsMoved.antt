-- The addresses of a parser's names don't change the faults that a command finds.
use Rattle.std.proofs.Common.{◌≡◌, ◌∙◌, ◌+◌, ◌&&◌, ◌||◌, not, ℕ, Bool, true, false, List, [], ◌∷◌, length, Option, Some}
use Rattle.std.proofs.Common.{None, is_some, refl, ap, ap₂, cond, option_map}
use Rattle.std.specs.Prelude.{zero, suc, slice_get, drop, encode_utf8, min}
use Rattle.std.specs.List.{list_any}
use Rattle.std.specs.Option.{option_map_or}
use Rattle.std.specs.Str.{bytes_eq, chars}
use Rattle.clap.specs.Facts.{explicit_source, parser_of_value, unwrap_or_range}
use Rattle.clap.specs.Faults.{action_fault, bundle_fault, bundle_step_fault, check_fault, count_fault, default_fault}
use Rattle.clap.specs.Faults.{defaults_fault, flag_word_fault, flags_fault, level_fault, long_fault, option_fault}
use Rattle.clap.specs.Faults.{other_fault, positional_fault, react_fault, repeat_fault, set_fault, settle_fault}
use Rattle.clap.specs.Faults.{short_fault, step_fault, stray_fault, turn_fault, use_fault, values_fault, walk_fault}
use Rattle.clap.specs.Faults.{word_fault}
use Rattle.clap.specs.Kinds.{Kinds, check_kinds, or_else, range_kinds, request_kinds, value_kinds}
use Rattle.clap.specs.Lexer.{long_of, short_of}
use Rattle.clap.specs.Matches.{count_text}
use Rattle.clap.specs.Values.{refused_kind}
use Rattle.clap.specs.Simple.{Shape}
use Rattle.clap.specs.Takes.{is_given}
use Rattle.clap.specs.Walk.{Held, Names, Row, Rule, Step, Text, Waiting, Walk, action_of, arg_by_id, arg_by_index}
use Rattle.clap.specs.Walk.{arg_by_long, arg_by_short, attached_value, count_of, finished, has_row, is_empty}
use Rattle.clap.specs.Walk.{is_pending, most_values, next, reacted, settled, subcommand, subcommand_met, takes_several}
use Rattle.clap.specs.Walk.{takes_values, trailing, value, values_or_missing, walk, walk_from, walked, with_default}
use Rattle.clap.specs.Walk.{word_met}
use Rattle.clap.specs.declared.builder.action.ArgAction.{ArgAction}
use Rattle.clap.specs.declared.builder.action.ArgAction.TheVariants.{Set, Append, SetTrue, SetFalse, Count, Help}
use Rattle.clap.specs.declared.builder.action.ArgAction.TheVariants.{HelpShort, HelpLong, Version}
use Rattle.clap.specs.declared.builder.value_parser.ValueParser.{ValueParser}
use Rattle.clap.specs.declared.builder.value_parser.ValueParser.TheVariants as vp
use Rattle.clap.specs.declared.error.kind.ErrorKind.{ErrorKind}
use Rattle.clap.specs.declared.error.kind.ErrorKind.TheVariants as kind
use Rattle.command_line.proofs.NamesMoved.{accepts_stay, all_moved, by_id, by_index, by_long, by_short, default_same}
use Rattle.command_line.proofs.NamesMoved.{finished_same, met_same, moved, moved_parser, reacted_same, settled_same}
use Rattle.command_line.proofs.NamesMoved.{walk_same, walked_same}
use Rattle.command_line.proofs.TakesMoved.{moved_shape}

-- ---- one use

abbrev kinds_if : Bool → ErrorKind → Kinds
kinds_if passes kind = cond passes [] (kind ∷ [])

refusal_same : (o : Option ValueParser)
    → refused_kind (parser_of_value (option_map moved_parser o)) ≡ refused_kind (parser_of_value o)
refusal_same None = refl
refusal_same (Some vp.String) = refl
refusal_same (Some vp.NonEmptyString) = refl
refusal_same (Some vp.Bool) = refl
refusal_same (Some vp.Boolish) = refl
refusal_same (Some vp.Falsey) = refl
refusal_same (Some (vp.Signed low high)) = refl
refusal_same (Some (vp.Unsigned low high)) = refl
refusal_same (Some vp.Float) = refl
refusal_same (Some vp.Char) = refl
refusal_same (Some (vp.Names names)) = refl
refusal_same (Some (vp.Values values)) = refl

value_same : (a : Rule) (t : Text)
    → value_kinds a.ignore_case (parser_of_value (moved a).parser) t
    ≡ value_kinds a.ignore_case (parser_of_value a.parser) t
value_same a t = ap₂ kinds_if (accepts_stay a.ignore_case a.parser t) (refusal_same a.parser)

values_same : (a : Rule) (ts : List Text) → values_fault (moved a) ts ≡ values_fault a ts
values_same a [] = refl
values_same a (t ∷ ts) = ap₂ or_else (value_same a t) (values_same a ts)

count_same : (a : Rule) (values : List Text) (rows : List Row)
    → count_fault (moved a) values rows ≡ count_fault a values rows
count_same a [] rows = value_same a (count_text (min (count_of a.id rows + 1) 255))
count_same a (v ∷ vs) rows = values_same a (v ∷ vs)

set_same : (again : Bool) (a : Rule) (values : List Text) (rows : List Row)
    → set_fault again (moved a) values rows ≡ set_fault again a values rows
set_same again a values rows = ap (or_else (repeat_fault again a.id rows)) (values_same a values)

action_same : (x : ArgAction) (again : Bool) (a : Rule) (values : List Text) (rows : List Row)
    → action_fault x again (moved a) values rows ≡ action_fault x again a values rows
action_same Set again a values rows = set_same again a values rows
action_same SetTrue again a values rows = set_same again a values rows
action_same SetFalse again a values rows = set_same again a values rows
action_same Append again a values rows = values_same a values
action_same Count again a values rows = count_same a values rows
action_same Help again a values rows = refl
action_same HelpShort again a values rows = refl
action_same HelpLong again a values rows = refl
action_same Version again a values rows = refl

use_same : (again : Bool) (a : Rule) (values : List Text) (rows : List Row)
    → use_fault again (moved a) values rows ≡ use_fault again a values rows
use_same again a values rows =
    ap (or_else (range_kinds (unwrap_or_range a.range).start_inclusive (most_values a) (length values)))
    (action_same (action_of a) again a (values_or_missing a values) rows)

-- ---- the walk

used_same : (again : Bool) (o : Option Rule) (values : List Text) (rows : List Row)
    → option_map_or (λ a. use_fault again a values rows) (option_map moved o) []
    ≡ option_map_or (λ a. use_fault again a values rows) o []
used_same again None values rows = refl
used_same again (Some a) values rows = use_same again a values rows

pending_same : (c : List Rule) (again : Bool) (rows : List Row) (o : Option (Text × List Text))
    → option_map_or (λ p. option_map_or (λ a. use_fault again a p.1 rows) (arg_by_id (all_moved c) p.0) []) o []
    ≡ option_map_or (λ p. option_map_or (λ a. use_fault again a p.1 rows) (arg_by_id c p.0) []) o []
pending_same c again rows None = refl
pending_same c again rows (Some p) =
    ap (λ (o : Option Rule). option_map_or (λ a. use_fault again a p.1 rows) o []) (by_id c p.0)
    ∙ used_same again (arg_by_id c p.0) p.1 rows

settle_same : (c : List Rule) (again : Bool) (h : Held) → settle_fault (all_moved c) again h ≡ settle_fault c again h
settle_same c again h = pending_same c again h.rows h.pending

react_same : (c : List Rule) (again : Bool) (a : Rule) (values : List Text) (h : Held)
    → react_fault (all_moved c) again (moved a) values h ≡ react_fault c again a values h
react_same c again a values h =
    ap₂ or_else (settle_same c again h)
    (ap (λ (k : Held). use_fault again (moved a) values k.rows) (settled_same c h)
    ∙ use_same again a values (settled c h).rows)

option_same : (c : List Rule) (again : Bool) (a : Rule) (v : Option Text) (h : Held)
    → option_fault (all_moved c) again (moved a) v h ≡ option_fault c again a v h
option_same c again a (Some v) h = react_same c again a (v ∷ []) h
option_same c again a None h = settle_same c again h

long_same : (c : List Rule) (again : Bool) (o : Option Rule) (v : Option Text) (h : Held)
    → long_fault (all_moved c) again (option_map moved o) v h ≡ long_fault c again o v h
long_same c again None v h = refl
long_same c again (Some a) v h = go (takes_values a)
  where
    go : (b : Bool)
        → cond b (option_fault (all_moved c) again (moved a) v h)
        (cond (is_some v) (kind.TooManyValues ∷ []) (react_fault (all_moved c) again (moved a) [] h))
        ≡ cond b (option_fault c again a v h) (cond (is_some v) (kind.TooManyValues ∷ []) (react_fault c again a [] h))
    go true = option_same c again a v h
    go false = ap (cond (is_some v) (kind.TooManyValues ∷ [])) (react_same c again a [] h)

short_same : (c : List Rule) (again : Bool) (o : Option Rule) (rest : Text) (h : Held) (f g : Held → Kinds)
    → ((k : Held) → f k ≡ g k)
    → short_fault (all_moved c) again (option_map moved o) rest h f ≡ short_fault c again o rest h g
short_same c again None rest h f g same = refl
short_same c again (Some a) rest h f g same = go (takes_values a)
  where
    go : (b : Bool)
        → cond b (option_fault (all_moved c) again (moved a) (attached_value rest) h)
        (or_else (react_fault (all_moved c) again (moved a) [] h) (f (reacted (all_moved c) (moved a) [] h)))
        ≡ cond b (option_fault c again a (attached_value rest) h)
        (or_else (react_fault c again a [] h) (g (reacted c a [] h)))
    go true = option_same c again a (attached_value rest) h
    go false = ap₂ or_else (react_same c again a [] h) (ap f (reacted_same c a [] h) ∙ same (reacted c a [] h))

bundle_step_same : (c : List Rule) (again : Bool) (o : Option ℕ) (flags : Text) (skip : ℕ) (h : Held)
    (f g : Text → ℕ → Held → Kinds)
    → ((t : Text) (s : ℕ) (k : Held) → f t s k ≡ g t s k)
    → bundle_step_fault (all_moved c) again o flags skip h f ≡ bundle_step_fault c again o flags skip h g
bundle_step_same c again None flags skip h f g same = refl
bundle_step_same c again (Some x) flags zero h f g same =
    let rest = drop (length (encode_utf8 x)) flags in
    ap (λ (o : Option Rule). short_fault (all_moved c) again o rest h (f rest 0)) (by_short c x)
    ∙ short_same c again (arg_by_short c x) rest h (f rest 0) (g rest 0) (λ k. same rest 0 k)
bundle_step_same c again (Some x) flags (suc skip) h f g same = same (drop (length (encode_utf8 x)) flags) skip h

flags_same : (c : List Rule) (again : Bool) (k : ℕ) (flags : Text) (skip : ℕ) (h : Held)
    → flags_fault (all_moved c) again k flags skip h ≡ flags_fault c again k flags skip h
unfolding flags_fault
flags_same c again zero flags skip h = refl
flags_same c again (suc k) flags skip h =
    bundle_step_same c again (slice_get (chars flags) 0) flags skip h (flags_fault (all_moved c) again k)
    (flags_fault c again k) (λ t s g. flags_same c again k t s g)

short_word_same : (c : List Rule) (again : Bool) (o : Option Text) (h : Held)
    → option_map_or (λ flags. bundle_fault (all_moved c) again flags h) o []
    ≡ option_map_or (λ flags. bundle_fault c again flags h) o []
short_word_same c again None h = refl
short_word_same c again (Some flags) h = flags_same c again (length flags) flags h.skip (record h { skip = 0 })

flag_word_same : (c : List Rule) (again : Bool) (o : Option (Text × Option Text)) (word : Text) (h : Held)
    → flag_word_fault (all_moved c) again o word h ≡ flag_word_fault c again o word h
flag_word_same c again (Some p) word h =
    ap (λ (o : Option Rule). long_fault (all_moved c) again o p.1 h) (by_long c p.0)
    ∙ long_same c again (arg_by_long c p.0) p.1 h
flag_word_same c again None word h = short_word_same c again (short_of word) h

other_same : (s : Shape) (o : Option Text) (word : Text) (h : Held)
    → other_fault (moved_shape s) o word h ≡ other_fault s o word h
other_same s (Some name) word h = refl
other_same s None word h =
    ap (cond (bytes_eq word (45 ∷ 45 ∷ [])) []) (flag_word_same s.rules s.args_override_self (long_of word) word h)

word_same : (s : Shape) (names : Names) (is_trailing : Bool) (waiting : Waiting) (word : Text) (h : Held)
    → word_fault (moved_shape s) names is_trailing waiting word h ≡ word_fault s names is_trailing waiting word h
word_same s names is_trailing waiting word h =
    ap (cond is_trailing []) (other_same s (subcommand_met names waiting word) word h)

positional_same : (c : List Rule) (again : Bool) (a : Rule) (h : Held)
    → positional_fault (all_moved c) again (moved a) h ≡ positional_fault c again a h
positional_same c again a h = ap (cond (is_pending a h.pending && takes_several a) []) (settle_same c again h)

place_same : (c : List Rule) (again : Bool) (stray : Kinds) (o : Option Rule) (h : Held)
    → option_map_or (λ a. positional_fault (all_moved c) again a h) (option_map moved o) stray
    ≡ option_map_or (λ a. positional_fault c again a h) o stray
place_same c again stray None h = refl
place_same c again stray (Some a) h = positional_same c again a h

step_same : (s : Shape) (position : ℕ) (h : Held) (step : Step)
    → step_fault (moved_shape s) position h step ≡ step_fault s position h step
step_same s position h (next waiting) = refl
step_same s position h (trailing place) = refl
step_same s position h (subcommand name) = refl
step_same s position h value =
    ap (λ (o : Option Rule). option_map_or (λ a. positional_fault (all_moved s.rules) s.args_override_self a h) o
    (stray_fault s)) (by_index s.rules position)
    ∙ place_same s.rules s.args_override_self (stray_fault s) (arg_by_index s.rules position) h

turn_same : (s : Shape) (names : Names) (w : Walk) (word : Text)
    → turn_fault (moved_shape s) names w word ≡ turn_fault s names w word
turn_same s names w word =
    let met = word_met s.rules names w.is_trailing w.waiting w.position word w.held in
    ap (cond (is_some w.stopped) [])
    (ap₂ or_else (word_same s names w.is_trailing w.waiting word w.held)
    (ap (λ (x : Held × Step). step_fault (moved_shape s) w.position x.0 x.1)
    (met_same s.rules names w.is_trailing w.waiting w.position word w.held)
    ∙ step_same s w.position met.0 met.1))

words_same : (s : Shape) (names : Names) (w : Walk) (words : List Text)
    → walk_fault (moved_shape s) names w words ≡ walk_fault s names w words
unfolding walk_fault
words_same s names w [] = refl
words_same s names w (word ∷ rest) =
    ap₂ or_else (turn_same s names w word)
    (ap (λ (x : Walk). walk_fault (moved_shape s) names x rest) (walked_same s.rules names w word)
    ∙ words_same s names (walked s.rules names w word) rest)

-- ---- after the walk

default_fault_same : (rows : List Row) (a : Rule) → default_fault rows (moved a) ≡ default_fault rows a
default_fault_same rows a = ap
    (λ (ks : Kinds). cond (has_row a.id rows || is_empty a.defaults) [] (or_else (request_kinds (action_of a)) ks))
    (values_same a a.defaults)

defaults_same : (rows : List Row) (c : List Rule) → defaults_fault rows (all_moved c) ≡ defaults_fault rows c
unfolding defaults_fault
defaults_same rows [] = refl
defaults_same rows (a ∷ c) =
    ap₂ or_else (default_fault_same rows a)
    (ap (λ (r : List Row). defaults_fault r (all_moved c)) (default_same rows a)
    ∙ defaults_same (with_default rows a) c)

wanting_same : (rows : List Row) (c : List Rule)
    → list_any (λ a. a.required && not (is_given a.id rows)) (all_moved c)
    ≡ list_any (λ a. a.required && not (is_given a.id rows)) c
wanting_same rows [] = refl
wanting_same rows (a ∷ c) = ap (λ (b : Bool). (a.required && not (is_given a.id rows)) || b) (wanting_same rows c)

check_same : (s : Shape) (rows : List Row) (below : Bool)
    → check_fault (moved_shape s) rows below ≡ check_fault s rows below
check_same s rows below =
    ap (λ (b : Bool). check_kinds (not below &&
    (s.arg_required_else_help && not (list_any (λ r. explicit_source r.source) rows)))
    (not below && s.subcommand_required)
    (not (s.subcommand_negates_reqs && below) && b)) (wanting_same rows s.rules)

abbrev end_fault : Shape → Held → Bool → Kinds
end_fault s end below = or_else (settle_fault s.rules s.args_override_self end)
    (or_else (defaults_fault (settled s.rules end).rows s.rules) (check_fault s (finished s.rules end) below))

end_same : (s : Shape) (h : Held) (below : Bool) → end_fault (moved_shape s) h below ≡ end_fault s h below
end_same s h below =
    ap₂ or_else (settle_same s.rules s.args_override_self h)
    (ap₂ or_else (ap (λ (k : Held). defaults_fault k.rows (all_moved s.rules)) (settled_same s.rules h)
    ∙ defaults_same (settled s.rules h).rows s.rules)
    (ap (λ (rows : List Row). check_fault (moved_shape s) rows below) (finished_same s.rules h)
    ∙ check_same s (finished s.rules h) below))

pub level_same : (s : Shape) (names : Names) (h : Held) (words : List Text) (has_subcommand : Bool) (below : Kinds)
    → level_fault (moved_shape s) names h words has_subcommand below ≡ level_fault s names h words has_subcommand below
level_same s names h words has_subcommand below =
    ap₂ or_else (words_same s names (walk_from h) words)
    (ap (or_else below)
    (ap (λ (w : Walk). end_fault (moved_shape s) w.held has_subcommand) (walk_same s.rules names (walk_from h) words)
    ∙ end_same s (walk s.rules names h words).held has_subcommand))
