-- The addresses of a parser's names don't change the words that a command takes.
use Rattle.std.proofs.Common.{◌≡◌, ◌∙◌, ◌+◌, ◌&&◌, ◌||◌, not, ℕ, Bool, true, false, List, [], ◌∷◌, length, Option, Some}
use Rattle.std.proofs.Common.{None, is_some, refl, ap, cond, option_map}
use Rattle.std.specs.Prelude.{zero, suc, slice_get, drop, encode_utf8, min, nat_le}
use Rattle.std.specs.List.{list_all, list_any}
use Rattle.std.specs.Option.{option_map_or}
use Rattle.std.specs.Str.{bytes_eq, chars}
use Rattle.clap.specs.Facts.{explicit_source, unwrap_or_range}
use Rattle.clap.specs.Lexer.{long_of, short_of}
use Rattle.clap.specs.Matches.{count_text}
use Rattle.clap.specs.Values.{is_request}
use Rattle.clap.specs.Simple.{Shape}
use Rattle.clap.specs.Takes.{action_passes, bundle_passes, bundle_step_passes, count_passes, default_passes}
use Rattle.clap.specs.Takes.{flag_word_passes, flags_pass, is_given, is_valid, level_passes, long_passes, option_passes}
use Rattle.clap.specs.Takes.{other_passes, positional_passes, react_passes, set_passes, settle_passes, short_passes}
use Rattle.clap.specs.Takes.{step_passes, turn_passes, use_passes, value_passes, values_pass, walk_passes, word_passes}
use Rattle.clap.specs.Walk.{Held, Names, Row, Rule, Step, Text, Waiting, Walk, action_of, arg_by_id, arg_by_index}
use Rattle.clap.specs.Walk.{arg_by_long, arg_by_short, attached_value, count_of, finished, has_row, is_empty}
use Rattle.clap.specs.Walk.{is_pending, most_values, next, reacted, settled, subcommand, subcommand_met, takes_several}
use Rattle.clap.specs.Walk.{takes_values, trailing, value, values_or_missing, walk, walk_from, walked, word_met}
use Rattle.clap.specs.declared.builder.action.ArgAction.{ArgAction}
use Rattle.clap.specs.declared.builder.action.ArgAction.TheVariants.{Set, Append, SetTrue, SetFalse, Count, Help}
use Rattle.clap.specs.declared.builder.action.ArgAction.TheVariants.{HelpShort, HelpLong, Version}
use Rattle.command_line.proofs.NamesMoved.{accepts_stay, all_moved, by_id, by_index, by_long, by_short, finished_same}
use Rattle.command_line.proofs.NamesMoved.{met_same, moved, reacted_same, settled_same, walk_same, walked_same}

abbrev pub moved_shape : Shape → Shape
moved_shape s = record s { rules = all_moved s.rules }

-- ---- one use

value_same : (a : Rule) (t : Text) → value_passes (moved a) t ≡ value_passes a t
value_same a t = accepts_stay a.ignore_case a.parser t

values_same : (a : Rule) (ts : List Text) → values_pass (moved a) ts ≡ values_pass a ts
values_same a [] = refl
values_same a (t ∷ ts) = ap (λ (b : Bool). b && values_pass (moved a) ts) (value_same a t)
    ∙ ap (λ (b : Bool). value_passes a t && b) (values_same a ts)

count_same : (a : Rule) (values : List Text) (rows : List Row)
    → count_passes (moved a) values rows ≡ count_passes a values rows
count_same a [] rows = value_same a (count_text (min (count_of a.id rows + 1) 255))
count_same a (v ∷ vs) rows = values_same a (v ∷ vs)

set_same : (again : Bool) (a : Rule) (values : List Text) (rows : List Row)
    → set_passes again (moved a) values rows ≡ set_passes again a values rows
set_same again a values rows = ap (λ (b : Bool). (not (has_row a.id rows) || again) && b) (values_same a values)

action_same : (x : ArgAction) (again : Bool) (a : Rule) (values : List Text) (rows : List Row)
    → action_passes x again (moved a) values rows ≡ action_passes x again a values rows
action_same Set again a values rows = set_same again a values rows
action_same SetTrue again a values rows = set_same again a values rows
action_same SetFalse again a values rows = set_same again a values rows
action_same Append again a values rows = values_same a values
action_same Count again a values rows = count_same a values rows
action_same Help again a values rows = refl
action_same HelpShort again a values rows = refl
action_same HelpLong again a values rows = refl
action_same Version again a values rows = refl

use_same : (again : Bool) (a : Rule) (values : List Text) (rows : List Row)
    → use_passes again (moved a) values rows ≡ use_passes again a values rows
use_same again a values rows =
    ap (λ (b : Bool). nat_le (unwrap_or_range a.range).start_inclusive (length values) &&
    (nat_le (length values) (most_values a) && b))
    (action_same (action_of a) again a (values_or_missing a values) rows)

-- ---- the walk

used_same : (again : Bool) (o : Option Rule) (values : List Text) (rows : List Row)
    → option_map_or (λ a. use_passes again a values rows) (option_map moved o) true
    ≡ option_map_or (λ a. use_passes again a values rows) o true
used_same again None values rows = refl
used_same again (Some a) values rows = use_same again a values rows

pending_same : (c : List Rule) (again : Bool) (rows : List Row) (o : Option (Text × List Text))
    → option_map_or (λ p. option_map_or (λ a. use_passes again a p.1 rows) (arg_by_id (all_moved c) p.0) true) o true
    ≡ option_map_or (λ p. option_map_or (λ a. use_passes again a p.1 rows) (arg_by_id c p.0) true) o true
pending_same c again rows None = refl
pending_same c again rows (Some p) =
    ap (λ (o : Option Rule). option_map_or (λ a. use_passes again a p.1 rows) o true) (by_id c p.0)
    ∙ used_same again (arg_by_id c p.0) p.1 rows

settle_same : (c : List Rule) (again : Bool) (h : Held) → settle_passes (all_moved c) again h ≡ settle_passes c again h
settle_same c again h = pending_same c again h.rows h.pending

react_same : (c : List Rule) (again : Bool) (a : Rule) (values : List Text) (h : Held)
    → react_passes (all_moved c) again (moved a) values h ≡ react_passes c again a values h
react_same c again a values h =
    ap (λ (b : Bool). b && use_passes again (moved a) values (settled (all_moved c) h).rows) (settle_same c again h)
    ∙ (ap (λ (k : Held). settle_passes c again h && use_passes again (moved a) values k.rows) (settled_same c h)
    ∙ ap (λ (b : Bool). settle_passes c again h && b) (use_same again a values (settled c h).rows))

option_same : (c : List Rule) (again : Bool) (a : Rule) (v : Option Text) (h : Held)
    → option_passes (all_moved c) again (moved a) v h ≡ option_passes c again a v h
option_same c again a (Some v) h = react_same c again a (v ∷ []) h
option_same c again a None h = settle_same c again h

long_same : (c : List Rule) (again : Bool) (o : Option Rule) (v : Option Text) (h : Held)
    → long_passes (all_moved c) again (option_map moved o) v h ≡ long_passes c again o v h
long_same c again None v h = refl
long_same c again (Some a) v h = go (takes_values a)
  where
    go : (b : Bool)
        → cond b (option_passes (all_moved c) again (moved a) v h)
        (not (is_some v) && react_passes (all_moved c) again (moved a) [] h)
        ≡ cond b (option_passes c again a v h) (not (is_some v) && react_passes c again a [] h)
    go true = option_same c again a v h
    go false = ap (λ (b : Bool). not (is_some v) && b) (react_same c again a [] h)

short_same : (c : List Rule) (again : Bool) (o : Option Rule) (rest : Text) (h : Held) (f g : Held → Bool)
    → ((k : Held) → f k ≡ g k)
    → short_passes (all_moved c) again (option_map moved o) rest h f ≡ short_passes c again o rest h g
short_same c again None rest h f g same = refl
short_same c again (Some a) rest h f g same = go (takes_values a)
  where
    go : (b : Bool)
        → cond b (option_passes (all_moved c) again (moved a) (attached_value rest) h)
        (react_passes (all_moved c) again (moved a) [] h && f (reacted (all_moved c) (moved a) [] h))
        ≡ cond b (option_passes c again a (attached_value rest) h) (react_passes c again a [] h && g (reacted c a [] h))
    go true = option_same c again a (attached_value rest) h
    go false = ap (λ (b : Bool). b && f (reacted (all_moved c) (moved a) [] h)) (react_same c again a [] h)
        ∙ ap (λ (b : Bool). react_passes c again a [] h && b) (ap f (reacted_same c a [] h) ∙ same (reacted c a [] h))

bundle_step_same : (c : List Rule) (again : Bool) (o : Option ℕ) (flags : Text) (skip : ℕ) (h : Held)
    (f g : Text → ℕ → Held → Bool)
    → ((t : Text) (s : ℕ) (k : Held) → f t s k ≡ g t s k)
    → bundle_step_passes (all_moved c) again o flags skip h f ≡ bundle_step_passes c again o flags skip h g
bundle_step_same c again None flags skip h f g same = refl
bundle_step_same c again (Some x) flags zero h f g same =
    let rest = drop (length (encode_utf8 x)) flags in
    ap (λ (o : Option Rule). short_passes (all_moved c) again o rest h (f rest 0)) (by_short c x)
    ∙ short_same c again (arg_by_short c x) rest h (f rest 0) (g rest 0) (λ k. same rest 0 k)
bundle_step_same c again (Some x) flags (suc skip) h f g same = same (drop (length (encode_utf8 x)) flags) skip h

flags_same : (c : List Rule) (again : Bool) (k : ℕ) (flags : Text) (skip : ℕ) (h : Held)
    → flags_pass (all_moved c) again k flags skip h ≡ flags_pass c again k flags skip h
unfolding flags_pass
flags_same c again zero flags skip h = refl
flags_same c again (suc k) flags skip h =
    bundle_step_same c again (slice_get (chars flags) 0) flags skip h (flags_pass (all_moved c) again k)
    (flags_pass c again k) (λ t s g. flags_same c again k t s g)

short_word_same : (c : List Rule) (again : Bool) (o : Option Text) (h : Held)
    → option_map_or (λ flags. bundle_passes (all_moved c) again flags h) o true
    ≡ option_map_or (λ flags. bundle_passes c again flags h) o true
short_word_same c again None h = refl
short_word_same c again (Some flags) h = flags_same c again (length flags) flags h.skip (record h { skip = 0 })

flag_word_same : (c : List Rule) (again : Bool) (o : Option (Text × Option Text)) (word : Text) (h : Held)
    → flag_word_passes (all_moved c) again o word h ≡ flag_word_passes c again o word h
flag_word_same c again (Some p) word h =
    ap (λ (o : Option Rule). long_passes (all_moved c) again o p.1 h) (by_long c p.0)
    ∙ long_same c again (arg_by_long c p.0) p.1 h
flag_word_same c again None word h = short_word_same c again (short_of word) h

other_same : (s : Shape) (o : Option Text) (word : Text) (h : Held)
    → other_passes (moved_shape s) o word h ≡ other_passes s o word h
other_same s (Some name) word h = refl
other_same s None word h = ap (λ (b : Bool). bytes_eq word (45 ∷ 45 ∷ []) || b)
    (flag_word_same s.rules s.args_override_self (long_of word) word h)

word_same : (s : Shape) (names : Names) (is_trailing : Bool) (waiting : Waiting) (word : Text) (h : Held)
    → word_passes (moved_shape s) names is_trailing waiting word h ≡ word_passes s names is_trailing waiting word h
word_same s names is_trailing waiting word h =
    ap (λ (b : Bool). is_trailing || b) (other_same s (subcommand_met names waiting word) word h)

positional_same : (c : List Rule) (again : Bool) (a : Rule) (h : Held)
    → positional_passes (all_moved c) again (moved a) h ≡ positional_passes c again a h
positional_same c again a h =
    ap (λ (b : Bool). (is_pending a h.pending && takes_several a) || b) (settle_same c again h)

place_same : (c : List Rule) (again : Bool) (o : Option Rule) (h : Held)
    → option_map_or (λ a. positional_passes (all_moved c) again a h) (option_map moved o) false
    ≡ option_map_or (λ a. positional_passes c again a h) o false
place_same c again None h = refl
place_same c again (Some a) h = positional_same c again a h

step_same : (s : Shape) (position : ℕ) (h : Held) (step : Step)
    → step_passes (moved_shape s) position h step ≡ step_passes s position h step
step_same s position h (next waiting) = refl
step_same s position h (trailing place) = refl
step_same s position h (subcommand name) = refl
step_same s position h value =
    ap (λ (o : Option Rule). option_map_or
    (λ a. positional_passes (all_moved s.rules) s.args_override_self a h) o false) (by_index s.rules position)
    ∙ place_same s.rules s.args_override_self (arg_by_index s.rules position) h

turn_same : (s : Shape) (names : Names) (w : Walk) (word : Text)
    → turn_passes (moved_shape s) names w word ≡ turn_passes s names w word
turn_same s names w word =
    let met = word_met s.rules names w.is_trailing w.waiting w.position word w.held in
    ap (λ (b : Bool). is_some w.stopped || b)
    (ap (λ (x : Held × Step). word_passes (moved_shape s) names w.is_trailing w.waiting word w.held && step_passes
    (moved_shape s) w.position x.0 x.1)
    (met_same s.rules names w.is_trailing w.waiting w.position word w.held)
    ∙ (ap (λ (b : Bool). b && step_passes (moved_shape s) w.position met.0 met.1)
    (word_same s names w.is_trailing w.waiting word w.held)
    ∙ ap (λ (b : Bool). word_passes s names w.is_trailing w.waiting word w.held && b)
    (step_same s w.position met.0 met.1)))

words_same : (s : Shape) (names : Names) (w : Walk) (words : List Text)
    → walk_passes (moved_shape s) names w words ≡ walk_passes s names w words
unfolding walk_passes
words_same s names w [] = refl
words_same s names w (word ∷ rest) =
    ap (λ (b : Bool). b && walk_passes (moved_shape s) names (walked (all_moved s.rules) names w word) rest)
    (turn_same s names w word)
    ∙ (ap (λ (x : Walk). turn_passes s names w word && walk_passes (moved_shape s) names x rest)
    (walked_same s.rules names w word)
    ∙ ap (λ (b : Bool). turn_passes s names w word && b) (words_same s names (walked s.rules names w word) rest))

-- ---- after the walk

default_same : (a : Rule) → default_passes (moved a) ≡ default_passes a
default_same a =
    ap (λ (b : Bool). is_empty a.defaults || (not (is_request (action_of a)) && b)) (values_same a a.defaults)

defaults_same : (c : List Rule) → list_all default_passes (all_moved c) ≡ list_all default_passes c
defaults_same [] = refl
defaults_same (a ∷ c) = ap (λ (b : Bool). b && list_all default_passes (all_moved c)) (default_same a)
    ∙ ap (λ (b : Bool). default_passes a && b) (defaults_same c)

free_same : (c : List Rule) → list_all (λ a. a.is_free) (all_moved c) ≡ list_all (λ a. a.is_free) c
free_same [] = refl
free_same (a ∷ c) = ap (λ (b : Bool). a.is_free && b) (free_same c)

required_same : (rows : List Row) (c : List Rule)
    → list_all (λ a. not a.required || is_given a.id rows) (all_moved c)
    ≡ list_all (λ a. not a.required || is_given a.id rows) c
required_same rows [] = refl
required_same rows (a ∷ c) = ap (λ (b : Bool). (not a.required || is_given a.id rows) && b) (required_same rows c)

valid_same : (s : Shape) (rows : List Row) (below : Bool) → is_valid (moved_shape s) rows below ≡ is_valid s rows below
valid_same s rows below =
    ap (λ (b : Bool). (not s.arg_required_else_help || (below || list_any (λ r. explicit_source r.source) rows))
    && ((not s.subcommand_required || below) &&
    (b && ((s.subcommand_negates_reqs && below) || list_all (λ a. not a.required || is_given a.id rows)
    (all_moved s.rules)))))
    (free_same s.rules)
    ∙ ap (λ (b : Bool). (not s.arg_required_else_help || (below || list_any (λ r. explicit_source r.source) rows))
    && ((not s.subcommand_required || below) &&
    (list_all (λ a. a.is_free) s.rules && ((s.subcommand_negates_reqs && below) || b))))
    (required_same rows s.rules)

end_same : (s : Shape) (h : Held) (below : Bool)
    → (settle_passes (all_moved s.rules) s.args_override_self h &&
    (list_all default_passes (all_moved s.rules) && is_valid (moved_shape s)
    (finished (all_moved s.rules) h) below))
    ≡ (settle_passes s.rules s.args_override_self h &&
    (list_all default_passes s.rules && is_valid s (finished s.rules h) below))
end_same s h below =
    ap (λ (b : Bool). b && (list_all default_passes (all_moved s.rules) && is_valid (moved_shape s)
    (finished (all_moved s.rules) h) below)) (settle_same s.rules s.args_override_self h)
    ∙ ap (λ (b : Bool). settle_passes s.rules s.args_override_self h && b)
    (ap (λ (b : Bool). b && is_valid (moved_shape s) (finished (all_moved s.rules) h) below) (defaults_same s.rules)
    ∙ ap (λ (b : Bool). list_all default_passes s.rules && b)
    (ap (λ (rows : List Row). is_valid (moved_shape s) rows below) (finished_same s.rules h)
    ∙ valid_same s (finished s.rules h) below))

pub level_same : (s : Shape) (names : Names) (h : Held) (words : List Text) (below : Bool)
    → level_passes (moved_shape s) names h words below ≡ level_passes s names h words below
level_same s names h words below =
    ap (λ (w : Walk). walk_passes (moved_shape s) names (walk_from h) words
    && (settle_passes (all_moved s.rules) s.args_override_self w.held &&
    (list_all default_passes (all_moved s.rules) && is_valid (moved_shape s)
    (finished (all_moved s.rules) w.held) below)))
    (walk_same s.rules names (walk_from h) words)
    ∙ (ap (λ (b : Bool). walk_passes (moved_shape s) names (walk_from h) words && b)
    (end_same s (walk s.rules names h words).held below)
    ∙ ap (λ (b : Bool). b && (settle_passes s.rules s.args_override_self (walk s.rules names h words).held
    && (list_all default_passes s.rules && is_valid s (finished s.rules (walk s.rules names h words).held) below)))
    (words_same s names (walk_from h) words))
