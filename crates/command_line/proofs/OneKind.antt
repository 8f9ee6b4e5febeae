-- Words ask for help or the version, or are used wrongly, and not both.
use Rattle.std.proofs.Common.{◌≡◌, ◌∙◌, ◌+◌, ◌⊎◌, ◌&&◌, ◌||◌, not, ℕ, Bool, true, false, true≢false, List, [], ◌∷◌}
use Rattle.std.proofs.Common.{length, Option, Some, None, inl, inr, drop, codes, is_some, refl, sym, ap, cond, subst}
use Rattle.std.specs.Prelude.{⊤, ◌==◌, nat_lt, zero, suc, slice_get, encode_utf8, find, min, option_map}
use Rattle.std.specs.List.{list_any}
use Rattle.std.specs.Option.{option_map_or}
use Rattle.std.specs.Str.{bytes_eq, chars}
use Rattle.std.proofs.lemmas.Slice.Eq.{bytes_eq-Decides}
use Rattle.clap.specs.Facts.{parser_of_value, unwrap_or_range}
use Rattle.clap.specs.Faults.{action_fault, bundle_fault, bundle_step_fault, count_fault, default_fault, defaults_fault}
use Rattle.clap.specs.Faults.{entered_fault, fault_of, flag_word_fault, flags_fault, level_fault, long_fault}
use Rattle.clap.specs.Faults.{option_fault, other_fault, positional_fault, react_fault, repeat_fault, set_fault}
use Rattle.clap.specs.Faults.{settle_fault, short_fault, step_fault, stray_fault, turn_fault, use_fault, values_fault}
use Rattle.clap.specs.Faults.{walk_fault, word_fault}
use Rattle.clap.specs.Kinds.{IsAmong, Kinds, check_kinds, or_else, range_kinds, request_kinds, value_kinds}
use Rattle.clap.specs.Lexer.{long_of, short_of}
use Rattle.clap.specs.Matches.{count_text}
use Rattle.clap.specs.Simple.{Shape, built, entered, label_of, names_of}
use Rattle.clap.specs.Takes.{bundle_passes, bundle_step_passes, flag_word_passes, flags_pass, long_passes}
use Rattle.clap.specs.Takes.{positional_passes, other_passes, react_passes, settle_passes, short_passes, step_passes}
use Rattle.clap.specs.Takes.{turn_passes, use_passes}
use Rattle.clap.specs.Values.{refused_kind}
use Rattle.clap.specs.ValueTests.{accepts}
use Rattle.clap.specs.Walk.{Held, Names, Outcome, Row, Rule, Step, Text, Waiting, Walk, action_of, after_flag}
use Rattle.clap.specs.Walk.{after_step, answers_to, arg_by_id, arg_by_index, arg_by_long, arg_by_short, attached_value}
use Rattle.clap.specs.Walk.{bundle, bundle_met, bundle_step, count_of, has_long, has_row, has_short, idle, is_empty}
use Rattle.clap.specs.Walk.{is_pending, long_or_other, most_values, next, nothing_held, option, plain, positional}
use Rattle.clap.specs.Walk.{reacted, settled, short_or_plain, subcommand, subcommand_met, subcommand_or_other}
use Rattle.clap.specs.Walk.{takes_several, takes_values, to_positional, trailing, value, values_or_missing, walk}
use Rattle.clap.specs.Walk.{walk_from, walked, walked_from, with_default, word_met}
use Rattle.clap.specs.declared.builder.action.ArgAction.{ArgAction}
use Rattle.clap.specs.declared.builder.action.ArgAction.TheVariants.{Set, Append, SetTrue, SetFalse, Count, Help}
use Rattle.clap.specs.declared.builder.action.ArgAction.TheVariants.{HelpShort, HelpLong, Version}
use Rattle.clap.specs.declared.error.kind.ErrorKind.{ErrorKind}
use Rattle.clap.specs.declared.error.kind.ErrorKind.TheVariants as kind
use Rattle.clap.proofs.WalkLemmas.{both}
use Rattle.command_line.specs.Commands.{program}
use Rattle.command_line.specs.Reading.{AsksForHelp, AsksForVersion, IsWrongUse, asks_for_help}
use Rattle.command_line.proofs.FaultsTaken.{help_found, none, turn_none}
use Rattle.command_line.proofs.RowFacts.{Each, found_each}

-- the kind says that help or the version was asked for
abbrev is_request : ErrorKind → Bool
is_request kind.DisplayHelp = true
is_request kind.DisplayVersion = true
is_request other = false

-- there is one kind at most, or help and the version are not among the kinds
abbrev is_clear : Kinds → Bool
is_clear (first ∷ second ∷ others) = not (list_any is_request (first ∷ second ∷ others))
is_clear others = true

-- the kinds are clear
record IsClear (found : Kinds) : Type 0 where
  clear : is_clear found ≡ true

sure : {found : Kinds} → is_clear found ≡ true → IsClear found
sure same = record { clear = same }

clear_else : (a b : Kinds) → IsClear a → IsClear b → IsClear (or_else a b)
clear_else [] b first second = second
clear_else (k ∷ ks) b first second = first

-- ---- one use

clear_cond : (b : Bool) (left right : Kinds) → IsClear left → IsClear right → IsClear (cond b left right)
clear_cond true left right one other = one
clear_cond false left right one other = other

clear_one : (passes : Bool) (k : ErrorKind) → IsClear (cond passes [] (k ∷ []))
clear_one true k = sure refl
clear_one false k = sure refl

clear_values : (a : Rule) (ts : List Text) → IsClear (values_fault a ts)
clear_values a [] = sure refl
clear_values a (t ∷ ts) =
    clear_else (value_kinds a.ignore_case (parser_of_value a.parser) t) (values_fault a ts)
    (clear_one (accepts a.ignore_case (parser_of_value a.parser) t) (refused_kind (parser_of_value a.parser)))
    (clear_values a ts)

clear_count : (a : Rule) (values : List Text) (rows : List Row) → IsClear (count_fault a values rows)
clear_count a [] rows =
    clear_one (accepts a.ignore_case (parser_of_value a.parser) (count_text (min (count_of a.id rows + 1) 255)))
    (refused_kind (parser_of_value a.parser))
clear_count a (v ∷ vs) rows = clear_values a (v ∷ vs)

clear_repeat : (b : Bool) → IsClear (cond b (kind.ArgumentConflict ∷ []) [])
clear_repeat true = sure refl
clear_repeat false = sure refl

clear_set : (again : Bool) (a : Rule) (values : List Text) (rows : List Row) → IsClear (set_fault again a values rows)
clear_set again a values rows = clear_else (repeat_fault again a.id rows) (values_fault a values)
    (clear_repeat (has_row a.id rows && not again)) (clear_values a values)

clear_action : (x : ArgAction) (again : Bool) (a : Rule) (values : List Text) (rows : List Row)
    → IsClear (action_fault x again a values rows)
clear_action Set again a values rows = clear_set again a values rows
clear_action SetTrue again a values rows = clear_set again a values rows
clear_action SetFalse again a values rows = clear_set again a values rows
clear_action Append again a values rows = clear_values a values
clear_action Count again a values rows = clear_count a values rows
clear_action Help again a values rows = sure refl
clear_action HelpShort again a values rows = sure refl
clear_action HelpLong again a values rows = sure refl
clear_action Version again a values rows = sure refl

clear_range : (least most n : ℕ) → IsClear (range_kinds least most n)
clear_range least most n =
    clear_cond (nat_lt 0 least && n == 0) _ _ (sure refl)
    (clear_cond (least == most) _ _ (clear_cond (least == n) [] (kind.WrongNumberOfValues ∷ []) (sure refl) (sure refl))
    (clear_cond (nat_lt n least) (kind.TooFewValues ∷ []) _ (sure refl)
    (clear_cond (nat_lt most n) (kind.TooManyValues ∷ []) [] (sure refl) (sure refl))))

clear_use : (again : Bool) (a : Rule) (values : List Text) (rows : List Row) → IsClear (use_fault again a values rows)
clear_use again a values rows =
    clear_else (range_kinds (unwrap_or_range a.range).start_inclusive (most_values a) (length values)) _
    (clear_range (unwrap_or_range a.range).start_inclusive (most_values a) (length values))
    (clear_action (action_of a) again a (values_or_missing a values) rows)

-- ---- the walk

clear_used : (again : Bool) (o : Option Rule) (values : List Text) (rows : List Row)
    → IsClear (option_map_or (λ a. use_fault again a values rows) o [])
clear_used again None values rows = sure refl
clear_used again (Some a) values rows = clear_use again a values rows

clear_pending : (c : List Rule) (again : Bool) (rows : List Row) (o : Option (Text × List Text))
    → IsClear (option_map_or (λ p. option_map_or (λ a. use_fault again a p.1 rows) (arg_by_id c p.0) []) o [])
clear_pending c again rows None = sure refl
clear_pending c again rows (Some p) = clear_used again (arg_by_id c p.0) p.1 rows

clear_settle : (c : List Rule) (again : Bool) (h : Held) → IsClear (settle_fault c again h)
clear_settle c again h = clear_pending c again h.rows h.pending

clear_react : (c : List Rule) (again : Bool) (a : Rule) (values : List Text) (h : Held) → IsClear
    (react_fault c again a values h)
clear_react c again a values h = clear_else (settle_fault c again h) _ (clear_settle c again h)
    (clear_use again a values (settled c h).rows)

clear_option : (c : List Rule) (again : Bool) (a : Rule) (v : Option Text) (h : Held) → IsClear
    (option_fault c again a v h)
clear_option c again a (Some v) h = clear_react c again a (v ∷ []) h
clear_option c again a None h = clear_settle c again h

clear_flag : (c : List Rule) (again : Bool) (a : Rule) (v : Option Text) (h : Held)
    → IsClear (cond (is_some v) (kind.TooManyValues ∷ []) (react_fault c again a [] h))
clear_flag c again a (Some v) h = sure refl
clear_flag c again a None h = clear_react c again a [] h

clear_long : (c : List Rule) (again : Bool) (o : Option Rule) (v : Option Text) (h : Held) → IsClear
    (long_fault c again o v h)
clear_long c again None v h = sure refl
clear_long c again (Some a) v h = clear_cond (takes_values a) _ _ (clear_option c again a v h)
    (clear_flag c again a v h)

clear_short : (c : List Rule) (again : Bool) (o : Option Rule) (rest : Text) (h : Held) (fault : Held → Kinds)
    → ((k : Held) → IsClear (fault k)) → IsClear (short_fault c again o rest h fault)
clear_short c again None rest h fault later = sure refl
clear_short c again (Some a) rest h fault later =
    clear_cond (takes_values a) _ _ (clear_option c again a (attached_value rest) h)
    (clear_else (react_fault c again a [] h) _ (clear_react c again a [] h) (later (reacted c a [] h)))

clear_bundle_step : (c : List Rule) (again : Bool) (o : Option ℕ) (flags : Text) (skip : ℕ) (h : Held)
    (fault : Text → ℕ → Held → Kinds) → ((t : Text) (s : ℕ) (k : Held) → IsClear (fault t s k))
    → IsClear (bundle_step_fault c again o flags skip h fault)
clear_bundle_step c again None flags skip h fault later = sure refl
clear_bundle_step c again (Some x) flags zero h fault later =
    let rest = drop (length (encode_utf8 x)) flags in
    clear_short c again (arg_by_short c x) rest h (fault rest 0) (λ k. later rest 0 k)
clear_bundle_step c again (Some x) flags (suc skip) h fault later = later (drop (length (encode_utf8 x)) flags) skip h

clear_flags : (c : List Rule) (again : Bool) (k : ℕ) (flags : Text) (skip : ℕ) (h : Held)
    → IsClear (flags_fault c again k flags skip h)
unfolding flags_fault
clear_flags c again zero flags skip h = sure refl
clear_flags c again (suc k) flags skip h =
    clear_bundle_step c again (slice_get (chars flags) 0) flags skip h (flags_fault c again k)
    (λ t s g. clear_flags c again k t s g)

clear_short_word : (c : List Rule) (again : Bool) (o : Option Text) (h : Held)
    → IsClear (option_map_or (λ flags. bundle_fault c again flags h) o [])
clear_short_word c again None h = sure refl
clear_short_word c again (Some flags) h = clear_flags c again (length flags) flags h.skip (record h { skip = 0 })

clear_flag_word : (c : List Rule) (again : Bool) (o : Option (Text × Option Text)) (word : Text) (h : Held)
    → IsClear (flag_word_fault c again o word h)
clear_flag_word c again (Some p) word h = clear_long c again (arg_by_long c p.0) p.1 h
clear_flag_word c again None word h = clear_short_word c again (short_of word) h

-- the word that was met isn't `help`
abbrev IsNotHelp : Option Text → Type 0
IsNotHelp None = ⊤
IsNotHelp (Some name) = bytes_eq name (codes "help") ≡ false

clear_name : (asks off : Bool) → asks ≡ false → IsClear
    (cond (asks && not off) (kind.DisplayHelp ∷ kind.InvalidSubcommand ∷ []) [])
clear_name true off e = absurd (true≢false e)
clear_name false off e = sure refl

clear_other : (s : Shape) (o : Option Text) (word : Text) (h : Held) → IsNotHelp o → IsClear (other_fault s o word h)
clear_other s (Some name) word h fine = clear_name (bytes_eq name (codes "help")) s.disable_help_subcommand fine
clear_other s None word h fine =
    clear_cond (bytes_eq word (45 ∷ 45 ∷ [])) [] _ (sure refl)
    (clear_flag_word s.rules s.args_override_self (long_of word) word h)

clear_positional : (c : List Rule) (again : Bool) (a : Rule) (h : Held) → IsClear (positional_fault c again a h)
clear_positional c again a h = clear_cond (is_pending a h.pending && takes_several a) [] _ (sure refl)
    (clear_settle c again h)

clear_stray : (leaf : Bool) → IsClear (cond leaf (kind.UnknownArgument ∷ [])
    (kind.UnknownArgument ∷ kind.InvalidSubcommand ∷ []))
clear_stray true = sure refl
clear_stray false = sure refl

clear_place : (s : Shape) (o : Option Rule) (h : Held)
    → IsClear (option_map_or (λ a. positional_fault s.rules s.args_override_self a h) o (stray_fault s))
clear_place s None h = clear_stray s.is_leaf
clear_place s (Some a) h = clear_positional s.rules s.args_override_self a h

clear_step : (s : Shape) (position : ℕ) (h : Held) (step : Step) → IsClear (step_fault s position h step)
clear_step s position h (next waiting) = sure refl
clear_step s position h (trailing place) = sure refl
clear_step s position h (subcommand name) = sure refl
clear_step s position h value = clear_place s (arg_by_index s.rules position) h

-- the walk has stopped, or reads no more names
abbrev IsPast : Walk → Type 0
IsPast w = (is_some w.stopped ≡ true) ⊎ (w.is_trailing ≡ true)

clear_turn : (s : Shape) (names : Names) (w : Walk) (word : Text) → IsPast w ⊎ IsNotHelp
    (subcommand_met names w.waiting word)
    → IsClear (turn_fault s names w word)
clear_turn s names w word fine = go (is_some w.stopped) w.is_trailing fine
  where
    met : Bool → Held × Step
    met is_trailing = word_met s.rules names is_trailing w.waiting w.position word w.held

    go : (stopped is_trailing : Bool)
        → ((stopped ≡ true) ⊎ (is_trailing ≡ true)) ⊎ IsNotHelp (subcommand_met names w.waiting word)
        → IsClear (cond stopped [] (or_else (word_fault s names is_trailing w.waiting word w.held)
        (step_fault s w.position (met is_trailing).0 (met is_trailing).1)))
    go true is_trailing fine = sure refl
    go false true fine = clear_step s w.position (met true).0 (met true).1
    go false false (inl (inl e)) = absurd (true≢false (sym e))
    go false false (inl (inr e)) = absurd (true≢false (sym e))
    go false false (inr name) =
        clear_else _ _ (clear_other s (subcommand_met names w.waiting word) word w.held name)
        (clear_step s w.position (met false).0 (met false).1)

value_past : (c : List Rule) (o : Option Rule) (word : Text) (w : Walk) (h : Held) → w.is_trailing ≡ true → IsPast
    (to_positional c o word w h)
value_past c None word w h e = inr e
value_past c (Some a) word w h e = inr (ap (λ (b : Bool). b || a.trailing_var_arg) e)

-- a walk that is past the names stays so
stays_past : (c : List Rule) (names : Names) (o : Option (Text × List Text)) (w : Walk) (word : Text)
    → (is_some o ≡ true) ⊎ (w.is_trailing ≡ true) → IsPast (walked_from c names o w word)
stays_past c names (Some p) w word past = inl refl
stays_past c names None w word (inl e) = absurd (true≢false (sym e))
stays_past c names None w word (inr e) = go w.is_trailing e
  where
    go : (b : Bool) → b ≡ true → IsPast (after_step c word w (word_met c names b w.waiting w.position word w.held).0
        (word_met c names b w.waiting w.position word w.held).1)
    go true is = value_past c (arg_by_index c w.position) word w w.held e
    go false is = absurd (true≢false (sym is))

clear_past : (s : Shape) (names : Names) (w : Walk) (words : List Text) → IsPast w → IsClear
    (walk_fault s names w words)
unfolding walk_fault walked
clear_past s names w [] past = sure refl
clear_past s names w (word ∷ rest) past =
    clear_else (turn_fault s names w word) _ (clear_turn s names w word (inl past))
    (clear_past s names (walked s.rules names w word) rest (stays_past s.rules names w.stopped w word past))

no_names : (waiting : Waiting) (word : Text) → IsNotHelp (subcommand_met [] waiting word)
no_names idle word = tt
no_names (option id) word = tt
no_names positional word = tt

-- a command without commands below it
clear_leaf : (s : Shape) (w : Walk) (words : List Text) → IsClear (walk_fault s [] w words)
unfolding walk_fault
clear_leaf s w [] = sure refl
clear_leaf s w (word ∷ rest) =
    clear_else (turn_fault s [] w word) _ (clear_turn s [] w word (inr (no_names w.waiting word)))
    (clear_leaf s (walked s.rules [] w word) rest)

-- ---- after the walk

clear_request : (x : ArgAction) → IsClear (request_kinds x)
clear_request Set = sure refl
clear_request SetTrue = sure refl
clear_request SetFalse = sure refl
clear_request Append = sure refl
clear_request Count = sure refl
clear_request Help = sure refl
clear_request HelpShort = sure refl
clear_request HelpLong = sure refl
clear_request Version = sure refl

clear_defaults : (rows : List Row) (c : List Rule) → IsClear (defaults_fault rows c)
unfolding defaults_fault
clear_defaults rows [] = sure refl
clear_defaults rows (a ∷ c) =
    clear_else (default_fault rows a) _
    (clear_cond (has_row a.id rows || is_empty a.defaults) [] _ (sure refl)
    (clear_else (request_kinds (action_of a)) (values_fault a a.defaults) (clear_request (action_of a))
    (clear_values a a.defaults)))
    (clear_defaults (with_default rows a) c)

clear_check : (wants_help wants_subcommand wants_argument : Bool)
    → IsClear (check_kinds wants_help wants_subcommand wants_argument)
clear_check true wants_subcommand wants_argument = sure refl
clear_check false true wants_argument = sure refl
clear_check false false true = sure refl
clear_check false false false = sure refl

clear_level : (s : Shape) (names : Names) (h : Held) (words : List Text) (has_subcommand : Bool) (below : Kinds)
    → IsClear (walk_fault s names (walk_from h) words) → IsClear below
    → IsClear (level_fault s names h words has_subcommand below)
clear_level s names h words has_subcommand below walks lower =
    let end = (walk s.rules names h words).held in
    clear_else (walk_fault s names (walk_from h) words) _ walks
    (clear_else below _ lower
    (clear_else (settle_fault s.rules s.args_override_self end) _ (clear_settle s.rules s.args_override_self end)
    (clear_else (defaults_fault (settled s.rules end).rows s.rules) _
    (clear_defaults (settled s.rules end).rows s.rules)
    (clear_check _ _ _))))

clear_found : (o : Option Shape) (words : List Text)
    → IsClear (option_map_or (λ s. level_fault s [] nothing_held words false []) o [])
clear_found None words = sure refl
clear_found (Some s) words = clear_level s [] nothing_held words false [] (clear_leaf s (walk_from nothing_held) words)
    (sure refl)

clear_entered : (stop : Option (Text × List Text)) → IsClear (entered_fault (built program) stop)
clear_entered None = sure refl
clear_entered (Some p) = clear_found (find (λ s. answers_to p.0 (label_of s)) (built program).subs) p.1

-- ---- the first word of a command whose arguments only ask for help or the version

-- a flag by which help or the version is asked for
record Requests (a : Rule) : Type 0 where
  flag : takes_values a ≡ false
  refused : (again : Bool) (rows : List Row) → use_passes again a [] rows ≡ false
  unplaced : (k : ℕ) → option_map_or (λ i. i == k) a.index false ≡ false

and_false : (x : Bool) → (x && false) ≡ false
and_false true = refl
and_false false = refl

react_refused : (c : List Rule) (again : Bool) (a : Rule) (h : Held) → Requests a → react_passes c again a [] h ≡ false
react_refused c again a h asks =
    ap (λ (b : Bool). settle_passes c again h && b) (asks.refused again (settled c h).rows) ∙ and_false
    (settle_passes c again h)

flag_refused : (c : List Rule) (again : Bool) (a : Rule) (v : Option Text) (h : Held) → Requests a
    → (not (is_some v) && react_passes c again a [] h) ≡ false
flag_refused c again a (Some v) h asks = refl
flag_refused c again a None h asks = react_refused c again a h asks

cond_false : (b left right : Bool) → b ≡ false → right ≡ false → cond b left right ≡ false
cond_false true left right e f = absurd (true≢false e)
cond_false false left right e f = f

long_refused : (c : List Rule) (again : Bool) (o : Option Rule) (v : Option Text) (h : Held)
    → ((a : Rule) → o ≡ Some a → Requests a) → long_passes c again o v h ≡ false
long_refused c again None v h asks = refl
long_refused c again (Some a) v h asks =
    cond_false (takes_values a) _ _ (asks a refl).flag (flag_refused c again a v h (asks a refl))

short_refused : (c : List Rule) (again : Bool) (o : Option Rule) (rest : Text) (h : Held) (pass : Held → Bool)
    → ((a : Rule) → o ≡ Some a → Requests a) → short_passes c again o rest h pass ≡ false
short_refused c again None rest h pass asks = refl
short_refused c again (Some a) rest h pass asks =
    cond_false (takes_values a) _ _ (asks a refl).flag
    (ap (λ (b : Bool). b && pass (reacted c a [] h)) (react_refused c again a h (asks a refl)))

bundle_stays : (c : List Rule) (again : Bool) (k : ℕ) (flags : Text) (h : Held) → Each Requests c
    → flags_pass c again k flags 0 h ≡ true → (bundle_met c k flags 0 plain h).1 ≡ plain
unfolding flags_pass bundle_met
bundle_stays c again zero flags h each pass = refl
bundle_stays c again (suc k) flags h each pass = go (slice_get (chars flags) 0) pass
  where
    go : (o : Option ℕ) → bundle_step_passes c again o flags 0 h (flags_pass c again k) ≡ true
        → (bundle_step c o flags 0 plain h (bundle_met c k)).1 ≡ plain
    go None p = refl
    go (Some x) p =
        let rest = drop (length (encode_utf8 x)) flags in
        absurd (true≢false (sym p ∙ short_refused c again (arg_by_short c x) rest h (flags_pass c again k rest 0)
        (λ a e. (found_each Requests (λ a. not (is_some a.index) && has_short a x) c a each e).0)))

no_place : (c : List Rule) (position : ℕ) → Each Requests c → arg_by_index c position ≡ None
no_place [] position each = refl
no_place (a ∷ c) position each =
    go (option_map_or (λ k. k == position) a.index false) (each.0.unplaced position) (no_place c position each.1)
  where
    go : (b : Bool) → b ≡ false → arg_by_index c position ≡ None → cond b (Some a) (arg_by_index c position) ≡ None
    go true e later = absurd (true≢false e)
    go false e later = later

-- if the first word passes, the walk is past the names
module _ (s : Shape) (names : Names) (word : Text) (each : Each Requests s.rules) where
  abbrev c : List Rule
  c = s.rules

  abbrev again : Bool
  again = s.args_override_self

  abbrev h : Held
  h = nothing_held

  no_value : (k : Held) → step_passes s 1 k value ≡ true → ⊥
  no_value k p =
      true≢false (sym p ∙ ap (λ o. option_map_or (λ a. positional_passes s.rules s.args_override_self a k) o false)
      (no_place c 1 each))

  no_plain : (k : Held) (o : Outcome) → o ≡ plain
      → step_passes s 1 (after_flag c idle word k o).0 (after_flag c idle word k o).1 ≡ true → ⊥
  no_plain k o is p =
      no_value k (subst (λ (u : Outcome). step_passes s 1 (after_flag c idle word k u).0
      (after_flag c idle word k u).1 ≡ true)
      is p)

  no_short : (o : Option Text) → (option_map_or (λ flags. bundle_passes c again flags h) o true
      && step_passes s 1 (short_or_plain c idle word o h).0 (short_or_plain c idle word o h).1) ≡ true → ⊥
  no_short None p = no_value h p
  no_short (Some flags) p =
      let parts = both (bundle_passes c again flags h) _ p in
      no_plain (bundle c flags h).0 (bundle c flags h).1
      (bundle_stays c again (length flags) flags h each parts.0) parts.1

  no_long : (o : Option (Text × Option Text)) → (flag_word_passes c again o word h
      && step_passes s 1 (long_or_other c idle word o h).0 (long_or_other c idle word o h).1) ≡ true → ⊥
  no_long None p = no_short (short_of word) p
  no_long (Some q) p =
      let parts = both (long_passes c again (arg_by_long c q.0) q.1 h) _ p in
      true≢false (sym parts.0 ∙ long_refused c again (arg_by_long c q.0) q.1 h
      (λ a e. (found_each Requests (λ a. not (is_some a.index) && has_long a q.0) c a each e).0))

  abbrev met : Option Text → Held × Step
  met o = subcommand_or_other c o idle 1 word h

  past_dashes : (b : Bool) → ((b || flag_word_passes c again (long_of word) word h)
      && step_passes s 1 (cond b (h, trailing 1) (long_or_other c idle word (long_of word) h)).0
      (cond b (h, trailing 1) (long_or_other c idle word (long_of word) h)).1) ≡ true
      → IsPast (after_step c word (walk_from h) (cond b (h, trailing 1) (long_or_other c idle word (long_of word) h)).0
      (cond b (h, trailing 1) (long_or_other c idle word (long_of word) h)).1)
  past_dashes true p = inr refl
  past_dashes false p = absurd (no_long (long_of word) p)

  past_name : (o : Option Text) → (other_passes s o word h && step_passes s 1 (met o).0 (met o).1) ≡ true
      → IsPast (after_step c word (walk_from h) (met o).0 (met o).1)
  past_name (Some name) p = inl refl
  past_name None p = past_dashes (bytes_eq word (45 ∷ 45 ∷ [])) p

  first_past : turn_passes s names (walk_from h) word ≡ true → IsPast (walked c names (walk_from h) word)
  unfolding walked
  first_past p = past_name (subcommand_met names idle word) p

clear_then : (a b : Kinds) → IsClear a → (none a ≡ true → IsClear b) → IsClear (or_else a b)
clear_then [] b first second = second refl
clear_then (k ∷ ks) b first second = first

clear_walk : (s : Shape) (names : Names) (word : Text) (rest : List Text) → Each Requests s.rules
    → IsNotHelp (subcommand_met names idle word) → IsClear (walk_fault s names (walk_from nothing_held) (word ∷ rest))
unfolding walk_fault
clear_walk s names word rest each fine =
    let w = walk_from nothing_held in
    clear_then (turn_fault s names w word) _ (clear_turn s names w word (inr fine))
    (λ e. clear_past s names (walked s.rules names w word) rest
    (first_past s names word each (sym (turn_none s names w word) ∙ e)))

-- ---- the program

or_false : (x : Bool) → (x || false) ≡ x
or_false true = refl
or_false false = refl

named : (names : Names) (word : Text) → Each (λ (s : Text × List Text). s.1 ≡ []) names → bytes_eq word
    (codes "help") ≡ false
    → IsNotHelp (option_map (λ s. s.0) (find (answers_to word) names))
named [] word each other = tt
named (s ∷ names) word each other = go (named names word each.1 other) (answers_to word s) refl
  where
    plainly : answers_to word s ≡ bytes_eq s.0 word
    plainly = ap (λ (l : List Text). bytes_eq s.0 word || list_any (λ alias. bytes_eq alias word) l) each.0 ∙ or_false
        (bytes_eq s.0 word)

    go : IsNotHelp (option_map (λ s. s.0) (find (answers_to word) names)) → (b : Bool) → answers_to word s ≡ b
        → IsNotHelp (option_map (λ s. s.0) (cond b (Some s) (find (answers_to word) names)))
    go later true e =
        let is : s.0 ≡ word = (bytes_eq-Decides s.0 word).0 (sym plainly ∙ e) in
        subst (λ (t : Text). bytes_eq t (codes "help") ≡ false) (sym is) other
    go later false e = later

top_requests : Each Requests (built program).top.rules
top_requests = (
  record { flag = refl; refused = λ again rows. refl; unplaced = λ k. refl },
  (record { flag = refl; refused = λ again rows. refl; unplaced = λ k. refl }, tt),
)

clear_words : (words : List Text) → asks_for_help words ≡ false
    → IsClear (walk_fault (built program).top (names_of (built program)) (walk_from nothing_held) (drop 1 words))
unfolding walk_fault
clear_words [] other = sure refl
clear_words (name ∷ []) other = sure refl
clear_words (name ∷ word ∷ rest) other =
    clear_walk (built program).top (names_of (built program)) word rest top_requests
    (named (names_of (built program)) word
    (refl, (refl, (refl, (refl, (refl, (refl, (refl, (refl, (refl, tt))))))))) other)

-- the kinds for words whose first isn't `help`
clear_program : (words : List Text) → asks_for_help words ≡ false → IsClear (fault_of program words)
clear_program words other =
    let top = (built program).top in
    let names = names_of (built program) in
    let stop = (walk top.rules names nothing_held (drop 1 words)).stopped in
    clear_level top names nothing_held (drop 1 words) (is_some (entered (built program) stop))
    (entered_fault (built program) stop)
    (clear_words words other) (clear_entered stop)

or_true : (x : Bool) → (x || true) ≡ true
or_true true = refl
or_true false = refl

any_request : (found : Kinds) (asked : ErrorKind) → is_request asked ≡ true → IsAmong asked found
    → list_any is_request found ≡ true
any_request [] asked is has = absurd has
any_request (k ∷ found) asked is (inl same) = ap (λ (b : Bool). b || list_any is_request found)
    (ap is_request (sym same) ∙ is)
any_request (k ∷ found) asked is (inr later) =
    ap (λ (b : Bool). is_request k || b) (any_request found asked is later) ∙ or_true (is_request k)

only_request : (found : Kinds) (asked other : ErrorKind) → IsClear found → is_request asked ≡ true
    → IsAmong asked found → IsAmong other found → other ≡ asked
only_request [] asked other clear is has also = absurd has
only_request (k ∷ []) asked other clear is (inl same) (inl also) = also ∙ sym same
only_request (k ∷ []) asked other clear is (inl same) (inr none) = absurd none
only_request (k ∷ []) asked other clear is (inr none) also = absurd none
only_request (k ∷ second ∷ found) asked other clear is has also =
    absurd (true≢false (sym clear.clear ∙ ap not (any_request (k ∷ second ∷ found) asked is has)))

-- ---- what the words ask for

found_after_help : (words : List Text) (asked : ErrorKind) → asks_for_help words ≡ true → IsAmong asked
    (fault_of program words)
    → IsAmong asked (kind.DisplayHelp ∷ kind.InvalidSubcommand ∷ [])
found_after_help words asked asks has = subst (λ (k : Kinds). IsAmong asked k) (help_found words asks) has

no_version : IsAmong kind.DisplayVersion (kind.DisplayHelp ∷ kind.InvalidSubcommand ∷ []) → ⊥
no_version (inl same) = cc
no_version (inr (inl same)) = cc
no_version (inr (inr none)) = none

pub no_help_and_version : (words : List Text) → AsksForHelp words → AsksForVersion words → ⊥
no_help_and_version words help version = go (asks_for_help words) refl
  where
    go : (b : Bool) → asks_for_help words ≡ b → ⊥
    go true e = no_version (found_after_help words kind.DisplayVersion e version)
    go false e =
        let same : kind.DisplayVersion ≡ kind.DisplayHelp
        = only_request (fault_of program words) kind.DisplayHelp kind.DisplayVersion
        (clear_program words e) refl help.0 version in
        cc

no_help_and_misuse : (words : List Text) → AsksForHelp words → IsWrongUse words → ⊥
no_help_and_misuse words help (wrong, topic) = go (asks_for_help words) refl
  where
    go : (b : Bool) → asks_for_help words ≡ b → ⊥
    go true e = true≢false (sym (help.1 e) ∙ topic e)
    go false e = wrong.2 (only_request (fault_of program words) kind.DisplayHelp wrong.0
        (clear_program words e) refl help.0 wrong.1)

no_version_and_misuse : (words : List Text) → AsksForVersion words → IsWrongUse words → ⊥
no_version_and_misuse words version (wrong, topic) = go (asks_for_help words) refl
  where
    go : (b : Bool) → asks_for_help words ≡ b → ⊥
    go true e = no_version (found_after_help words kind.DisplayVersion e version)
    go false e = wrong.3 (only_request (fault_of program words) kind.DisplayVersion wrong.0
        (clear_program words e) refl version wrong.1)

pub no_answer_and_misuse : (words : List Text) → AsksForHelp words ⊎ AsksForVersion words → IsWrongUse words → ⊥
no_answer_and_misuse words (inl help) wrong = no_help_and_misuse words help wrong
no_answer_and_misuse words (inr version) wrong = no_version_and_misuse words version wrong
