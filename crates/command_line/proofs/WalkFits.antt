-- The invariant of the matches that the walk over the words keeps.
use Rattle.std.proofs.Common.{◌≡◌, ◌&&◌, not, ℕ, Bool, true, false, List, [], ◌∷◌, length, Option, Some, None, is_some}
use Rattle.std.proofs.Common.{refl, cond}
use Rattle.std.specs.Prelude.{⊤, zero, suc, slice_get, drop, encode_utf8}
use Rattle.std.specs.Option.{option_map_or}
use Rattle.std.specs.Str.{bytes_eq, chars}
use Rattle.clap.specs.Lexer.{short_of}
use Rattle.clap.specs.Walk.{Held, Outcome, Row, Rule, Step, Text, Waiting, after_flag, arg_by_id, arg_by_long}
use Rattle.clap.specs.Walk.{arg_by_short, attached_value, bundle, bundle_met, has_long, has_short, used_by_id}
use Rattle.clap.specs.Walk.{bundle_step, done, flag_met, idle, long_met, long_or_other, option, option_met, option_word}
use Rattle.clap.specs.Walk.{plain, plain_word, positional, reacted, refused, settled, settled_rows, short_met}
use Rattle.clap.specs.Walk.{short_or_plain, subcommand, takes_values, waits}
use Rattle.clap.specs.Takes.{bundle_passes, bundle_step_passes, flag_word_passes, flags_pass, long_passes}
use Rattle.clap.specs.Takes.{option_passes, react_passes, settle_passes, short_passes, use_passes}
use Rattle.clap.proofs.WalkLemmas.{both}
use Rattle.command_line.proofs.RowFacts.{Each, Fits, GoodRule, found_each, used_fits}

abbrev pub Good : List Rule → Type 0
Good c = Each (GoodRule c) c

abbrev pub RowsFit : List Rule → Held → Type 0
RowsFit c h = Each (Fits c) h.rows

settled_by : (c : List Rule) (again : Bool) (p : Text × List Text) (rows : List Row) (o : Option Rule) → Good c
    → arg_by_id c p.0 ≡ o
    → option_map_or (λ a. use_passes again a p.1 rows) o true ≡ true → Each (Fits c) rows
    → Each (Fits c) (used_by_id o p.1 rows)
settled_by c again p rows None good e pass each = each
settled_by c again p rows (Some a) good e pass each =
    used_fits c again a p.1 rows (found_each (GoodRule c) (λ a. bytes_eq a.id p.0) c a good e).0 pass each

settled_at : (c : List Rule) (again : Bool) (rows : List Row) (o : Option (Text × List Text)) → Good c
    → option_map_or (λ p. option_map_or (λ a. use_passes again a p.1 rows) (arg_by_id c p.0) true) o true ≡ true
    → Each (Fits c) rows → Each (Fits c) (settled_rows c o rows)
settled_at c again rows None good pass each = each
settled_at c again rows (Some p) good pass each = settled_by c again p rows (arg_by_id c p.0) good refl pass each

pub settled_fits : (c : List Rule) (again : Bool) (h : Held) → Good c → settle_passes c again h ≡ true → RowsFit c h
    → RowsFit c (settled c h)
settled_fits c again h good pass each = settled_at c again h.rows h.pending good pass each

reacted_fits : (c : List Rule) (again : Bool) (a : Rule) (values : List Text) (h : Held) → Good c → GoodRule c a
    → react_passes c again a values h ≡ true → RowsFit c h → RowsFit c (reacted c a values h)
reacted_fits c again a values h good rule pass each =
    let parts = both (settle_passes c again h) (use_passes again a values (settled c h).rows) pass in
    used_fits c again a values (settled c h).rows rule parts.1 (settled_fits c again h good parts.0 each)

option_fits : (c : List Rule) (again : Bool) (a : Rule) (v : Option Text) (h : Held) → Good c → GoodRule c a
    → option_passes c again a v h ≡ true → RowsFit c h → RowsFit c (option_met c a v h).0
option_fits c again a (Some v) h good rule pass each = reacted_fits c again a (v ∷ []) h good rule pass each
option_fits c again a None h good rule pass each = settled_fits c again h good pass each

flag_fits : (c : List Rule) (again : Bool) (a : Rule) (v : Option Text) (h : Held) → Good c → GoodRule c a
    → (not (is_some v) && react_passes c again a [] h) ≡ true → RowsFit c h → RowsFit c (flag_met c a v h).0
flag_fits c again a (Some v) h good rule pass each = each
flag_fits c again a None h good rule pass each = reacted_fits c again a [] h good rule pass each

long_fits : (c : List Rule) (again : Bool) (o : Option Rule) (v : Option Text) (h : Held) → Good c
    → ((a : Rule) → o ≡ Some a → GoodRule c a)
    → long_passes c again o v h ≡ true → RowsFit c h → RowsFit c (long_met c o v h).0
long_fits c again None v h good rule pass each = each
long_fits c again (Some a) v h good rule pass each = go (takes_values a) pass
  where
    go : (b : Bool) → cond b (option_passes c again a v h) (not (is_some v) && react_passes c again a [] h) ≡ true
        → RowsFit c (cond b (option_met c a v h) (flag_met c a v h)).0
    go true p = option_fits c again a v h good (rule a refl) p each
    go false p = flag_fits c again a v h good (rule a refl) p each

short_fits : (c : List Rule) (again : Bool) (o : Option Rule) (rest : Text) (h : Held) (met : Held → Held × Outcome)
    (passes : Held → Bool)
    → Good c
    → ((a : Rule) → o ≡ Some a → GoodRule c a) → ((k : Held) → passes k ≡ true → RowsFit c k → RowsFit c (met k).0)
    → short_passes c again o rest h passes ≡ true → RowsFit c h → RowsFit c (short_met c o rest h met).0
short_fits c again None rest h met passes good rule later pass each = each
short_fits c again (Some a) rest h met passes good rule later pass each = go (takes_values a) pass
  where
    go : (b : Bool)
        → cond b (option_passes c again a (attached_value rest) h)
        (react_passes c again a [] h && passes (reacted c a [] h)) ≡ true
        → RowsFit c (cond b (option_met c a (attached_value rest) h) (met (reacted c a [] h))).0
    go true p = option_fits c again a (attached_value rest) h good (rule a refl) p each
    go false p =
        let parts = both (react_passes c again a [] h) (passes (reacted c a [] h)) p in
        later (reacted c a [] h) parts.1 (reacted_fits c again a [] h good (rule a refl) parts.0 each)

bundle_step_fits : (c : List Rule) (again : Bool) (o : Option ℕ) (flags : Text) (skip : ℕ) (so_far : Outcome) (h : Held)
    (met : Text → ℕ → Outcome → Held → Held × Outcome) (passes : Text → ℕ → Held → Bool) → Good c
    → ((t : Text) (s : ℕ) (u : Outcome) (k : Held) → passes t s k ≡ true → RowsFit c k → RowsFit c (met t s u k).0)
    → bundle_step_passes c again o flags skip h passes ≡ true → RowsFit c h
    → RowsFit c (bundle_step c o flags skip so_far h met).0
bundle_step_fits c again None flags skip so_far h met passes good later pass each = each
bundle_step_fits c again (Some x) flags zero so_far h met passes good later pass each =
    let rest = drop (length (encode_utf8 x)) flags in
    short_fits c again (arg_by_short c x) rest h (met rest 0 done) (passes rest 0) good
    (λ a e. (found_each (GoodRule c) (λ a. not (is_some a.index) && has_short a x) c a good e).0)
    (λ k p fit. later rest 0 done k p fit) pass each
bundle_step_fits c again (Some x) flags (suc skip) so_far h met passes good later pass each =
    later (drop (length (encode_utf8 x)) flags) skip so_far h pass each

flags_fit : (c : List Rule) (again : Bool) (k : ℕ) (flags : Text) (skip : ℕ) (so_far : Outcome) (h : Held) → Good c
    → flags_pass c again k flags skip h ≡ true → RowsFit c h → RowsFit c (bundle_met c k flags skip so_far h).0
unfolding flags_pass bundle_met
flags_fit c again zero flags skip so_far h good pass each = each
flags_fit c again (suc k) flags skip so_far h good pass each =
    bundle_step_fits c again (slice_get (chars flags) 0) flags skip so_far h (bundle_met c k)
    (flags_pass c again k) good
    (λ t s u g p fit. flags_fit c again k t s u g good p fit) pass each

option_word_fits : (c : List Rule) (o : Option Rule) (id word : Text) (h : Held) → RowsFit c h
    → RowsFit c (option_word o id word h).0
option_word_fits c None id word h each = each
option_word_fits c (Some a) id word h each = each

plain_fits : (c : List Rule) (waiting : Waiting) (word : Text) (h : Held) → RowsFit c h
    → RowsFit c (plain_word c waiting word h).0
plain_fits c idle word h each = each
plain_fits c (option id) word h each = option_word_fits c (arg_by_id c id) id word h each
plain_fits c positional word h each = each

flag_step_fits : (c : List Rule) (waiting : Waiting) (word : Text) (h : Held) (o : Outcome) → RowsFit c h
    → RowsFit c (after_flag c waiting word h o).0
flag_step_fits c waiting word h done each = each
flag_step_fits c waiting word h (waits id) each = each
flag_step_fits c waiting word h plain each = plain_fits c waiting word h each
flag_step_fits c waiting word h refused each = plain_fits c waiting word h each

short_word_fits : (c : List Rule) (again : Bool) (waiting : Waiting) (word : Text) (o : Option Text) (h : Held) → Good c
    → option_map_or (λ flags. bundle_passes c again flags h) o true ≡ true → RowsFit c h
    → RowsFit c (short_or_plain c waiting word o h).0
short_word_fits c again waiting word None h good pass each = plain_fits c waiting word h each
short_word_fits c again waiting word (Some flags) h good pass each =
    flag_step_fits c waiting word (bundle c flags h).0 (bundle c flags h).1
    (flags_fit c again (length flags) flags h.skip plain (record h { skip = 0 }) good pass each)

pub long_word_fits : (c : List Rule) (again : Bool) (waiting : Waiting) (word : Text) (o : Option (Text × Option Text))
    (h : Held)
    → Good c
    → flag_word_passes c again o word h ≡ true → RowsFit c h → RowsFit c (long_or_other c waiting word o h).0
long_word_fits c again waiting word None h good pass each =
    short_word_fits c again waiting word (short_of word) h good pass each
long_word_fits c again waiting word (Some p) h good pass each =
    flag_step_fits c waiting word (long_met c (arg_by_long c p.0) p.1 h).0 (long_met c (arg_by_long c p.0) p.1 h).1
    (long_fits c again (arg_by_long c p.0) p.1 h good
    (λ a e. (found_each (GoodRule c) (λ a. not (is_some a.index) && has_long a p.0) c a good e).0) pass each)

-- a step that is no subcommand
abbrev pub IsNoCommand : Step → Type 0
IsNoCommand (subcommand name) = ⊥
IsNoCommand _ = ⊤

pub plain_no_command : (c : List Rule) (waiting : Waiting) (word : Text) (h : Held)
    → IsNoCommand (plain_word c waiting word h).1
plain_no_command c idle word h = tt
plain_no_command c (option id) word h = tt
plain_no_command c positional word h = tt

flag_no_command : (c : List Rule) (waiting : Waiting) (word : Text) (h : Held) (o : Outcome)
    → IsNoCommand (after_flag c waiting word h o).1
flag_no_command c waiting word h done = tt
flag_no_command c waiting word h (waits id) = tt
flag_no_command c waiting word h plain = plain_no_command c waiting word h
flag_no_command c waiting word h refused = plain_no_command c waiting word h

short_no_command : (c : List Rule) (waiting : Waiting) (word : Text) (o : Option Text) (h : Held)
    → IsNoCommand (short_or_plain c waiting word o h).1
short_no_command c waiting word None h = plain_no_command c waiting word h
short_no_command c waiting word (Some flags) h =
    flag_no_command c waiting word (bundle c flags h).0 (bundle c flags h).1

pub long_no_command : (c : List Rule) (waiting : Waiting) (word : Text) (o : Option (Text × Option Text)) (h : Held)
    → IsNoCommand (long_or_other c waiting word o h).1
long_no_command c waiting word None h = short_no_command c waiting word (short_of word) h
long_no_command c waiting word (Some p) h =
    flag_no_command c waiting word (long_met c (arg_by_long c p.0) p.1 h).0 (long_met c (arg_by_long c p.0) p.1 h).1
