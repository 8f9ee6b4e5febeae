-- The invariant of the matches that each use of an argument keeps: each entry is an argument's, and
-- has values that passed its parser.
use Rattle.std.proofs.Common.{◌≡◌, ◌∙◌, ◌<◌, ◌≤◌, ◌⊎◌, ◌++◌, ◌&&◌, ◌||◌, Bool, true, false, true≢false, List, [], ◌∷◌}
use Rattle.std.proofs.Common.{length, Option, Some, refl, sym, ap, subst, arith, inl, inr, cond}
use Rattle.std.specs.Prelude.{⊤, find, nat_le}
use Rattle.std.specs.List.{list_all}
use Rattle.std.specs.Str.{bytes_eq}
use Rattle.std.proofs.lemmas.Slice.Eq.{bytes_eq-Decides}
use Rattle.std.proofs.lemmas.Bool.{leb-true}
use Rattle.clap.specs.Facts.{unwrap_or_range}
use Rattle.clap.specs.Values.{is_request}
use Rattle.clap.specs.Walk.{Row, Rule, Text, action_of, arg_by_id, at_row, more_values, most_values, reading_by, used}
use Rattle.clap.specs.Walk.{values_or_missing, with_values, without}
use Rattle.clap.specs.Takes.{action_passes, use_passes, value_passes, values_pass}
use Rattle.clap.specs.declared.builder.action.ArgAction.{ArgAction}
use Rattle.clap.specs.declared.builder.action.ArgAction.TheVariants.{Set, Append, SetTrue, SetFalse, Count, Help}
use Rattle.clap.specs.declared.builder.action.ArgAction.TheVariants.{HelpShort, HelpLong, Version}
use Rattle.clap.specs.declared.parser.matches.ValueSource.{ValueSource}
use Rattle.clap.specs.declared.parser.matches.ValueSource.TheVariants.{CommandLine}
use Rattle.clap.proofs.WalkLemmas.{both}

abbrev pub Each : {X : Type 0} → (X → Type 0) → List X → Type 0
Each P [] = ⊤
Each P (x ∷ xs) = P x × Each P xs

pub found_each : {X : Type 0} (P : X → Type 0) (p : X → Bool) (xs : List X) (x : X) → Each P xs → find p xs ≡ Some x
    → P x × (p x ≡ true)
found_each P p [] x each e = cc
found_each P p (y ∷ ys) x each e = go (λ h. found_each P p ys x each.1 h) (p y) refl e
  where
    go : (find p ys ≡ Some x → P x × (p x ≡ true)) → (b : Bool) → p y ≡ b → cond b (Some y) (find p ys) ≡ Some x
        → P x × (p x ≡ true)
    go later true t h =
        let same : y ≡ x = cc in
        (subst P same each.0, subst (λ z. p z ≡ true) same t)
    go later false t h = later h

pub some_first : {A : Type 0} (x y : A) → ◌≡◌ {A = Option A} (Some x) (Some y) → x ≡ y
some_first x y e = cc

-- the entry is that of an argument with values that passed
abbrev pub Fits : List Rule → Row → Type 0
Fits c r = (a : Rule) × (arg_by_id c r.id ≡ Some a) × (0 < length r.values) × (values_pass a r.values ≡ true)
    × (r.reading ≡ reading_by a)

-- the argument is the first of its id, and takes a value, is given or not, or asks for a text
abbrev pub GoodRule : List Rule → Rule → Type 0
GoodRule c a = (arg_by_id c a.id ≡ Some a)
    × (((action_of a ≡ Set) × (1 ≤ (unwrap_or_range a.range).start_inclusive))
    ⊎ ((action_of a ≡ SetTrue) × (0 < length a.missing)) ⊎ (is_request (action_of a) ≡ true))

pub either : (a b : Bool) → (a || b) ≡ true → (a ≡ true) ⊎ (b ≡ true)
either true b e = inl refl
either false b e = inr e

pub all_more : {X : Type 0} (p : X → Bool) (xs ys : List X) → list_all p xs ≡ true → list_all p ys ≡ true
    → list_all p (xs ++ ys) ≡ true
all_more p [] ys a b = b
all_more p (x ∷ xs) ys a b =
    let parts = both (p x) (list_all p xs) a in
    rw parts.0 (all_more p xs ys parts.1 b)

pub longer : {X : Type 0} (xs ys : List X) → 0 < length xs → 0 < length (xs ++ ys)
longer [] ys h = absurd (omega arith)
longer (x ∷ xs) ys h = omega arith

pub without_fits : (c : List Rule) (id : Text) (rows : List Row) → Each (Fits c) rows → Each (Fits c) (without id rows)
without_fits c id [] each = tt
without_fits c id (r ∷ rs) each = go (without_fits c id rs each.1) (bytes_eq r.id id)
  where
    go : Each (Fits c) (without id rs) → (b : Bool) → Each (Fits c) (cond b ([] ++ rs) (r ∷ at_row id (λ _. []) [] rs))
    go later true = each.1
    go later false = (each.0, later)

pub with_fits : (c : List Rule) (a : Rule) (s : ValueSource) (values : List Text) (rows : List Row)
    → arg_by_id c a.id ≡ Some a
    → 0 < length values → values_pass a values ≡ true → Each (Fits c) rows
    → Each (Fits c) (with_values a.id (reading_by a) s values rows)
with_fits c a s values [] found some pass each = ((a, found, some, pass, refl), tt)
with_fits c a s values (r ∷ rs) found some pass each =
    go (with_fits c a s values rs found some pass each.1) (bytes_eq r.id a.id) refl
  where
    more : bytes_eq r.id a.id ≡ true → (f : Fits c r) → (values_pass f.0 (r.values ++ values) ≡ true)
    more e f =
        let same_id : r.id ≡ a.id = (bytes_eq-Decides r.id a.id).0 e in
        let same : f.0 ≡ a = some_first f.0 a (sym f.1 ∙ (ap (arg_by_id c) same_id ∙ found)) in
        all_more (value_passes f.0) r.values values f.3 (subst (λ z. values_pass z values ≡ true) (sym same) pass)

    go : Each (Fits c) (with_values a.id (reading_by a) s values rs) → (b : Bool) → bytes_eq r.id a.id ≡ b
        → Each (Fits c) (cond b (more_values s values r ++ rs) (r ∷ with_values a.id (reading_by a) s values rs))
    go later true e = ((each.0.0, each.0.1, longer r.values values each.0.2, more e each.0, each.0.4), each.1)
    go later false e = (each.0, later)

used_set : (c : List Rule) (a : Rule) (values : List Text) (rows : List Row) → arg_by_id c a.id ≡ Some a
    → action_of a ≡ Set
    → 0 < length values → values_pass a (values_or_missing a values) ≡ true → Each (Fits c) rows
    → Each (Fits c) (used a values rows)
used_set c a [] rows found set some pass each = absurd (omega arith)
used_set c a (v ∷ vs) rows found set some pass each =
    rw set (with_fits c a CommandLine (v ∷ vs) (without a.id rows) found some pass (without_fits c a.id rows each))

used_flag : (c : List Rule) (a : Rule) (values : List Text) (rows : List Row) → arg_by_id c a.id ≡ Some a
    → action_of a ≡ SetTrue
    → 0 < length a.missing → values_pass a (values_or_missing a values) ≡ true → Each (Fits c) rows
    → Each (Fits c) (used a values rows)
used_flag c a [] rows found flag some pass each =
    rw flag (with_fits c a CommandLine a.missing (without a.id rows) found some pass (without_fits c a.id rows each))
used_flag c a (v ∷ vs) rows found flag some pass each =
    rw flag (with_fits c a CommandLine (v ∷ vs) (without a.id rows) found (omega arith) pass
    (without_fits c a.id rows each))

no_request : (x : ArgAction) (again : Bool) (a : Rule) (values : List Text) (rows : List Row) → is_request x ≡ true
    → action_passes x again a values rows ≡ true → ⊥
no_request Set again a values rows e pass = absurd (true≢false (sym e))
no_request Append again a values rows e pass = absurd (true≢false (sym e))
no_request SetTrue again a values rows e pass = absurd (true≢false (sym e))
no_request SetFalse again a values rows e pass = absurd (true≢false (sym e))
no_request Count again a values rows e pass = absurd (true≢false (sym e))
no_request Help again a values rows e pass = absurd (true≢false (sym pass))
no_request HelpShort again a values rows e pass = absurd (true≢false (sym pass))
no_request HelpLong again a values rows e pass = absurd (true≢false (sym pass))
no_request Version again a values rows e pass = absurd (true≢false (sym pass))

pub used_fits : (c : List Rule) (again : Bool) (a : Rule) (values : List Text) (rows : List Row) → GoodRule c a
    → use_passes again a values rows ≡ true → Each (Fits c) rows → Each (Fits c) (used a values rows)
used_fits c again a values rows good pass each =
    let parts = both (nat_le (unwrap_or_range a.range).start_inclusive (length values))
    (nat_le (length values) (most_values a) && action_passes (action_of a) again a
    (values_or_missing a values) rows) pass in
    let rest = both (nat_le (length values) (most_values a))
    (action_passes (action_of a) again a (values_or_missing a values) rows) parts.1 in
    elim good.1 [
      | inl set ↦
          let passed : action_passes Set again a (values_or_missing a values) rows ≡ true =
          subst (λ (x : ArgAction). action_passes x again a (values_or_missing a values) rows ≡ true) set.0 rest.1 in
          let least = leb-true _ _ parts.0 in
          used_set c a values rows good.0 set.0 (omega (arith, least, set.1)) (both _ _ passed).1 each
      | inr (inl flag) ↦
          let passed : action_passes SetTrue again a (values_or_missing a values) rows ≡ true =
          subst (λ (x : ArgAction). action_passes x again a (values_or_missing a values) rows ≡ true) flag.0 rest.1 in
          used_flag c a values rows good.0 flag.0 flag.1 (both _ _ passed).1 each
      | inr (inr request) ↦ absurd (no_request (action_of a) again a (values_or_missing a values) rows request rest.1)
    ]
