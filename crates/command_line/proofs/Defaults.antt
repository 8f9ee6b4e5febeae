-- Each argument that is given or has a default has a row in the matches.
use Rattle.std.proofs.Common.{◌≡◌, ◌<◌, ◌++◌, ◌||◌, Bool, true, false, true≢false, List, [], ◌∷◌, length, Option, Some}
use Rattle.std.proofs.Common.{None, is_some, refl, sym, cond, arith}
use Rattle.std.specs.Prelude.{find, fold}
use Rattle.std.specs.Option.{option_map_or}
use Rattle.std.specs.Str.{bytes_eq}
use Rattle.std.proofs.lemmas.Slice.Eq.{bytes_eq-Decides}
use Rattle.clap.specs.Facts.{explicit_source}
use Rattle.clap.specs.Takes.{is_given}
use Rattle.clap.specs.Walk.{Row, Rule, Text, default_rows, has_row, more_values, reading_by, with_default, with_values}
use Rattle.clap.specs.declared.builder.value_parser.Reading.{Reading}
use Rattle.clap.specs.declared.parser.matches.ValueSource.{ValueSource}
use Rattle.clap.specs.declared.parser.matches.ValueSource.TheVariants.{DefaultValue}

abbrev pub HasRow : Text → List Row → Type 0
HasRow id rows = is_some (find (λ r. bytes_eq r.id id) rows) ≡ true

pub given_row : (id : Text) (rows : List Row) → is_given id rows ≡ true → HasRow id rows
given_row id rows given = go (find (λ r. bytes_eq r.id id) rows) given
  where
    go : (o : Option Row) → option_map_or (λ r. explicit_source r.source) o false ≡ true → is_some o ≡ true
    go None h = h
    go (Some r) h = refl

found_row : (id : Text) (rows : List Row) → has_row id rows ≡ true → HasRow id rows
found_row id [] has = has
found_row id (r ∷ rs) has = go (λ h. found_row id rs h) (bytes_eq r.id id) has
  where
    go : (has_row id rs ≡ true → HasRow id rs) → (b : Bool) → (b || has_row id rs) ≡ true
        → is_some (cond b (Some r) (find (λ r. bytes_eq r.id id) rs)) ≡ true
    go later true h = refl
    go later false h = later h

or_more : (a x y : Bool) → (x ≡ true → y ≡ true) → (a || x) ≡ true → (a || y) ≡ true
or_more true x y more h = refl
or_more false x y more h = more h

with_keeps : (id other : Text) (how : Reading) (s : ValueSource) (values : List Text) (rows : List Row)
    → has_row id rows ≡ true
    → has_row id (with_values other how s values rows) ≡ true
with_keeps id other how s values [] has = absurd (true≢false (sym has))
with_keeps id other how s values (r ∷ rs) has = go (λ h. with_keeps id other how s values rs h) (bytes_eq r.id other)
  where
    go : (has_row id rs ≡ true → has_row id (with_values other how s values rs) ≡ true) → (b : Bool)
        → has_row id (cond b (more_values s values r ++ rs) (r ∷ with_values other how s values rs)) ≡ true
    go later true = has
    go later false =
        or_more (bytes_eq r.id id) (has_row id rs) (has_row id (with_values other how s values rs)) later has

with_makes : (id : Text) (how : Reading) (s : ValueSource) (values : List Text) (rows : List Row)
    → has_row id (with_values id how s values rows) ≡ true
with_makes id how s values [] = rw ((bytes_eq-Decides id id).1 refl) refl
with_makes id how s values (r ∷ rs) = go (with_makes id how s values rs) (bytes_eq r.id id) refl
  where
    go : has_row id (with_values id how s values rs) ≡ true → (b : Bool) → bytes_eq r.id id ≡ b
        → has_row id (cond b (more_values s values r ++ rs) (r ∷ with_values id how s values rs)) ≡ true
    go later true e = rw e refl
    go later false e = rw e later

-- the values of a default are no fewer than one
makes_row : (a : Rule) (values : List Text) (rows : List Row) → 0 < length values
    → has_row a.id (default_rows a.id (reading_by a) values rows) ≡ true
makes_row a [] rows some = absurd (omega arith)
makes_row a (v ∷ vs) rows some = with_makes a.id (reading_by a) DefaultValue (v ∷ vs) rows

keeps_row : (id : Text) (a : Rule) (values : List Text) (rows : List Row) → has_row id rows ≡ true
    → has_row id (default_rows a.id (reading_by a) values rows) ≡ true
keeps_row id a [] rows has = has
keeps_row id a (v ∷ vs) rows has = with_keeps id a.id (reading_by a) DefaultValue (v ∷ vs) rows has

made : (a : Rule) (rows : List Row) → 0 < length a.defaults → has_row a.id (with_default rows a) ≡ true
made a rows some = go (has_row a.id rows) refl
  where
    go : (b : Bool) → has_row a.id rows ≡ b
        → has_row a.id (cond b rows (default_rows a.id (reading_by a) a.defaults rows)) ≡ true
    go true e = e
    go false e = makes_row a a.defaults rows some

kept : (id : Text) (xs : List Rule) (rows : List Row) → has_row id rows ≡ true
    → has_row id (fold with_default rows xs) ≡ true
kept id [] rows has = has
kept id (a ∷ xs) rows has = kept id xs (with_default rows a) (go (has_row a.id rows))
  where
    go : (b : Bool) → has_row id (cond b rows (default_rows a.id (reading_by a) a.defaults rows)) ≡ true
    go true = has
    go false = keeps_row id a a.defaults rows has

-- if the first argument has a default, it has a row
pub default_row : (a : Rule) (xs : List Rule) (rows : List Row) → 0 < length a.defaults
    → HasRow a.id (fold with_default rows (a ∷ xs))
default_row a xs rows some =
    found_row a.id (fold with_default rows (a ∷ xs)) (kept a.id xs (with_default rows a) (made a rows some))
