-- The results of the getters of the matches.
use Rattle.std.proofs.Common.{◌≡◌, ◌<◌, ◌^◌, ◌⊎◌, ℕ, Bool, true, false, List, Option, Some, None, Result, Ok, Err, refl}
use Rattle.std.proofs.Common.{sym, ap, arith, inl, inr, option_map}
use Rattle.std.specs.Option.{option_map_or}
use Rattle.std.specs.Prelude.{MatchOption, codes}
use Rattle.std.specs.Str.{bytes_eq}
use Rattle.std.specs.Str.Parse.{ParsesBool, ParsesUnsigned, digits_value, without_leading_plus}
use Rattle.std.proofs.lemmas.Slice.Eq.{bytes_eq-Decides}
use Rattle.clap.specs.Values.{bool_text}
use Rattle.clap.specs.Walk.{Text}
use Rattle.clap.specs.Matches.{ReadsOne}
use Rattle.clap.specs.ValueTests.{is_unsigned_in}
use Rattle.clap.specs.declared.builder.value_parser.ValueParser.TheVariants as vp
use Rattle.clap.proofs.ValueTestLemmas.{accepts-Accepts}
use Rattle.command_line.specs.Inside.Reading.{is_flag_text}
use Rattle.command_line.proofs.RowFacts.{either}

pub false_if : (b : Bool) → (b ≡ true → ⊥) → b ≡ false
false_if true h = absurd (h refl)
false_if false h = refl

abbrev pub value_of : Text → ℕ
value_of t = digits_value 10 (without_leading_plus t)

pub given : {E : Type 0} (G : List ℕ → Result ℕ E → Type 0) (k n : ℕ) (o : Option Text)
    → ((u : Text) (x : Result ℕ E) → G u x → ParsesUnsigned k 10 u x)
    → (o ≡ None → ◌≡◌ {A = Option ℕ} (Some n) None) → ((t : Text) → o ≡ Some t → ReadsOne G t (Some n))
    → option_map value_of o ≡ Some n
given G k n None only none some = let e = none refl in cc
given G k n (Some t) only none some = ap Some (sym (only t (Ok n) (some t refl)).1)

pub missing : {E : Type 0} (G : List ℕ → Result ℕ E → Type 0) (k most : ℕ) (o : Option Text)
    → ((u : Text) (x : Result ℕ E) → G u x → ParsesUnsigned k 10 u x) → most < 2 ^ k
    → ((t : Text) → o ≡ Some t → ReadsOne G t None)
    → option_map_or (is_unsigned_in 1 most) o false ≡ false
missing G k most None only fits some = refl
missing G k most (Some t) only fits some = false_if _ (λ e.
    let a = accepts-Accepts false (vp.Unsigned 1 most) t e in
    let read = some t refl in
    only t (Err read.0) read.1 (a.0, omega (arith, a.3)))

pub outside : (n most : ℕ) (o : Option Text) → option_map value_of o ≡ Some n → (n < 1) ⊎ (most < n)
    → option_map_or (is_unsigned_in 1 most) o false ≡ false
outside n most None e out = refl
outside n most (Some t) e out = false_if _ (λ yes.
    let a = accepts-Accepts false (vp.Unsigned 1 most) t yes in
    let is : value_of t ≡ n = cc in
    elim out [
      | inl low ↦ omega (arith, a.2, is)
      | inr high ↦ omega (arith, a.3, is)
    ])

-- the text of a flag is read as what it says, and other text isn't read
pub flag_read : {E : Type 0} (G : List ℕ → Result Bool E → Type 0) (o : Option Text) (result : Option Bool)
    → ((u : Text) (x : Result Bool E) → G u x → ParsesBool u x) → (o ≡ None → result ≡ None)
    → ((t : Text) → o ≡ Some t → ReadsOne G t result)
    → MatchOption result (option_map_or is_flag_text o false ≡ false) (λ b. o ≡ Some (bool_text b))
flag_read G None None only none some = refl
flag_read G None (Some b) only none some = let e = none refl in cc
flag_read G (Some t) (Some true) only none some = ap Some (only t (Ok true) (some t refl))
flag_read G (Some t) (Some false) only none some = ap Some (only t (Ok false) (some t refl))
flag_read G (Some t) None only none some =
    let read = some t refl in
    let other = only t (Err read.0) read.1 in
    false_if (is_flag_text t) (λ yes. elim (either (bytes_eq t (codes "true")) (bytes_eq t (codes "false")) yes) [
      | inl is_true ↦ other.0 ((bytes_eq-Decides t (codes "true")).0 is_true)
      | inr is_false ↦ other.1 ((bytes_eq-Decides t (codes "false")).0 is_false)
    ])

-- a value whose two halves agree with those of a pair is that pair
pub halves : {P A B : Type 0} (f : P → A) (g : P → B) (r : Option P) (x : Option (A × B))
    → option_map f r ≡ option_map (λ p. p.0) x → option_map g r ≡ option_map (λ p. p.1) x
    → x ≡ option_map (λ p. (f p, g p)) r
halves f g None None a b = refl
halves f g None (Some x) a b = cc
halves f g (Some p) None a b = cc
halves f g (Some p) (Some x) a b =
    let first : f p ≡ x.0 = cc in
    let second : g p ≡ x.1 = cc in
    rw (first, second) refl
