-- A step of checking has one fault at most, and none if all is right.
use Rattle.std.proofs.Common.{◌≡◌, ℕ, List, [], ◌∷◌, ◌++◌, Option, Some, refl, sym, ◌∙◌, subst, arith, ◌⊎◌, inl, inr}
use Rattle.std.specs.List.{All, Contains}
use Rattle.std.proofs.lemmas.Bool.{cases_order}
use Rattle.std.proofs.lemmas.List.Elements.{All-contains, All-head, All-tail, Contains-append_right}
use Rattle.std.proofs.lemmas.Option.{same_Some}
use Rattle.proof_check.specs.FirstFaults.{IsUnserved, FirstWrong, FirstFault, FirstTurn}

-- a fault means that the rule isn't kept, there is one at most, and it names a row as it should if the rows are ready
pub record IsStep {F : Type 0} (Names : F → Type 0) (Ready Right : Type 0) (Wrong : F → Type 0) : Type 0 where
  pub apart : (fault : F) → Wrong fault → ¬ Right
  pub one : (fault other : F) → Wrong fault → Wrong other → fault ≡ other
  pub named : (fault : F) → Ready → Wrong fault → Names fault

-- the first row that isn't right is one of the rows
pub among : {X : Type 0} {IsRight : X → Type 0} {rows : List X} {row : X} → FirstWrong IsRight rows row
    → Contains rows row
among {X} {IsRight} {rows} {row} first =
    let there = Contains-append_right first.before (row ∷ first.after) row (0, omega arith, refl) in
    subst (λ (l : List X). Contains l row) (sym first.parts) there

-- one place in a list is the first that isn't right
one_place : {X : Type 0} (IsRight : X → Type 0) (a b : X) → ¬ IsRight a → ¬ IsRight b
    → (before other more rest : List X)
    → before ++ a ∷ more ≡ other ++ b ∷ rest → All IsRight before → All IsRight other → a ≡ b
one_place IsRight a b not_a not_b [] [] more rest e right too = cc
one_place IsRight a b not_a not_b [] (y ∷ other) more rest e right too =
    let is : y ≡ a = cc in absurd (not_a (subst IsRight is (All-head IsRight y other too)))
one_place IsRight a b not_a not_b (x ∷ before) [] more rest e right too =
    let is : x ≡ b = cc in absurd (not_b (subst IsRight is (All-head IsRight x before right)))
one_place IsRight a b not_a not_b (x ∷ before) (y ∷ other) more rest e right too =
    let tails : before ++ a ∷ more ≡ other ++ b ∷ rest = cc in
    one_place IsRight a b not_a not_b before other more rest tails (All-tail IsRight x before right)
    (All-tail IsRight y other too)

-- one row is the first that isn't right
pub one_row : {X : Type 0} {IsRight : X → Type 0} {rows : List X} (a b : X) → ¬ IsRight a → ¬ IsRight b
    → FirstWrong IsRight rows a → FirstWrong IsRight rows b → a ≡ b
one_row {X} {IsRight} a b not_a not_b first other =
    let same = sym first.parts ∙ other.parts in
    one_place IsRight a b not_a not_b first.before other.before first.after other.after same first.right other.right

module _ {F : Type 0} {Names : F → Type 0} {Ready : Type 0} where
  -- one kind of fault
  pub kind : {Right Bad : Type 0} (fault : F) → (Bad → ¬ Right) → (Ready → Names fault)
      → IsStep Names Ready Right (λ found. Bad × (found ≡ fault))
  kind fault bad names = record {
    apart = λ found w. bad w.0;
    one = λ found other a b. a.1 ∙ sym b.1;
    named = λ found ready w. subst (Names) (sym w.1) (names ready);
  }

  -- the same for a rule that asks more, with fewer faults
  pub narrowed : {Right Narrow : Type 0} {Wrong Less : F → Type 0} → (Narrow → Right)
      → ((fault : F) → Less fault → Wrong fault) → IsStep Names Ready Right Wrong
      → IsStep Names Ready Narrow Less
  narrowed right wrong step = record {
    apart = λ fault w is. step.apart fault (wrong fault w) (right is);
    one = λ fault other a b. step.one fault other (wrong fault a) (wrong other b);
    named = λ fault ready w. step.named fault ready (wrong fault w);
  }

  -- a rule that is asked only if a fact holds
  pub where_so : {So Right : Type 0} {Wrong : F → Type 0} → IsStep Names Ready Right Wrong
      → IsStep Names Ready (So → Right) (λ fault. So × Wrong fault)
  where_so step = record {
    apart = λ fault w is. step.apart fault w.1 (is w.0);
    one = λ fault other a b. step.one fault other a.1 b.1;
    named = λ fault ready w. step.named fault ready w.1;
  }

  -- two kinds of faults that exclude each other
  pub either : {Right : Type 0} {First Second : F → Type 0} → IsStep Names Ready Right First
      → IsStep Names Ready Right Second
      → ((fault other : F) → First fault → ¬ Second other)
      → IsStep Names Ready Right (λ fault. First fault ⊎ Second fault)
  either {Right} {First} {Second} first second not_both = record { apart = apart; one = one; named = named }
    where
      apart : (fault : F) → First fault ⊎ Second fault → ¬ Right
      apart fault (inl w) = first.apart fault w
      apart fault (inr w) = second.apart fault w

      one : (fault other : F) → First fault ⊎ Second fault → First other ⊎ Second other → fault ≡ other
      one fault other (inl a) (inl b) = first.one fault other a b
      one fault other (inl a) (inr b) = absurd (not_both fault other a b)
      one fault other (inr a) (inl b) = absurd (not_both other fault b a)
      one fault other (inr a) (inr b) = second.one fault other a b

      named : (fault : F) → Ready → First fault ⊎ Second fault → Names fault
      named fault ready (inl w) = first.named fault ready w
      named fault ready (inr w) = second.named fault ready w

  -- a row that should serve is missing or too short
  pub unserved : {Listed Served : Type 0} (missing short : F) → (Served → Listed)
      → (Ready → Names missing) → (Ready → Names short)
      → IsStep Names Ready Served (IsUnserved Listed Served missing short)
  unserved missing short lists here there =
      either (kind missing (λ no serves. no (lists serves)) here)
      (narrowed (λ is. is) (λ fault w. (w.1, w.2)) (kind short (λ fails. fails) there))
      (λ fault other a b. a.0 b.0)

  -- a rule for a number, if there is one
  pub of_some : {Right : Type 0} (Wrong : ℕ → F → Type 0) (o : Option ℕ)
      → ((number : ℕ) → o ≡ Some number → IsStep Names Ready Right (Wrong number))
      → IsStep Names Ready Right (λ fault. (number : ℕ) × (o ≡ Some number) × Wrong number fault)
  of_some Wrong o each = record {
    apart = λ fault (number, is, w). (each number is).apart fault w;
    one = λ fault other (number, is, a) (next, too, b).
        (each number is).one fault other a (subst (λ n. Wrong n other) (same_Some next number (sym too ∙ is)) b);
    named = λ fault ready (number, is, w). (each number is).named fault ready w;
  }

  -- the first turn of a row
  pub first_turn : {IsTurn Meets : ℕ → Type 0} {IsWrong : ℕ → F → Type 0}
      → ((turn : ℕ) → IsTurn turn → IsStep Names Ready (Meets turn) (IsWrong turn))
      → IsStep Names Ready ((turn : ℕ) → IsTurn turn → Meets turn) (FirstTurn IsTurn Meets IsWrong)
  first_turn {IsTurn} {Meets} {IsWrong} each = record {
    apart = λ fault w meets. (each w.turn w.is_turn).apart fault w.wrong (meets w.turn w.is_turn);
    one = λ fault other a b. elim (cases_order a.turn b.turn) [
      | inl same ↦ (each a.turn a.is_turn).one fault other a.wrong
          (subst (λ turn. IsWrong turn other) (sym same) b.wrong)
      | inr (inl less) ↦ absurd ((each a.turn a.is_turn).apart fault a.wrong (b.before a.turn less))
      | inr (inr more) ↦ absurd ((each b.turn b.is_turn).apart other b.wrong (a.before b.turn more))
    ];
    named = λ fault ready w. (each w.turn w.is_turn).named fault ready w.wrong;
  }

  -- the first faulty row
  pub first_row : {X : Type 0} {IsRight : X → Type 0} {IsWrong : X → F → Type 0} (rows : List X)
      → ((row : X) → Contains rows row → IsStep Names Ready (IsRight row) (IsWrong row))
      → IsStep Names Ready (All IsRight rows) (FirstFault IsRight IsWrong rows)
  first_row {X} {IsRight} {IsWrong} rows each = record {
    apart = λ fault w right. wrong_row fault w (All-contains IsRight rows w.row right (among w.first));
    one = λ fault other a b.
        let same = one_row a.row b.row (wrong_row fault a) (wrong_row other b) a.first b.first in
        (each a.row (among a.first)).one fault other a.wrong
        (subst (λ (row : X). IsWrong row other) (sym same) b.wrong);
    named = λ fault ready w. (each w.row (among w.first)).named fault ready w.wrong;
  }
    where
      wrong_row : (fault : F) (w : FirstFault IsRight IsWrong rows fault) → ¬ IsRight w.row
      wrong_row fault w = (each w.row (among w.first)).apart fault w.wrong
