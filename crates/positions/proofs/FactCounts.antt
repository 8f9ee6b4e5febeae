-- The number of numbers for which a fact holds.
use Rattle.std.proofs.Common.{◌≡◌, ◌≢◌, ℕ, zero, suc, ◌-◌, ◌<◌, ◌≤◌, ◌↔◌, List, [], ◌∷◌, length, get_or, Contains, refl}
use Rattle.std.proofs.Common.{sym, ap, ◌∙◌, subst, inl, inr, arith}
use Rattle.std.specs.List.{AllPairs}
use Rattle.std.proofs.lemmas.Bool.{cases_eq, cases_lt}
use Rattle.std.proofs.lemmas.List.Elements.{Contains-get_or}
use Rattle.positions.specs.Counts.{HasSize}

-- ---- ascending lists

abbrev IsAscending : List ℕ → Type 0
IsAscending members = AllPairs (λ first second. first < second) members

tail_ascends : (first : ℕ) (members : List ℕ) → IsAscending (first ∷ members) → IsAscending members
tail_ascends first members ascends i j d less inside = ascends (suc i) (suc j) d (omega arith) (omega arith)

-- a number after the first of an ascending list is larger than the first
behind_first : (first : ℕ) (members : List ℕ) (number : ℕ) → IsAscending (first ∷ members) → Contains members number
    → first < number
behind_first first members number ascends among =
    let larger : first < get_or members among.0 number =
    ascends 0 (suc among.0) number (omega arith) (let inside : among.0 < length members = among.1 in omega arith) in
    subst (λ n. first < n) among.2 larger

in_first : (first : ℕ) (members : List ℕ) → Contains (first ∷ members) first
in_first first members = (0, omega arith, refl)

in_rest : (first : ℕ) (members : List ℕ) (number : ℕ) → Contains members number → Contains (first ∷ members) number
in_rest first members number among =
    (suc among.0, (let inside : among.0 < length members = among.1 in omega arith), among.2)

first_or_rest : (first : ℕ) (members : List ℕ) (number : ℕ) → Contains (first ∷ members) number → number ≢ first
    → Contains members number
first_or_rest first members number (zero, inside, same) differs = absurd (differs (sym same))
first_or_rest first members number (suc place, inside, same) differs = (place, omega arith, same)

at_least_first : (first : ℕ) (members : List ℕ) (number : ℕ) → IsAscending (first ∷ members)
    → Contains (first ∷ members) number → first ≤ number
at_least_first first members number ascends among = elim (cases_eq number first) [
  | inl same ↦ omega arith
  | inr differs ↦ let larger : first < number =
      behind_first first members number ascends (first_or_rest first members number among differs) in omega arith
]

-- ascending lists with the same members are as long
same_length : (ones others : List ℕ) → IsAscending ones → IsAscending others
    → ((number : ℕ) → Contains ones number ↔ Contains others number)
    → length ones ≡ length others
same_length [] [] ascends also same = refl
same_length [] (other ∷ others) ascends also same =
    let among = (same other).1 (in_first other others) in let inside : among.0 < 0 = among.1 in absurd (omega arith)
same_length (one ∷ ones) [] ascends also same =
    let among = (same one).0 (in_first one ones) in let inside : among.0 < 0 = among.1 in absurd (omega arith)
same_length (one ∷ ones) (other ∷ others) ascends also same =
    let low : one ≤ other = at_least_first one ones other ascends ((same other).1 (in_first other others)) in
    let high : other ≤ one = at_least_first other others one also ((same one).0 (in_first one ones)) in
    let equal : one ≡ other = omega arith in
    let rest : length ones ≡ length others =
    same_length ones others (tail_ascends one ones ascends) (tail_ascends other others also) (λ number. (
      λ among. let larger : one < number = behind_first one ones number ascends among in
          first_or_rest other others number ((same number).0 (in_rest one ones number among)) (λ is. omega arith),
      λ among. let larger : other < number = behind_first other others number also among in
          first_or_rest one ones number ((same number).1 (in_rest other others number among)) (λ is. omega arith),
    )) in
    ap suc rest

-- the place of a number in an ascending list is at most the number
place_below : (members : List ℕ) → IsAscending members → (place : ℕ) → place < length members
    → place ≤ get_or members place 0
place_below members ascends zero inside = omega arith
place_below members ascends (suc place) inside =
    let before : place ≤ get_or members place 0 = place_below members ascends place (omega arith) in
    let less : get_or members place 0 < get_or members (suc place) 0 =
    ascends place (suc place) 0 (omega arith) inside in
    omega arith

-- ---- sizes

-- two facts that hold of the same numbers have the same size
pub same_fact_size : (P Q : ℕ → Type 0) (size : ℕ) → ((number : ℕ) → P number ↔ Q number) → HasSize P size
    → HasSize Q size
same_fact_size P Q size same has = record {
  members = has.members;
  ascending = has.ascending;
  each = λ number. (
    λ among. (same number).0 ((has.each number).0 among),
    λ holds. (has.each number).1 ((same number).1 holds),
  );
  so_many = has.so_many;
}

pub same_size : (P : ℕ → Type 0) (first second : ℕ) → HasSize P first → HasSize P second → first ≡ second
same_size P first second one other =
    sym one.so_many
    ∙ same_length one.members other.members one.ascending other.ascending (λ number. (
      λ among. (other.each number).1 ((one.each number).0 among),
      λ among. (one.each number).1 ((other.each number).0 among),
    ))
    ∙ other.so_many

pub size_at_most : (P : ℕ → Type 0) (size bound : ℕ) → HasSize P size → ((number : ℕ) → P number → number < bound)
    → size ≤ bound
size_at_most P size bound has below = elim (cases_lt 0 size) [
  | inr none ↦ omega arith
  | inl some ↦
      let long : length has.members ≡ size = has.so_many in
      let last : size - 1 ≤ get_or has.members (size - 1) 0 =
      place_below has.members has.ascending (size - 1) (omega arith) in
      let low : get_or has.members (size - 1) 0 < bound =
      below (get_or has.members (size - 1) 0)
      ((has.each (get_or has.members (size - 1) 0)).0 (Contains-get_or has.members (size - 1) 0 (omega arith))) in
      omega arith
]

pub size_zero : (P : ℕ → Type 0) → HasSize P 0 ↔ ((number : ℕ) → P number → ⊥)
size_zero P = (
  λ has number holds.
      let among = (has.each number).1 holds in
      let inside : among.0 < length has.members = among.1 in
      let none : length has.members ≡ 0 = has.so_many in
      omega arith,
  λ none. record {
    members = [];
    ascending = λ i j d less inside. absurd (omega arith);
    each = λ number. (
      λ among. let inside : among.0 < 0 = among.1 in
          absurd (omega arith),
      λ holds. absurd (none number holds),
    );
    so_many = refl;
  },
)
