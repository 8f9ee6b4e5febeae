-- The first faulty row of a slice whose rows are checked in parallel.
use Rattle.std.proofs.Common.{◌≡◌, Bool, true, false, List, [], ◌∷◌, map, Option, Some, None, slice_get, MatchBool}
use Rattle.std.proofs.Common.{MatchOption, Bor, refl, sym, ap, ◌∙◌, subst}
use Rattle.std.specs.List.{All, AllZip}
use Rattle.std.proofs.lemmas.List.{map-append}
use Rattle.std.proofs.lemmas.List.Elements.{All-nil, All-cons, All-map}
use Rattle.rayon.specs.Lists.{filter_by_mask}
use Rattle.proof_check.specs.FirstFaults.{FirstWrong, FirstFault}

-- the row is the first that isn't right
pub record IsFirst {R : Type 0} (IsRight : R → Type 0) (rows : List R) (row : R) : Type 0 where
  pub first : FirstWrong IsRight rows row
  pub faulty : ¬ IsRight row

module _ {R : Type 0} (IsRight : R → Type 0) where
  -- the answer for a row says whether it is faulty
  abbrev pub Answered : Bor R → Bool → Type 0
  Answered row answer =
      (shown : Bor (Bor R)) × (shown.now ≡ row) × MatchBool answer (¬ IsRight shown.now.now) (IsRight shown.now.now)

  abbrev pub Found : List R → Option (Bor R) → Type 0
  Found rows found = MatchOption found (All IsRight rows) (λ x. IsFirst IsRight rows x.now)

  later : (row : R) (rows : List R) (o : Option (Bor R)) → IsRight row → Found rows o → Found (row ∷ rows) o
  later row rows None right rest = All-cons IsRight row rows right rest
  later row rows (Some x) right rest = record {
    first = record {
      before = row ∷ rest.first.before;
      after = rest.first.after;
      parts = ap (λ (l : List R). row ∷ l) rest.first.parts;
      right = All-cons IsRight row rest.first.before right rest.first.right;
    };
    faulty = rest.faulty;
  }

  first_shown : (xs : List (Bor R)) (answers : List Bool) → AllZip Answered xs answers
      → Found (map (λ (x : Bor R). x.now) xs) (slice_get (filter_by_mask xs answers) 0)
  first_shown [] [] each = All-nil IsRight
  first_shown [] (b ∷ answers) each = absurd each
  first_shown (x ∷ xs) [] each = absurd each
  first_shown (x ∷ xs) (true ∷ answers) each = record {
    first = record { before = []; after = map (λ (y : Bor R). y.now) xs; parts = refl; right = All-nil IsRight };
    faulty = subst (λ (y : Bor R). ¬ IsRight y.now) each.0.1 each.0.2;
  }
  first_shown (x ∷ xs) (false ∷ answers) each =
      later x.now (map (λ (y : Bor R). y.now) xs) (slice_get (filter_by_mask xs answers) 0)
      (subst (λ (y : Bor R). IsRight y.now) each.0.1 each.0.2) (first_shown xs answers each.1)

  -- all rows are right, or the one that is found is the first faulty one
  pub first_of_slice : (rows slice : List R) (found : Option (Bor R)) → slice ≡ rows
      → ((xs : List (Bor R)) × (answers : List Bool) × (map (λ (x : Bor R). x.now) xs ≡ slice)
      × AllZip Answered xs answers
      × (found ≡ slice_get (filter_by_mask xs answers) 0))
      → Found rows found
  first_of_slice rows slice found same (xs, answers, shown, each, is) =
      let first = first_shown xs answers each in
      subst (λ o. Found rows o) (sym is)
      (subst (λ l. Found l (slice_get (filter_by_mask xs answers) 0)) (shown ∙ same) first)

-- the fault of the first faulty row is the fault of the rows
pub fault_of_first : {R F : Type 0} (IsRight : R → Type 0) (IsWrong : R → F → Type 0) (rows : List R) (row : R)
    (found : Option F)
    → IsFirst IsRight rows row → MatchOption found (IsRight row) (IsWrong row)
    → MatchOption found (All IsRight rows) (FirstFault IsRight IsWrong rows)
fault_of_first IsRight IsWrong rows row None is right = absurd (is.faulty right)
fault_of_first IsRight IsWrong rows row (Some fault) is wrong = record { row = row; first = is.first; wrong = wrong }

-- the fault of rows is the fault of the rows that they show
pub fault_of_seen : {R X F : Type 0} (f : R → X) (IsRight : X → Type 0) (IsWrong : X → F → Type 0)
    (rows : List R) (seen : List X) (found : Option F)
    → map f rows ≡ seen
    → MatchOption found (All (λ r. IsRight (f r)) rows) (FirstFault (λ r. IsRight (f r)) (λ r. IsWrong (f r)) rows)
    → MatchOption found (All IsRight seen) (FirstFault IsRight IsWrong seen)
fault_of_seen f IsRight IsWrong rows seen None same right = subst (All IsRight) same (All-map IsRight f rows right)
fault_of_seen {R} f IsRight IsWrong rows seen (Some fault) same wrong =
    let before : List R = wrong.first.before in
    record {
      row = f wrong.row;
      first = record {
        before = map f before;
        after = map f wrong.first.after;
        parts = sym same ∙ ap (map f) wrong.first.parts ∙ map-append f before (wrong.row ∷ wrong.first.after);
        right = All-map IsRight f before wrong.first.right;
      };
      wrong = wrong.wrong;
    }
