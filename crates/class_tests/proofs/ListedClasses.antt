-- The classes of a list are classes.
use Rattle.std.proofs.Common.{◌≡◌, ◌<◌, ◌∙◌, ℕ, List, length, get_or, ap, sym, subst}
use Rattle.classes.specs.Classes.{IsClass}
use Rattle.classes.specs.Lists.{AreClassLists}
use Rattle.classes.specs.Numbers.{class_with}
use Rattle.classes.proofs.Cited.{with-is}

-- a class of the list, as a slice has it
pub record IsListedClass (bound count : ℕ) (held : List ℕ) : Type 0 where
  pub size : length held ≡ count
  pub is_class : IsClass bound (length held) held

pub listed : (bound count class : ℕ) (lists : List (List ℕ)) (own held : List ℕ) → AreClassLists bound count lists
    → class < length lists → own ≡ get_or lists class own → held ≡ own → IsListedClass bound count held
listed bound count class lists own held are inside at same =
    let low = subst (λ n. class < n) are.size inside in
    let with = (with-is bound count class low).is in
    let is : held ≡ class_with bound count class = same ∙ at ∙ are.each class own low in
    let size = ap length is ∙ with.size in record {
      size = size;
      is_class = subst (λ (l : List ℕ). IsClass bound (length l) l) (sym is)
          (subst (λ n. IsClass bound n (class_with bound count class)) (sym with.size) with);
    }
