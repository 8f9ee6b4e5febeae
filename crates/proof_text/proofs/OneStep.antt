-- A text is read in one way: each step from its start finds one thing at most, and the rest is read
-- in one way too.
use Rattle.std.proofs.Common.{◌≡◌, ◌⊎◌, ℕ, List, ◌++◌, sym, subst, ◌∙◌, inl, inr}
use Rattle.board_text.specs.LineForms.{Lacks}

-- a text begins with one of these at most
abbrev pub OneReading : {X : Type 0} → (X → Type 0) → (X → List ℕ) → Type 0
OneReading {X} P form = (p q : X) (x y : List ℕ) → P p → P q → form p ++ x ≡ form q ++ y → (p ≡ q) × (x ≡ y)

-- The finding at a step: its fault, or the finding after the thing taken.
abbrev pub Step : {X F : Type 0} → (F → Type 0) → (X → List ℕ → Type 0) → (X → List ℕ → F → Type 0) → F → Type 0
Step {X} Faulty Taken After found = Faulty found ⊎ ((x : X) × (more : List ℕ) × Taken x more × After x more found)

-- one fault is found, or one thing taken, and never both
pub record IsOneStep {X F : Type 0} (Faulty : F → Type 0) (Taken : X → List ℕ → Type 0) : Type 0 where
  pub one : (v w : F) → Faulty v → Faulty w → v ≡ w
  pub apart : (v : F) (x : X) (more : List ℕ) → Faulty v → Taken x more → ⊥
  pub same : (x y : X) (a b : List ℕ) → Taken x a → Taken y b → (x ≡ y) × (a ≡ b)

module _ {X F : Type 0} {Faulty : F → Type 0} {Taken : X → List ℕ → Type 0} (step : IsOneStep Faulty Taken)
    (After : X → List ℕ → F → Type 0)
    (one_after : (x : X) (more : List ℕ) → Taken x more → (v w : F) → After x more v → After x more w → v ≡ w) where
  pub one_step : (v w : F) → Step Faulty Taken After v → Step Faulty Taken After w → v ≡ w
  one_step v w (inl f) (inl g) = step.one v w f g
  one_step v w (inl f) (inr (y, b, taken, after)) = absurd (step.apart v y b f taken)
  one_step v w (inr (x, a, taken, after)) (inl g) = absurd (step.apart w x a g taken)
  one_step v w (inr (x, a, taken, after)) (inr (y, b, taken_too, later)) =
      let s = step.same x y a b taken taken_too in
      one_after y b taken_too v w (subst (λ (more : List ℕ). After y more v) s.1
      (subst (λ (z : X). After z a v) s.0 after)) later

-- The finding at a line of a form: a fault if the text doesn't begin with one, or the finding after it.
abbrev Wanting : {X F : Type 0} → (X → Type 0) → (X → List ℕ) → List ℕ → F → F → Type 0
Wanting P form text fault found = Lacks P form text × (found ≡ fault)

abbrev Stands : {X : Type 0} → (X → Type 0) → (X → List ℕ) → List ℕ → X → List ℕ → Type 0
Stands P form text x more = P x × (text ≡ form x ++ more)

abbrev pub Line : {X F : Type 0} → (X → Type 0) → (X → List ℕ) → List ℕ → F → (X → List ℕ → F → Type 0) → F → Type 0
Line P form text fault After found = Step (Wanting P form text fault) (Stands P form text) After found

module _ {X F : Type 0} (P : X → Type 0) (form : X → List ℕ) (text : List ℕ) (fault : F)
    (After : X → List ℕ → F → Type 0) (one : OneReading P form)
    (one_after : (x : X) (more : List ℕ) → P x → (v w : F) → After x more v → After x more w → v ≡ w) where
  line_step : IsOneStep (Wanting P form text fault) (Stands P form text)
  line_step = record {
    one = λ v w f g. f.1 ∙ sym g.1;
    apart = λ v x more f stands. f.0 x more stands.0 stands.1;
    same = λ x y a b s t. one x y a b s.0 t.0 (sym s.1 ∙ t.1);
  }

  pub one_line : (v w : F) → Line P form text fault After v → Line P form text fault After w → v ≡ w
  one_line = one_step line_step After (λ x more stands. one_after x more stands.0)

-- The finding is this fault if a fact fails, and else a later one.
abbrev pub Unless : {F : Type 0} → F → Type 0 → (F → Type 0) → F → Type 0
Unless fault Right Later found = ((¬ Right) × (found ≡ fault)) ⊎ (Right × Later found)

pub one_unless : {F : Type 0} (fault : F) (Right : Type 0) (Later : F → Type 0)
    → ((v w : F) → Later v → Later w → v ≡ w)
    → (v w : F) → Unless fault Right Later v → Unless fault Right Later w → v ≡ w
one_unless fault Right Later one v w (inl f) (inl g) = f.1 ∙ sym g.1
one_unless fault Right Later one v w (inl f) (inr g) = absurd (f.0 g.0)
one_unless fault Right Later one v w (inr f) (inl g) = absurd (g.0 f.0)
one_unless fault Right Later one v w (inr f) (inr g) = one v w f.1 g.1
