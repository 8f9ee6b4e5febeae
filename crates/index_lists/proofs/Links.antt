-- Links under a push and an unlink.
use Rattle.std.proofs.Common.{◌≡◌, ◌≢◌, ℕ, ◌<◌, ◌==◌, ◌⊎◌, inl, inr, cond, zero, suc, List, [], ◌∷◌, ◌++◌, length, refl}
use Rattle.std.proofs.Common.{sym, ap, subst, ◌∙◌, arith}
use Rattle.std.proofs.lemmas.Bool.{cases_eq}
use Rattle.index_lists.specs.Lists.{times, without_node}
use Rattle.index_lists.specs.Inside.Links.{nodes_from, IsLinked}
use Rattle.index_lists.proofs.Times.{same_is, differ_is, cond_same, cond_other, times-here, times-more, times-rest}

-- a link that led to the node leads to the target of the node's own link
abbrev pub skip : (ℕ → ℕ) → ℕ → ℕ → ℕ
skip link node x = cond (x == node) (link node) x

-- the nodes found by following the links are the list
pub linked-follow : (none : ℕ) (next prev : ℕ → ℕ) (last before at : ℕ) (xs : List ℕ)
    → IsLinked none next prev last before at xs → nodes_from next at (length xs) ≡ xs
linked-follow none next prev last before at [] c = refl
linked-follow none next prev last before at (x ∷ xs) c =
    rw (c.0) (ap (λ ys. x ∷ ys) (linked-follow none next prev last x (next x) xs c.3))

pub length-follow : (next : ℕ → ℕ) (at n : ℕ) → length (nodes_from next at n) ≡ n
length-follow next at zero = refl
length-follow next at (suc n) = ap suc (length-follow next (next at) n)

-- the node before leads to a node, or the node is the first
pub back : (none : ℕ) (next prev : ℕ → ℕ) (last before at y : ℕ) (xs : List ℕ)
    → IsLinked none next prev last before at xs → 0 < times y xs
    → ((at ≡ y) × (prev y ≡ before)) ⊎ ((prev y < none) × (next (prev y) ≡ y))
back none next prev last before at y [] c h = absurd (omega arith)
back none next prev last before at y (x ∷ xs) c h = elim (cases_eq x y) [
  | inl e ↦ inl (c.0 ∙ e, sym (ap prev e) ∙ c.2)
  | inr ne ↦ elim (back none next prev last x (next x) y xs c.3 (times-rest x y xs ne h)) [
    | inl p ↦ inr (rw (p.1) c.1, ap next p.1 ∙ p.0)
    | inr p ↦ inr p
  ]
]

-- the node after leads back to the node, or the node is the last
pub forth : (none : ℕ) (next prev : ℕ → ℕ) (last before at y : ℕ) (xs : List ℕ)
    → IsLinked none next prev last before at xs → 0 < times y xs
    → ((next y ≡ none) × (y ≡ last)) ⊎ ((next y < none) × (prev (next y) ≡ y))
forth none next prev last before at y [] c h = absurd (omega arith)
forth none next prev last before at y (x ∷ []) c h = elim (cases_eq x y) [
  | inl e ↦ inl (sym (ap next e) ∙ c.3.0, sym e ∙ c.3.1)
  | inr ne ↦ absurd (let later = times-rest x y [] ne h in omega arith)
]
forth none next prev last before at y (x ∷ z ∷ zs) c h = elim (cases_eq x y) [
  | inl e ↦ inr (let n : next y ≡ z = sym (ap next e) ∙ c.3.0 in (rw n c.3.1, ap prev n ∙ (c.3.2 ∙ e)))
  | inr ne ↦ forth none next prev last x (next x) y (z ∷ zs) c.3 (times-rest x y (z ∷ zs) ne h)
]

-- the first node is in the list
pub head : (none : ℕ) (next prev : ℕ → ℕ) (last before at : ℕ) (xs : List ℕ) → IsLinked none next prev last before at xs
    → at < none → (prev at ≡ before) × (0 < times at xs)
head none next prev last before at [] c h = absurd (let e = c.0 in omega arith)
head none next prev last before at (x ∷ xs) c h = (ap prev c.0 ∙ c.2, times-here x at xs (sym c.0))

-- the last node is in the list, or the list is empty
pub tail : (none : ℕ) (next prev : ℕ → ℕ) (last before at : ℕ) (xs : List ℕ) → IsLinked none next prev last before at xs
    → ((before ≡ last) × (at ≡ none)) ⊎ ((0 < times last xs) × (next last ≡ none) × (last < none))
tail none next prev last before at [] c = inl (c.1, c.0)
tail none next prev last before at (x ∷ xs) c = elim (tail none next prev last x (next x) xs c.3) [
  | inl p ↦ inr (times-here x last xs p.0, sym (ap next p.0) ∙ p.1, rw (← p.0) c.1)
  | inr p ↦ inr (times-more x last xs p.0, p.1, p.2)
]

-- links that agree at each node of a list link it too
pub frame : (none : ℕ) (next prev next' prev' : ℕ → ℕ) (last before at : ℕ) (xs : List ℕ)
    → ((x : ℕ) → 0 < times x xs → x < none → (next' x ≡ next x) × (prev' x ≡ prev x))
    → IsLinked none next prev last before at xs → IsLinked none next' prev' last before at xs
frame none next prev next' prev' last before at [] same c = c
frame none next prev next' prev' last before at (x ∷ xs) same c =
    let s = same x (times-here x x xs refl) c.1 in (
      c.0,
      c.1,
      s.1 ∙ c.2,
      rw (s.0)
          (frame none next prev next' prev' last x (next x) xs (λ y h i. same y (times-more x y xs h) i) c.3),
    )

-- a push
pub linked-push : (none : ℕ) (next prev next' prev' : ℕ → ℕ) (last before at node : ℕ) (xs : List ℕ) → node < none
    → ((x : ℕ) → 0 < times x xs → x < none → (next' x ≡ cond (x == last) node (next x)) × (prev' x ≡ prev x))
    → next' node ≡ none → prev' node ≡ last → (last < none → next last ≡ none)
    → IsLinked none next prev last before at xs
    → IsLinked none next' prev' node before (cond (at == none) node at) (xs ++ node ∷ [])
linked-push none next prev next' prev' last before at node [] i same n p ends c =
    (cond_same at none node at c.0, i, p ∙ sym c.1, (n, refl))
linked-push none next prev next' prev' last before at node (x ∷ []) i same n p ends c =
    let s = same x (times-here x x [] refl) c.1 in
    let some : at ≢ none = λ e. (let a = c.0 in let b = c.1 in omega arith) in (
      cond_other at none node at some ∙ c.0,
      c.1,
      s.1 ∙ c.2,
      (s.0 ∙ cond_same x last node (next x) c.3.1, i, p ∙ sym c.3.1, (n, refl)),
    )
linked-push none next prev next' prev' last before at node (x ∷ y ∷ ys) i same n p ends c =
    let s = same x (times-here x x (y ∷ ys) refl) c.1 in
    let some : at ≢ none = λ e. (let a = c.0 in let b = c.1 in omega arith) in
    let more : next x ≢ none = λ e. (let a = c.3.0 in let b = c.3.1 in omega arith) in
    let inner : x ≢ last = λ e. more (ap next e ∙ ends (rw (← e) c.1)) in
    let step : next' x ≡ cond (next x == none) node (next x) =
    s.0 ∙ cond_other x last node (next x) inner ∙ sym (cond_other (next x) none node (next x) more) in (
      cond_other at none node at some ∙ c.0,
      c.1,
      s.1 ∙ c.2,
      rw step (linked-push none next prev next' prev' last x (next x) node (y ∷ ys) i
          (λ z h j. same z (times-more x z (y ∷ ys) h) j) n p ends c.3),
    )

-- an unlink, in whatever list: each link skips the node
pub linked-unlink : (none : ℕ) (next prev next' prev' : ℕ → ℕ) (last before at node : ℕ) (xs : List ℕ) → node < none
    → ((x : ℕ) → x < none → x ≢ node → (next' x ≡ skip next node (next x)) × (prev' x ≡ skip prev node (prev x)))
    → IsLinked none next prev last before at xs
    → IsLinked none next' prev' (skip prev node last) (skip prev node before) (skip next node at) (without_node node xs)
linked-unlink none next prev next' prev' last before at node [] i past c =
    (cond_other at node (next node) at (λ e. (let a = c.0 in omega arith)) ∙ c.0, ap (skip prev node) c.1)
linked-unlink none next prev next' prev' last before at node (x ∷ xs) i past c = elim (cases_eq x node) [
  | inl e ↦ (
      let rest = linked-unlink none next prev next' prev' last x (next x) node xs i past c.3 in
      let here : prev node ≡ before = sym (ap prev e) ∙ c.2 in
      let back_here : skip prev node x ≡ skip prev node before =
      cond_same x node (prev node) x e ∙ here ∙ skip-same prev node before here in
      let on_here : skip next node (next x) ≡ skip next node at =
      ap (skip next node) (ap next e) ∙ sym (skip-same next node (next node) refl)
      ∙ sym (cond_same at node (next node) at (c.0 ∙ e)) in
      rw (same_is x node e) (subst (λ b. IsLinked none next' prev' (skip prev node last) b (skip next node at)
      (without_node node xs)) back_here
      (subst (λ a. IsLinked none next' prev' (skip prev node last) (skip prev node x) a
      (without_node node xs)) on_here rest))
      )
  | inr ne ↦ (
      let rest = linked-unlink none next prev next' prev' last x (next x) node xs i past c.3 in
      let p = past x c.1 ne in
      let same_before : skip prev node x ≡ x = cond_other x node (prev node) x ne in
      let at_here : skip next node at ≡ x = cond_other at node (next node) at (λ e. ne (sym c.0 ∙ e)) ∙ c.0 in
      rw (differ_is x node ne) (
        at_here,
        c.1,
        p.1 ∙ ap (skip prev node) c.2,
        rw (p.0) (subst (λ b. IsLinked none next' prev' (skip prev node last) b (skip next node (next x))
            (without_node node xs)) same_before rest),
      )
      )
]
  where
    -- a link that is skipped once
    skip-same : (link : ℕ → ℕ) (node b : ℕ) → link node ≡ b → b ≡ skip link node b
    skip-same link node b e = elim (cases_eq b node) [
      | inl h ↦ sym e ∙ sym (cond_same b node (link node) b h)
      | inr h ↦ sym (cond_other b node (link node) b h)
    ]
