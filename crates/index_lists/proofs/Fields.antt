-- A field of the elements of a list, as a list.
use Rattle.std.proofs.Common.{◌≡◌, ℕ, ◌<◌, List, ◌∷◌, zero, suc, refl, length, map, replicate, slice_index, get_or, sym}
use Rattle.std.proofs.Common.{ap, ◌∙◌}
use Rattle.std.proofs.lemmas.List.{get_or-map, length-map}
use Rattle.index_lists.specs.Inside.Links.{PlainLinks}
use Rattle.index_lists.specs.declared.link_lists.Node.{Node}
use Rattle.index_lists.specs.declared.link_lists.Ends.{Ends}

-- the field of an element at a place is in the column at that place
pub field-read : {A : Type 0} (f : A → ℕ) (xs : List A) (column : List ℕ) (i n : ℕ) (x : A) → map f xs ≡ column
    → length column ≡ n → i < n → x ≡ get_or xs i x → f x ≡ slice_index column i
field-read f xs column i n x is size h e =
    ap f e ∙ rw (← is) (sym (get_or-map f xs i x 0 (rw (← length-map xs f, is, size) h)))

pub fields-alike : {A : Type 0} (f : A → ℕ) (n : ℕ) (x : A) → map f (replicate n x) ≡ replicate n (f x)
fields-alike f zero x = refl
fields-alike f (suc n) x = ap (λ xs. f x ∷ xs) (fields-alike f n x)

-- links of the same columns
pub links-same : {a b c d e f a' b' c' d' e' f' : List ℕ} → a ≡ a' → b ≡ b' → c ≡ c' → d ≡ d' → e ≡ e' → f ≡ f'
    → ◌≡◌ {A = PlainLinks} (record { next = a; prev = b; home = c; first = d; last = e; len = f })
    (record { next = a'; prev = b'; home = c'; first = d'; last = e'; len = f' })
links-same a b c d e f = rw (a, b, c, d, e, f) refl

-- the links of nodes in no list, and of empty lists
abbrev pub bare : ℕ → ℕ → PlainLinks
bare n l = record {
  next = replicate n n;
  prev = replicate n n;
  home = replicate n l;
  first = replicate l n;
  last = replicate l n;
  len = replicate l 0;
}

pub bare-links : (n l : ℕ) (nodes : List Node) (ends : List Ends)
    → nodes ≡ replicate n (record { next = n; prev = n; home = l })
    → ends ≡ replicate l (record { first = n; last = n; len = 0 })
    → ◌≡◌ {A = PlainLinks} (bare n l)
    (record {
      next = map (λ n. n.next) nodes;
      prev = map (λ n. n.prev) nodes;
      home = map (λ n. n.home) nodes;
      first = map (λ e. e.first) ends;
      last = map (λ e. e.last) ends;
      len = map (λ e. e.len) ends;
    })
bare-links n l nodes ends p q =
    rw (p, q) (links-same (sym (fields-alike (λ n. n.next) n _)) (sym (fields-alike (λ n. n.prev) n _))
    (sym (fields-alike (λ n. n.home) n _)) (sym (fields-alike (λ e. e.first) l _))
    (sym (fields-alike (λ e. e.last) l _)) (sym (fields-alike (λ e. e.len) l _)))
