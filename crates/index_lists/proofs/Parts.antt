-- Lists as parts of one list.
use Rattle.std.proofs.Common.{◌≡◌, ◌≢◌, ℕ, ◌+◌, ◌-◌, ◌<◌, ◌≤◌, ◌==◌, inl, inr, cond, if◌then◌else◌, zero, suc, List, []}
use Rattle.std.proofs.Common.{◌∷◌, ◌++◌, length, map, take, drop, replicate, refl, sym, ap, ◌∙◌, arith, add-one}
use Rattle.std.proofs.Common.{length-append, slice_get, slice_set, get_or, Some, subst}
use Rattle.std.specs.Prelude.{sum}
use Rattle.std.specs.List.{concat, insert, remove}
use Rattle.std.proofs.lemmas.Bool.{cases_eq, cases_lt}
use Rattle.std.proofs.lemmas.List.{take_at, drop_at, drop-drop, append_assoc, take-append-drop, get_or-set_same}
use Rattle.std.proofs.lemmas.List.{get_or-set_other, get_or-map, take_rest, map-set, length-map, length-set}
use Rattle.std.proofs.lemmas.List.{length-replicate}
use Rattle.std.proofs.lemmas.List.Sums.{sum_by-cons, sum_by-take-drop}
use Rattle.std.proofs.lemmas.List.Edits.{insert-append_right, length-insert}
use Rattle.index_lists.specs.Lists.{times, without_node, IsFree, AreLists}
use Rattle.index_lists.specs.Parts.{PlainParts}
use Rattle.index_lists.specs.Inside.Parts.{parts_of, part, lists_of_parts, ArePlain, AreCut}
use Rattle.index_lists.proofs.Times.{same_is, differ_is, cond_same, cond_other, times-append, times-without_same}
use Rattle.index_lists.proofs.Times.{times-without_other, without-absent, length-without, distinct-length}
use Rattle.index_lists.proofs.Places.{some_is, stands-at}

-- ---- cutting

parts-concat : (xss : List (List ℕ)) → parts_of (map length xss) (concat xss) ≡ xss
parts-concat [] = refl
parts-concat (xs ∷ xss) = rw (take_at xs (concat xss) (length xs) refl, drop_at xs (concat xss) (length xs) refl)
    (ap (λ yss. xs ∷ yss) (parts-concat xss))

-- parts of these lengths are cut out of their list again
pub cut : (lens nodes : List ℕ) (xss : List (List ℕ)) → lens ≡ map length xss → nodes ≡ concat xss
    → parts_of lens nodes ≡ xss
cut lens nodes xss e f = rw (e, f) (parts-concat xss)

pub cut-are : (n l room slots : ℕ) (lens nodes : List ℕ) (xss : List (List ℕ)) → lens ≡ map length xss
    → nodes ≡ concat xss → n ≤ room
    → l ≤ slots → AreCut n l room slots lens nodes
cut-are n l room slots lens nodes xss e f g h = record {
  lens_are = ap (map length) (cut lens nodes xss e f) ∙ sym e;
  nodes_are = ap concat (cut lens nodes xss e f) ∙ sym f;
  for_nodes = g;
  for_lens = h;
}

sum-lens : (xss : List (List ℕ)) → sum (map length xss) ≡ length (concat xss)
sum-lens [] = refl
sum-lens (xs ∷ xss) =
    let rest = sum-lens xss in
    let whole = length-append xs (concat xss) in
    let here = sum_by-cons (λ x. x) (length xs) (map length xss) in
    omega (arith, rest, whole, here)

-- the parts up to a place and the lengths of those after it add up to the whole
after-lens : (k : ℕ) (xss : List (List ℕ))
    → length (concat (take k xss)) + sum (drop k (map length xss)) ≡ length (concat xss)
after-lens zero xss = (let e = sum-lens xss in omega (arith, e))
after-lens (suc k) [] = refl
after-lens (suc k) (xs ∷ xss) =
    let rest = after-lens k xss in
    let whole = length-append xs (concat xss) in
    let front = length-append xs (concat (take k xss)) in
    omega (arith, rest, whole, front)

-- a part begins after all parts before it
part-at : (l : ℕ) (xss : List (List ℕ)) → l < length xss
    → take (length (part xss l)) (drop (length (concat (take l xss))) (concat xss)) ≡ part xss l
part-at l [] h = absurd (omega arith)
part-at zero (xs ∷ xss) h = take_at xs (concat xss) (length xs) refl
part-at (suc l) (xs ∷ xss) h =
    let front : drop (length xs + length (concat (take l xss))) (xs ++ concat xss)
    ≡ drop (length (concat (take l xss))) (concat xss) =
    sym (drop-drop (length (concat (take l xss))) (length xs) (xs ++ concat xss))
    ∙ ap (drop (length (concat (take l xss)))) (drop_at xs (concat xss) (length xs) refl) in
    rw (length-append xs (concat (take l xss)), front) (part-at l xss (omega arith))

-- a part ends after its own length
end-at : (l : ℕ) (xss : List (List ℕ)) → l < length xss
    → length (concat (take (suc l) xss)) ≡ length (concat (take l xss)) + length (part xss l)
end-at l [] h = absurd (omega arith)
end-at zero (xs ∷ xss) h = let e = length-append xs [] in omega (arith, e)
end-at (suc l) (xs ∷ xss) h =
    let rest = end-at l xss (omega arith) in
    let whole = length-append xs (concat (take (suc l) xss)) in
    let front = length-append xs (concat (take l xss)) in
    omega (arith, rest, whole, front)

pub rest-sum : (lens : List ℕ) (i : ℕ) → sum (take (length lens - i) (drop i lens)) ≡ sum (drop i lens)
rest-sum lens i = ap sum (take_rest lens i)

pub rest-le : (lens : List ℕ) (i : ℕ) → sum (drop i lens) ≤ sum lens
rest-le lens i = (let e = sum_by-take-drop (λ x. x) lens i in omega (arith, e))

module _ {n l room slots : ℕ} {lens nodes : List ℕ} (c : AreCut n l room slots lens nodes) where
  pub cut-sum : sum lens ≡ length nodes
  cut-sum = sym (ap sum c.lens_are) ∙ sum-lens (parts_of lens nodes) ∙ ap length c.nodes_are

  pub cut-count : length (parts_of lens nodes) ≡ length lens
  cut-count = sym (length-map (parts_of lens nodes) length) ∙ ap length c.lens_are

  -- the length of a part
  pub cut-len : (of d : ℕ) → of < length lens → get_or lens of d ≡ length (part (parts_of lens nodes) of)
  cut-len of d h = sym (ap (λ ns. get_or ns of d) c.lens_are)
      ∙ get_or-map length (parts_of lens nodes) of [] d (let e = cut-count in omega (arith, e, h))

  -- a part ends at the number of nodes less the lengths of the parts after it
  pub cut-end : (of end : ℕ) → of < length lens → end + sum (drop (of + 1) lens) ≡ length nodes
      → end ≡ length (concat (take (suc of) (parts_of lens nodes)))
  cut-end of end h e =
      let parts = parts_of lens nodes in
      let a = after-lens (of + 1) parts in
      let b : sum (drop (of + 1) (map length parts)) ≡ sum (drop (of + 1) lens) =
      ap (λ ns. sum (drop (of + 1) ns)) c.lens_are in
      let w = ap length c.nodes_are in
      let s : length (concat (take (of + 1) parts)) ≡ length (concat (take (suc of) parts)) =
      ap (λ k. length (concat (take k parts))) (add-one of) in
      omega (arith, a, b, w, s, e)

  -- a part is the nodes before its end, as many as its length
  pub cut-part : (of end len d : ℕ) → of < length lens → end + sum (drop (of + 1) lens) ≡ length nodes
      → len ≡ get_or lens of d
      → (len ≤ end) × (end ≤ length nodes)
      × (take (end - (end - len)) (drop (end - len) nodes) ≡ part (parts_of lens nodes) of)
  cut-part of end len d h e f =
      let parts = parts_of lens nodes in
      let inside : of < length parts = (let k = cut-count in omega (arith, k, h)) in
      let size : len ≡ length (part parts of) = f ∙ cut-len of d h in
      let ends = cut-end of end h e in
      let at = end-at of parts inside in
      let low : len ≤ end = omega (arith, size, ends, at) in
      let begin : end - len ≡ length (concat (take of parts)) = omega (arith, size, ends, at) in
      let long : end - (end - len) ≡ length (part parts of) = omega (arith, size, low) in (
        low,
        omega (arith, e),
        rw (long, begin) (ap (λ ns. take (length (part parts of)) (drop (length (concat (take of parts))) ns))
            (sym c.nodes_are)
            ∙ part-at of parts inside),
      )

-- ---- the number of times that a node is in parts

pub fewer : (x l : ℕ) (xss : List (List ℕ)) → times x (part xss l) ≤ times x (concat xss)
fewer x l [] = omega arith
fewer x zero (xs ∷ xss) = let t = times-append x xs (concat xss) in omega (arith, t)
fewer x (suc l) (xs ∷ xss) =
    let t = times-append x xs (concat xss) in let rest = fewer x l xss in omega (arith, t, rest)

pub part-le : (l : ℕ) (xss : List (List ℕ)) → length (part xss l) ≤ length (concat xss)
part-le l [] = omega arith
part-le zero (xs ∷ xss) = (let e = length-append xs (concat xss) in omega (arith, e))
part-le (suc l) (xs ∷ xss) =
    (let e = length-append xs (concat xss) in let rest = part-le l xss in omega (arith, e, rest))

two : (x l m : ℕ) (xss : List (List ℕ)) → l ≢ m → times x (part xss l) + times x (part xss m) ≤ times x (concat xss)
two x l m [] d = omega arith
two x zero zero (xs ∷ xss) d = absurd (d refl)
two x zero (suc m) (xs ∷ xss) d =
    let t = times-append x xs (concat xss) in let rest = fewer x m xss in omega (arith, t, rest)
two x (suc l) zero (xs ∷ xss) d =
    let t = times-append x xs (concat xss) in let rest = fewer x l xss in omega (arith, t, rest)
two x (suc l) (suc m) (xs ∷ xss) d =
    let t = times-append x xs (concat xss) in
    let rest = two x l m xss (λ e. d (ap suc e)) in
    omega (arith, t, rest)

none-of_free : (x : ℕ) (xss : List (List ℕ)) → ((l : ℕ) → times x (part xss l) ≡ 0) → times x (concat xss) ≡ 0
none-of_free x [] free = refl
none-of_free x (xs ∷ xss) free =
    let here = free 0 in
    let rest = none-of_free x xss (λ l. free (suc l)) in
    times-append x xs (concat xss) ∙ (omega (arith, here, rest))

past : (l : ℕ) (xss : List (List ℕ)) → length xss ≤ l → part xss l ≡ []
past l [] h = refl
past zero (xs ∷ xss) h = absurd (omega arith)
past (suc l) (xs ∷ xss) h = past l xss (omega arith)

-- each node is in one part at most, and once
pub plain-are : (p : PlainParts) → ArePlain p → AreLists (lists_of_parts p)
plain-are p s = record {
  below = λ l x h. elim (cases_lt x p.nodes) [
    | inl lt ↦ lt
    | inr ge ↦ absurd (let f = fewer x l p.parts in let z = s.below x ge in omega (arith, f, z, h))
  ];
  once = λ l x. (let f = fewer x l p.parts in let o = s.once x in omega (arith, f, o));
  apart = λ l m x h k. elim (cases_eq l m) [
    | inl e ↦ e
    | inr d ↦ absurd (let t = two x l m p.parts d in let o = s.once x in omega (arith, t, o, h, k))
  ];
  beyond = λ l g. past l p.parts (let short = s.short in omega (arith, short, g));
}

-- ---- lengths for more lists

pub begun-concat : (k : ℕ) (xss : List (List ℕ)) → concat (xss ++ replicate k []) ≡ concat xss
begun-concat zero [] = refl
begun-concat (suc k) [] = begun-concat k []
begun-concat k (xs ∷ xss) = ap (λ ys. xs ++ ys) (begun-concat k xss)

pub begun-lens : (k : ℕ) (xss : List (List ℕ)) → map length (xss ++ replicate k []) ≡ map length xss ++ replicate k 0
begun-lens zero [] = refl
begun-lens (suc k) [] = ap (λ ns. 0 ∷ ns) (begun-lens k [])
begun-lens k (xs ∷ xss) = ap (λ ns. length xs ∷ ns) (begun-lens k xss)

pub begun-part : (k l : ℕ) (xss : List (List ℕ)) → part (xss ++ replicate k []) l ≡ part xss l
begun-part zero l [] = refl
begun-part (suc k) zero [] = refl
begun-part (suc k) (suc l) [] = begun-part k l []
begun-part k zero (xs ∷ xss) = refl
begun-part k (suc l) (xs ∷ xss) = begun-part k l xss

-- ---- a push

-- the parts after a node is pushed
abbrev pub with_node : List (List ℕ) → ℕ → ℕ → List (List ℕ)
with_node xss to node = slice_set xss to (part xss to ++ node ∷ [])

pub put-concat : (xss : List (List ℕ)) (to node : ℕ) → to < length xss
    → insert (concat xss) (length (concat (take (suc to) xss))) node ≡ concat (with_node xss to node)
put-concat [] to node h = absurd (omega arith)
put-concat (xs ∷ xss) zero node h =
    let whole = length-append xs [] in
    let end : length (xs ++ []) ≡ length xs = omega (arith, whole) in
    let none : length xs - length xs ≡ 0 = omega arith in
    rw end (insert-append_right xs (concat xss) (length xs) (length xs) node refl (omega arith)
    ∙ rw none (sym (append_assoc xs (node ∷ []) (concat xss))))
put-concat (xs ∷ xss) (suc to) node h =
    let at = length (concat (take (suc to) xss)) in
    let rest : length xs + at - length xs ≡ at = omega arith in
    rw (length-append xs (concat (take (suc to) xss)))
    (insert-append_right xs (concat xss) (length xs) (length xs + at) node refl (omega arith)
    ∙ rw rest (ap (λ ys. xs ++ ys) (put-concat xss to node (omega arith))))

pub times-insert : (x : ℕ) (xs : List ℕ) (i y : ℕ) → times x (insert xs i y) ≡ cond (y == x) 1 0 + times x xs
times-insert x xs i y =
    let parted = times-append x (take i xs) (y ∷ drop i xs) in
    let whole = times-append x (take i xs) (drop i xs) in
    let same = ap (times x) (take-append-drop i xs) in
    omega (arith, parted, whole, same)

pub pushed-part : (xss : List (List ℕ)) (to node l : ℕ) → to < length xss
    → part (with_node xss to node) l ≡ (if l == to then part xss l ++ node ∷ [] else part xss l)
pushed-part xss to node l h = elim (cases_eq l to) [
  | inl e ↦ rw (e, same_is to to refl) (get_or-set_same xss to (part xss to ++ node ∷ []) [] h)
  | inr d ↦ rw (differ_is l to d) (get_or-set_other xss to l (part xss to ++ node ∷ []) [] d)
]

-- ---- a node taken out

-- the parts without a node
abbrev pub without_all : ℕ → List (List ℕ) → List (List ℕ)
without_all node xss = map (without_node node) xss

without-append : (node : ℕ) (xs ys : List ℕ)
    → without_node node (xs ++ ys) ≡ without_node node xs ++ without_node node ys
without-append node [] ys = refl
without-append node (x ∷ xs) ys = elim (cases_eq x node) [
  | inl e ↦ rw (same_is x node e) (without-append node xs ys)
  | inr d ↦ rw (differ_is x node d) (ap (λ zs. x ∷ zs) (without-append node xs ys))
]

without-concat : (node : ℕ) (xss : List (List ℕ)) → without_node node (concat xss) ≡ concat (without_all node xss)
without-concat node [] = refl
without-concat node (xs ∷ xss) =
    without-append node xs (concat xss) ∙ ap (λ ys. without_node node xs ++ ys) (without-concat node xss)

pub without-part : (node l : ℕ) (xss : List (List ℕ)) → part (without_all node xss) l ≡ without_node node (part xss l)
without-part node l [] = refl
without-part node zero (xs ∷ xss) = refl
without-part node (suc l) (xs ∷ xss) = without-part node l xss

absent-all : (node : ℕ) (xss : List (List ℕ)) → times node (concat xss) ≡ 0 → without_all node xss ≡ xss
absent-all node [] h = refl
absent-all node (xs ∷ xss) h =
    let t = times-append node xs (concat xss) in
    let here : times node xs ≡ 0 = omega (arith, t, h) in
    let rest : times node (concat xss) ≡ 0 = omega (arith, t, h) in
    rw (without-absent node xs here) (ap (λ yss. xs ∷ yss) (absent-all node xss rest))

-- one part is shorter by one
pub without-lens : (node home : ℕ) (xss : List (List ℕ)) → times node (concat xss) ≤ 1 → 0 < times node (part xss home)
    → slice_set (map length xss) home (length (part xss home) - 1) ≡ map length (without_all node xss)
without-lens node home [] once some = absurd (omega (arith, some))
without-lens node zero (xs ∷ xss) once some =
    let t = times-append node xs (concat xss) in
    let rest : times node (concat xss) ≡ 0 = omega (arith, t, once, some) in
    let less = length-without node xs in
    let here : length xs - 1 ≡ length (without_node node xs) = omega (arith, less, t, once, some) in
    rw (absent-all node xss rest) (ap (λ n. n ∷ map length xss) here)
without-lens node (suc home) (xs ∷ xss) once some =
    let t = times-append node xs (concat xss) in
    let f = fewer node home xss in
    let here : times node xs ≡ 0 = omega (arith, t, once, some, f) in
    rw (without-absent node xs here)
    (ap (λ ns. length xs ∷ ns) (without-lens node home xss (omega (arith, t, once)) some))

-- taking out the place of a node takes out the node
remove-without : (node place : ℕ) (xs : List ℕ) → slice_get xs place ≡ Some node → times node xs ≤ 1
    → remove xs place ≡ without_node node xs
remove-without node place [] stands once = absurd (cc stands)
remove-without node zero (x ∷ xs) stands once =
    let here : x ≡ node = some_is x node stands in
    let one : times node (x ∷ xs) ≡ 1 + times node xs = rw (same_is x node here) refl in
    rw (same_is x node here) (sym (without-absent node xs (omega (arith, one, once))))
remove-without node (suc place) (x ∷ xs) stands once =
    let later = stands-at place node xs stands in
    let other : x ≢ node = λ here. (let one : times node (x ∷ xs) ≡ 1 + times node xs = rw (same_is x node here) refl in
    omega (arith, one, once, later)) in
    rw (differ_is x node other) (ap (λ ys. x ∷ ys) (remove-without node place xs stands (omega (arith, once))))

pub remove-concat : (node place : ℕ) (xss : List (List ℕ)) → slice_get (concat xss) place ≡ Some node
    → times node (concat xss) ≤ 1
    → remove (concat xss) place ≡ concat (without_all node xss)
remove-concat node place xss stands once = remove-without node place (concat xss) stands once ∙ without-concat node xss

-- ---- the invariant of the parts

module _ (p : PlainParts) (s : ArePlain p) where
  -- a free node is in no part
  free-none : (node : ℕ) → IsFree (lists_of_parts p) node → times node (concat p.parts) ≡ 0
  free-none node f = none-of_free node p.parts f.free

  put-once : (node i : ℕ) → IsFree (lists_of_parts p) node → (x : ℕ) → times x (insert (concat p.parts) i node) ≤ 1
  put-once node i f x =
      let t = times-insert x (concat p.parts) i node in
      let o = s.once x in
      elim (cases_eq node x) [
        | inl e ↦ (let z : times x (concat p.parts) ≡ 0 = rw (← e) (free-none node f) in
            let c = cond_same {A = ℕ} node x 1 0 e in omega (arith, t, z, c))
        | inr d ↦ (let c = cond_other {A = ℕ} node x 1 0 d in omega (arith, t, o, c))
      ]

  put-below : (node i : ℕ) → node < p.nodes → (x : ℕ) → p.nodes ≤ x → times x (insert (concat p.parts) i node) ≡ 0
  put-below node i h x g =
      let t = times-insert x (concat p.parts) i node in
      let z = s.below x g in
      let c = cond_other {A = ℕ} node x 1 0 (λ e. omega (arith, e, h, g)) in
      omega (arith, t, z, c)

  -- there is room for a node that is in no part
  pub plain-room : (node : ℕ) → node < p.nodes → IsFree (lists_of_parts p) node → length (concat p.parts) < p.nodes
  plain-room node h f =
      let all = distinct-length p.nodes (insert (concat p.parts) 0 node) (put-once node 0 f) (put-below node 0 h) in
      let size = length-insert (concat p.parts) 0 node (omega arith) in
      omega (arith, all, size)

  pub plain-few : length (concat p.parts) ≤ p.nodes
  plain-few = distinct-length p.nodes (concat p.parts) s.once s.below

  pub plain-nodes : {l room slots : ℕ} {lens nodes : List ℕ} → p.parts ≡ parts_of lens nodes
      → AreCut p.nodes l room slots lens nodes
      → length nodes ≤ p.nodes
  plain-nodes e c = (let f = plain-few in let w = ap length c.nodes_are in let g = ap (λ xss. length (concat xss)) e in
      omega (arith, f, w, g))

  -- empty parts may be added at the end
  pub plain-begun : (k : ℕ) → length p.parts + k ≤ p.lists → ArePlain (record p { parts = p.parts ++ replicate k [] })
  plain-begun k h = record {
    few = s.few;
    once = λ x. rw (begun-concat k p.parts) (s.once x);
    below = λ x g. rw (begun-concat k p.parts) (s.below x g);
    short = (let a = length-append p.parts (replicate k []) in let none : List ℕ = [] in let b =
        length-replicate k none in omega (arith, a, b, h));
  }

  pub plain-push : (to node : ℕ) → to < length p.parts → node < p.nodes → IsFree (lists_of_parts p) node
      → ArePlain (record p { parts = with_node p.parts to node })
  plain-push to node h i f = record {
    few = s.few;
    once = λ x. rw (← put-concat p.parts to node h) (put-once node (length (concat (take (suc to) p.parts))) f x);
    below = λ x g. rw (← put-concat p.parts to node h) (put-below node (length (concat (take (suc to) p.parts))) i x g);
    short = rw (length-set p.parts to (part p.parts to ++ node ∷ [])) s.short;
  }

  pub plain-unlink : (node : ℕ) → ArePlain (record p { parts = without_all node p.parts })
  plain-unlink node = record {
    few = s.few;
    once = λ x. rw (← without-concat node p.parts) (elim (cases_eq x node) [
      | inl e ↦ rw e (let z = times-without_same node (concat p.parts) in omega (arith, z))
      | inr d ↦ (let z = times-without_other node x (concat p.parts) d in let o = s.once x in omega (arith, z, o))
    ]);
    below = λ x g. rw (← without-concat node p.parts) (elim (cases_eq x node) [
      | inl e ↦ rw e (times-without_same node (concat p.parts))
      | inr d ↦ times-without_other node x (concat p.parts) d ∙ s.below x g
    ]);
    short = rw (length-map p.parts (without_node node)) s.short;
  }

-- ---- a push, whole

-- a node that is in no list, and a list to which it is pushed, which has a length among these now
pub record IsToPush (n l : ℕ) (lens nodes : List ℕ) (to node : ℕ) (lens' : List ℕ) : Type 0 where
  pub plain : ArePlain (record { nodes = n; lists = l; parts = parts_of lens nodes })
  pub lens_are : map length (parts_of lens nodes) ≡ lens
  pub nodes_are : concat (parts_of lens nodes) ≡ nodes
  pub to_in : to < l
  pub node_in : node < n
  pub free : IsFree (lists_of_parts (record { nodes = n; lists = l; parts = parts_of lens nodes })) node
  pub begun : lens' ≡ lens ++ replicate (to + 1 - length lens) 0

pub to-push : (n l room slots : ℕ) (lens nodes : List ℕ) (to node : ℕ) (lens' : List ℕ) (state : PlainParts)
    → record { nodes = n; lists = l; parts = parts_of lens nodes } ≡ state
    → ArePlain (record { nodes = n; lists = l; parts = parts_of lens nodes }) → AreCut n l room slots lens nodes
    → to < state.lists → node < state.nodes → IsFree (lists_of_parts state) node
    → lens' ≡ lens ++ replicate (to + 1 - length lens) 0 → IsToPush n l lens nodes to node lens'
to-push n l room slots lens nodes to node lens' state same plain are to_in node_in free begun = record {
  plain = plain;
  lens_are = are.lens_are;
  nodes_are = are.nodes_are;
  to_in = rw (ap (λ (p : PlainParts). p.lists) same) to_in;
  node_in = rw (ap (λ (p : PlainParts). p.nodes) same) node_in;
  free = subst (λ (p : PlainParts). IsFree (lists_of_parts p) node) (sym same) free;
  begun = begun;
}

module _ {n l : ℕ} {lens nodes : List ℕ} {to node : ℕ} {lens' : List ℕ}
    (push : IsToPush n l lens nodes to node lens') where
  -- the parts with one for the list
  abbrev pub with_list : List (List ℕ)
  with_list = parts_of lens nodes ++ replicate (to + 1 - length lens) []

  list-lens : lens' ≡ map length with_list
  list-lens = push.begun ∙ ap (λ ns. ns ++ replicate (to + 1 - length lens) 0) (sym push.lens_are)
      ∙ sym (begun-lens (to + 1 - length lens) (parts_of lens nodes))

  list-nodes : nodes ≡ concat with_list
  list-nodes = sym push.nodes_are ∙ sym (begun-concat (to + 1 - length lens) (parts_of lens nodes))

  list-parts : parts_of lens' nodes ≡ with_list
  list-parts = cut lens' nodes with_list list-lens list-nodes

  pub list-cut : AreCut n l n l lens' nodes
  list-cut = cut-are n l n l lens' nodes with_list list-lens list-nodes (omega arith) (omega arith)

  list-count : length with_list ≡ length lens + (to + 1 - length lens)
  list-count =
      let none : List ℕ = [] in
      let a = length-append (parts_of lens nodes) (replicate (to + 1 - length lens) none) in
      let b = length-replicate (to + 1 - length lens) none in
      let e = sym (length-map (parts_of lens nodes) length) ∙ ap length push.lens_are in
      omega (arith, a, b, e)

  list-in : to < length with_list
  list-in = let e = list-count in omega (arith, e)

  pub list-begun : to < length lens'
  list-begun = (let e = ap length list-lens ∙ length-map with_list length in let h = list-in in omega (arith, e, h))

  list-plain : ArePlain (record { nodes = n; lists = l; parts = with_list })
  list-plain = plain-begun _ push.plain (to + 1 - length lens)
      (let e = sym (length-map (parts_of lens nodes) length) ∙ ap length push.lens_are in
      let short = push.plain.short in
      omega (arith, e, short, push.to_in))

  list-free : IsFree (lists_of_parts (record { nodes = n; lists = l; parts = with_list })) node
  list-free =
      record {
        free = λ m. ap (times node) (begun-part (to + 1 - length lens) m (parts_of lens nodes)) ∙ push.free.free m;
      }

  pub list-room : length nodes < n
  list-room =
      let low = plain-room _ push.plain node push.node_in push.free in
      let w = ap length push.nodes_are in
      omega (arith, low, w)

  -- a part has fewer nodes than there are
  pub list-small : (len d : ℕ) → len ≡ get_or lens' to d → len < n
  list-small len d e =
      let size = e ∙ cut-len list-cut to d list-begun in
      let whole = ap length list-cut.nodes_are in
      let le = part-le to (parts_of lens' nodes) in
      let room = list-room in
      omega (arith, size, whole, le, room)

  module _ (end len : ℕ) (nodes' : List ℕ) (ends : end + sum (drop (to + 1) lens') ≡ length nodes)
      (is_len : len ≡ get_or lens' to len)
      (put : nodes' ≡ insert nodes end node) where
    pushed-lens : slice_set lens' to (len + 1) ≡ map length (with_node with_list to node)
    pushed-lens =
        let size : len ≡ length (part with_list to) =
        is_len ∙ cut-len list-cut to len list-begun ∙ ap (λ xss. length (part xss to)) list-parts in
        let more : len + 1 ≡ length (part with_list to ++ node ∷ []) =
        ap (λ m. m + 1) size ∙ sym (length-append (part with_list to) (node ∷ [])) in
        ap (λ ns. slice_set ns to (len + 1)) list-lens ∙ ap (slice_set (map length with_list) to) more
        ∙ sym (map-set length with_list to (part with_list to ++ node ∷ []))

    pushed-nodes : nodes' ≡ concat (with_node with_list to node)
    pushed-nodes =
        let at : end ≡ length (concat (take (suc to) with_list)) = cut-end list-cut to end list-begun ends
        ∙ ap (λ xss. length (concat (take (suc to) xss))) list-parts in
        put ∙ ap (λ m. insert nodes m node) at
        ∙ ap (λ ns. insert ns (length (concat (take (suc to) with_list))) node) list-nodes
        ∙ put-concat with_list to node list-in

    pub pushed-parts : parts_of (slice_set lens' to (len + 1)) nodes' ≡ with_node with_list to node
    pushed-parts = cut _ nodes' (with_node with_list to node) pushed-lens pushed-nodes

    pub pushed-cut : (room' slots' : ℕ) → n ≤ room' → l ≤ slots'
        → AreCut n l room' slots' (slice_set lens' to (len + 1)) nodes'
    pushed-cut room' slots' g h =
        cut-are n l room' slots' _ nodes' (with_node with_list to node) pushed-lens pushed-nodes g h

    pub pushed-plain : ArePlain
        (record { nodes = n; lists = l; parts = parts_of (slice_set lens' to (len + 1)) nodes' })
    pushed-plain = rw pushed-parts (plain-push _ list-plain to node list-in push.node_in list-free)

    pub pushed-list : (m : ℕ) → part (parts_of (slice_set lens' to (len + 1)) nodes') m
        ≡ (if m == to then part (parts_of lens nodes) m ++ node ∷ [] else part (parts_of lens nodes) m)
    pushed-list m = ap (λ xss. part xss m) pushed-parts ∙ pushed-part with_list to node m list-in
        ∙ ap (λ xs. if m == to then xs ++ node ∷ [] else xs) (begun-part (to + 1 - length lens) m (parts_of lens nodes))

-- ---- an unlink, whole

module _ (n l : ℕ) {room slots : ℕ} {lens nodes : List ℕ}
    (s : ArePlain (record { nodes = n; lists = l; parts = parts_of lens nodes }))
    (c : AreCut n l room slots lens nodes) (node home place len : ℕ)
    (some : 0 < times node (part (parts_of lens nodes) home))
    (stands : slice_get nodes place ≡ Some node) (is_len : len ≡ get_or lens home len) where
  home-in : home < length lens
  home-in = elim (cases_lt home (length lens)) [
    | inl lt ↦ lt
    | inr ge ↦ absurd (let e = ap (times node)
        (past home (parts_of lens nodes) (let k = cut-count c in omega (arith, k, ge))) in
        omega (arith, e, some))
  ]

  size : len ≡ length (part (parts_of lens nodes) home)
  size = is_len ∙ cut-len c home len home-in

  all-once : times node (concat (parts_of lens nodes)) ≤ 1
  all-once = s.once node

  unlinked-lens : slice_set lens home (len - 1) ≡ map length (without_all node (parts_of lens nodes))
  unlinked-lens = ap (λ m. slice_set lens home (m - 1)) size
      ∙ sym (ap (λ ns. slice_set ns home (length (part (parts_of lens nodes) home) - 1)) c.lens_are)
      ∙ without-lens node home (parts_of lens nodes) all-once some

  unlinked-nodes : remove nodes place ≡ concat (without_all node (parts_of lens nodes))
  unlinked-nodes = sym (ap (λ ns. remove ns place) c.nodes_are)
      ∙ remove-concat node place (parts_of lens nodes) (ap (λ ns. slice_get ns place) c.nodes_are ∙ stands) all-once

  pub unlinked-parts : parts_of (slice_set lens home (len - 1)) (remove nodes place)
      ≡ without_all node (parts_of lens nodes)
  unlinked-parts = cut _ _ (without_all node (parts_of lens nodes)) unlinked-lens unlinked-nodes

  pub unlinked-cut : (room' slots' : ℕ) → n ≤ room' → l ≤ slots'
      → AreCut n l room' slots' (slice_set lens home (len - 1)) (remove nodes place)
  unlinked-cut room' slots' g h =
      cut-are n l room' slots' _ _ (without_all node (parts_of lens nodes)) unlinked-lens unlinked-nodes g h

  pub unlinked-plain : ArePlain
      (record { nodes = n; lists = l; parts = parts_of (slice_set lens home (len - 1)) (remove nodes place) })
  unlinked-plain = rw unlinked-parts (plain-unlink _ s node)

  pub unlinked-list : (m : ℕ) → part (parts_of (slice_set lens home (len - 1)) (remove nodes place)) m
      ≡ without_node node (part (parts_of lens nodes) m)
  unlinked-list m = ap (λ xss. part xss m) unlinked-parts ∙ without-part node m (parts_of lens nodes)
