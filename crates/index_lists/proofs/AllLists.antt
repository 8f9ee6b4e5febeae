-- All lists of a store under a push and an unlink.
use Rattle.std.proofs.Common.{◌≡◌, ◌≢◌, ℕ, ◌+◌, ◌-◌, ◌<◌, ◌≤◌, ◌==◌, ◌⊎◌, inl, inr, cond, List, [], ◌∷◌, ◌++◌, length}
use Rattle.std.proofs.Common.{refl, sym, ap, ◌∙◌, arith, length-append, slice_index}
use Rattle.std.proofs.lemmas.Bool.{cases_eq, cases_lt}
use Rattle.index_lists.specs.Lists.{times, without_node, AreLists, lists_of}
use Rattle.index_lists.specs.Inside.Links.{nodes_from, IsLinked, AreLinksOf, PlainLinks}
use Rattle.index_lists.proofs.Times.{same_is, differ_is, cond_same, cond_other, times-append, times-without_same}
use Rattle.index_lists.proofs.Times.{times-without_other, length-without, distinct-length, times-later}
use Rattle.index_lists.proofs.Links.{skip, linked-follow, length-follow, back, forth, head, tail, frame, linked-push}
use Rattle.index_lists.proofs.Links.{linked-unlink}

-- a list is linked by equal ends and nodes too
relink : (none : ℕ) (next prev : ℕ → ℕ) (last last' before before' at at' : ℕ) (xs xs' : List ℕ) → last' ≡ last
    → before' ≡ before → at' ≡ at → xs' ≡ xs → IsLinked none next prev last before at xs
    → IsLinked none next prev last' before' at' xs'
relink none next prev last last' before before' at at' xs xs' e f g h c = rw (e, f, g, h) c

nothing-first : (none : ℕ) (next prev : ℕ → ℕ) (last before at y : ℕ) (xs : List ℕ)
    → IsLinked none next prev last before at xs → at ≡ none → times y xs ≡ 0
nothing-first none next prev last before at y [] c e = refl
nothing-first none next prev last before at y (x ∷ xs) c e = absurd (let a = c.0 in let b = c.1 in omega arith)

module _ {none nowhere : ℕ} {links : PlainLinks} {list : ℕ → List ℕ} (s : AreLinksOf none nowhere links list) where
  abbrev next : ℕ → ℕ
  next = slice_index links.next

  abbrev prev : ℕ → ℕ
  prev = slice_index links.prev

  abbrev home : ℕ → ℕ
  home = slice_index links.home

  abbrev first : ℕ → ℕ
  first = slice_index links.first

  abbrev last : ℕ → ℕ
  last = slice_index links.last

  abbrev len : ℕ → ℕ
  len = slice_index links.len

  -- the home of a node that is in a list is that list
  pub at-home : (l x : ℕ) → l < nowhere → x < none → 0 < times x (list l) → home x ≡ l
  at-home l x h i some = elim (cases_eq (home x) l) [
    | inl e ↦ e
    | inr ne ↦ absurd (let t = s.held l x h i ∙ cond_other (home x) l 1 0 ne in omega arith)
  ]

  pub at-home-once : (l x : ℕ) → l < nowhere → x < none → home x ≡ l → times x (list l) ≡ 1
  at-home-once l x h i e = s.held l x h i ∙ cond_same (home x) l 1 0 e

  pub away : (l x : ℕ) → l < nowhere → x < none → home x ≢ l → times x (list l) ≡ 0
  away l x h i ne = s.held l x h i ∙ cond_other (home x) l 1 0 ne

  pub home-of_free : (x : ℕ) → x < none → ((l : ℕ) → times x (list l) ≡ 0) → home x ≡ nowhere
  home-of_free x i f = elim (cases_lt (home x) nowhere) [
    | inl lt ↦ absurd (let t = at-home-once (home x) x lt i refl in let z = f (home x) in omega arith)
    | inr ge ↦ (let b = s.homes x i in omega arith)
  ]

  -- the last node of a list has the list as its home and leads to none
  pub last-home : (l : ℕ) → l < nowhere → last l < none → (home (last l) ≡ l) × (next (last l) ≡ none)
  last-home l h i = elim (tail none next prev (last l) none (first l) (list l) (s.linked l h)) [
    | inl p ↦ absurd (let e = p.0 in omega arith)
    | inr p ↦ (at-home l (last l) h i p.0, p.1)
  ]

  pub first-home : (l : ℕ) → l < nowhere → first l < none → (home (first l) ≡ l) × (prev (first l) ≡ none)
  first-home l h i =
      let p = head none next prev (last l) none (first l) (list l) (s.linked l h) i in
      (at-home l (first l) h i p.1, p.0)

  beyond_none : (l x : ℕ) (before at : ℕ) (ys : List ℕ) → none ≤ x → IsLinked none next prev (last l) before at ys
      → times x ys ≡ 0
  beyond_none l x before at [] ge c = refl
  beyond_none l x before at (y ∷ ys) ge c =
      times-later y x ys (λ e. (let b = c.1 in omega arith)) ∙ beyond_none l x y (next y) ys ge c.3

  -- each node is in one list at most, and once
  pub store-are : AreLists (lists_of none nowhere list)
  store-are = record {
    below = held-below;
    once = λ l x. elim (cases_lt 0 (times x (list l))) [
      | inl h ↦ (let b = held-below l x h in elim (cases_eq (home x) l) [
        | inl e ↦ (let t = at-home-once l x (in-one l x h) b e in omega arith)
        | inr d ↦ (let t = away l x (in-one l x h) b d in omega arith)
      ])
      | inr z ↦ omega arith
    ];
    apart = λ l m x h k. sym (at-home l x (in-one l x h) (held-below l x h) h)
        ∙ at-home m x (in-one m x k) (held-below m x k) k;
    beyond = s.beyond;
  }
    where
      in-one : (l x : ℕ) → 0 < times x (list l) → l < nowhere
      in-one l x h = elim (cases_lt l nowhere) [
        | inl lt ↦ lt
        | inr ge ↦ absurd (let e = ap (times x) (s.beyond l ge) in omega arith)
      ]

      held-below : (l x : ℕ) → 0 < times x (list l) → x < none
      held-below l x h = elim (cases_lt x none) [
        | inl lt ↦ lt
        | inr ge ↦ absurd (let z = beyond_none l x none (first l) (list l) ge (s.linked l (in-one l x h)) in
            omega arith)
      ]

  -- each list has room for a node that is in no list
  pub room : (l node : ℕ) → l < nowhere → node < none → home node ≡ nowhere → len l < none
  room l node h i e =
      let xs = list l ++ node ∷ [] in
      let away_node : times node (list l) ≡ 0 = away l node h i (λ d. omega arith) in
      let once = λ (x : ℕ). elim (cases_lt x none) as (λ _. times x xs ≤ 1) [
        | inl lt ↦ (let t = times-append x (list l) (node ∷ []) in elim (cases_eq node x) [
          | inl d ↦ (let t2 : times x (node ∷ []) ≡ 1 = rw (same_is node x d) refl in let z : times x (list l) ≡ 0 =
              rw (← d) away_node in omega arith)
          | inr d ↦ (let t2 : times x (node ∷ []) ≡ 0 = rw (differ_is node x d) refl in elim (cases_eq (home x) l) [
            | inl hx ↦ (let o = at-home-once l x h lt hx in omega arith)
            | inr hx ↦ (let o = away l x h lt hx in omega arith)
          ])
        ])
        | inr ge ↦ (let z = out x ge in omega arith)
      ] in
      let all = distinct-length none xs once out in
      let size = length-append (list l) (node ∷ []) in
      let sized = s.sized l h in
      omega arith
    where
      out : (x : ℕ) → none ≤ x → times x (list l ++ node ∷ []) ≡ 0
      out x ge = times-append x (list l) (node ∷ [])
          ∙ rw (beyond_none l x none (first l) (list l) ge (s.linked l h), differ_is node x (λ e. omega arith)) refl

  -- if the link of a node leads to another, that one leads back
  pub next-only : (node x : ℕ) → node < none → x < none → next x ≡ node → prev node ≡ x
  next-only node x i j e = elim (cases_lt (home x) nowhere) [
    | inl lt ↦ elim (forth none next prev (last (home x)) none (first (home x)) x (list (home x)) (s.linked (home x) lt)
        (let o = at-home-once (home x) x lt j refl in omega arith)) [
          | inl p ↦ absurd (let a = p.0 in omega arith)
          | inr p ↦ sym (ap prev e) ∙ p.1
        ]
    | inr ge ↦ absurd (let h : home x ≡ nowhere = (let b = s.homes x j in omega arith) in let a = (s.loose x j h).0 in
        omega arith)
  ]

  pub prev-only : (node x : ℕ) → node < none → x < none → prev x ≡ node → next node ≡ x
  prev-only node x i j e = elim (cases_lt (home x) nowhere) [
    | inl lt ↦ elim (back none next prev (last (home x)) none (first (home x)) x (list (home x)) (s.linked (home x) lt)
        (let o = at-home-once (home x) x lt j refl in omega arith)) [
          | inl p ↦ absurd (let a = p.1 in omega arith)
          | inr p ↦ sym (ap next e) ∙ p.1
        ]
    | inr ge ↦ absurd (let h : home x ≡ nowhere = (let b = s.homes x j in omega arith) in let a = (s.loose x j h).1 in
        omega arith)
  ]

  -- in a list either the first link or the link of the node before leads to a node
  pub from_back : (node : ℕ) → node < none → home node < nowhere
      → ((first (home node) ≡ node) × (prev node ≡ none)) ⊎ ((prev node < none) × (next (prev node) ≡ node))
  from_back node i h = back none next prev (last (home node)) none (first (home node)) node (list (home node))
      (s.linked (home node) h) (let o = at-home-once (home node) node h i refl in omega arith)

  pub from_forth : (node : ℕ) → node < none → home node < nowhere
      → ((next node ≡ none) × (node ≡ last (home node))) ⊎ ((next node < none) × (prev (next node) ≡ node))
  from_forth node i h = forth none next prev (last (home node)) none (first (home node)) node (list (home node))
      (s.linked (home node) h) (let o = at-home-once (home node) node h i refl in omega arith)

  -- the links give the nodes of each list
  pub seen : ((l : ℕ) → nowhere ≤ l → len l ≡ 0) → (l : ℕ) → nodes_from next (first l) (len l) ≡ list l
  seen past l = elim (cases_lt l nowhere) [
    | inl lt ↦ rw (s.sized l lt) (linked-follow none next prev (last l) none (first l) (list l) (s.linked l lt))
    | inr ge ↦ rw (past l ge, s.beyond l ge) refl
  ]

  pub settle : ((l : ℕ) → nowhere ≤ l → len l ≡ 0)
      → AreLinksOf none nowhere links (λ l. nodes_from next (first l) (len l))
  settle past = record {
    linked = λ l h. rw (seen past l) (s.linked l h);
    sized = λ l h. sym (length-follow next (first l) (len l));
    beyond = λ l h. seen past l ∙ s.beyond l h;
    held = λ l x h i. rw (seen past l) (s.held l x h i);
    homes = s.homes;
    loose = s.loose;
  }

  -- a push
  module _ (links' : PlainLinks) (to node : ℕ) (to_in : to < nowhere) (node_in : node < none)
      (loose_node : home node ≡ nowhere)
      (nexts : (x : ℕ) → x < none → slice_index links'.next x ≡ cond (x == last to) node (next x))
      (prevs : (x : ℕ) → x < none → slice_index links'.prev x ≡ cond (x == node) (last to) (prev x))
      (homes' : (x : ℕ) → x < none → slice_index links'.home x ≡ cond (x == node) to (home x))
      (firsts : (l : ℕ) → l < nowhere
      → slice_index links'.first l ≡ cond (l == to) (cond (last to == none) node (first l)) (first l))
      (lasts : (l : ℕ) → l < nowhere → slice_index links'.last l ≡ cond (l == to) node (last l))
      (lens : (l : ℕ) → l < nowhere → slice_index links'.len l ≡ cond (l == to) (len l + 1) (len l)) where
    pushed_list : ℕ → List ℕ
    pushed_list l = cond (l == to) (list l ++ node ∷ []) (list l)

    pushed_here : (l : ℕ) → l ≡ to → pushed_list l ≡ list l ++ node ∷ []
    unfolding pushed_list
    pushed_here l e = cond_same l to (list l ++ node ∷ []) (list l) e

    pushed_there : (l : ℕ) → l ≢ to → pushed_list l ≡ list l
    unfolding pushed_list
    pushed_there l ne = cond_other l to (list l ++ node ∷ []) (list l) ne

    apart : (x : ℕ) → x < none → home x < nowhere → x ≢ node
    apart x i h e = let d = ap home e in omega arith

    last_apart : (x : ℕ) → x < none → home x ≢ to → x ≢ last to
    last_apart x i ne e = ne (ap home e ∙ (last-home to to_in (rw (← e) i)).0)

    last_loose : node ≢ last to
    last_loose = last_apart node node_in (λ e. omega arith)

    same_first : cond (last to == none) node (first to) ≡ cond (first to == none) node (first to)
    same_first = elim (tail none next prev (last to) none (first to) (list to) (s.linked to to_in)) [
      | inl p ↦ cond_same (last to) none node (first to) (sym p.0) ∙ sym (cond_same (first to) none node (first to) p.1)
      | inr p ↦ (
          let some : first to ≢ none = λ e.
          (let z = nothing-first none next prev (last to) none (first to) (last to) (list to)
          (s.linked to to_in) e in let t = p.0 in omega arith) in
          cond_other (last to) none node (first to) (λ e. (let b = p.2 in omega arith))
          ∙ sym (cond_other (first to) none node (first to) some)
          )
    ]

    pushed_linked : (l : ℕ) → l < nowhere
        → IsLinked none (slice_index links'.next) (slice_index links'.prev) (slice_index links'.last l) none
        (slice_index links'.first l) (pushed_list l)
    pushed_linked l h = elim (cases_eq l to) [
      | inl e ↦ (
          let same : (x : ℕ) → 0 < times x (list to) → x < none
          → (slice_index links'.next x ≡ cond (x == last to) node (next x)) × (slice_index links'.prev x ≡ prev x) =
          λ x some i. (
          let hx = at-home to x to_in i some in
          (nexts x i, prevs x i ∙ cond_other x node (last to) (prev x) (apart x i (omega arith)))) in
          let n : slice_index links'.next node ≡ none =
          nexts node node_in ∙ cond_other node (last to) node (next node) last_loose
          ∙ (s.loose node node_in loose_node).0 in
          let p : slice_index links'.prev node ≡ last to =
          prevs node node_in ∙ cond_same node node (last to) (prev node) refl in
          let done = linked-push none next prev (slice_index links'.next) (slice_index links'.prev) (last to) none
          (first to) node (list to) node_in same n p (λ i. (last-home to to_in i).1) (s.linked to to_in) in
          let f : slice_index links'.first l ≡ cond (first to == none) node (first to) =
          firsts l h ∙ cond_same l to (cond (last to == none) node (first l)) (first l) e
          ∙ ap (λ k. cond (last to == none) node (first k)) e ∙ same_first in
          let a : slice_index links'.last l ≡ node = lasts l h ∙ cond_same l to node (last l) e in
          let xs : pushed_list l ≡ list to ++ node ∷ [] = pushed_here l e ∙ ap (λ k. list k ++ node ∷ []) e in
          relink none (slice_index links'.next) (slice_index links'.prev) node (slice_index links'.last l) none none
          (cond (first to == none) node (first to)) (slice_index links'.first l) (list to ++ node ∷ [])
          (pushed_list l) a refl f xs done
          )
      | inr ne ↦ (
          let same : (x : ℕ) → 0 < times x (list l) → x < none → (slice_index links'.next x ≡ next x)
          × (slice_index links'.prev x ≡ prev x) = λ x some i. (
          let hx = at-home l x h i some in (
            nexts x i ∙ cond_other x (last to) node (next x) (last_apart x i (λ d. ne (sym hx ∙ d))),
            prevs x i ∙ cond_other x node (last to) (prev x) (apart x i (omega arith)),
          )) in
          let done = frame none next prev (slice_index links'.next) (slice_index links'.prev) (last l) none (first l)
          (list l) same (s.linked l h) in
          relink none (slice_index links'.next) (slice_index links'.prev) (last l) (slice_index links'.last l) none none
          (first l) (slice_index links'.first l) (list l) (pushed_list l)
          (lasts l h ∙ cond_other l to node (last l) ne) refl
          (firsts l h ∙ cond_other l to (cond (last to == none) node (first l)) (first l) ne)
          (pushed_there l ne) done
          )
    ]

    pub push-store : AreLinksOf none nowhere links' (λ l. cond (l == to) (list l ++ node ∷ []) (list l))
    unfolding pushed_list
    push-store = record {
      linked = pushed_linked;
      sized = λ l h. elim (cases_eq l to) [
        | inl e ↦ lens l h ∙ cond_same l to (len l + 1) (len l) e ∙ ap (λ n. n + 1) (s.sized l h)
            ∙ sym (length-append (list l) (node ∷ [])) ∙ ap length (sym (pushed_here l e))
        | inr ne ↦ lens l h ∙ cond_other l to (len l + 1) (len l) ne ∙ s.sized l h ∙ ap length (sym (pushed_there l ne))
      ];
      beyond = λ l h. pushed_there l (λ e. omega arith) ∙ s.beyond l h;
      held = λ l x h i. elim (cases_eq x node) [
        | inl e ↦ elim (cases_eq l to) [
          | inl d ↦ (let a = away l x h i (λ w. (let w2 = ap home e in omega arith)) in
              ap (times x) (pushed_here l d) ∙ times-append x (list l) (node ∷ [])
              ∙ rw (a, same_is node x (sym e), homes' x i, same_is x node e, same_is to l (sym d)) refl)
          | inr ne ↦ (let a = away l x h i (λ w. (let w2 = ap home e in omega arith)) in
              ap (times x) (pushed_there l ne)
              ∙ rw (a, homes' x i, same_is x node e, differ_is to l (λ w. ne (sym w))) refl)
        ]
        | inr nx ↦ elim (cases_eq l to) [
          | inl d ↦ (let t = s.held l x h i in
              ap (times x) (pushed_here l d) ∙ times-append x (list l) (node ∷ [])
              ∙ rw (differ_is node x (λ w. nx (sym w)), homes' x i, differ_is x node nx) (omega arith))
          | inr ne ↦ ap (times x) (pushed_there l ne) ∙ rw (homes' x i, differ_is x node nx) (s.held l x h i)
        ]
      ];
      homes = λ x i. (let b = s.homes x i in elim (cases_eq x node) [
        | inl e ↦ rw (homes' x i, same_is x node e) (omega arith)
        | inr ne ↦ rw (homes' x i, differ_is x node ne) b
      ]);
      loose = λ x i h. elim (cases_eq x node) [
        | inl e ↦ absurd (let a = homes' x i ∙ cond_same x node to (home x) e in omega arith)
        | inr ne ↦ (
            let hx : home x ≡ nowhere = sym (homes' x i ∙ cond_other x node to (home x) ne) ∙ h in
            let p = s.loose x i hx in (
              nexts x i ∙ cond_other x (last to) node (next x) (last_apart x i (λ w. omega arith)) ∙ p.0,
              prevs x i ∙ cond_other x node (last to) (prev x) ne ∙ p.1,
            )
            )
      ];
    }

  -- an unlink
  module _ (links' : PlainLinks) (node : ℕ) (node_in : node < none) (home_in : home node < nowhere)
      (nexts : (x : ℕ) → x < none → slice_index links'.next x
      ≡ cond (x == node) none (cond (x == prev node) (next node) (next x)))
      (prevs : (x : ℕ) → x < none → slice_index links'.prev x
      ≡ cond (x == node) none (cond (x == next node) (prev node) (prev x)))
      (homes' : (x : ℕ) → x < none → slice_index links'.home x ≡ cond (x == node) nowhere (home x))
      (firsts : (l : ℕ) → l < nowhere
      → slice_index links'.first l ≡ cond (l == home node) (cond (prev node == none) (next node) (first l))
      (first l))
      (lasts : (l : ℕ) → l < nowhere
      → slice_index links'.last l ≡ cond (l == home node) (cond (next node == none) (prev node) (last l)) (last l))
      (lens : (l : ℕ) → l < nowhere → slice_index links'.len l ≡ cond (l == home node) (len l - 1) (len l)) where
    next_skips : (x : ℕ) → x < none → x ≢ node → slice_index links'.next x ≡ skip next node (next x)
    next_skips x i ne = nexts x i ∙ cond_other x node none (cond (x == prev node) (next node) (next x)) ne
        ∙ elim (cases_eq x (prev node)) [
          | inl e ↦ (
              let to_node : next x ≡ node = elim (from_back node node_in home_in) [
                | inl p ↦ absurd (let a = p.1 in omega arith)
                | inr p ↦ ap next e ∙ p.1
              ] in
              cond_same x (prev node) (next node) (next x) e
              ∙ sym (cond_same (next x) node (next node) (next x) to_node)
              )
          | inr d ↦ cond_other x (prev node) (next node) (next x) d
              ∙ sym (cond_other (next x) node (next node) (next x) (λ e. d (sym (next-only node x node_in i e))))
        ]

    prev_skips : (x : ℕ) → x < none → x ≢ node → slice_index links'.prev x ≡ skip prev node (prev x)
    prev_skips x i ne = prevs x i ∙ cond_other x node none (cond (x == next node) (prev node) (prev x)) ne
        ∙ elim (cases_eq x (next node)) [
          | inl e ↦ (
              let to_node : prev x ≡ node = elim (from_forth node node_in home_in) [
                | inl p ↦ absurd (let a = p.0 in omega arith)
                | inr p ↦ ap prev e ∙ p.1
              ] in
              cond_same x (next node) (prev node) (prev x) e
              ∙ sym (cond_same (prev x) node (prev node) (prev x) to_node)
              )
          | inr d ↦ cond_other x (next node) (prev node) (prev x) d
              ∙ sym (cond_other (prev x) node (prev node) (prev x) (λ e. d (sym (prev-only node x node_in i e))))
        ]

    first_skips : (l : ℕ) → l < nowhere → slice_index links'.first l ≡ skip next node (first l)
    first_skips l h = firsts l h ∙ elim (cases_eq l (home node)) [
      | inl e ↦ cond_same l (home node) (cond (prev node == none) (next node) (first l)) (first l) e
          ∙ elim (cases_eq (prev node) none) [
            | inl p ↦ (
                let to_node : first l ≡ node = elim (from_back node node_in home_in) [
                  | inl q ↦ ap first e ∙ q.0
                  | inr q ↦ absurd (let a = q.0 in omega arith)
                ] in
                cond_same (prev node) none (next node) (first l) p
                ∙ sym (cond_same (first l) node (next node) (first l) to_node)
                )
            | inr p ↦ cond_other (prev node) none (next node) (first l) p
                ∙ sym (cond_other (first l) node (next node) (first l)
                (λ d. p (sym (ap prev d) ∙ (first-home l h (omega arith)).1)))
          ]
      | inr ne ↦ cond_other l (home node) (cond (prev node == none) (next node) (first l)) (first l) ne
          ∙ sym (cond_other (first l) node (next node) (first l)
          (λ d. ne (sym (first-home l h (omega arith)).0 ∙ ap home d)))
    ]

    last_skips : (l : ℕ) → l < nowhere → slice_index links'.last l ≡ skip prev node (last l)
    last_skips l h = lasts l h ∙ elim (cases_eq l (home node)) [
      | inl e ↦ cond_same l (home node) (cond (next node == none) (prev node) (last l)) (last l) e
          ∙ elim (cases_eq (next node) none) [
            | inl p ↦ (
                let to_node : last l ≡ node = elim (from_forth node node_in home_in) [
                  | inl q ↦ ap last e ∙ sym q.1
                  | inr q ↦ absurd (let a = q.0 in omega arith)
                ] in
                cond_same (next node) none (prev node) (last l) p
                ∙ sym (cond_same (last l) node (prev node) (last l) to_node)
                )
            | inr p ↦ cond_other (next node) none (prev node) (last l) p
                ∙ sym (cond_other (last l) node (prev node) (last l)
                (λ d. p (sym (ap next d) ∙ (last-home l h (omega arith)).1)))
          ]
      | inr ne ↦ cond_other l (home node) (cond (next node == none) (prev node) (last l)) (last l) ne
          ∙ sym (cond_other (last l) node (prev node) (last l)
          (λ d. ne (sym (last-home l h (omega arith)).0 ∙ ap home d)))
    ]

    unlinked_linked : (l : ℕ) → l < nowhere
        → IsLinked none (slice_index links'.next) (slice_index links'.prev) (slice_index links'.last l) none
        (slice_index links'.first l) (without_node node (list l))
    unlinked_linked l h =
        let done = linked-unlink none next prev (slice_index links'.next) (slice_index links'.prev) (last l) none
        (first l) node (list l) node_in (λ x i ne. (next_skips x i ne, prev_skips x i ne)) (s.linked l h) in
        relink none (slice_index links'.next) (slice_index links'.prev) (skip prev node (last l))
        (slice_index links'.last l) (skip prev node none) none (skip next node (first l))
        (slice_index links'.first l) (without_node node (list l)) (without_node node (list l)) (last_skips l h)
        (sym (cond_other none node (prev node) none (λ e. omega arith))) (first_skips l h) refl done

    pub unlink-store : AreLinksOf none nowhere links' (λ l. without_node node (list l))
    unlink-store = record {
      linked = unlinked_linked;
      sized = λ l h. (
          let size = length-without node (list l) in
          let was = s.sized l h in
          let held = s.held l node h node_in in
          lens l h ∙ elim (cases_eq l (home node)) [
            | inl e ↦ (let t = at-home-once l node h node_in (sym e) in
                cond_same l (home node) (len l - 1) (len l) e ∙ omega arith)
            | inr ne ↦ (let t = away l node h node_in (λ d. ne (sym d)) in
                cond_other l (home node) (len l - 1) (len l) ne ∙ omega arith)
          ]);
      beyond = λ l h. ap (without_node node) (s.beyond l h);
      held = λ l x h i. elim (cases_eq x node) [
        | inl e ↦ rw (homes' x i, same_is x node e, e, differ_is nowhere l (λ d. omega arith))
            (times-without_same node (list l))
        | inr ne ↦ times-without_other node x (list l) ne ∙ rw (homes' x i, differ_is x node ne) (s.held l x h i)
      ];
      homes = λ x i. (let b = s.homes x i in elim (cases_eq x node) [
        | inl e ↦ rw (homes' x i, same_is x node e) (omega arith)
        | inr ne ↦ rw (homes' x i, differ_is x node ne) b
      ]);
      loose = λ x i h. elim (cases_eq x node) [
        | inl e ↦ (
          nexts x i ∙ cond_same x node none (cond (x == prev node) (next node) (next x)) e,
          prevs x i ∙ cond_same x node none (cond (x == next node) (prev node) (prev x)) e,
        )
        | inr ne ↦ (
            let hx : home x ≡ nowhere = sym (homes' x i ∙ cond_other x node nowhere (home x) ne) ∙ h in
            let p = s.loose x i hx in (
              next_skips x i ne ∙ cond_other (next x) node (next node) (next x) (λ e. (let a = p.0 in omega arith))
                  ∙ p.0,
              prev_skips x i ne ∙ cond_other (prev x) node (prev node) (prev x)
                  (λ e. (let a = p.1 in omega arith)) ∙ p.1,
            )
            )
      ];
    }
