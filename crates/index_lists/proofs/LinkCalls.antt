-- Each call of the links, in the code's own shape.
use Rattle.std.proofs.Common.{◌≡◌, ℕ, ◌+◌, ◌-◌, ◌<◌, ◌≤◌, ◌==◌, inl, inr, cond, zero, suc, List, [], ◌∷◌, ◌++◌, length}
use Rattle.std.proofs.Common.{refl, sym, ap, subst, ◌∙◌, arith, slice_index, slice_set, get_or-set_same}
use Rattle.std.proofs.Common.{get_or-set_other, length-set, Option, Some, None, IfSome, MatchOption, slice_get}
use Rattle.std.proofs.Common.{slice_index_or, replicate}
use Rattle.std.proofs.lemmas.List.{get_or-replicate, length-replicate}
use Rattle.std.proofs.lemmas.Bool.{cases_eq, cases_lt}
use Rattle.index_lists.specs.Lists.{times, without_node, IsFree, IsIn, IsHome, AreLists, AreSame, empty_lists}
use Rattle.index_lists.specs.Lists.{node_pushed, node_unlinked}
use Rattle.index_lists.specs.Links.{Chains}
use Rattle.index_lists.specs.Inside.Links.{IsLinked, PlainLinks, AreLinksOf, IsLinks, chains_of, chain_list}
use Rattle.index_lists.specs.Inside.Links.{chained_lists, unless_none, next_pointed, prev_pointed, node_placed}
use Rattle.index_lists.specs.Inside.Links.{node_loosened, list_appended, list_shortened}
use Rattle.index_lists.proofs.Times.{same_is, differ_is, cond_same, cond_other, length-without}
use Rattle.index_lists.proofs.AllLists.{store-are, home-of_free, room, at-home, seen, settle, push-store, unlink-store}
use Rattle.index_lists.proofs.AllLists.{from_back, from_forth, at-home-once}
use Rattle.index_lists.proofs.Links.{tail}
use Rattle.index_lists.proofs.Fields.{bare}
use Rattle.index_lists.proofs.LinkAnswers.{first-read, last-read, after-read, before-read, front-read, unless-below}

pub read-set : (xs : List ℕ) (i v x : ℕ) → x < length xs
    → slice_index (slice_set xs i v) x ≡ cond (x == i) v (slice_index xs x)
read-set xs i v x h = elim (cases_eq x i) [
  | inl e ↦ rw (e) (get_or-set_same xs i v 0 (rw (← e) h)) ∙ sym (cond_same x i v (slice_index xs x) e)
  | inr ne ↦ get_or-set_other xs i x v 0 ne ∙ sym (cond_other x i v (slice_index xs x) ne)
]

read-past : (xs : List ℕ) (i : ℕ) → length xs ≤ i → slice_index xs i ≡ 0
read-past [] i h = refl
read-past (x ∷ xs) zero h = absurd (omega arith)
read-past (x ∷ xs) (suc i) h = read-past xs i (omega arith)

pub end-below : (none : ℕ) (next prev : ℕ → ℕ) (last at : ℕ) (xs : List ℕ) → IsLinked none next prev last none at xs
    → last ≤ none
end-below none next prev last at xs c = elim (tail none next prev last none at xs c) [
  | inl p ↦ (let e = p.0 in omega arith)
  | inr p ↦ (let b = p.2 in omega arith)
]

-- a changed place has the change, and every other place is as before
read-changed : (xs : List ℕ) (f : ℕ → ℕ) (i x : ℕ) → x < length xs
    → slice_index (slice_set xs i (f (slice_index xs i))) x ≡ cond (x == i) (f (slice_index xs x)) (slice_index xs x)
read-changed xs f i x h = read-set xs i (f (slice_index xs i)) x h ∙ elim (cases_eq x i) [
  | inl e ↦ rw e refl
  | inr ne ↦ rw (differ_is x i ne) refl
]

-- the end of one list is set if the link there leads to no node
read-end : (none : ℕ) (links ends : List ℕ) (to at node l : ℕ) → length links ≡ none → l < length ends
    → slice_index (cond (at == length links) (slice_set ends to node) ends) l
    ≡ cond (l == to) (cond (at == none) node (slice_index ends l)) (slice_index ends l)
read-end none links ends to at node l size h = rw size (elim (cases_eq at none) [
  | inl e ↦ rw (same_is at none e) (read-set ends to node l h)
  | inr ne ↦ rw (differ_is at none ne) (elim (cases_eq l to) [
    | inl d ↦ rw (same_is l to d) refl
    | inr d ↦ rw (differ_is l to d) refl
  ])
])

length-end : (N : ℕ) (ends : List ℕ) (to at node : ℕ)
    → length (cond (at == N) (slice_set ends to node) ends) ≡ length ends
length-end N ends to at node = elim (cases_eq at N) [
  | inl e ↦ rw (same_is at N e) (length-set ends to node)
  | inr ne ↦ rw (differ_is at N ne) refl
]

-- the links after a push
abbrev pub grown : PlainLinks → ℕ → ℕ → PlainLinks
grown s to node =
    let at = slice_index s.last to in
    list_appended (node_placed (next_pointed s at to node) node at to) to node

pub push-written : (a : PlainLinks) {b c d : PlainLinks} (to node : ℕ) {at : ℕ} → at ≡ slice_index a.last to
    → b ≡ next_pointed a at to node → c ≡ node_placed b node at to → d ≡ list_appended c to node → d ≡ grown a to node
push-written a to node at_is one two three = rw (three, two, one, at_is) refl

-- the links after an unlink
abbrev pub shrunk : ℕ → ℕ → PlainLinks → ℕ → PlainLinks
shrunk nodes lists s node =
    let behind = slice_index s.next node in
    let before = slice_index s.prev node in
    let list = slice_index s.home node in
    list_shortened (node_loosened
    (prev_pointed (next_pointed s before list behind) behind list before) node nodes lists) list

pub unlink-written : (nodes lists : ℕ) (a : PlainLinks) {b c d e : PlainLinks} (node : ℕ) {behind before list : ℕ}
    → behind ≡ slice_index a.next node → before ≡ slice_index a.prev node → list ≡ slice_index a.home node
    → b ≡ next_pointed a before list behind → c ≡ prev_pointed b behind list before
    → d ≡ node_loosened c node nodes lists → e ≡ list_shortened d list → e ≡ shrunk nodes lists a node
unlink-written nodes lists a node behind_is before_is list_is one two three four =
    rw (four, three, two, one, behind_is, before_is, list_is) refl

module _ {nodes lists : ℕ} {s : PlainLinks} {v : Chains} (view : chains_of nodes lists s ≡ v)
    (is : IsLinks nodes lists s) where
  lists-are : lists ≡ v.lists
  lists-are = ap (λ w. w.lists) view

  nodes-are : nodes ≡ v.nodes
  nodes-are = ap (λ w. w.nodes) view

  here : {node : ℕ} → node < v.nodes → node < nodes
  here h = rw nodes-are h

  store_here : AreLinksOf nodes lists s (chain_list v)
  store_here = subst (λ w. AreLinksOf nodes lists s (chain_list w)) view is.store

  pub last-in : (to : ℕ) → to < v.lists → slice_index s.last to ≤ nodes
  last-in to h = end-below nodes (slice_index s.next) (slice_index s.prev) (slice_index s.last to)
      (slice_index s.first to) (chain_list v to) (store_here.linked to (rw lists-are h))

  -- a push
  module _ (to node : ℕ) (to_in : to < v.lists) (node_in : node < v.nodes) (free : IsFree (chained_lists v) node) where
    to_here : to < lists
    to_here = rw lists-are to_in

    no_home : slice_index s.home node ≡ lists
    no_home = home-of_free store_here node (here node_in) free.free

    pub push-room : slice_index s.len to < nodes
    push-room = room store_here to node to_here (here node_in) no_home

    pushed-all : AreLinksOf nodes lists (grown s to node)
        (λ l. cond (l == to) (chain_list v l ++ node ∷ []) (chain_list v l))
    pushed-all = push-store store_here (grown s to node) to node to_here (here node_in) no_home
        (λ x i. read-set s.next (slice_index s.last to) node x (rw is.next_length i))
        (λ x i. read-set s.prev node (slice_index s.last to) x (rw is.prev_length i))
        (λ x i. read-set s.home node to x (rw is.home_length i))
        (λ l h. read-end nodes s.next s.first to (slice_index s.last to) node l is.next_length (rw is.first_length h))
        (λ l h. read-set s.last to node l (rw is.last_length h))
        (λ l h. read-changed s.len (λ n. n + 1) to l (rw is.len_length h))

    none-past : (l : ℕ) → lists ≤ l → slice_index (grown s to node).len l ≡ 0
    none-past l h =
        read-past (grown s to node).len l (rw (length-set s.len to (slice_index s.len to + 1), is.len_length) h)

    pub push-links : IsLinks nodes lists (grown s to node)
    push-links = record {
      next_length = length-set s.next _ node ∙ is.next_length;
      prev_length = length-set s.prev node _ ∙ is.prev_length;
      home_length = length-set s.home node to ∙ is.home_length;
      first_length = length-end _ s.first to _ node ∙ is.first_length;
      last_length = length-set s.last to node ∙ is.last_length;
      len_length = length-set s.len to _ ∙ is.len_length;
      store = settle pushed-all none-past;
    }

    pub push-same : AreSame (chained_lists (chains_of nodes lists (grown s to node)))
        (node_pushed (chained_lists v) to node)
    push-same = record { same_nodes = nodes-are; same_lists = lists-are; same_list = seen pushed-all none-past }

  -- an unlink
  module _ (node : ℕ) (node_in : node < v.nodes) (stands : IsIn (chained_lists v) node) where
    abbrev behind : ℕ
    behind = slice_index s.next node

    abbrev before : ℕ
    before = slice_index s.prev node

    abbrev list : ℕ
    list = slice_index s.home node

    pub home-in : list < lists
    home-in =
        let in_one : stands.0 < lists = elim (cases_lt stands.0 lists) [
          | inl lt ↦ lt
          | inr ge ↦ absurd (let e = ap (times node) (store_here.beyond stands.0 ge) in let some = stands.1 in
              omega arith)
        ] in
        rw (at-home store_here stands.0 node in_one (here node_in) stands.1) in_one

    pub before-in : before ≤ nodes
    before-in = elim (from_back store_here node (here node_in) home-in) [
      | inl q ↦ (let e = q.1 in omega arith)
      | inr q ↦ (let e = q.0 in omega arith)
    ]

    pub behind-in : behind ≤ nodes
    behind-in = elim (from_forth store_here node (here node_in) home-in) [
      | inl q ↦ (let e = q.0 in omega arith)
      | inr q ↦ (let e = q.0 in omega arith)
    ]

    pub some-left : 0 < slice_index s.len list
    some-left =
        let size = length-without node (chain_list v list) in
        let sized = store_here.sized list home-in in
        let once = at-home-once store_here list node home-in (here node_in) refl in
        omega arith

    unlinked-all : AreLinksOf nodes lists (shrunk nodes lists s node) (λ l. without_node node (chain_list v l))
    unlinked-all = unlink-store store_here (shrunk nodes lists s node) node (here node_in) home-in
        (λ x i. read-set (slice_set s.next before behind) node nodes x
        (rw (length-set s.next before behind, is.next_length) i)
        ∙ ap (cond (x == node) nodes) (read-set s.next before behind x (rw is.next_length i)))
        (λ x i. read-set (slice_set s.prev behind before) node nodes x
        (rw (length-set s.prev behind before, is.prev_length) i)
        ∙ ap (cond (x == node) nodes) (read-set s.prev behind before x (rw is.prev_length i)))
        (λ x i. read-set s.home node lists x (rw is.home_length i))
        (λ l h. read-end nodes s.next s.first list before behind l is.next_length (rw is.first_length h))
        (λ l h. read-end nodes s.prev s.last list behind before l is.prev_length (rw is.last_length h))
        (λ l h. read-changed s.len (λ n. n - 1) list l (rw is.len_length h))

    left-past : (l : ℕ) → lists ≤ l → slice_index (shrunk nodes lists s node).len l ≡ 0
    left-past l h = read-past (shrunk nodes lists s node).len l
        (rw (length-set s.len list (slice_index s.len list - 1), is.len_length) h)

    pub unlink-links : IsLinks nodes lists (shrunk nodes lists s node)
    unlink-links = record {
      next_length = length-set _ node nodes ∙ length-set s.next before behind ∙ is.next_length;
      prev_length = length-set _ node nodes ∙ length-set s.prev behind before ∙ is.prev_length;
      home_length = length-set s.home node lists ∙ is.home_length;
      first_length = length-end _ s.first list before behind ∙ is.first_length;
      last_length = length-end _ s.last list behind before ∙ is.last_length;
      len_length = length-set s.len list _ ∙ is.len_length;
      store = settle unlinked-all left-past;
    }

    pub unlink-same : AreSame (chained_lists (chains_of nodes lists (shrunk nodes lists s node)))
        (node_unlinked (chained_lists v) node)
    unlink-same = record { same_nodes = nodes-are; same_lists = lists-are; same_list = seen unlinked-all left-past }

  -- ---- reads
  pub lists-kept : AreLists (chained_lists v)
  lists-kept = rw (← nodes-are, ← lists-are) (store-are store_here)

  in-one : (l place node : ℕ) → slice_get (chain_list v l) place ≡ Some node → l < lists
  in-one l place node e = elim (cases_lt l lists) [
    | inl i ↦ i
    | inr g ↦ absurd (let none : None ≡ Some node =
        sym (ap (λ xs. slice_get xs place) (store_here.beyond l g)) ∙ e in cc)
  ]

  pub first-seen : (to : ℕ) → to < v.lists → slice_get (chain_list v to) 0 ≡ unless_none nodes (slice_index s.first to)
  first-seen to h = first-read nodes (slice_index s.next) (slice_index s.prev) (slice_index s.last to) nodes
      (slice_index s.first to) (chain_list v to) (store_here.linked to (rw lists-are h))

  pub last-seen : (to : ℕ) → to < v.lists
      → slice_get (chain_list v to) (length (chain_list v to) - 1) ≡ unless_none nodes (slice_index s.last to)
  last-seen to h = last-read nodes (slice_index s.next) (slice_index s.prev) (slice_index s.last to)
      (slice_index s.first to) (chain_list v to) (store_here.linked to (rw lists-are h))

  module _ (l place node : ℕ) where
    pub next-seen : slice_get (chain_list v l) place ≡ Some node
        → slice_get (chain_list v l) (place + 1) ≡ unless_none nodes (slice_index s.next node)
    next-seen e = after-read nodes (slice_index s.next) (slice_index s.prev) (slice_index s.last l) nodes
        (slice_index s.first l) place node (chain_list v l) (store_here.linked l (in-one l place node e)) e

    pub prev-seen : slice_get (chain_list v l) (place + 1) ≡ Some node
        → slice_get (chain_list v l) place ≡ unless_none nodes (slice_index s.prev node)
    prev-seen e = before-read nodes (slice_index s.next) (slice_index s.prev) (slice_index s.last l) nodes
        (slice_index s.first l) place node (chain_list v l) (store_here.linked l (in-one l (place + 1) node e)) e

  pub prev-front : (l node : ℕ) → slice_get (chain_list v l) 0 ≡ Some node
      → unless_none nodes (slice_index s.prev node) ≡ None
  prev-front l node e =
      cond_same _ nodes None (Some (slice_index s.prev node))
      (front-read nodes (slice_index s.next) (slice_index s.prev) (slice_index s.last l) nodes
      (slice_index s.first l) node (chain_list v l) (store_here.linked l (in-one l 0 node e)) e)

  -- a link that names a node or none is a node below the number of nodes, if it is one
  pub link-below : (link : ℕ) (o : Option ℕ) → link ≤ nodes → o ≡ unless_none nodes link
      → IfSome o (λ node. node < v.nodes)
  link-below link o h e = rw (e, ← nodes-are) (unless-below nodes link h)

  module _ (node : ℕ) (h : node < v.nodes) where
    pub next-below : slice_index s.next node ≤ nodes
    next-below = elim (cases_lt (slice_index s.home node) lists) [
      | inl lt ↦ elim (from_forth store_here node (here h) lt) [
        | inl q ↦ (let d = q.0 in omega arith)
        | inr q ↦ (let d = q.0 in omega arith)
      ]
      | inr ge ↦ (let b = store_here.homes node (here h) in let d = (store_here.loose node (here h) (omega arith)).0 in
          omega arith)
    ]

    pub prev-below : slice_index s.prev node ≤ nodes
    prev-below = elim (cases_lt (slice_index s.home node) lists) [
      | inl lt ↦ elim (from_back store_here node (here h) lt) [
        | inl q ↦ (let d = q.1 in omega arith)
        | inr q ↦ (let d = q.0 in omega arith)
      ]
      | inr ge ↦ (let b = store_here.homes node (here h) in let d = (store_here.loose node (here h) (omega arith)).1 in
          omega arith)
    ]

    loose-here : IsFree (chained_lists v) node → (slice_index s.next node ≡ nodes) × (slice_index s.prev node ≡ nodes)
    loose-here free = store_here.loose node (here h) (home-of_free store_here node (here h) free.free)

    pub next-none : IsFree (chained_lists v) node → unless_none nodes (slice_index s.next node) ≡ None
    next-none free = cond_same _ nodes None (Some (slice_index s.next node)) (loose-here free).0

    pub prev-none : IsFree (chained_lists v) node → unless_none nodes (slice_index s.prev node) ≡ None
    prev-none free = cond_same _ nodes None (Some (slice_index s.prev node)) (loose-here free).1

    -- the list of a node
    pub home-seen : (o : Option ℕ) → o ≡ unless_none lists (slice_index s.home node)
        → MatchOption o (IsFree (chained_lists v) node) (λ found. IsHome (chained_lists v) node found)
    home-seen o e = rw e (elim (cases_lt (slice_index s.home node) lists) [
      | inl low ↦ rw (differ_is (slice_index s.home node) lists (λ same. omega arith)) (record {
        home_in = let d = lists-are in omega arith;
        times_is = λ l. elim (cases_lt l lists) [
          | inl inside ↦ store_here.held l node inside (here h)
          | inr beyond ↦ ap (times node) (store_here.beyond l beyond)
              ∙ sym (cond_other (slice_index s.home node) l 1 0 (λ same. omega arith))
        ];
      })
      | inr high ↦ rw (same_is (slice_index s.home node) lists (let b = store_here.homes node (here h) in omega arith))
          (record {
            free = λ l. elim (cases_lt l lists) [
              | inl inside ↦ store_here.held l node inside (here h)
                  ∙ cond_other (slice_index s.home node) l 1 0 (λ same. omega arith)
              | inr beyond ↦ ap (times node) (store_here.beyond l beyond)
            ];
          })
    ])

-- a store whose lists are empty
replicated : (n i a d : ℕ) → (a ≡ d) → slice_index_or (replicate n a) i d ≡ d
replicated n i a d e = elim (cases_lt i n) [
  | inl inside ↦ get_or-replicate n i a d inside ∙ e
  | inr beyond ↦ past (replicate n a) i (let size = length-replicate n a in omega arith)
]
  where
    past : (xs : List ℕ) (k : ℕ) → length xs ≤ k → slice_index_or xs k d ≡ d
    past [] k h = refl
    past (x ∷ xs) zero h = absurd (omega arith)
    past (x ∷ xs) (suc k) h = past xs k (omega arith)

no-nodes : (n l i : ℕ) → chain_list (chains_of n l (bare n l)) i ≡ []
no-nodes n l i = rw (replicated l i 0 0 refl) refl

pub empty-same : (n l : ℕ) → AreSame (chained_lists (chains_of n l (bare n l))) (empty_lists n l)
empty-same n l = record { same_nodes = refl; same_lists = refl; same_list = no-nodes n l }

pub empty-links : (n l : ℕ) → IsLinks n l (bare n l)
empty-links n l = record {
  next_length = length-replicate n n;
  prev_length = length-replicate n n;
  home_length = length-replicate n l;
  first_length = length-replicate l n;
  last_length = length-replicate l n;
  len_length = length-replicate l 0;
  store = record {
    linked = λ i h. subst (λ xs. IsLinked n (slice_index (replicate n n)) (slice_index (replicate n n))
        (slice_index (replicate l n) i) n (slice_index (replicate l n) i) xs)
        (sym (no-nodes n l i)) (get_or-replicate l i n 0 h, sym (get_or-replicate l i n 0 h));
    sized = λ i h. replicated l i 0 0 refl ∙ sym (ap length (no-nodes n l i));
    beyond = λ i h. no-nodes n l i;
    held = λ i x h j. ap (times x) (no-nodes n l i)
        ∙ sym (cond_other (slice_index (replicate n l) x) i 1 0
        (λ e. (let home = get_or-replicate n x l 0 j in omega arith)));
    homes = λ x j. (let home = get_or-replicate n x l 0 j in omega arith);
    loose = λ x j e. (get_or-replicate n x n 0 j, get_or-replicate n x n 0 j);
  };
}
