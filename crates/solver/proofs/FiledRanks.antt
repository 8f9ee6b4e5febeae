-- The lists of a stage after a configuration is filed.
use Rattle.std.proofs.Common.{◌≡◌, ◌≢◌, ℕ, ◌+◌, ◌<◌, ◌≤◌, ◌==◌, subst, inl, inr, true, cond, zero, suc, refl, arith}
use Rattle.std.proofs.Common.{sym, ap, ◌∙◌, List, [], ◌∷◌, ◌++◌, length, get_or, slice_index, slice_set}
use Rattle.std.proofs.Common.{get_or-set_other, get_or-set_same}
use Rattle.std.proofs.Math.ListN.{length-set}
use Rattle.std.proofs.lemmas.Bool.{cases_lt}
use Rattle.std.proofs.lemmas.List.{ext_get_or}
use Rattle.std.proofs.lemmas.List.FromFn.{length-map-range_with_len, get_or-map-range_with_len}
use Rattle.index_lists.specs.Lists.{Lists, times, AreLists, AreSame, node_pushed}
use Rattle.index_lists.proofs.Cited.{cond_same, cond_other, times-append}
use Rattle.graphs.specs.Numbered.{Numbered, graph_of}
use Rattle.positions.specs.declared.space.TheConstants.{MAX_CONFIGURATIONS}
use Rattle.solver.specs.Inside.Stage.{first_lists, PlainStage, stage_of, filed_at, rank_listed, rank_filed, IsFiled}
use Rattle.solver.specs.Inside.Tables.{is_open}
use Rattle.graphs.proofs.Cited.{same_or_not}
use Rattle.solver.proofs.ListedWords.{open_word, times_one, times_none}

-- ---- the lists of a store as a list of lists

pub past : (xs : List (List ℕ)) (i : ℕ) → length xs ≤ i → get_or xs i [] ≡ []
past [] zero h = refl
past [] (suc i) h = refl
past (x ∷ xs) zero h = absurd (omega arith)
past (x ∷ xs) (suc i) h = past xs i (omega arith)

pub list-shown : (s : Lists) → AreLists s → (l : ℕ) → get_or (first_lists s.lists s.list) l [] ≡ s.list l
list-shown s are l = elim (cases_lt l s.lists) [
  | inl inside ↦ get_or-map-range_with_len s.list 0 s.lists l l [] inside (omega arith)
  | inr outside ↦ past (first_lists s.lists s.list) l
      (let size = length-map-range_with_len s.list 0 s.lists in omega arith)
      ∙ sym (are.beyond l outside)
]

-- the list of a value is the store's list of this number
pub filed-shown : (b : Numbered) (value : ℕ) (values counts : List ℕ) (s : Lists) (strikes : List ℕ) (v : PlainStage)
    → stage_of b value values counts s strikes ≡ v → AreLists s → (l : ℕ) → filed_at v l ≡ s.list l
filed-shown b value values counts s strikes v view are l =
    ap (λ (w : PlainStage). filed_at w l) (sym view) ∙ list-shown s are l

-- ---- a push at one of the lists

module _ (s s' : Lists) (to node : ℕ) (same : AreSame s' (node_pushed s to node)) where
  pub push-here : s'.list to ≡ s.list to ++ node ∷ []
  push-here = same.same_list to ∙ cond_same to to (s.list to ++ node ∷ []) (s.list to) refl

  push-away : (l : ℕ) → l ≢ to → s'.list l ≡ s.list l
  push-away l d = same.same_list l ∙ cond_other l to (s.list l ++ node ∷ []) (s.list l) d

  abbrev was : List (List ℕ)
  was = first_lists s.lists s.list

  abbrev longer : List ℕ
  longer = get_or was to [] ++ node ∷ []

  set-shown : to < s.lists → first_lists s.lists s'.list ≡ slice_set was to longer
  set-shown inside =
      let size = length-map-range_with_len s.list 0 s.lists in
      let size' = length-map-range_with_len s'.list 0 s.lists in
      let before : get_or was to [] ≡ s.list to =
      get_or-map-range_with_len s.list 0 s.lists to to [] inside (omega arith) in
      ext_get_or [] (first_lists s.lists s'.list) (slice_set was to longer)
      (size' ∙ sym (length-set was to longer ∙ size)) (λ i low.
      let within : i < s.lists = omega arith in
      get_or-map-range_with_len s'.list 0 s.lists i i [] within (omega arith) ∙ elim (same_or_not i to) [
        | inl here ↦ ap s'.list here ∙ push-here ∙ ap (λ (xs : List ℕ). xs ++ node ∷ []) (sym before)
            ∙ sym (ap (λ k. get_or (slice_set was to longer) k []) here
            ∙ get_or-set_same was to longer [] (omega arith))
        | inr away ↦ push-away i away
            ∙ sym (get_or-set_other was to i longer [] away
            ∙ get_or-map-range_with_len s.list 0 s.lists i i [] within (omega arith))
      ])

  pub push-shown : (b : Numbered) (value : ℕ) (values counts strikes : List ℕ) (v : PlainStage) → value ≡ to
      → to < s.lists
      → stage_of b value values counts s strikes ≡ v → stage_of b value values counts s' strikes ≡ rank_listed v node
  push-shown b value values counts strikes v here inside view =
      subst (λ (w : PlainStage). stage_of b value values counts s' strikes ≡ rank_listed w node) view
      (rw (same.same_lists, here) (ap
      (λ (bs : List (List ℕ)). record (stage_of b to values counts s strikes) { buckets = bs })
      (set-shown inside)))

-- ---- the stage after a configuration is listed

module _ (s : PlainStage) (rank : ℕ) where
  pub listed-here : s.value < length s.buckets → filed_at (rank_listed s rank) s.value ≡ filed_at s s.value ++ rank ∷ []
  listed-here inside = get_or-set_same s.buckets s.value (filed_at s s.value ++ rank ∷ []) [] inside

  pub listed-away : (v : ℕ) → v ≢ s.value → filed_at (rank_listed s rank) v ≡ filed_at s v
  listed-away v away = get_or-set_other s.buckets s.value v (filed_at s s.value ++ rank ∷ []) [] away

  -- the list of the current value has the filed configuration once more, and every other list is as before
  pub listed-times : s.value < length s.buckets → (v x : ℕ)
      → times x (filed_at (rank_listed s rank) v) ≡ times x (filed_at s v) + cond (v == s.value) (times x (rank ∷ [])) 0
  listed-times inside v x = elim (same_or_not v s.value) [
    | inl here ↦ ap (λ w. times x (filed_at (rank_listed s rank) w)) here ∙ ap (times x) (listed-here inside)
        ∙ times-append x (filed_at s s.value) (rank ∷ [])
        ∙ (let at = ap (λ w. times x (filed_at s w)) here in let more =
        cond_same {A = ℕ} v s.value (times x (rank ∷ [])) 0 here in omega arith)
    | inr away ↦ ap (times x) (listed-away v away)
        ∙ (let none = cond_other {A = ℕ} v s.value (times x (rank ∷ [])) 0 away in omega arith)
  ]

-- an open configuration, which the value may be filed for
pub record IsToFile (s : PlainStage) (rank : ℕ) : Type 0 where
  pub filed_are : IsFiled s
  pub few : (graph_of s.game).configurations ≤ MAX_CONFIGURATIONS
  pub low : s.value ≤ (graph_of s.game).configurations
  pub is_rank : rank < (graph_of s.game).configurations
  pub still_open : is_open s.values rank ≡ true

module _ (s : PlainStage) (rank : ℕ) (to_file : IsToFile s rank) where
  are : IsFiled s
  are = to_file.filed_are

  -- it is in no list
  open-free : (v : ℕ) → times rank (filed_at s v) ≡ 0
  open-free v = elim (cases_lt ((graph_of s.game).configurations) v) [
    | inl beyond ↦ ap (times rank) (past s.buckets v (omega (arith, are.lists_length, beyond)))
    | inr low ↦ are.once v rank low to_file.is_rank
        ∙ cond_other (slice_index s.values rank) v 1 0
        (let word = open_word s.values rank to_file.still_open in let few = to_file.few in λ e. omega arith)
  ]

  pub filed-once : IsFiled (rank_filed s rank)
  filed-once = record {
    values_length = length-set s.values rank s.value ∙ are.values_length;
    lists_length = length-set s.buckets s.value (filed_at s s.value ++ rank ∷ []) ∙ are.lists_length;
    below = λ v x h. elim (same_or_not x rank) [
      | inl here ↦ omega (arith, here, to_file.is_rank)
      | inr other ↦ are.below v x (let all = listed-times s rank inside v x in let none = not_here v x other in
          omega arith)
    ];
    once = λ v x k l. listed-times s rank inside v x ∙ elim (same_or_not x rank) [
      | inl here ↦
          let word : slice_index (slice_set s.values rank s.value) x ≡ s.value =
          ap (slice_index (slice_set s.values rank s.value)) here
          ∙ get_or-set_same s.values rank s.value 0
          (omega (arith, are.values_length, to_file.is_rank)) in
          let free : times x (filed_at s v) ≡ 0 =
          ap (λ y. times y (filed_at s v)) here ∙ open-free v in
          let one : times x (rank ∷ []) ≡ 1 = ap (λ y. times y (rank ∷ [])) here ∙ times_one rank in
          elim (same_or_not v s.value) [
            | inl same ↦ (let more = cond_same {A = ℕ} v s.value (times x (rank ∷ [])) 0 same in omega arith)
                ∙ sym (cond_same (slice_index (slice_set s.values rank s.value) x) v 1 0 (word ∙ sym same))
            | inr away ↦ (let more = cond_other {A = ℕ} v s.value (times x (rank ∷ [])) 0 away in omega arith)
                ∙ sym (cond_other (slice_index (slice_set s.values rank s.value) x) v 1 0 (λ e. away (sym e ∙ word)))
          ]
      | inr other ↦
          let word : slice_index (slice_set s.values rank s.value) x ≡ slice_index s.values x =
          get_or-set_other s.values rank x s.value 0 other in
          (let none = not_here v x other in omega arith) ∙ are.once v x k l ∙ ap (λ w. cond (w == v) 1 0) (sym word)
    ];
  }
    where
      inside : s.value < length s.buckets
      inside = omega (arith, are.lists_length, to_file.low)

      not_here : (v x : ℕ) → x ≢ rank → cond {A = ℕ} (v == s.value) (times x (rank ∷ [])) 0 ≡ 0
      not_here v x other = elim (same_or_not v s.value) [
        | inl here ↦ cond_same {A = ℕ} v s.value (times x (rank ∷ [])) 0 here ∙ times_none rank x other
        | inr away ↦ cond_other {A = ℕ} v s.value (times x (rank ∷ [])) 0 away
      ]
