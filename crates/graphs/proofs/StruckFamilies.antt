-- The gap in which a class of a gap's family is an answer.
use Rattle.std.proofs.Common.{◌≡◌, ℕ, zero, suc, ◌+◌, ◌-◌, ◌<◌, ◌⊎◌, inl, inr, refl, sym, ap, ◌∙◌, subst, arith}
use Rattle.std.proofs.Common.{List, [], ◌∷◌, ◌++◌, length, get_or}
use Rattle.std.specs.List.{All, remove}
use Rattle.std.proofs.lemmas.Bool.{cases_lt}
use Rattle.std.proofs.lemmas.List.{get_or_append_left, get_or-append_right, length-append, append-nil}
use Rattle.std.proofs.lemmas.List.Edits.{remove-append_left, remove-append_right, length-remove}
use Rattle.std.proofs.lemmas.List.Elements.{All-append, All-nil, All-cons, All-head, All-tail}
use Rattle.board_text.specs.PlainBoard.{PlainBoard, IsBoard, IsConfiguration, DominatesPlace, places}
use Rattle.classes.specs.Classes.{put, Falls, IsClass}
use Rattle.classes.specs.Numbers.{ways, number_by_greatest}
use Rattle.positions.specs.Gaps.{AnswersGap}
use Rattle.classes.specs.ClassGaps.{gap_at, index_in}
use Rattle.classes.proofs.PutPlaces.{falls-more, index-put, others-put}
use Rattle.classes.proofs.Ways.{ways-one}
use Rattle.classes.proofs.Cited.{is-below, with-is, with-number, class_of-class, class_of-own, one-gap, place-cancel}
use Rattle.classes.proofs.Cited.{place-below, least-some, least-within, number-of-least, put-is, put-least}
use Rattle.board_text.proofs.Cited.{label_is_place}
use Rattle.graphs.specs.ClassGraph.{class_at, gap_class, gap_number, classes}
use Rattle.graphs.specs.Struck.{struck_among}
use Rattle.graphs.specs.Inside.Families.{family_start, family_size, IsDominatorAt}
use Rattle.graphs.proofs.ClassGraphs.{gap-is, gap-below, gap-at-number, own-class, class-configuration, member-own}
use Rattle.graphs.proofs.ClassGraphs.{answering, struck-there, classes-is}
use Rattle.graphs.proofs.DominatingPebbles.{struck-found}

abbrev with_least : List ℕ → ℕ → List ℕ
with_least gap place = gap ++ (place ∷ [])

number-least : (gap : List ℕ) (place : ℕ)
    → number_by_greatest (with_least gap place) ≡ number_by_greatest (with_least gap 0) + place
number-least [] place = omega (arith, ways-one place, ways-one 0)
number-least (first ∷ others) place =
    let rest = number-least others place in
    let size : length (with_least others place) ≡ length (with_least others 0) =
    length-append others (place ∷ []) ∙ sym (length-append others (0 ∷ [])) in
    let same = ap (λ n. ways (suc n) first) size in
    omega arith

pub falls-remove : (bound index : ℕ) (list : List ℕ) → Falls bound list → Falls bound (remove list index)
falls-remove bound zero [] falls = tt
falls-remove bound (suc index) [] falls = tt
falls-remove bound zero (first ∷ others) falls =
    falls-more (suc first) bound others (let low : first < bound = falls.0 in omega arith) falls.1
falls-remove bound (suc index) (first ∷ others) falls = (falls.0, falls-remove (suc first) index others falls.1)

of-all-append : (P : ℕ → Type 0) (xs ys : List ℕ) → All P (xs ++ ys) → All P xs × All P ys
of-all-append P [] ys all = (All-nil P, all)
of-all-append P (x ∷ xs) ys all =
    let rest = of-all-append P xs ys (All-tail P x (xs ++ ys) all) in
    (All-cons P x xs (All-head P x (xs ++ ys) all) rest.0, rest.1)

answers-more : (b : PlainBoard) (list : List ℕ) (v label : ℕ) → AnswersGap b list label → DominatesPlace b label v
    → AnswersGap b (with_least list v) label
answers-more b list v label answer beaten = record {
  is_label = answer.is_label;
  dominates = All-append (DominatesPlace b label) list (v ∷ []) answer.dominates
      (All-cons (DominatesPlace b label) v [] beaten (All-nil (DominatesPlace b label)));
}

answers-less : (b : PlainBoard) (list : List ℕ) (v label : ℕ) → AnswersGap b (with_least list v) label
    → AnswersGap b list label × DominatesPlace b label v
answers-less b list v label answer =
    let parts = of-all-append (DominatesPlace b label) list (v ∷ []) answer.dominates in (
      record { is_label = answer.is_label; dominates = parts.0 },
      All-head (DominatesPlace b label) v [] parts.1,
    )

-- a class without the place at an index, which is put back
pub put-back : (bound : ℕ) (c : List ℕ) (p : ℕ) → Falls bound c → p < length c → put (get_or c p 0) (remove c p) ≡ c
put-back bound c p falls low =
    ap (put (get_or c p 0)) (sym (class_of-class bound (remove c p) (falls-remove bound p c falls)))
    ∙ sym (class_of-own c p low) ∙ class_of-class bound c falls

last-place : (gap : List ℕ) (place : ℕ) → get_or (with_least gap place) (length gap) 0 ≡ place
last-place gap place = get_or-append_right gap (place ∷ []) (length gap) (length gap) 0 refl (omega arith)
    ∙ ap (λ k. get_or (place ∷ []) k 0) (let same : length gap - length gap ≡ 0 = omega arith in same)

last-gap : (gap : List ℕ) (place : ℕ) → remove (with_least gap place) (length gap) ≡ gap
last-gap gap place = remove-append_right gap (place ∷ []) (length gap) (length gap) refl (omega arith)
    ∙ ap (λ k. gap ++ remove (place ∷ []) k) (let same : length gap - length gap ≡ 0 = omega arith in same)
    ∙ append-nil gap

pub some-place : (b : PlainBoard) → IsBoard b → 0 < places b
some-place b is = label_is_place b 0 (let some = is.labels.0 in omega arith)

-- the place 0 is put behind all others
pub put-zero : (b : PlainBoard) → IsBoard b → (list : List ℕ) → Falls (places b) list
    → put 0 list ≡ list ++ (0 ∷ [])
put-zero b is list falls = put-least (places b) 0 list falls (least-some (places b) list (some-place b is))

-- the gap of a place of the class with 0
pub remove-zero : (b : PlainBoard) → IsBoard b → (list : List ℕ) (index : ℕ) → Falls (places b) list
    → index < length list → remove (list ++ (0 ∷ [])) index ≡ put 0 (remove list index)
remove-zero b is list index falls inside =
    remove-append_left list (0 ∷ []) index inside
    ∙ sym (put-zero b is (remove list index) (falls-remove (places b) index list falls))

module _ (b : PlainBoard) (is : IsBoard b) where
  abbrev bound : ℕ
  bound = places b

  abbrev P : ℕ
  P = b.pebbles

  abbrev gaps : ℕ
  gaps = ways (P - 1) bound

  -- two places that dominate the others of their list are one
  pub one-dominator : (h : List ℕ) (p q : ℕ) → Falls bound h → p < length h → q < length h → IsDominatorAt b h p
      → IsDominatorAt b h q → get_or h p 0 ≡ get_or h q 0
  one-dominator h p q falls p_in q_in one other =
      let back = put-back bound h p falls p_in in
      let again = put-back bound h q falls q_in in
      let same = one-gap b (remove h p) (remove h q) (get_or h p 0) (get_or h q 0) is.pairs.one_way one other
      (back ∙ sym again) in
      place-cancel (remove h p) (get_or h p 0) (get_or h q 0)
      (back ∙ sym again ∙ ap (put (get_or h q 0)) (sym same))

  module _ (c : List ℕ) (ok : IsClass bound P c) where
    held : IsConfiguration b c
    held = class-configuration b is c ok

    gap-remove : (p : ℕ) → gap_at c p ≡ remove c p
    gap-remove p = class_of-class bound (remove c p) (falls-remove bound p c ok.falls)

    struck-of-pebble : (p : ℕ) → p < P → AnswersGap b (remove c p) (get_or c p 0)
        → (classes b).struck (number_by_greatest c) ≡ number_by_greatest (remove c p)
    struck-of-pebble p low answer =
        let g : ℕ = gap_number c p in
        let v : ℕ = get_or c p 0 in
        let i = gap-below b is c p held low in
        let same : gap_class b g ≡ remove c p = gap-at-number b is c p held low ∙ gap-remove p in
        let there = struck-there b is g v i (
        let all = ok.falls in place-in p low
        ) (subst (λ h. AnswersGap b h v) (sym same) answer) in
        let number : (classes b).member g v ≡ number_by_greatest c =
        ap number_by_greatest (member-own b is c p held low ∙ own-class b is c ok) in
        ap (classes b).struck (sym number) ∙ there ∙ ap number_by_greatest (gap-remove p)
      where
        place-in : (p : ℕ) → p < P → get_or c p 0 < bound
        place-in p low =
            let size : length c ≡ P = ok.size in
            place-below bound c p ok.falls (omega arith)

    struck-of-none : ((p : ℕ) → p < P → AnswersGap b (remove c p) (get_or c p 0) → ⊥)
        → (classes b).struck (number_by_greatest c) ≡ gaps
    struck-of-none none =
        let x : ℕ = number_by_greatest c in
        let below = is-below bound P c ok in
        let most = (classes-is b is).struck_most x below in
        let at : class_at b x ≡ c = with-number bound P c ok in
        elim (cases_lt ((classes b).struck x) gaps) [
          | inr all ↦ omega arith
          | inl low ↦
              let there : struck_among b c (gap_number c) gaps P < gaps =
              subst (λ d. struck_among b d (gap_number d) gaps P < gaps) at low in
              let f = struck-found b c (gap_number c) gaps P there in
              absurd (none f.pebble f.below (subst (λ h. AnswersGap b h (get_or c f.pebble 0)) (gap-remove f.pebble)
              (answering b is c held f)))
        ]

  module _ (g v : ℕ) (i : g < gaps) (low : v < family_size b g) where
    abbrev h : List ℕ
    h = gap_class b g

    abbrev c : List ℕ
    c = with_least h v

    abbrev x : ℕ
    x = family_start b g + v

    own : IsClass bound (P - 1) h
    own = gap-is b is g i

    put-is-least : put v h ≡ c
    put-is-least = put-least bound v h own.falls low

    ok : IsClass bound P c
    ok =
        let most = least-within bound h own.falls in
        let some = is.pebbles.0 in
        let one : suc (P - 1) ≡ P = omega arith in
        subst (λ n. IsClass bound n c) one (subst (IsClass bound (suc (P - 1))) put-is-least
        (put-is bound (P - 1) v h own (omega arith)))

    n : length h + 1 ≡ P
    n = let size = own.size in let some = is.pebbles.0 in omega arith

    some-gap : (p : ℕ) → p < length h → remove c p ≡ with_least (remove h p) v
    some-gap p inside = remove-append_left h (v ∷ []) p inside

    some-held : (p : ℕ) → p < length h → get_or c p 0 ≡ get_or h p 0
    some-held p inside = get_or_append_left h (v ∷ []) 0 p inside

    number : number_by_greatest c ≡ x
    number = ap number_by_greatest (sym put-is-least) ∙ number-of-least bound (P - 1) v h (some-place b is) own low

    pub struck-own : AnswersGap b h v → (classes b).struck x ≡ g
    struck-own answer =
        ap (classes b).struck (sym number)
        ∙ struck-of-pebble c ok (length h) (let size = n in omega arith)
        (subst (λ w. AnswersGap b (remove c (length h)) w) (sym (last-place h v))
        (subst (λ l. AnswersGap b l v) (sym (last-gap h v)) answer))
        ∙ ap number_by_greatest (last-gap h v) ∙ (with-is bound (P - 1) g i).number_is

    pub struck-left : (p : ℕ) → p < length h → IsDominatorAt b h p → DominatesPlace b (get_or h p 0) v
        → (classes b).struck x ≡ number_by_greatest (put 0 (remove h p)) + v
    struck-left p inside dominates beaten =
        ap (classes b).struck (sym number)
        ∙ struck-of-pebble c ok p (let size = n in omega arith)
        (subst (λ w. AnswersGap b (remove c p) w) (sym (some-held p inside))
        (subst (λ l. AnswersGap b l (get_or h p 0)) (sym (some-gap p inside))
        (answers-more b (remove h p) v (get_or h p 0) dominates beaten)))
        ∙ ap number_by_greatest (some-gap p inside) ∙ number-least (remove h p) v
        ∙ ap (λ l. number_by_greatest l + v) (sym (put-zero b is (remove h p) (falls-remove bound p h own.falls)))

    pub struck-no : (AnswersGap b h v → ⊥)
        → ((p : ℕ) → p < length h → IsDominatorAt b h p → DominatesPlace b (get_or h p 0) v → ⊥)
        → (classes b).struck x ≡ gaps
    struck-no no_answer none =
        ap (classes b).struck (sym number)
        ∙ struck-of-none c ok (λ p inside answer. elim (cases_lt p (length h)) [
          | inl before ↦
              let parts = answers-less b (remove h p) v (get_or h p 0)
              (subst (λ l. AnswersGap b l (get_or h p 0)) (some-gap p before)
              (subst (λ w. AnswersGap b (remove c p) w) (some-held p before) answer)) in
              none p before parts.0 parts.1
          | inr last ↦
              let here : p ≡ length h = (let size = n in omega arith) in
              no_answer (subst (λ l. AnswersGap b l v) (last-gap h v)
              (subst (λ w. AnswersGap b (remove c (length h)) w) (last-place h v)
              (subst (λ k. AnswersGap b (remove c k) (get_or c k 0)) here answer)))
        ])

    -- ---- all gaps of the class

    pub own-member : (classes b).member g v ≡ x
    own-member = ap number_by_greatest put-is-least ∙ number

    remove-is : (p : ℕ) → p < length c → IsClass bound (P - 1) (remove c p)
    remove-is p inside =
        let fewer = length-remove c p inside in
        let size : length c ≡ P = ok.size in
        record { size = omega arith; falls = falls-remove bound p c ok.falls }

    pub other-gap : (p : ℕ) → p < length h → number_by_greatest (remove c p)
        ≡ number_by_greatest (put 0 (remove h p)) + v
    other-gap p inside =
        ap number_by_greatest (some-gap p inside) ∙ number-least (remove h p) v
        ∙ ap (λ l. number_by_greatest l + v) (sym (put-zero b is (remove h p) (falls-remove bound p h own.falls)))

    long : length c ≡ length h + 1
    long = let size : length c ≡ P = ok.size in let one = n in omega arith

    pub other-below : (p : ℕ) → p < length h → number_by_greatest (put 0 (remove h p)) + v < gaps
    other-below p inside =
        let all = long in
        let below = is-below bound (P - 1) (remove c p) (remove-is p (omega arith)) in
        let same = other-gap p inside in
        omega arith

    pub other-member : (p : ℕ) → p < length h
        → (classes b).member (number_by_greatest (put 0 (remove h p)) + v) (get_or h p 0) ≡ x
    other-member p inside =
        let all = long in
        let low : p < length c = omega arith in
        let gap_is : gap_class b (number_by_greatest (put 0 (remove h p)) + v) ≡ remove c p =
        ap (gap_class b) (sym (other-gap p inside)) ∙ with-number bound (P - 1) (remove c p) (remove-is p low) in
        ap (λ l. number_by_greatest (put (get_or h p 0) l)) gap_is
        ∙ ap (λ w. number_by_greatest (put w (remove c p))) (sym (some-held p inside))
        ∙ ap number_by_greatest (put-back bound c p ok.falls low) ∙ number

    pub only-gaps : (other w : ℕ) → other < gaps → w < bound → (classes b).member other w ≡ x
        → (other ≡ g) ⊎ ((p : ℕ) × (p < length h) × (other ≡ number_by_greatest (put 0 (remove h p)) + v))
    only-gaps other w low inside same =
        let gap : List ℕ = gap_class b other in
        let is_gap : IsClass bound (P - 1) gap = gap-is b is other low in
        let some = is.pebbles.0 in
        let one : suc (P - 1) ≡ P = omega arith in
        let made : IsClass bound P (put w gap) =
        subst (λ k. IsClass bound k (put w gap)) one (put-is bound (P - 1) w gap is_gap inside) in
        let class_is : put w gap ≡ c =
        sym (with-number bound P (put w gap) made) ∙ ap (class_at b) (same ∙ sym number) ∙ with-number bound P c ok in
        let p : ℕ = index_in w c in
        let left : remove c p ≡ gap = ap (λ l. remove l (index_in w l)) (sym class_is) ∙ others-put w gap in
        let at : p < length c = subst (λ l. index_in w l < length l) class_is (index-put w gap) in
        let own_number : other ≡ number_by_greatest (remove c p) =
        sym (with-is bound (P - 1) other low).number_is ∙ ap number_by_greatest (sym left) in
        let all = long in
        elim (cases_lt p (length h)) [
          | inl before ↦ inr (p, before, own_number ∙ other-gap p before)
          | inr last ↦
              let here : p ≡ length h = omega arith in
              inl (own_number ∙ ap (λ k. number_by_greatest (remove c k)) here ∙ ap number_by_greatest (last-gap h v)
              ∙ (with-is bound (P - 1) g i).number_is)
        ]
