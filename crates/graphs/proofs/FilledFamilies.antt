-- The entries of a gap's family in the table of the gaps in which classes are answers.
use Rattle.std.proofs.Common.{◌≡◌, ◌≢◌, ℕ, suc, ◌+◌, ◌-◌, ◌<◌, ◌≤◌, ◌↔◌, inl, inr, refl, sym, ap, ◌∙◌, subst, arith}
use Rattle.std.proofs.Common.{List, length, get_or, true, MatchOption, Some, None, Option}
use Rattle.std.specs.List.{All, remove}
use Rattle.std.proofs.lemmas.Bool.{cases_lt}
use Rattle.std.proofs.lemmas.List.Edits.{length-remove, get_or-remove_below, get_or-remove_above}
use Rattle.std.proofs.lemmas.List.Elements.{All-from_get_or, All-get_or}
use Rattle.board_text.specs.PlainBoard.{PlainBoard, IsBoard, DominatesPlace, places}
use Rattle.board_text.specs.Domination.{has_bit}
use Rattle.board_text.specs.declared.board.TheConstants.{MAX_LABELS}
use Rattle.positions.specs.declared.space.TheConstants.{MAX_CONFIGURATIONS}
use Rattle.classes.specs.Classes.{put, Falls, IsClass}
use Rattle.classes.specs.Numbers.{class_count, number_by_greatest, ways}
use Rattle.positions.specs.Gaps.{AnswersGap}
use Rattle.graphs.specs.Answers.{AreAnswerBits}
use Rattle.graphs.specs.ClassGraph.{gap_class, classes}
use Rattle.graphs.specs.declared.families.Dominator.{Dominator}
use Rattle.graphs.specs.declared.families.Family.{Family}
use Rattle.graphs.specs.Inside.Families.{family_start, family_size, IsDominatorAt, HasNoDominator, IsFamilyDominator}
use Rattle.graphs.specs.Inside.Families.{IsFamily}
use Rattle.classes.proofs.Cited.{is-below, put-is, remove-is, ways-small}
use Rattle.classes.proofs.Cited.{first-family, last-family, least-below, least-some, next-family, some-ways}
use Rattle.graphs.proofs.ClassGraphs.{gap-is, classes-is}
use Rattle.graphs.proofs.ClassTables.{answer-of, answer-in}
use Rattle.graphs.proofs.StruckFamilies.{struck-own, struck-left, struck-no, one-dominator, some-place}

-- the number of a gap of a family's first class fits, on a board of few classes
pub rest-small : (b : PlainBoard) → IsBoard b → class_count b ≤ MAX_CONFIGURATIONS → (held : List ℕ)
    → suc (length held) ≡ b.pebbles → IsClass (places b) (length held) held → (index : ℕ) → index < length held
    → (rest : ℕ) → rest ≡ number_by_greatest (put 0 (remove held index)) → rest ≤ MAX_CONFIGURATIONS
rest-small b is few held size class index inside rest rest_is =
    let count : ℕ = length held - 1 in
    let gap = put-is (places b) count 0 (remove held index)
    (remove-is (places b) held index count inside class (omega arith)) (some-place b is) in
    let below = is-below (places b) (suc count) (put 0 (remove held index)) gap in
    let most = ways-small b (suc count) (places b) is few (omega arith) (omega arith) in
    omega (arith, below, most, rest_is)

-- a fact of all places but the one at an index
pub of-others : (P : ℕ → Type 0) (list : List ℕ) (index : ℕ) → index < length list
    → ((k : ℕ) → k < length list → k ≢ index → P (get_or list k 0)) → All P (remove list index)
of-others P list index inside each =
    let long = length-remove list index inside in
    All-from_get_or P (remove list index) 0 (λ k low. elim (cases_lt k index) [
      | inl before ↦ subst P (sym (get_or-remove_below list index 0 k before inside))
          (each k (omega arith) (λ same. omega arith))
      | inr behind ↦ subst P (sym (get_or-remove_above list index 0 k behind inside))
          (each (k + 1) (omega arith) (λ same. omega arith))
    ])

pub others-of : (P : ℕ → Type 0) (list : List ℕ) (index : ℕ) → index < length list → All P (remove list index)
    → (k : ℕ) → k < length list → k ≢ index → P (get_or list k 0)
others-of P list index inside all k low differs =
    let long = length-remove list index inside in
    elim (cases_lt k index) [
      | inl before ↦ subst P (get_or-remove_below list index 0 k before inside)
          (All-get_or P (remove list index) k 0 (omega arith) all)
      | inr behind ↦
          let late : index ≤ k - 1 = omega (arith, differs) in
          let one_more : k - 1 + 1 ≡ k = omega (arith, differs) in
          subst P (get_or-remove_above list index 0 (k - 1) late inside ∙ ap (λ n. get_or list n 0) one_more)
          (All-get_or P (remove list index) (k - 1) 0 (omega (arith, differs)) all)
    ]

pub dominates-all : (b : PlainBoard) (list : List ℕ) (index : ℕ) → index < length list
    → get_or list index 0 < b.labels
    → ((k : ℕ) → k < length list → k ≢ index → DominatesPlace b (get_or list index 0) (get_or list k 0))
    → IsDominatorAt b list index
dominates-all b list index inside low each =
    record { is_label = low; dominates = of-others (DominatesPlace b (get_or list index 0)) list index inside each }

pub dominated : (b : PlainBoard) (list : List ℕ) (index k : ℕ) → index < length list → IsDominatorAt b list index
    → k < length list → k ≢ index → DominatesPlace b (get_or list index 0) (get_or list k 0)
dominated b list index k inside dominates low differs =
    others-of (DominatesPlace b (get_or list index 0)) list index inside dominates.dominates k low differs

label_in : Option Dominator → ℕ
label_in None = 0
label_in (Some d) = d.label

pub one-label : (o : Option Dominator) (d e : Dominator) → o ≡ Some d → o ≡ Some e → d.label ≡ e.label
unfolding label_in
one-label o d e is also = ap label_in (sym is ∙ also)

module _ (b : PlainBoard) (is : IsBoard b) where
  -- the bits of a gap's row are the labels that answer
  pub answer-bit : (g : ℕ) (row : List ℕ) → g < ways (b.pebbles - 1) (places b) → AreAnswerBits (classes b) g row
      → (v : ℕ) → v < MAX_LABELS → (has_bit row v ≡ true) ↔ AnswersGap b (gap_class b g) v
  answer-bit g row i are v small = (
    λ set. answer-of b is g i v ((are.each v small).0 set),
    λ answer. (are.each v small).1 (answer-in b is g i v answer),
  )

  -- no other place than the dominator dominates the others
  no-other : (h : List ℕ) (v : ℕ) → Falls (places b) h → (o : Option Dominator)
      → MatchOption o (HasNoDominator b h) (IsFamilyDominator b h)
      → ((d : Dominator) → o ≡ Some d → DominatesPlace b d.label v → ⊥)
      → (p : ℕ) → p < length h → IsDominatorAt b h p → DominatesPlace b (get_or h p 0) v → ⊥
  no-other h v falls None none not_beaten p inside dominates beaten = none p inside dominates
  no-other h v falls (Some d) found not_beaten p inside dominates beaten =
      not_beaten d refl (subst (λ x. DominatesPlace b x v)
      (one-dominator b is h p found.index falls inside found.inside dominates found.dominates
      ∙ sym found.label_is) beaten)

  module _ (k : Family) (ok : IsFamily b k) (v : ℕ) (low : v < k.size) where
    abbrev h : List ℕ
    h = gap_class b k.gap

    abbrev x : ℕ
    x = k.start + v

    inside : v < family_size b k.gap
    inside = let size = ok.size_is in omega arith

    here : family_start b k.gap + v ≡ x
    here = ap (λ n. n + v) (sym ok.start_is)

    dominator-of : (o : Option Dominator) (d : Dominator) → o ≡ Some d
        → MatchOption o (HasNoDominator b h) (IsFamilyDominator b h) → IsFamilyDominator b h d
    dominator-of o d e found =
        subst (λ (q : Option Dominator). MatchOption q (HasNoDominator b h) (IsFamilyDominator b h)) e found

    pub found-own : AnswersGap b h v → k.gap ≡ (classes b).struck x
    found-own answer = sym (struck-own b is k.gap v ok.is_gap inside answer) ∙ ap (classes b).struck here

    pub found-rest : (d : Dominator) → k.dominator ≡ Some d → DominatesPlace b d.label v
        → d.rest + v ≡ (classes b).struck x
    found-rest d e beaten =
        let found = dominator-of k.dominator d e ok.dominator_is in
        ap (λ n. n + v) found.rest_is
        ∙ sym (struck-left b is k.gap v ok.is_gap inside found.index found.inside found.dominates
        (subst (λ n. DominatesPlace b n v) found.label_is beaten))
        ∙ ap (classes b).struck here

    pub rest-most : (d : Dominator) → k.dominator ≡ Some d → DominatesPlace b d.label v → d.rest + v ≤ k.none
    rest-most d e beaten =
        let same = found-rest d e beaten in
        let at = here in
        let below = least-below (places b) (b.pebbles - 1) v h (some-place b is) (gap-is b is k.gap ok.is_gap) inside in
        let one : suc (b.pebbles - 1) ≡ b.pebbles = (let some = is.pebbles.0 in omega arith) in
        let whole = ap (λ n. ways n (places b)) one in
        let most = (classes-is b is).struck_most x (omega arith) in
        let none = ok.none_is in
        omega arith

    pub found-none : (AnswersGap b h v → ⊥) → ((d : Dominator) → k.dominator ≡ Some d → DominatesPlace b d.label v → ⊥)
        → k.none ≡ (classes b).struck x
    found-none no_answer not_beaten =
        ok.none_is
        ∙ sym (struck-no b is k.gap v ok.is_gap inside no_answer
        (no-other h v (gap-is b is k.gap ok.is_gap).falls k.dominator ok.dominator_is not_beaten))
        ∙ ap (classes b).struck here

-- ---- from family to family

-- where the family of a gap begins, or the end of all, after the last one
pub record IsAtGap (b : PlainBoard) (gap start : ℕ) : Type 0 where
  pub begins : gap < ways (b.pebbles - 1) (places b) → start ≡ family_start b gap
  pub ends : gap ≡ ways (b.pebbles - 1) (places b) → start ≡ ways b.pebbles (places b)

module _ (b : PlainBoard) (is : IsBoard b) where
  abbrev bound : ℕ
  bound = places b

  abbrev count : ℕ
  count = b.pebbles - 1

  all : ways (suc count) bound ≡ ways b.pebbles bound
  all = ap (λ n. ways n bound) (let some = is.pebbles.0 in omega arith)

  -- the end of a family is a class, or the end of all
  pub end-below : (gap : ℕ) → gap < ways count bound → family_start b gap + family_size b gap ≤ ways b.pebbles bound
  end-below gap low =
      let whole = all in
      elim (cases_lt (suc gap) (ways count bound)) [
        | inl more ↦
            let next = next-family bound count (some-place b is) gap more in
            let below = least-below bound count 0 (gap_class b (suc gap)) (some-place b is) (gap-is b is (suc gap) more)
            (least-some bound (gap_class b (suc gap)) (some-place b is)) in
            omega arith
        | inr end ↦ let last = last-family bound count (some-place b is) gap (omega arith) in omega arith
      ]

  some-gaps : 0 < ways count bound
  some-gaps =
      let some = some-place b is in
      let one : suc (places b - 1) ≡ places b = omega arith in
      subst (λ n. 0 < ways count n) one (some-ways count (places b - 1))

  pub at-first : IsAtGap b 0 0
  at-first = record {
    begins = λ low. sym (first-family bound count (some-place b is));
    ends = λ none. let some = some-gaps in absurd (omega arith);
  }

  -- the family of a gap is inside, and the next one follows
  pub at-inside : (gap start size : ℕ) → gap < ways count bound → size ≡ family_size b gap → IsAtGap b gap start
      → start + size ≤ ways b.pebbles bound
  at-inside gap start size low size_is at =
      let here = at.begins low in
      let end = end-below gap low in
      omega arith

  pub at-next : (gap start size : ℕ) → gap < ways count bound → size ≡ family_size b gap → IsAtGap b gap start
      → IsAtGap b (gap + 1) (start + size)
  at-next gap start size low size_is at =
      let here = at.begins low in record {
        begins = λ more.
            let follows = next-family bound count (some-place b is) gap (omega arith) in
            let next : suc gap ≡ gap + 1 = omega arith in
            subst (λ g. start + size ≡ family_start b g) next (omega arith);
        ends = λ last.
            let over = last-family bound count (some-place b is) gap (omega arith) in
            let whole = all in
            omega arith;
      }

  -- the places of a gap, as they are held
  pub held-class : (g : ℕ) (held : List ℕ) → g < ways count bound → held ≡ gap_class b g
      → (suc (length held) ≡ b.pebbles) × IsClass bound (length held) held
  held-class g held i held_is =
      let own = gap-is b is g i in
      let some = is.pebbles.0 in
      let size : length held ≡ count = ap length held_is ∙ own.size in (
        omega arith,
        subst (λ n. IsClass bound n held) (sym size) (subst (IsClass bound count) (sym held_is) own),
      )

-- the same of a board that is this one
pub own-class : (s b : PlainBoard) → s ≡ b → IsBoard b → (g : ℕ) (held : List ℕ) → g < ways (b.pebbles - 1) (places b)
    → held ≡ gap_class b g → (suc (length held) ≡ s.pebbles) × IsClass (places s) (length held) held
own-class s b same is g held i held_is =
    subst (λ (p : PlainBoard). (suc (length held) ≡ p.pebbles) × IsClass (places p) (length held) held) (sym same)
    (held-class b is g held i held_is)
