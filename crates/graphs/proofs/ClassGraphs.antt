-- The graph of classes is a graph, and shows its board.
use Rattle.std.proofs.Common.{◌≡◌, ℕ, ◌<◌, ◌≤◌, ◌+◌, ◌-◌, inl, inr, zero, suc, refl, sym, ap, ◌∙◌, subst, arith}
use Rattle.std.proofs.Common.{List, [], ◌∷◌, length, get_or}
use Rattle.std.specs.List.{remove}
use Rattle.std.proofs.lemmas.Bool.{cases_lt}
use Rattle.std.proofs.lemmas.List.{length-set}
use Rattle.std.proofs.lemmas.List.Edits.{length-remove, get_or-remove_below, get_or-remove_above}
use Rattle.std.proofs.lemmas.List.Elements.{All-from_get_or, All-get_or}
use Rattle.board_text.specs.PlainBoard.{PlainBoard, IsBoard, IsConfiguration, places}
use Rattle.board_text.proofs.Cited.{label_is_place}
use Rattle.positions.specs.Game.{LabellerTree, moved}
use Rattle.classes.specs.Classes.{put, class_of, Falls, IsClass}
use Rattle.classes.specs.Numbers.{ways, number_by_greatest}
use Rattle.positions.specs.Gaps.{AnswersGap}
use Rattle.classes.specs.ClassGaps.{gap_at}
use Rattle.classes.proofs.Cited.{is-below, with-is, with-number, put-none, put-past, put-here, put-is, length-put}
use Rattle.classes.proofs.Cited.{length-class_of, falls-class_of, put-cancel, place-cancel, class_of-set, class_of-own}
use Rattle.classes.proofs.Cited.{IsIn, in-put, HasPebble, pebble_of_place, place-below, AreLike, labeller-like}
use Rattle.classes.proofs.Cited.{legal-answers, dominator-answers, class_of-class, one-gap, ways-zero, ways-suc}
use Rattle.classes.proofs.Cited.{ways-more}
use Rattle.graphs.specs.Graph.{IsGraph}
use Rattle.graphs.specs.ClassGraph.{class_at, gap_class, gap_number, classes}
use Rattle.graphs.specs.Shows.{IsAsked, ShowsGame}
use Rattle.graphs.specs.Struck.{struck_among}
use Rattle.graphs.proofs.DominatingPebbles.{is_dominator_is, IsStruckBy, struck-found, dominator-found, struck-most}

-- ---- a greater place makes a greater number

pub some-ways : (pebbles bound : ℕ) → 1 ≤ ways pebbles (suc bound)
some-ways zero bound = let one = ways-zero (suc bound) in omega arith
some-ways (suc pebbles) bound = let more = ways-suc pebbles bound in let some = some-ways pebbles bound in omega arith

more-ways : (pebbles low high : ℕ) → low < high → ways (suc pebbles) low < ways (suc pebbles) high
more-ways pebbles low high less =
    let next = ways-suc pebbles low in
    let some = some-ways pebbles low in
    let rest = ways-more (suc pebbles) (suc low) high (omega arith) in
    omega arith

-- a place not smaller than the others comes first
front : (place : ℕ) (others : List ℕ) → Falls (suc place) others → put place others ≡ place ∷ others
front place [] falls = put-none place
front place (next ∷ more) falls = put-here place next more (let low : next < suc place = falls.0 in omega arith)

number-of : (place : ℕ) (others : List ℕ) (n : ℕ) → length others ≡ n
    → number_by_greatest (place ∷ others) ≡ ways (suc n) place + number_by_greatest others
number-of place others n size = ap (λ m. ways (suc m) place + number_by_greatest others) size

pub grows : (bound : ℕ) (gap : List ℕ) (v w : ℕ) → Falls bound gap → v < w
    → number_by_greatest (put v gap) < number_by_greatest (put w gap)
grows bound [] v w falls less =
    let low = ap number_by_greatest (put-none v) in
    let high = ap number_by_greatest (put-none w) in
    let more = more-ways 0 v w less in
    omega arith
grows bound (first ∷ others) v w falls less = elim (cases_lt w first) [
  | inl below ↦
      let low = ap number_by_greatest (put-past v first others (omega arith))
      ∙ number-of first (put v others) (suc (length others)) (length-put v others) in
      let high = ap number_by_greatest (put-past w first others below)
      ∙ number-of first (put w others) (suc (length others)) (length-put w others) in
      let rest = grows (suc first) others v w falls.1 less in
      omega arith
  | inr above ↦
      let high = ap number_by_greatest (put-here w first others above)
      ∙ number-of w (first ∷ others) (suc (length others)) refl in
      elim (cases_lt v first) [
        | inl below ↦
            let low = ap number_by_greatest (put-past v first others below)
            ∙ number-of first (put v others) (suc (length others)) (length-put v others) in
            let rest = grows (suc first) others v first falls.1 below in
            let whole = ap number_by_greatest (front first others falls.1) in
            let most = ways-more (suc (suc (length others))) first w above in
            omega arith
        | inr most ↦
            let low = ap number_by_greatest (put-here v first others most)
            ∙ number-of v (first ∷ others) (suc (length others)) refl in
            let more = more-ways (suc (length others)) v w less in
            omega arith
      ]
]

-- ---- a board

module _ (b : PlainBoard) (is : IsBoard b) where
  abbrev bound : ℕ
  bound = places b

  abbrev P : ℕ
  P = b.pebbles

  some-pebble : suc (P - 1) ≡ P
  some-pebble = let some = is.pebbles.0 in omega arith

  class-is : (x : ℕ) → x < ways P bound → IsClass bound P (class_at b x)
  class-is x i = (with-is bound P x i).is

  pub gap-is : (g : ℕ) → g < ways (P - 1) bound → IsClass bound (P - 1) (gap_class b g)
  gap-is g i = (with-is bound (P - 1) g i).is

  -- the member of a gap with a place
  abbrev X : ℕ → ℕ → List ℕ
  X g v = put v (gap_class b g)

  pub member-class : (g v : ℕ) → g < ways (P - 1) bound → v < bound → IsClass bound P (X g v)
  member-class g v i j =
      subst (λ n. IsClass bound n (X g v)) some-pebble (put-is bound (P - 1) v (gap_class b g) (gap-is g i) j)

  at-member : (g v : ℕ) → g < ways (P - 1) bound → v < bound → class_at b (number_by_greatest (X g v)) ≡ X g v
  at-member g v i j = with-number bound P (X g v) (member-class g v i j)

  pub own-class : (c : List ℕ) → IsClass bound P c → class_of c ≡ c
  own-class c ok = class_of-class bound c ok.falls

  -- a class is a configuration
  pub class-configuration : (c : List ℕ) → IsClass bound P c → IsConfiguration b c
  class-configuration c ok = record {
    each_pebble = ok.size;
    each_place = All-from_get_or (λ place. place < bound) c 0 (λ k inside. place-below bound c k ok.falls inside);
  }

  -- the class of a configuration is a class
  pub configuration-class : (c : List ℕ) → IsConfiguration b c → IsClass bound P (class_of c)
  configuration-class c ok = record {
    size = length-class_of c ∙ ok.each_pebble;
    falls = falls-class_of bound c ok.each_place;
  }

  pub class-at-number : (c : List ℕ) → IsConfiguration b c → class_at b (number_by_greatest (class_of c)) ≡ class_of c
  class-at-number c ok = with-number bound P (class_of c) (configuration-class c ok)

  -- the gap of a pebble is a gap
  gap-of-is : (c : List ℕ) (p : ℕ) → IsConfiguration b c → p < P → IsClass bound (P - 1) (gap_at c p)
  gap-of-is c p ok low =
      let size : length c ≡ P = ok.each_pebble in
      let long = length-remove c p (omega arith) in
      let each : (k : ℕ) → k < length c → get_or c k 0 < bound =
      (λ k inside. All-get_or (λ place. place < bound) c k 0 inside ok.each_place) in record {
        size = length-class_of (remove c p) ∙ (omega arith);
        falls = falls-class_of bound (remove c p)
            (All-from_get_or (λ place. place < bound) (remove c p) 0 (λ k inside. elim (cases_lt k p) [
              | inl before ↦
                  subst (λ place. place < bound) (sym (get_or-remove_below c p 0 k before (omega arith)))
                  (each k (omega arith))
              | inr behind ↦
                  subst (λ place. place < bound) (sym (get_or-remove_above c p 0 k behind (omega arith)))
                  (each (k + 1) (omega arith))
            ]));
      }

  pub gap-below : (c : List ℕ) (p : ℕ) → IsConfiguration b c → p < P → gap_number c p < ways (P - 1) bound
  gap-below c p ok low = is-below bound (P - 1) (gap_at c p) (gap-of-is c p ok low)

  pub gap-at-number : (c : List ℕ) (p : ℕ) → IsConfiguration b c → p < P → gap_class b (gap_number c p) ≡ gap_at c p
  gap-at-number c p ok low = with-number bound (P - 1) (gap_at c p) (gap-of-is c p ok low)

  -- a configuration's class is the place of a pebble put into its gap
  put-own : (c : List ℕ) (p : ℕ) → IsConfiguration b c → p < P → put (get_or c p 0) (gap_at c p) ≡ class_of c
  put-own c p ok low = let size : length c ≡ P = ok.each_pebble in sym (class_of-own c p (omega arith))

  -- the member of a pebble's gap with a place is the class after the pebble moved there
  pub member-moved : (c : List ℕ) (p v : ℕ) → IsConfiguration b c → p < P
      → X (gap_number c p) v ≡ class_of (moved c p v)
  member-moved c p v ok low =
      let size : length c ≡ P = ok.each_pebble in
      ap (put v) (gap-at-number c p ok low) ∙ sym (class_of-set c p v (omega arith))

  pub member-own : (c : List ℕ) (p : ℕ) → IsConfiguration b c → p < P → X (gap_number c p) (get_or c p 0) ≡ class_of c
  member-own c p ok low = ap (put (get_or c p 0)) (gap-at-number c p ok low) ∙ put-own c p ok low

  -- ---- the gap that is struck

  abbrev none : ℕ
  none = ways (P - 1) bound

  abbrev StruckIn : List ℕ → Type 0
  StruckIn c = IsStruckBy b c (gap_number c) none P

  -- the pebble of a gap that is struck has an answer of that gap
  pub answering : (c : List ℕ) → IsConfiguration b c → (struck : StruckIn c)
      → AnswersGap b (gap_at c struck.pebble) (get_or c struck.pebble 0)
  answering c ok struck =
      (dominator-answers b c struck.pebble ok.each_pebble struck.below).0
      ((is_dominator_is b c struck.pebble ok.each_pebble struck.below).0 struck.test)

  module _ (g v : ℕ) (i : g < ways (P - 1) bound) (j : v < bound) where
    abbrev c : List ℕ
    c = X g v

    ok : IsClass bound P c
    ok = member-class g v i j

    held : IsConfiguration b c
    held = class-configuration c ok

    -- the pebble that was put
    put-pebble : HasPebble c v
    put-pebble = pebble_of_place c v (subst (IsIn v) (sym (own-class c ok)) (in-put v (gap_class b g)))

    q-in : put-pebble.pebble < P
    q-in = let low = put-pebble.inside in let size : length c ≡ P = ok.size in omega arith

    gap-there : gap_at c put-pebble.pebble ≡ gap_class b g
    gap-there = put-cancel v (gap_at c put-pebble.pebble) (gap_class b g)
        (ap (λ n. put n (gap_at c put-pebble.pebble)) (sym put-pebble.holds)
        ∙ put-own c put-pebble.pebble held q-in ∙ own-class c ok)

    -- a member with an answer is struck in its gap
    pub struck-there : AnswersGap b (gap_class b g) v → (classes b).struck ((classes b).member g v) ≡ g
    struck-there answer =
        let q = put-pebble.pebble in
        let own : AnswersGap b (gap_at c q) (get_or c q 0) =
        subst (λ h. AnswersGap b h (get_or c q 0)) (sym gap-there)
        (subst (λ w. AnswersGap b (gap_class b g) w) (sym put-pebble.holds) answer) in
        let test = (is_dominator_is b c q held.each_pebble q-in).1
        ((dominator-answers b c q held.each_pebble q-in).1 own) in
        let f = dominator-found b c (gap_number c) none P q q-in test in
        let same : gap_at c f.pebble ≡ gap_class b g =
        one-gap b (gap_at c f.pebble) (gap_class b g) (get_or c f.pebble 0) v is.pairs.one_way (answering c held f)
        answer
        (put-own c f.pebble held f.below ∙ own-class c ok) in
        ap (λ d. struck_among b d (gap_number d) none P) (at-member g v i j) ∙ f.is ∙ ap number_by_greatest same
        ∙ (with-is bound (P - 1) g i).number_is

    -- a place with which a member is struck in the gap is an answer
    pub there-struck : (classes b).struck ((classes b).member g v) ≡ g → AnswersGap b (gap_class b g) v
    there-struck e =
        let at : struck_among b c (gap_number c) none P ≡ g =
        sym (ap (λ d. struck_among b d (gap_number d) none P) (at-member g v i j)) ∙ e in
        let f = struck-found b c (gap_number c) none P (omega arith) in
        let number_is : gap_number c f.pebble ≡ g = sym f.is ∙ at in
        let same : gap_at c f.pebble ≡ gap_class b g =
        sym (gap-at-number c f.pebble held f.below) ∙ ap (gap_class b) number_is in
        let place : get_or c f.pebble 0 ≡ v =
        place-cancel (gap_class b g) (get_or c f.pebble 0) v
        (ap (put (get_or c f.pebble 0)) (sym same) ∙ put-own c f.pebble held f.below ∙ own-class c ok) in
        subst (λ w. AnswersGap b (gap_class b g) w) place
        (subst (λ h. AnswersGap b h (get_or c f.pebble 0)) same (answering c held f))

  pub classes-is : IsGraph (classes b)
  classes-is = record {
    member_in = λ g v i j. is-below bound P (X g v) (member-class g v i j);
    ascending = λ g v w i less j. grows bound (gap_class b g) v w (gap-is g i).falls less;
    struck_most = λ x i.
        let c = class_at b x in
        struck-most b c (gap_number c) none P (λ pebble low.
        let below = gap-below c pebble (class-configuration c (class-is x i)) low in omega arith);
    struck_in = λ x i low.
        let c = class_at b x in
        let ok = class-is x i in
        let held = class-configuration c ok in
        let f = struck-found b c (gap_number c) none P low in (
          get_or c f.pebble 0,
          All-get_or (λ place. place < bound) c f.pebble 0
              (let below = f.below in let size : length c ≡ P = ok.size in omega arith) held.each_place,
          ap (λ g. number_by_greatest (X g (get_or c f.pebble 0))) f.is
              ∙ ap number_by_greatest (member-own c f.pebble held f.below ∙ own-class c ok)
              ∙ (with-is bound P x i).number_is,
        );
  }

  asked : (c : List ℕ) (p g : ℕ) → IsConfiguration b c → p < P → g < ways (P - 1) bound → gap_class b g ≡ gap_at c p
      → IsAsked b (classes b) (class_at b) c p g
  asked c p g ok low i gap_is = record {
    legal = λ label.
        let own = legal-answers b c p label ok.each_pebble low in (
          λ legal.
              let place = label_is_place b label legal.is_label in
              record {
                is_place = place;
                struck = struck-there g label i place (subst (λ h. AnswersGap b h label) (sym gap_is) (own.0 legal));
              },
          λ has. own.1 (subst (λ h. AnswersGap b h label) gap_is (there-struck g label i has.is_place has.struck)),
        );
    after = λ depth label legal.
        let place = label_is_place b label legal.is_label in
        let size : length c ≡ P = ok.each_pebble in
        let there = member-class g label i place in
        let at_is = at-member g label i place in
        let like : AreLike b (moved c p label) (X g label) = record {
          one_size = length-set c p label ∙ size;
          other_size = there.size;
          same = class_of-set c p label (omega arith) ∙ ap (put label) (sym gap_is) ∙ sym (own-class (X g label) there);
        } in
        let back : AreLike b (X g label) (moved c p label) = record {
          one_size = like.other_size;
          other_size = like.one_size;
          same = sym like.same;
        } in (
          λ tree.
              subst (LabellerTree b depth) (sym at_is)
              (labeller-like b depth (moved c p label) (X g label) like tree),
          λ tree.
              labeller-like b depth (X g label) (moved c p label) back (subst (LabellerTree b depth) at_is tree),
        );
  }

  -- the gap of a pebble at a configuration is asked there
  pub asked-in-gap : (c : List ℕ) (p : ℕ) → IsConfiguration b c → p < P
      → IsAsked b (classes b) (class_at b) c p (gap_number c p)
  asked-in-gap c p ok low = asked c p (gap_number c p) ok low (gap-below c p ok low) (gap-at-number c p ok low)

  pub classes-show : ShowsGame b (classes b) (class_at b)
  classes-show = record {
    gap_of = λ x p i low.
        let c = class_at b x in
        let ok = class-is x i in
        let held = class-configuration c ok in (
          gap_number c p,
          gap-below c p held low,
          (
            get_or c p 0,
            All-get_or (λ place. place < bound) c p 0
                (let size : length c ≡ P = ok.size in omega arith) held.each_place,
            ap number_by_greatest (member-own c p held low ∙ own-class c ok) ∙ (with-is bound P x i).number_is,
          ),
          asked-in-gap c p held low,
        );
    pebble_of = λ g v i j.
        let q = (put-pebble g v i j).pebble in (
          q,
          q-in g v i j,
          subst (λ (c : List ℕ). IsAsked b (classes b) (class_at b) c q g) (sym (at-member g v i j))
              (asked (X g v) q g (held g v i j) (q-in g v i j) i (sym (gap-there g v i j))),
        );
  }
