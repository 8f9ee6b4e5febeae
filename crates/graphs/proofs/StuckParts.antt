-- Words that become 0 where a configuration is stuck, part by part.
use Rattle.std.proofs.Common.{◌≡◌, ◌≢◌, ◌⊎◌, ℕ, ◌+◌, ◌-◌, ◌<◌, ◌≤◌, inl, inr, refl, sym, ap, ◌∙◌, subst, arith}
use Rattle.std.proofs.Common.{List, ◌++◌, length, get_or, take, drop}
use borrow.Rule.Slice.PartMut.{put_mid, post_of, same_len_mid}
use Rattle.std.specs.List.{remove}
use Rattle.std.proofs.lemmas.Bool.{cases_lt, cases_eq}
use Rattle.std.proofs.lemmas.List.{get_or-append_right, get_or_append_left}
use Rattle.std.proofs.lemmas.List.{length-take-le, length-drop, get_or-take, get_or-drop}
use Rattle.std.proofs.lemmas.Slice.{drop-put_mid}
use Rattle.board_text.specs.PlainBoard.{PlainBoard, IsBoard, places}
use Rattle.classes.specs.Classes.{put}
use Rattle.classes.specs.Numbers.{number_by_greatest, ways}
use Rattle.classes.proofs.Cited.{least-some, least-within, place-below}
use Rattle.graphs.specs.ClassGraph.{classes, gap_class}
use Rattle.graphs.specs.Inside.Families.{family_start, family_size}
use Rattle.graphs.specs.Stuck.{IsStuckBy, AreStuckZeroed, IsPartZeroed, AreZeroedWhere}
use Rattle.graphs.proofs.ClassGraphs.{gap-is}
use Rattle.graphs.proofs.FilledFamilies.{IsAtGap, at-first, at-inside, at-next}
use Rattle.graphs.proofs.StruckFamilies.{some-place, own-member, other-below, other-member, only-gaps}

-- ---- words that are 0 where counts are

pub record AreZeroedTo (counts : List ℕ) (rest index : ℕ) (old new : List ℕ) : Type 0 where
  pub same_length : length new ≡ length old
  pub zeroed : (v : ℕ) → v < index → get_or counts (rest + v) 0 ≡ 0 → get_or new v 0 ≡ 0
  pub others : (v : ℕ) → (get_or new v 0 ≡ get_or old v 0) ⊎ ((get_or new v 0 ≡ 0) × (get_or counts (rest + v) 0 ≡ 0))

-- ---- a family

-- the classes of the family that are stuck by the first of the gap's places are zeroed
pub record AreRestsZeroed (b : PlainBoard) (counts rests : List ℕ) (gap start index : ℕ) (old new : List ℕ)
    : Type 0 where
  pub same_length : length new ≡ length old
  pub zeroed : (p v : ℕ) → p < index → v < length old → get_or counts (get_or rests p 0 + v) 0 ≡ 0
      → get_or new v 0 ≡ 0
  pub others : (v : ℕ) → v < length old
      → (get_or new v 0 ≡ get_or old v 0) ⊎ ((get_or new v 0 ≡ 0) × IsStuckBy (classes b) counts (start + v))

module _ (b : PlainBoard) (is : IsBoard b) (gap start : ℕ) (low : gap < ways (b.pebbles - 1) (places b))
    (start_is : start ≡ family_start b gap) (counts old : List ℕ) (size : length old ≡ family_size b gap) where
  abbrev h : List ℕ
  h = gap_class b gap

  inside : (v : ℕ) → v < length old → v < family_size b gap
  inside v below = omega arith

  place-in : (v : ℕ) → v < length old → v < places b
  place-in v below =
      let most = least-within (places b) h (gap-is b is gap low).falls in
      omega arith

  -- a gap without answers
  pub own-zeroed : (new : List ℕ) → get_or counts gap 0 ≡ 0 → length new ≡ length old
      → ((v : ℕ) → v < length old → get_or new v 0 ≡ 0) → IsPartZeroed (classes b) counts start old new
  own-zeroed new none same none_left = record {
    same_length = same;
    zeroed = λ v below stuck. none_left v below;
    others = λ v below. inr (
      none_left v below,
      record {
        gap = gap;
        below = low;
        none = none;
        place = v;
        inside = place-in v below;
        member = own-member b is gap v low (inside v below) ∙ ap (λ n. n + v) (sym start_is);
      },
    );
  }

  module _ (rests : List ℕ) (are : (p : ℕ) → p < length h
      → get_or rests p 0 ≡ number_by_greatest (put 0 (remove h p))) where
    pub rest-below : (p v : ℕ) → p < length h → v < length old
        → get_or rests p 0 + v < ways (b.pebbles - 1) (places b)
    rest-below p v first below =
        let other = other-below b is gap v low (inside v below) p first in
        let same = are p first in
        omega arith

    pub rest-inside : (p : ℕ) → p < length h → get_or rests p 0 + length old ≤ ways (b.pebbles - 1) (places b)
    rest-inside p first =
        let some = least-some (places b) h (some-place b is) in
        let last = rest-below p (length old - 1) first (omega arith) in
        omega arith

    rest-stuck : (p v : ℕ) → p < length h → v < length old → get_or counts (get_or rests p 0 + v) 0 ≡ 0
        → IsStuckBy (classes b) counts (start + v)
    rest-stuck p v first below none = record {
      gap = get_or rests p 0 + v;
      below = rest-below p v first below;
      none = none;
      place = get_or h p 0;
      inside = place-below (places b) h p (gap-is b is gap low).falls first;
      member = ap (λ n. (classes b).member (n + v) (get_or h p 0)) (are p first)
          ∙ other-member b is gap v low (inside v below) p first ∙ ap (λ n. n + v) (sym start_is);
    }

    pub rests-more : (now new : List ℕ) (p : ℕ) → p < length h
        → AreRestsZeroed b counts rests gap start p old now → AreZeroedWhere counts (get_or rests p 0) now new
        → AreRestsZeroed b counts rests gap start (p + 1) old new
    rests-more now new p first z more =
        let same : length now ≡ length old = z.same_length in
        record {
          same_length = more.same_length ∙ same;
          zeroed = λ q v before below none. elim (cases_eq q p) [
            | inl here ↦ more.zeroed v (omega arith)
                (ap (λ k. get_or counts (get_or rests k 0 + v) 0) (sym here) ∙ none)
            | inr differ ↦
                let old_zero : get_or now v 0 ≡ 0 = z.zeroed q v (omega (arith, differ)) below none in
                elim (more.others v (omega arith)) [ inl kept ↦ kept ∙ old_zero | inr none_left ↦ none_left.0 ]
          ];
          others = λ v below. elim (more.others v (omega arith)) [
            | inr none_left ↦ inr (none_left.0, rest-stuck p v first below none_left.1)
            | inl kept ↦ elim (z.others v below) [
              | inl old_one ↦ inl (kept ∙ old_one)
              | inr none_left ↦ inr (kept ∙ none_left.0, none_left.1)
            ]
          ];
        }

    pub rests-all : (new : List ℕ) (index : ℕ) → length h ≤ index → get_or counts gap 0 ≢ 0
        → AreRestsZeroed b counts rests gap start index old new → IsPartZeroed (classes b) counts start old new
    rests-all new index all some z = record {
      same_length = z.same_length;
      zeroed = λ v below stuck.
          let found = only-gaps b is gap v low (inside v below) stuck.gap stuck.place stuck.below stuck.inside
          (stuck.member ∙ ap (λ n. n + v) start_is) in
          elim found [
            | inl own ↦ absurd (some (ap (λ g. get_or counts g 0) (sym own) ∙ stuck.none))
            | inr other ↦ z.zeroed other.0 v (omega (arith, other.1)) below
                (ap (λ g. get_or counts g 0) (ap (λ n. n + v) (are other.0 other.1) ∙ sym other.2) ∙ stuck.none)
          ];
      others = z.others;
    }

-- ---- family after family

-- a part that was written over: what lies in it, and what lies before and after it
put-inside : (a k v : ℕ) (xs ys : List ℕ) → a ≤ length xs → v < length ys
    → get_or (put_mid a k xs ys) (a + v) 0 ≡ get_or ys v 0
put-inside a k v xs ys low inside =
    let at : a + v - a ≡ v = omega arith in
    get_or-append_right (take a xs) (ys ++ post_of a k xs) a (a + v) 0 (length-take-le a xs low) (omega arith)
    ∙ ap (λ i. get_or (ys ++ post_of a k xs) i 0) at ∙ get_or_append_left ys (post_of a k xs) 0 v inside

put-outside : (a k x : ℕ) (xs ys : List ℕ) → a + k ≤ length xs → length ys ≡ k → (x < a) ⊎ (a + k ≤ x)
    → get_or (put_mid a k xs ys) x 0 ≡ get_or xs x 0
put-outside a k x xs ys low size (inl before) =
    let long : length (take a xs) ≡ a = length-take-le a xs (omega arith) in
    get_or_append_left (take a xs) (ys ++ post_of a k xs) 0 x (omega arith) ∙ get_or-take a xs x 0 before
put-outside a k x xs ys low size (inr after) =
    let at : a + k + (x - (a + k)) ≡ x = omega arith in
    ap (λ i. get_or (put_mid a k xs ys) i 0) (sym at)
    ∙ sym (get_or-drop (a + k) (put_mid a k xs ys) (x - (a + k)) 0)
    ∙ ap (λ l. get_or l (x - (a + k)) 0) (drop-put_mid a k xs ys (a + k) (omega arith) (omega arith) size)
    ∙ get_or-drop (a + k) xs (x - (a + k)) 0 ∙ ap (λ i. get_or xs i 0) at

-- the first families are done, and where the next one begins, if one is left
pub record AreFamiliesZeroed (b : PlainBoard) (counts : List ℕ) (gap start : ℕ) (old new : List ℕ) : Type 0 where
  pub at : IsAtGap b gap start
  pub done : AreStuckZeroed (classes b) counts start old new

module _ (b : PlainBoard) (is : IsBoard b) (counts old : List ℕ) where
  abbrev gaps : ℕ
  gaps = ways (b.pebbles - 1) (places b)

  pub families-none : AreFamiliesZeroed b counts 0 0 old old
  families-none = record {
    at = at-first b is;
    done = record {
      same_length = refl;
      zeroed = λ x low stuck. absurd (omega arith);
      others = λ x. inl refl;
    };
  }

  pub families-more : (gap start size : ℕ) (now part : List ℕ) → gap < gaps → size ≡ family_size b gap
      → length old ≡ ways b.pebbles (places b)
      → AreFamiliesZeroed b counts gap start old now
      → IsPartZeroed (classes b) counts start (take (start + size - start) (drop start now)) part
      → AreFamiliesZeroed b counts (gap + 1) (start + size) old (put_mid start (start + size - start) now part)
  families-more gap start size now part low size_is long z one =
      let inside = at-inside b is gap start size low size_is z.at in
      let same : length now ≡ length old = z.done.same_length in
      let k : ℕ = start + size - start in
      let k_is : k ≡ size = omega arith in
      let cut : length (take k (drop start now)) ≡ k =
      length-take-le k (drop start now) (let rest = length-drop start now in omega arith) in
      let short : length part ≡ k = one.same_length ∙ cut in
      let was : (v : ℕ) → v < size → get_or (take k (drop start now)) v 0 ≡ get_or now (start + v) 0 =
      λ v below. get_or-take k (drop start now) v 0 (omega arith) ∙ get_or-drop start now v 0 in
      let made : (v : ℕ) → v < size → get_or (put_mid start k now part) (start + v) 0 ≡ get_or part v 0 =
      λ v below. put-inside start k v now part (omega arith) (omega arith) in
      record {
        at = at-next b is gap start size low size_is z.at;
        done = record {
          same_length = same_len_mid start k now part one.same_length ∙ same;
          zeroed = λ x below stuck. elim (cases_lt x start) [
            | inl before ↦
                put-outside start k x now part (omega arith) short (inl before) ∙ z.done.zeroed x before stuck
            | inr in_part ↦
                let at : start + (x - start) ≡ x = omega arith in
                let v : x - start < size = omega arith in
                ap (λ i. get_or (put_mid start k now part) i 0) (sym at) ∙ made (x - start) v
                ∙ one.zeroed (x - start) (omega arith) (subst (IsStuckBy (classes b) counts) (sym at) stuck)
          ];
          others = λ x. elim (cases_lt x start) [
            | inl before ↦ kept x (put-outside start k x now part (omega arith) short (inl before)) (z.done.others x)
            | inr late ↦ elim (cases_lt x (start + size)) [
              | inr after ↦
                  kept x (put-outside start k x now part (omega arith) short (inr (omega arith))) (z.done.others x)
              | inl in_part ↦
                  let at : start + (x - start) ≡ x = omega arith in
                  let v : x - start < size = omega arith in
                  let read : get_or (put_mid start k now part) x 0 ≡ get_or part (x - start) 0 =
                  ap (λ i. get_or (put_mid start k now part) i 0) (sym at) ∙ made (x - start) v in
                  elim (one.others (x - start) (omega arith)) [
                    | inl same_one ↦ kept x
                        (read ∙ same_one ∙ was (x - start) v ∙ ap (λ i. get_or now i 0) at) (z.done.others x)
                    | inr none_left ↦ inr (read ∙ none_left.0, subst (IsStuckBy (classes b) counts) at none_left.1)
                  ]
            ]
          ];
        };
      }
    where
      kept : {Q : Type 0} {new now old_one : ℕ} (x : ℕ) → new ≡ now → (now ≡ old_one) ⊎ ((now ≡ 0) × Q)
          → (new ≡ old_one) ⊎ ((new ≡ 0) × Q)
      kept x same (inl is_old) = inl (same ∙ is_old)
      kept x same (inr none_left) = inr (same ∙ none_left.0, none_left.1)
