-- The two facts by which rounds of several seats know the game: of a graph, by its laws alone.
use Rattle.std.proofs.Common.{◌≡◌, ℕ, suc, ◌+◌, ◌<◌, ◌≤◌, ◌↔◌, ◌==◌, ◌&&◌, not, Bool, true, false, List, [], ◌∷◌, refl}
use Rattle.std.proofs.Common.{sym, ap, ◌∙◌, inl, inr, arith}
use Rattle.index_lists.specs.Lists.{times}
use Rattle.index_lists.proofs.Cited.{times-later, cond_same, cond_other, same_is, differ_is}
use Rattle.graphs.specs.Graph.{PlainGraph, IsGraph, live_answers, lasts}
use Rattle.graphs.specs.Lasting.{LastsExactly}
use Rattle.solver.specs.Striking.{stands, tally, IsToWin}
use Rattle.solver.proofs.ListedRanks.{stands-true, stands-false}
use Rattle.graphs.proofs.Cited.{count_below-none, without, and_second, same_or_not, live-same, next-fails, next-closed}
use Rattle.solver.proofs.Strikes.{strike-home, strike-other}

and_true_right : (b : Bool) → b && true ≡ b
and_true_right true = refl
and_true_right false = refl

without-first : (x y : ℕ) (ranks : List ℕ) → times x ranks ≡ 0 → without (stands (x ∷ ranks)) x y ≡ stands ranks y
without-first x y ranks none = elim (same_or_not y x) [
  | inl e ↦ and_second (stands (x ∷ ranks) y) (not (y == x)) (ap not (same_is y x e))
      ∙ sym (stands-false ranks y (ap (λ n. times n ranks) e ∙ none))
  | inr d ↦ ap (λ (b : Bool). stands (x ∷ ranks) y && not b) (differ_is y x d) ∙ and_true_right (stands (x ∷ ranks) y)
      ∙ ap (λ n. not (n == 0)) (times-later x y ranks (λ e. d (sym e)))
]

first_one : (x : ℕ) (ranks : List ℕ) → times x (x ∷ ranks) ≡ 1 + times x ranks
first_one x ranks = let one = cond_same {A = ℕ} x x 1 0 refl in omega arith

-- the answers of a gap that are in a list are as many as the entries that are struck in it
pub live-tally : (a : PlainGraph) → IsGraph a → (g : ℕ) (ranks : List ℕ) → g < a.gaps
    → ((x : ℕ) → 0 < times x ranks → x < a.configurations) → ((x : ℕ) → times x ranks ≤ 1)
    → live_answers a (stands ranks) g ≡ tally a.struck g ranks
live-tally a is g [] i inside once =
    count_below-none a.places (λ v. a.struck (a.member g v) == g && stands [] (a.member g v))
    (λ v j. and_second (a.struck (a.member g v) == g) false refl)
live-tally a is g (x ∷ ranks) i inside once =
    let first : times x (x ∷ ranks) ≡ 1 + times x ranks = first_one x ranks in
    let no_more : times x ranks ≡ 0 = (let o = once x in omega arith) in
    let low : x < a.configurations = inside x (omega arith) in
    let above : ℕ → Bool = stands (x ∷ ranks) in
    let rest : live_answers a (stands ranks) g ≡ tally a.struck g ranks =
    live-tally a is g ranks i (λ y h. inside y (omega arith)) (λ y. let o = once y in omega arith) in
    let less : live_answers a (without above x) g ≡ live_answers a (stands ranks) g =
    live-same a is (without above x) (stands ranks) g i (λ y j. without-first x y ranks no_more) in
    elim (same_or_not (a.struck x) g) [
      | inl here ↦
          let struck = strike-home a is above x g low (sym here) i (stands-true (x ∷ ranks) x (omega arith)) in
          let one = cond_same {A = ℕ} (a.struck x) g 1 0 here in
          omega arith
      | inr away ↦
          let same = strike-other a above x g (λ e. away (sym e)) in
          let none = cond_other {A = ℕ} (a.struck x) g 1 0 away in
          omega arith
    ]

-- a configuration has the next value exactly if it is an open member
-- of a gap that has no answer above the round's value
pub to-win-is : (a : PlainGraph) → IsGraph a → (round x : ℕ) → x < a.configurations
    → IsToWin a round x ↔ LastsExactly a x (suc round)
to-win-is a is round x i = (
  λ win. record {
    is_rank = i;
    lasting = win.is_open;
    stopping = next-closed a (lasts a (suc round)) x win.gap win.place win.is_gap win.is_place win.member
        win.none_above;
  },
  λ worth.
      let found = next-fails a (lasts a (suc round)) x worth.stopping in
      record {
        gap = found.0;
        is_gap = found.1;
        none_above = found.3;
        place = found.2.0;
        is_place = found.2.1;
        member = found.2.2;
        is_open = worth.lasting;
      },
)
