-- Counts of a gap's answers, as sizes in the game's terms.
use Rattle.std.proofs.Common.{◌≡◌, ℕ, ◌+◌, ◌<◌, ◌==◌, ◌&&◌, ◌↔◌, Bool, true, false, cond, zero, suc, refl, arith, sym}
use Rattle.std.proofs.Common.{ap, ◌∙◌, subst, List, [], ◌∷◌, Contains}
use Rattle.std.proofs.lemmas.Bool.Decides.{nat_tests}
use Rattle.board_text.specs.PlainBoard.{IsBoard}
use Rattle.board_text.specs.Domination.{has_bit}
use Rattle.board_text.specs.declared.board.TheConstants.{MAX_LABELS}
use Rattle.positions.specs.Game.{LabellerTree}
use Rattle.positions.specs.Counts.{HasSize}
use Rattle.positions.proofs.Cited.{size_of, count_below as count_to, count_below-zero as count_to-zero}
use Rattle.positions.proofs.Cited.{count_below-add as count_to-add, same_size, same_fact_size, size_zero}
use Rattle.graphs.specs.Answers.{IsAnswerIn, AreAnswerBits}
use Rattle.graphs.specs.Graph.{PlainGraph, count_below, live_answers, lasts}
use Rattle.graphs.specs.Numbered.{Numbered, graph_of, configuration_of}
use Rattle.graphs.proofs.Cited.{both_true, and_true, true_not_false, same_is, numbered-is, tree_of_lasts, lasts_of_tree}
use Rattle.solver.specs.Solving.{AnswerLasts}

only_zero : (k : ℕ) → Contains (0 ∷ []) k → 0 ≡ k
only_zero k (zero, inside, same) = same
only_zero k (suc place, inside, same) = absurd (omega arith)

count-one : (test : ℕ → Bool) → count_to test 1 ≡ cond (test 0) 1 0
count-one test = by (test 0) refl
  where
    P : ℕ → Type 0
    P k = (k < 1) × (test k ≡ true)

    size : HasSize P (count_to test 1)
    size = size_of P test 1 (λ k. (λ h. h, λ h. h))

    by : (b : Bool) → test 0 ≡ b → count_to test 1 ≡ cond b 1 0
    by true e = same_size P (count_to test 1) 1 size (record {
      members = 0 ∷ [];
      ascending = λ i j d less inside. absurd (omega arith);
      each = λ k. (
        λ among. (let same = only_zero k among in omega arith, ap test (sym (only_zero k among)) ∙ e),
        λ holds. (0, omega arith, let low : k < 1 = holds.0 in omega arith),
      );
      so_many = refl;
    })
    by false e = same_size P (count_to test 1) 0 size
        ((size_zero P).1 (λ k holds. true_not_false (test 0)
        (ap test (let low : k < 1 = holds.0 in omega arith) ∙ holds.1) e))

pub count-same : (test : ℕ → Bool) (n : ℕ) → count_to test n ≡ count_below n test
count-same test zero = count_to-zero test
count-same test (suc n) =
    let next : suc n ≡ n + 1 = omega arith in
    let same : n + 0 ≡ n = omega arith in
    ap (count_to test) next ∙ count_to-add test n 1
    ∙ ap (λ m. m + count_to (λ k. test (n + k)) 1) (count-same test n)
    ∙ ap (λ m. count_below n test + m) (count-one (λ k. test (n + k)) ∙ ap (λ k. cond {A = ℕ} (test k) 1 0) same)

test_same : (m n : ℕ) → (m == n) ≡ true → m ≡ n
test_same m n e = grind (arith, nat_tests)

-- if the test says whether P holds, the count is the number of answers for which P holds
pub live-size : (a : PlainGraph) (g : ℕ) (above : ℕ → Bool) (P : ℕ → Type 0)
    → ((v : ℕ) → v < a.places → (above (a.member g v) ≡ true) ↔ P v)
    → HasSize (λ v. IsAnswerIn a g v × P v) (live_answers a above g)
live-size a g above P means =
    let test : ℕ → Bool = λ v. a.struck (a.member g v) == g && above (a.member g v) in
    subst (HasSize (λ v. IsAnswerIn a g v × P v)) (count-same test a.places)
    (size_of (λ v. IsAnswerIn a g v × P v) test a.places (λ v. (
      λ holds. let low : v < a.places = holds.0.is_place in (
        low,
        and_true (a.struck (a.member g v) == g) (above (a.member g v))
            (same_is (a.struck (a.member g v)) g holds.0.struck)
            ((means v low).1 holds.1),
      ),
      λ passes. let both = both_true (a.struck (a.member g v) == g) (above (a.member g v)) passes.1 in (
        record { is_place = passes.0; struck = test_same (a.struck (a.member g v)) g both.0 },
        (means v passes.0).0 both.1,
      ),
    )))

-- the number of bits that are set is the count of all answers
pub live-all : (a : PlainGraph) (g : ℕ) (row : List ℕ) (size : ℕ) → AreAnswerBits a g row
    → HasSize (λ v. (v < MAX_LABELS) × (has_bit row v ≡ true)) size → size ≡ live_answers a (lasts a 0) g
live-all a g row size bits is =
    let all = live-size a g (lasts a 0) (λ v. v < a.places) (λ v low. (λ _. low, λ _. refl)) in
    same_size (λ v. (v < MAX_LABELS) × (has_bit row v ≡ true)) size (live_answers a (lasts a 0) g) is
    (same_fact_size (λ v. IsAnswerIn a g v × (v < a.places)) (λ v. (v < MAX_LABELS) × (has_bit row v ≡ true))
    (live_answers a (lasts a 0) g) (λ v. (
      λ answer.
          let few = bits.few v answer.0 in
          (few, (bits.each v few).1 answer.0),
      λ set.
          let here = (bits.each v set.0).0 set.1 in
          (here, here.is_place),
    )) all)

-- the count is the number of answers after which a labeller lasts `depth` requests
pub above-size : (n : Numbered) → IsBoard n.board → (depth g : ℕ) → g < (graph_of n).gaps
    → HasSize (AnswerLasts n g depth) (live_answers (graph_of n) (lasts (graph_of n) depth) g)
above-size n board depth g i =
    let a : PlainGraph = graph_of n in
    live-size a g (lasts a depth) (λ v. LabellerTree n.board depth (configuration_of n (a.member g v))) (λ v j.
    let low = (numbered-is n board).member_in g v i j in (
      tree_of_lasts n board depth (a.member g v) low,
      lasts_of_tree n board depth (a.member g v) low,
    ))
