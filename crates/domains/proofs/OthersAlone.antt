-- Best answers depend on the other pebbles alone, and a dominating pebble is never the best request.
use Rattle.std.proofs.Common.{◌≡◌, ℕ, ◌<◌, List, length, get_or, set, sym, ◌∙◌, subst, arith, inl, inr}
use Rattle.std.proofs.lemmas.Bool.{cases_eq}
use Rattle.std.proofs.lemmas.List.{ext_get_or, get_or-set_other, get_or-set_same, length-set, set-get_or}
use Rattle.board_text.specs.PlainBoard.{PlainBoard}
use Rattle.positions.specs.Game.{moved}
use Rattle.positions.specs.Gaps.{IsDominator}
use Rattle.positions.proofs.Cited.{same_value}
use Rattle.strategies.specs.Best.{IsLess, HasSmallerValue, HasNoGreaterValue, HasGreatestResult, IsBestAnswer}
use Rattle.strategies.specs.Best.{IsBestRequest}
use Rattle.strategies.proofs.Cited.{IsLess-irrefl}
use Rattle.domains.specs.Agreement.{AgreeBut}
use Rattle.domains.proofs.LowestLabels.{legal_elsewhere}

agree_back : (pebble : ℕ) (first second : List ℕ) → AgreeBut pebble first second → AgreeBut pebble second first
agree_back pebble first second agree = record {
  same_length = sym agree.same_length;
  others = λ other differs. sym (agree.others other differs);
}

-- a move of the pebble gives the same configuration if the others agree
pub one_result : (pebble label : ℕ) (first second : List ℕ) → AgreeBut pebble first second
    → moved first pebble label ≡ moved second pebble label
one_result pebble label first second agree =
    ext_get_or 0 (set first pebble label) (set second pebble label)
    (length-set first pebble label ∙ (agree.same_length ∙ sym (length-set second pebble label)))
    (λ place inside. elim (cases_eq place pebble) [
      | inl same ↦
          let there : pebble < length first = omega (arith, inside, same, length-set first pebble label) in
          subst (λ n. get_or (set first pebble label) n 0 ≡ get_or (set second pebble label) n 0) (sym same)
          (get_or-set_same first pebble label 0 there
          ∙ sym (get_or-set_same second pebble label 0 (omega (arith, there, agree.same_length))))
      | inr differs ↦ get_or-set_other first pebble place label 0 differs
          ∙ (agree.others place differs ∙ sym (get_or-set_other second pebble place label 0 differs))
    ])

greatest_elsewhere : (board : PlainBoard) (first second : List ℕ) (pebble label : ℕ) → AgreeBut pebble first second
    → HasGreatestResult board first pebble label → HasGreatestResult board second pebble label
greatest_elsewhere board first second pebble label agree has = record {
  legal = legal_elsewhere board first second pebble label agree has.legal;
  greatest = λ other legal.
      subst (λ c. HasNoGreaterValue board c (moved second pebble label)) (one_result pebble other first second agree)
      (subst (HasNoGreaterValue board (moved first pebble other)) (one_result pebble label first second agree)
      (has.greatest other (legal_elsewhere board second first pebble other
      (agree_back pebble first second agree) legal)));
}

pub best_elsewhere : (board : PlainBoard) (first second : List ℕ) (pebble label : ℕ) → AgreeBut pebble first second
    → IsBestAnswer board first pebble label → IsBestAnswer board second pebble label
best_elsewhere board first second pebble label agree best = (
  greatest_elsewhere board first second pebble label agree best.0,
  λ other has. best.1 other (greatest_elsewhere board second first pebble other
      (agree_back pebble first second agree) has),
)

-- a dominating pebble may stay, and then the value isn't lowered
pub dominator_not_best : (board : PlainBoard) (configuration : List ℕ) (pebble : ℕ)
    → IsDominator board configuration pebble
    → IsBestRequest board configuration pebble → ⊥
dominator_not_best board configuration pebble is best =
    let label = get_or configuration pebble 0 in
    let stays : moved configuration pebble label ≡ configuration = set-get_or configuration pebble 0 in
    let less : HasSmallerValue board configuration configuration
    = subst (λ c. HasSmallerValue board c configuration) stays
    (best.0.lowers label (record { is_label = is.has_label; dominates = is.dominates })) in
    IsLess-irrefl less.greater
    (subst (λ v. IsLess v less.greater)
    (same_value board configuration less.smaller less.greater less.of_first less.of_second) less.less)
