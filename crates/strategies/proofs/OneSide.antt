-- Documents for one side alone are of the form, break no rule and show their claim, as the whole ones do.
use Rattle.std.proofs.Common.{◌≡◌, ℕ, ◌≤◌, true, true≢false, List, [], get_or, Option, Some, None, refl, sym, ap}
use Rattle.std.proofs.Common.{◌∙◌, subst, inr, arith}
use Rattle.std.specs.List.{All}
use Rattle.board_text.specs.PlainBoard.{PlainBoard, IsConfiguration}
use Rattle.positions.specs.Claim.{Holds, Shows, claim_of}
use Rattle.positions.specs.Value.{HasValue, HasValueAtMost}
use Rattle.positions.specs.Table.{AnswerRow, RequestRow}
use Rattle.positions.specs.declared.claim.Claim.{Claim}
use Rattle.positions.specs.declared.claim.Claim.TheVariants.{Exactly, AtLeast, AtMost, Forever}
use Rattle.positions.specs.declared.side.Side.{Side}
use Rattle.positions.specs.declared.side.Side.TheVariants.{Labeller, Adversary}
use Rattle.positions.specs.declared.turns.Turns.{Turns}
use Rattle.positions.specs.declared.turns.Turns.TheVariants.{Count, Always}
use Rattle.positions.specs.declared.value.Value.{Value}
use Rattle.positions.specs.declared.value.Value.TheVariants.{Finite}
use Rattle.positions.specs.declared.value.Value.TheVariants as values
use Rattle.proof_check.specs.SymmetryFaults.{BreaksNoRuleUpTo, HasLeastRows}
use Rattle.proof_text.specs.Documents.{AreMaps, IsClassProof, IsProof, IsSymmetryProof}
use Rattle.proof_text.specs.Arranged.{arranged, document_number}
use Rattle.proof_text.specs.Positions.{Positions, normal_positions}
use Rattle.proof_text.specs.Proof.{AreTurns, IsAnswerRow, IsClaim, PlainProof, asks_adversary, asks_labeller}
use Rattle.proof_text.specs.RowForm.{AreRows, RowForm}
use Rattle.proof_text.specs.Rules.{BreaksNoRule, Serves, StartIsBelow, wanted_of}
use Rattle.proof_text.specs.SymmetryProof.{PlainSymmetryProof}
use Rattle.proof_text.specs.Versions.{answers_by_classes, by_configurations, requests_by_classes}
use Rattle.symmetries.specs.SymmetryRules.{alike_positions}
use Rattle.symmetries.specs.Symmetries.{IsSymmetry, least_alike}
use Rattle.strategies.specs.ClassDocument.{FitsFormat, IsClassDocumentOf}
use Rattle.strategies.specs.PositionDocument.{AsksAdversary, IsDocumentOver}
use Rattle.strategies.specs.Inside.NormalForm.{IsNormalForm}
use Rattle.strategies.specs.Sides.{HasStrategy, claim_for, document_for, part_of}
use Rattle.strategies.specs.SymmetricDocument.{IsSymmetryDocumentOf, symmetric_document_for}
use Rattle.strategies.proofs.ClassDocumentForm.{adversary_form, has_form, labeller_form}
use Rattle.strategies.proofs.FormedRows.{always_asked, labeller_asked}
use Rattle.strategies.proofs.NormalForms.{arranged_form, least_form}

-- ---- the rows

-- the claim of the document that is asked for
pub claim_is : (side : Option Side) (document : PlainProof)
    → (document_for side document).claim ≡ claim_for side document.claim
claim_is None document = refl
claim_is (Some Labeller) document = refl
claim_is (Some Adversary) document = refl

-- its rows are those of the whole document, where it asks for them
pub labeller_is : (side : Option Side) (value : Value) (document : PlainProof) → HasStrategy side value
    → asks_labeller (claim_for side (claim_of value)) ≡ true
    → (document_for side document).labeller ≡ document.labeller
labeller_is None value document has asked = refl
labeller_is (Some Labeller) value document has asked = refl
labeller_is (Some Adversary) (Finite number) document has asked = absurd (true≢false (sym asked))
labeller_is (Some Adversary) values.Forever document has asked = absurd has

pub adversary_is : (side : Option Side) (value : Value) (document : PlainProof) → HasStrategy side value
    → asks_adversary (claim_for side (claim_of value)) ≡ true
    → (document_for side document).adversary ≡ document.adversary
adversary_is None value document has asked = refl
adversary_is (Some Labeller) (Finite number) document has asked = absurd (true≢false (sym asked))
adversary_is (Some Labeller) values.Forever document has asked = absurd (true≢false (sym asked))
adversary_is (Some Adversary) value document has asked = refl

-- a claim that asks for the adversary's rows is of a finite value
pub asks_finite : (side : Option Side) (value : Value) → asks_adversary (claim_for side (claim_of value)) ≡ true
    → AsksAdversary value
asks_finite side (Finite number) asked = tt
asks_finite None values.Forever asked = absurd (true≢false (sym asked))
asks_finite (Some Labeller) values.Forever asked = absurd (true≢false (sym asked))
asks_finite (Some Adversary) values.Forever asked = absurd (true≢false (sym asked))

-- ---- the rules

serves_part : (rows : List AnswerRow) (start : List ℕ) (claim : Claim) → Serves rows start (wanted_of claim)
    → Serves rows start (wanted_of (part_of Labeller claim))
serves_part rows start (Exactly number) serves = serves
serves_part rows start (AtLeast number) serves = serves
serves_part rows start (AtMost number) serves = serves
serves_part rows start Forever serves = serves

below_part : (rows : List RequestRow) (start : List ℕ) (claim : Claim) → StartIsBelow rows start claim
    → StartIsBelow rows start (part_of Adversary claim)
below_part rows start (Exactly number) below = below
below_part rows start (AtLeast number) below = below
below_part rows start (AtMost number) below = below
below_part rows start Forever below = below

-- the labeller's part bounds nothing from above, and the adversary's wants no turns, of a claim on a value
module _ (claim : Claim) where
  unbound : (rows : List RequestRow) (start : List ℕ) → (asks_labeller claim ≡ true)
      → StartIsBelow rows start (part_of Labeller claim)
  unbound rows start asked = by claim asked
    where
      by : (claim : Claim) → asks_labeller claim ≡ true → StartIsBelow rows start (part_of Labeller claim)
      by (Exactly number) asked = tt
      by (AtLeast number) asked = tt
      by (AtMost number) asked = absurd (true≢false (sym asked))
      by Forever asked = tt

  unwanted : (rows : List AnswerRow) (start : List ℕ) → (asks_adversary claim ≡ true)
      → Serves rows start (wanted_of (part_of Adversary claim))
  unwanted rows start asked = by claim asked
    where
      by : (claim : Claim) → asks_adversary claim ≡ true → Serves rows start (wanted_of (part_of Adversary claim))
      by (Exactly number) asked = λ wanted. absurd (let some : 1 ≤ 0 = wanted in omega arith)
      by (AtLeast number) asked = absurd (true≢false (sym asked))
      by (AtMost number) asked = λ wanted. absurd (let some : 1 ≤ 0 = wanted in omega arith)
      by Forever asked = absurd (true≢false (sym asked))

no_rows : {X : Type 0} (P : X → Type 0) → All P []
no_rows P k d inside = absurd (omega arith)

pub labeller_breaks_no_rule : (positions : Positions) (board : PlainBoard) (proof : PlainProof)
    → asks_labeller proof.claim ≡ true → BreaksNoRule positions board proof
    → BreaksNoRule positions board (document_for (Some Labeller) proof)
labeller_breaks_no_rule positions board proof asked rules = record {
  start_serves = serves_part proof.labeller (positions.normal board.start) proof.claim rules.start_serves;
  start_below = unbound proof.claim [] (positions.normal board.start) asked;
  labeller = rules.labeller;
  adversary = no_rows _;
}

pub adversary_breaks_no_rule : (positions : Positions) (board : PlainBoard) (proof : PlainProof)
    → asks_adversary proof.claim ≡ true → BreaksNoRule positions board proof
    → BreaksNoRule positions board (document_for (Some Adversary) proof)
adversary_breaks_no_rule positions board proof asked rules = record {
  start_serves = unwanted proof.claim [] (positions.normal board.start) asked;
  start_below = below_part proof.adversary (positions.normal board.start) proof.claim rules.start_below;
  labeller = no_rows _;
  adversary = rules.adversary;
}

-- ---- the form

claim_part : (side : Side) (claim : Claim) → IsClaim claim → IsClaim (part_of side claim)
claim_part Labeller (Exactly number) is = is
claim_part Labeller (AtLeast number) is = is
claim_part Labeller (AtMost number) is = is
claim_part Labeller Forever is = is
claim_part Adversary (Exactly number) is = is
claim_part Adversary (AtLeast number) is = is
claim_part Adversary (AtMost number) is = is
claim_part Adversary Forever is = is

-- a claim fits if a part of it does
part_claim : (side : Side) (claim : Claim) → IsClaim (part_of side claim) → IsClaim claim
part_claim Labeller (Exactly number) is = is
part_claim Labeller (AtLeast number) is = is
part_claim Labeller (AtMost number) is = is
part_claim Labeller Forever is = is
part_claim Adversary (Exactly number) is = is
part_claim Adversary (AtLeast number) is = is
part_claim Adversary (AtMost number) is = is
part_claim Adversary Forever is = is

turns_part : (claim : Claim) (turns : Turns) → AreTurns claim turns → AreTurns (part_of Labeller claim) turns
turns_part (Exactly number) (Count turns) are = are
turns_part (Exactly number) Always are = are
turns_part (AtLeast number) (Count turns) are = are
turns_part (AtLeast number) Always are = are
turns_part (AtMost number) (Count turns) are = are
turns_part (AtMost number) Always are = are
turns_part Forever (Count turns) are = are
turns_part Forever Always are = are

labeller_asked_part : (claim : Claim) → asks_labeller claim ≡ true → asks_labeller (part_of Labeller claim) ≡ true
labeller_asked_part (Exactly number) asked = refl
labeller_asked_part (AtLeast number) asked = refl
labeller_asked_part (AtMost number) asked = asked
labeller_asked_part Forever asked = refl

adversary_asked_part : (claim : Claim) → asks_adversary claim ≡ true → asks_adversary (part_of Adversary claim) ≡ true
adversary_asked_part (Exactly number) asked = refl
adversary_asked_part (AtLeast number) asked = asked
adversary_asked_part (AtMost number) asked = refl
adversary_asked_part Forever asked = asked

answers_part : (board : PlainBoard) (claim : Claim) (rows : List AnswerRow) → All (IsAnswerRow board claim) rows
    → All (IsAnswerRow board (part_of Labeller claim)) rows
answers_part board claim rows all k d inside =
    let is = all k d inside in
    record { at = is.at; turns = turns_part claim (get_or rows k d).turns is.turns; answers = is.answers }

no_formed : {X : Type 0} (form : RowForm X) → AreRows form []
no_formed form = record {
  few = omega arith;
  each = no_rows form.IsRow;
  in_order = no_rows (λ row. form.AreInOrder (form.at row));
  ascending = λ i j d less inside. absurd (omega (arith, inside));
}

module _ (board : PlainBoard) (normal : List ℕ → List ℕ) (form : IsNormalForm board normal) (proof : PlainProof)
    (start : IsConfiguration board board.start)
    (is : IsDocumentOver (normal_positions normal) (document_number board.labels) board proof) where
  pub labeller_has_form : FitsFormat (document_for (Some Labeller) proof)
      → IsClassProof board (document_for (Some Labeller) proof)
  labeller_has_form fits =
      let whole = part_claim Labeller proof.claim fits.claim in
      let rows = labeller_form board normal form proof start is whole fits.labeller in record {
        claim = fits.claim;
        labeller = record {
          few = fits.labeller;
          each = answers_part board proof.claim proof.labeller rows.each;
          in_order = rows.in_order;
          ascending = rows.ascending;
        };
        adversary = no_formed (requests_by_classes board (part_of Labeller proof.claim));
        no_labeller = λ none. absurd (true≢false (sym (labeller_asked_part proof.claim
            (labeller_asked (normal_positions normal) (document_number board.labels) board proof is)) ∙ none));
        no_adversary = λ none. refl;
      }

  pub adversary_has_form : asks_adversary proof.claim ≡ true
      → FitsFormat (document_for (Some Adversary) proof)
      → IsClassProof board (document_for (Some Adversary) proof)
  adversary_has_form asked fits =
      let whole = part_claim Adversary proof.claim fits.claim in
      let rows = adversary_form board normal form proof start is whole fits.adversary in record {
        claim = fits.claim;
        labeller = no_formed (answers_by_classes board (part_of Adversary proof.claim));
        adversary = record {
          few = fits.adversary;
          each = rows.each;
          in_order = rows.in_order;
          ascending = rows.ascending;
        };
        no_labeller = λ none. refl;
        no_adversary = λ none. absurd (true≢false (sym (adversary_asked_part proof.claim asked) ∙ none));
      }

-- by configurations
module _ (board : PlainBoard) (proof : PlainProof) where
  pub labeller_is_formed : asks_labeller proof.claim ≡ true → IsProof board proof
      → IsProof board (document_for (Some Labeller) proof)
  labeller_is_formed asked formed = record {
    claim = claim_part Labeller proof.claim formed.claim;
    labeller = record {
      few = formed.labeller.few;
      each = answers_part board proof.claim proof.labeller formed.labeller.each;
      in_order = formed.labeller.in_order;
      ascending = formed.labeller.ascending;
    };
    adversary = no_formed ((by_configurations board).requests (part_of Labeller proof.claim));
    no_labeller = λ none. absurd (true≢false (sym (labeller_asked_part proof.claim asked) ∙ none));
    no_adversary = λ none. refl;
  }

  pub adversary_is_formed : asks_adversary proof.claim ≡ true → IsProof board proof
      → IsProof board (document_for (Some Adversary) proof)
  adversary_is_formed asked formed = record {
    claim = claim_part Adversary proof.claim formed.claim;
    labeller = no_formed ((by_configurations board).answers (part_of Adversary proof.claim));
    adversary = record {
      few = formed.adversary.few;
      each = formed.adversary.each;
      in_order = formed.adversary.in_order;
      ascending = formed.adversary.ascending;
    };
    no_labeller = λ none. refl;
    no_adversary = λ none. absurd (true≢false (sym (adversary_asked_part proof.claim asked) ∙ none));
  }

-- ---- what is shown

pub labeller_shows : (board : PlainBoard) (labeller : List AnswerRow) (adversary : List RequestRow) (claim : Claim)
    → asks_labeller claim ≡ true → Shows board labeller adversary claim
    → Shows board labeller [] (part_of Labeller claim)
labeller_shows board labeller adversary (Exactly number) asked shows = shows.0
labeller_shows board labeller adversary (AtLeast number) asked shows = shows
labeller_shows board labeller adversary (AtMost number) asked shows = absurd (true≢false (sym asked))
labeller_shows board labeller adversary Forever asked shows = shows

pub adversary_shows : (board : PlainBoard) (labeller : List AnswerRow) (adversary : List RequestRow) (claim : Claim)
    → asks_adversary claim ≡ true → Shows board labeller adversary claim
    → Shows board [] adversary (part_of Adversary claim)
adversary_shows board labeller adversary (Exactly number) asked shows = shows.1
adversary_shows board labeller adversary (AtLeast number) asked shows = absurd (true≢false (sym asked))
adversary_shows board labeller adversary (AtMost number) asked shows = shows
adversary_shows board labeller adversary Forever asked shows = absurd (true≢false (sym asked))

-- ---- what holds

at_most_itself : (board : PlainBoard) (configuration : List ℕ) (number : ℕ)
    → HasValue board configuration (Finite number) → HasValueAtMost board configuration number
at_most_itself board configuration number has = (number, omega arith, has)

holds_part : (board : PlainBoard) (value : Value) (side : Option Side) → Holds board (claim_of value)
    → Holds board (claim_for side (claim_of value))
holds_part board value None holds = holds
holds_part board (Finite number) (Some Labeller) holds = inr (number, omega arith, holds)
holds_part board values.Forever (Some Labeller) holds = holds
holds_part board (Finite number) (Some Adversary) holds = at_most_itself board board.start number holds
holds_part board values.Forever (Some Adversary) holds = holds

-- ---- for the side that is asked for

asked_of_value : (value : Value) → HasStrategy (Some Adversary) value → asks_adversary (claim_of value) ≡ true
asked_of_value (Finite number) strategy = refl
asked_of_value values.Forever strategy = absurd strategy

module _ (board : PlainBoard) (proof : PlainProof) (value : Value) (claim_is_of : proof.claim ≡ claim_of value) where
  labeller_asks : asks_labeller proof.claim ≡ true
  labeller_asks = ap asks_labeller claim_is_of ∙ always_asked value

  adversary_asks : HasStrategy (Some Adversary) value → asks_adversary proof.claim ≡ true
  adversary_asks strategy = ap asks_adversary claim_is_of ∙ asked_of_value value strategy

  pub breaks_no_rule_for : (positions : Positions) (side : Option Side) → HasStrategy side value
      → BreaksNoRule positions board proof → BreaksNoRule positions board (document_for side proof)
  breaks_no_rule_for positions None strategy rules = rules
  breaks_no_rule_for positions (Some Labeller) strategy rules =
      labeller_breaks_no_rule positions board proof labeller_asks rules
  breaks_no_rule_for positions (Some Adversary) strategy rules =
      adversary_breaks_no_rule positions board proof (adversary_asks strategy) rules

  pub form_over_for : (normal : List ℕ → List ℕ) → IsNormalForm board normal → (side : Option Side)
      → HasStrategy side value → IsConfiguration board board.start
      → IsDocumentOver (normal_positions normal) (document_number board.labels) board proof
      → FitsFormat (document_for side proof) → IsClassProof board (document_for side proof)
  form_over_for normal form None strategy start is fits = has_form board normal form proof start is fits
  form_over_for normal form (Some Labeller) strategy start is fits =
      labeller_has_form board normal form proof start is fits
  form_over_for normal form (Some Adversary) strategy start is fits =
      adversary_has_form board normal form proof start is (adversary_asks strategy) fits

  pub class_form_for : (side : Option Side) → HasStrategy side value → IsConfiguration board board.start
      → IsClassDocumentOf board proof → FitsFormat (document_for side proof)
      → IsClassProof board (document_for side proof)
  class_form_for = form_over_for (arranged board.labels) (arranged_form board)

  pub form_for : (side : Option Side) → HasStrategy side value → IsProof board proof
      → IsProof board (document_for side proof)
  form_for None strategy formed = formed
  form_for (Some Labeller) strategy formed = labeller_is_formed board proof labeller_asks formed
  form_for (Some Adversary) strategy formed = adversary_is_formed board proof (adversary_asks strategy) formed

  pub shows_for : (side : Option Side) → HasStrategy side value
      → Shows board proof.labeller proof.adversary proof.claim
      → Shows board (document_for side proof).labeller (document_for side proof).adversary
      (document_for side proof).claim
  shows_for None strategy shows = shows
  shows_for (Some Labeller) strategy shows =
      labeller_shows board proof.labeller proof.adversary proof.claim labeller_asks shows
  shows_for (Some Adversary) strategy shows =
      adversary_shows board proof.labeller proof.adversary proof.claim (adversary_asks strategy) shows

  pub holds_for : (side : Option Side) → Holds board proof.claim → Holds board (document_for side proof).claim
  holds_for side holds = subst (Holds board) (sym (claim_is side proof ∙ ap (claim_for side) claim_is_of))
      (holds_part board value side (subst (Holds board) claim_is_of holds))

-- ---- up to symmetries

least_rows_for : (labels : ℕ) (group : List (List ℕ)) (side : Option Side) (proof : PlainProof)
    → HasLeastRows labels group proof → HasLeastRows labels group (document_for side proof)
least_rows_for labels group None proof least = least
least_rows_for labels group (Some Labeller) proof least =
    record { labeller = least.labeller; adversary = no_rows _ }
least_rows_for labels group (Some Adversary) proof least =
    record { labeller = no_rows _; adversary = least.adversary }

module _ (board : PlainBoard) (proof : PlainSymmetryProof) (value : Value)
    (claim_is_of : proof.rows.claim ≡ claim_of value) (side : Option Side) (strategy : HasStrategy side value) where
  pub breaks_no_rule_up_to_for : BreaksNoRuleUpTo board proof
      → BreaksNoRuleUpTo board (symmetric_document_for side proof)
  breaks_no_rule_up_to_for breaks = record {
    group = breaks.group;
    few = breaks.few;
    rows = least_rows_for board.labels breaks.group side proof.rows breaks.rows;
    rules = record {
      symmetries = breaks.rules.symmetries;
      group_is = breaks.rules.group_is;
      rules = breaks_no_rule_for board proof.rows value claim_is_of (alike_positions board.labels breaks.group) side
          strategy breaks.rules.rules;
    };
  }

  pub symmetry_form_for : IsConfiguration board board.start → (maps : List (List ℕ)) → AreMaps board.labels maps
      → All (IsSymmetry board) maps → IsSymmetryDocumentOf board maps proof
      → FitsFormat (document_for side proof.rows)
      → IsSymmetryProof board (symmetric_document_for side proof)
  symmetry_form_for start maps are each of fits = record {
    maps = subst (AreMaps board.labels) (sym of.maps_are) are;
    rows = form_over_for board proof.rows value claim_is_of (least_alike board.labels of.group)
        (least_form board maps of.group each of.are_group) side strategy start of.rows fits;
  }
