-- A claim holds of the start exactly if some document that breaks no rule makes it.
use Rattle.std.proofs.Common.{◌≡◌, ℕ, zero, suc, ◌-◌, ◌<◌, ◌≤◌, List, [], length, get_or, map, refl, sym, ◌∙◌, ap}
use Rattle.std.proofs.Common.{subst, arith, inl, inr}
use Rattle.std.specs.Prelude.{AllPairs, Contains}
use Rattle.std.proofs.lemmas.Bool.{true≢false}
use Rattle.std.proofs.lemmas.List.{get_or-map, length-map}
use Rattle.std.proofs.lemmas.List.Elements.{All-contains, All-map, All-nil, All-weaker}
use Rattle.board_text.specs.PlainBoard.{PlainBoard, IsConfiguration}
use Rattle.positions.specs.Game.{moved}
use Rattle.positions.specs.Table.{AnswerRow}
use Rattle.positions.specs.Claim.{Holds, claim_of}
use Rattle.positions.specs.Ranks.{configurations}
use Rattle.positions.specs.Value.{HasValue}
use Rattle.positions.specs.declared.claim.Claim.{Claim}
use Rattle.positions.specs.declared.claim.Claim.TheVariants as claims
use Rattle.positions.specs.declared.space.TheConstants.{MAX_CONFIGURATIONS}
use Rattle.positions.specs.declared.turns.Turns.{Turns}
use Rattle.positions.specs.declared.turns.Turns.TheVariants.{Count, Always}
use Rattle.positions.specs.declared.value.Value.{Value}
use Rattle.positions.specs.declared.value.Value.TheVariants.{Finite, Forever}
use Rattle.positions.proofs.Cited.{claim_holds, same_value}
use Rattle.proof_check.proofs.Cited.{shows}
use Rattle.proof_text.specs.Documents.{IsProof}
use Rattle.proof_text.specs.Proof.{PlainProof, IsClaim, IsAnswerRow, IsRequestRow, AreTurns, IsBefore}
use Rattle.proof_text.specs.RowForm.{AreRows}
use Rattle.proof_text.specs.Versions.{answers_by_configurations, requests_by_configurations}
use Rattle.proof_text.specs.Rules.{BreaksNoRule, IsEnough, IsListedBelow, IsListedFor, MeetsAnswers, MeetsRequests}
use Rattle.proof_text.specs.Positions.{configuration_positions}
use Rattle.proof_text.specs.Rules.{Serves, StartIsBelow, one_less, wanted_of}
use Rattle.nested_cycles.proofs.Cited.{contains_map, each_of}
use Rattle.strategies.proofs.Cited.{breaks_no_rule, document_exists, is_formed}

-- a document of the format that breaks no rule and makes the claim
abbrev HasDocument : PlainBoard → Claim → Type 0
HasDocument board claim = (proof : PlainProof) × IsProof board proof × BreaksNoRule configuration_positions board proof
    × (proof.claim ≡ claim)

-- ---- a document with another claim

fewer_enough : (less more : ℕ) (turns : Turns) → less ≤ more → IsEnough (Count more) turns
    → IsEnough (Count less) turns
fewer_enough less more (Count turns) at_most enough = omega (arith, at_most, enough)
fewer_enough less more Always at_most enough = tt

counted : (exactly least : ℕ) (turns : Turns) → AreTurns (claims.Exactly exactly) turns
    → AreTurns (claims.AtLeast least) turns
counted exactly least (Count turns) are = are
counted exactly least Always are = are

no_rows : (board : PlainBoard) (claim : Claim) → AreRows (requests_by_configurations board claim) []
no_rows board claim = record {
  few = omega arith;
  each = All-nil (IsRequestRow board);
  in_order = λ k d low. tt;
  ascending = λ i j d before inside. absurd (omega (arith, inside));
}

no_answers : (board : PlainBoard) (claim : Claim) → AreRows (answers_by_configurations board claim) []
no_answers board claim = record {
  few = omega arith;
  each = All-nil (IsAnswerRow board claim);
  in_order = λ k d low. tt;
  ascending = λ i j d before inside. absurd (omega (arith, inside));
}

-- documents from that of a start with a finite value
module _ (board : PlainBoard) (proof : PlainProof) (exactly : ℕ) (is : IsProof board proof)
    (rules : BreaksNoRule configuration_positions board proof)
    (claim : proof.claim ≡ claims.Exactly exactly) where
  pub least_document : (least : ℕ) → least ≤ exactly → IsClaim (claims.AtLeast least)
      → HasDocument board (claims.AtLeast least)
  least_document least at_most is_claim =
      let rows : AreRows (answers_by_configurations board (claims.Exactly exactly)) proof.labeller
      = subst (λ (c : Claim). AreRows (answers_by_configurations board c) proof.labeller) claim is.labeller in
      let serves : Serves proof.labeller board.start (Count exactly)
      = subst (λ (c : Claim). Serves proof.labeller board.start (wanted_of c)) claim rules.start_serves in (
        record { claim = claims.AtLeast least; labeller = proof.labeller; adversary = [] },
        record {
          claim = is_claim;
          labeller = record {
            few = rows.few;
            each = All-weaker (IsAnswerRow board (claims.Exactly exactly)) (IsAnswerRow board (claims.AtLeast least))
                (λ row h. record { at = h.at; turns = counted exactly least row.turns h.turns; answers = h.answers })
                proof.labeller rows.each;
            in_order = rows.in_order;
            ascending = rows.ascending;
          };
          adversary = no_rows board (claims.AtLeast least);
          no_labeller = λ same. absurd (true≢false same);
          no_adversary = λ same. refl;
        },
        record {
          start_serves = λ wanted.
              let listed = serves (omega (arith, wanted, at_most)) in
              record {
                row = listed.row;
                among = listed.among;
                at = listed.at;
                enough = fewer_enough least exactly listed.row.turns at_most listed.enough;
              };
          start_below = tt;
          labeller = rules.labeller;
          adversary = All-nil (MeetsAnswers configuration_positions board []);
        },
        refl,
      )

  pub most_document : (most : ℕ) → exactly ≤ most → IsClaim (claims.AtMost most)
      → HasDocument board (claims.AtMost most)
  most_document most at_most is_claim =
      let below : IsListedBelow proof.adversary board.start (suc exactly)
      = subst (λ (c : Claim). StartIsBelow proof.adversary board.start c) claim rules.start_below in (
        record { claim = claims.AtMost most; labeller = []; adversary = proof.adversary },
        record {
          claim = is_claim;
          labeller = no_answers board (claims.AtMost most);
          adversary = record {
            few = is.adversary.few;
            each = is.adversary.each;
            in_order = is.adversary.in_order;
            ascending = is.adversary.ascending;
          };
          no_labeller = λ same. refl;
          no_adversary = λ same. absurd (true≢false same);
        },
        record {
          start_serves = λ wanted. absurd (omega (arith, wanted));
          start_below = record {
            row = below.row;
            among = below.among;
            at = below.at;
            below = omega (arith, below.below, at_most);
          };
          labeller = All-nil (MeetsRequests configuration_positions board []);
          adversary = rules.adversary;
        },
        refl,
      )

-- ---- documents from that of a start that lasts for ever

-- the row for this number of turns
abbrev for_turns : ℕ → AnswerRow → AnswerRow
for_turns turns row = record { at = row.at; turns = Count turns; answers = row.answers }

always_wanted : (turns : Turns) → AreTurns claims.Forever turns → turns ≡ Always
always_wanted Always are = refl
always_wanted (Count turns) are = absurd are

module _ (board : PlainBoard) (proof : PlainProof) (turns : ℕ) (is : IsProof board proof)
    (rules : BreaksNoRule configuration_positions board proof)
    (claim : proof.claim ≡ claims.Forever) (some : 1 ≤ turns) where
  rows : List AnswerRow
  rows = map (for_turns turns) proof.labeller

  listed_for : (configuration : List ℕ) (wanted : ℕ) → wanted ≤ turns
      → IsListedFor proof.labeller configuration Always
      → IsListedFor rows configuration (Count wanted)
  unfolding rows
  listed_for configuration wanted few listed = record {
    row = for_turns turns listed.row;
    among = contains_map (for_turns turns) proof.labeller listed.row listed.among;
    at = listed.at;
    enough = few;
  }

  are_rows : AreRows (answers_by_configurations board claims.Forever) proof.labeller
  are_rows = subst (λ (c : Claim). AreRows (answers_by_configurations board c) proof.labeller) claim is.labeller

  meets : (row : AnswerRow) → Contains proof.labeller row
      → MeetsRequests configuration_positions board rows (for_turns turns row)
  meets row among pebble below =
      let is_row = All-contains (IsAnswerRow board claims.Forever) proof.labeller row are_rows.each among in
      let met =
      All-contains (MeetsRequests configuration_positions board proof.labeller) proof.labeller row rules.labeller among
      pebble below in
      let after : Serves proof.labeller (moved row.at pebble met.label) Always
      = subst (λ (t : Turns). Serves proof.labeller (moved row.at pebble met.label) (one_less t))
      (always_wanted row.turns is_row.turns) met.serves in
      record {
        label = met.label;
        answer = met.answer;
        legal = met.legal;
        serves = λ wanted. listed_for (moved row.at pebble met.label) (turns - 1) (omega arith) (after tt);
      }

  ascends : AllPairs (λ first second. IsBefore board first.at second.at) rows
  unfolding rows
  ascends i j d before inside =
      let there : j < length proof.labeller = omega (arith, inside, length-map proof.labeller (for_turns turns)) in
      subst (λ (row : AnswerRow). IsBefore board row.at (get_or (map (for_turns turns) proof.labeller) j d).at)
      (sym (get_or-map (for_turns turns) proof.labeller i d d (omega (arith, before, there))))
      (subst (λ (row : AnswerRow). IsBefore board (get_or proof.labeller i d).at row.at)
      (sym (get_or-map (for_turns turns) proof.labeller j d d there)) (are_rows.ascending i j d before there))

  pub turned_document : IsClaim (claims.AtLeast turns) → HasDocument board (claims.AtLeast turns)
  unfolding rows
  turned_document is_claim =
      let serves : Serves proof.labeller board.start Always
      = subst (λ (c : Claim). Serves proof.labeller board.start (wanted_of c)) claim rules.start_serves in (
        record { claim = claims.AtLeast turns; labeller = rows; adversary = [] },
        record {
          claim = is_claim;
          labeller = record {
            few = omega (arith, are_rows.few, length-map proof.labeller (for_turns turns));
            each = All-map (IsAnswerRow board (claims.AtLeast turns)) (for_turns turns) proof.labeller
                (All-weaker (IsAnswerRow board claims.Forever)
                (λ row. IsAnswerRow board (claims.AtLeast turns) (for_turns turns row))
                (λ row h. record { at = h.at; turns = (some, is_claim); answers = h.answers })
                proof.labeller are_rows.each);
            in_order = λ k d low. tt;
            ascending = ascends;
          };
          adversary = no_rows board (claims.AtLeast turns);
          no_labeller = λ same. absurd (true≢false same);
          no_adversary = λ same. refl;
        },
        record {
          start_serves = λ wanted. listed_for board.start turns (omega arith) (serves tt);
          start_below = tt;
          labeller = All-map (MeetsRequests configuration_positions board rows) (for_turns turns) proof.labeller
              (each_of
              (λ row. MeetsRequests configuration_positions board rows (for_turns turns row)) proof.labeller meets);
          adversary = All-nil (MeetsAnswers configuration_positions board []);
        },
        refl,
      )

-- no request needs no row
pub nothing_document : (board : PlainBoard) → IsClaim (claims.AtLeast 0) → HasDocument board (claims.AtLeast 0)
nothing_document board is_claim = (
  record { claim = claims.AtLeast 0; labeller = []; adversary = [] },
  record {
    claim = is_claim;
    labeller = no_answers board (claims.AtLeast 0);
    adversary = no_rows board (claims.AtLeast 0);
    no_labeller = λ same. refl;
    no_adversary = λ same. refl;
  },
  record {
    start_serves = λ wanted. absurd (omega (arith, wanted));
    start_below = tt;
    labeller = All-nil (MeetsRequests configuration_positions board []);
    adversary = All-nil (MeetsAnswers configuration_positions board []);
  },
  refl,
)

-- ---- both ways

module _ (board : PlainBoard) (start : IsConfiguration board board.start)
    (few : configurations board ≤ MAX_CONFIGURATIONS) where
  -- the document of the board
  by_value : (value : Value) → HasValue board board.start value → HasDocument board (claim_of value)
  by_value value has =
      let found = document_exists board start in
      let same : found.1.value ≡ value = same_value board board.start found.1.value value found.1.has_value has in (
        found.0,
        is_formed board found.0 start few found.1,
        breaks_no_rule board found.0 start found.1,
        found.1.claim ∙ ap claim_of same,
      )

  least_forever : (number : ℕ) → IsClaim (claims.AtLeast number) → HasValue board board.start Forever
      → HasDocument board (claims.AtLeast number)
  least_forever zero is_claim has = nothing_document board is_claim
  least_forever (suc number) is_claim has =
      let found = by_value Forever has in
      turned_document board found.0 (suc number) found.1 found.2 found.3 (omega arith) is_claim

  pub documents_for : (claim : Claim) → IsClaim claim → Holds board claim → HasDocument board claim
  documents_for (claims.Exactly number) is_claim holds = by_value (Finite number) holds
  documents_for (claims.AtLeast number) is_claim (inl forever) = least_forever number is_claim forever
  documents_for (claims.AtLeast number) is_claim (inr finite) =
      let found = by_value (Finite finite.0) finite.2 in
      least_document board found.0 finite.0 found.1 found.2 found.3 number finite.1 is_claim
  documents_for (claims.AtMost number) is_claim holds =
      let found = by_value (Finite holds.0) holds.2 in
      most_document board found.0 holds.0 found.1 found.2 found.3 number holds.1 is_claim
  documents_for claims.Forever is_claim holds = by_value Forever holds

  pub claims_of_documents : (claim : Claim) → HasDocument board claim → Holds board claim
  claims_of_documents claim found =
      subst (Holds board) found.3
      (claim_holds board found.0.labeller found.0.adversary found.0.claim start (shows board found.0 found.1 found.2))
