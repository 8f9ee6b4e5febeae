use Rattle.std.proofs.Common.{◌≡◌, ℕ, Bool, true, false, List, ◌++◌, append-nil, codes, ap, sym, ◌∙◌, arith, Vec}
use Rattle.std.proofs.Common.{Global}
use Rattle.std.specs.List.{flat_map}
use Rattle.board_text.specs.BoardText.{end_line}
use Rattle.positions.specs.Claim.{claim_of}
use Rattle.proof_text.specs.Proof.{asks_adversary, asks_labeller}
use Rattle.proof_text.specs.ProofText.{first_two_lines, proof_version_line}
use Rattle.strategies.specs.Inside.Lines.{adversary_line, labeller_line}
use Rattle.strategies.specs.Inside.Side.{labeller_side, adversary_side}
use Rattle.strategies.specs.Sides.{claim_for}
use Rattle.strategies.proofs.GatheredRows.{adversarys, labellers}
use Rattle.strategies.proofs.PositionLaws.{are_plain}
use Rattle.strategies.proofs.WrittenLines.{few_if, lines_if, lines_then, no_lines_then, parts_written, whole_text}
use Rattle.strategies.proofs.rank_moves.RankMoves.text_of.Goals as goal
use Rattle.strategies.proofs.rank_moves.RankMoves.text_of.Goals.{then-asks_labeller+in_ok-add_section}
use Rattle.strategies.proofs.rank_moves.RankMoves.text_of.Goals.{else-asks_labeller}
use Rattle.strategies.proofs.rank_moves.RankMoves.text_of.Goals.{then-asks_adversary+in_ok-add_section-2}
use Rattle.strategies.proofs.rank_moves.RankMoves.text_of.Goals.{else-asks_adversary}

pub add_section-requires : goal.add_section-requires
add_section-requires c =
    let board = c.args.self.now in
    let asked : asks_labeller (claim_for c.args.side (claim_of c.args.value)) ≡ true =
    ap asks_labeller (sym c.claim_for-claim.ensures) ∙ sym c.asks_labeller.ensures ∙ c.if-asks_labeller.true in
    let few = few_if board (labeller_side board c.args.value) (labeller_line board) _ c.args.labeller.items asked
    c.requires.few (labellers board _ (are_plain board) _ c.requires.start _ _ c.args.value) c.requires.labeller in
    record { few = omega (arith, few) }

pub add_section-requires-then-asks_adversary : goal.add_section-requires-then-asks_adversary
add_section-requires-then-asks_adversary c =
    let board = c.args.self.now in
    let asked : asks_adversary (claim_for c.args.side (claim_of c.args.value)) ≡ true =
    ap asks_adversary (sym c.claim_for-claim.ensures) ∙ sym c.asks_adversary.ensures ∙ c.if-asks_adversary.true in
    let few = few_if board (adversary_side board c.args.value) (adversary_line board) _ c.args.adversary.items asked
    c.requires.few (adversarys board _ (are_plain board) _ c.requires.start _ _) c.requires.adversary in
    record { few = omega (arith, few) }

pub returns-clause-text : goal.returns-clause-text
returns-clause-text c =
    let claim = claim_for c.args.side (claim_of c.args.value) in
    let f : Vec ℕ Global → List ℕ = λ part. part.items in
    let answers_asked : (b : Bool) → c.asks_labeller.result ≡ b → asks_labeller claim ≡ b =
    λ b is. ap asks_labeller (sym c.claim_for-claim.ensures) ∙ sym c.asks_labeller.ensures ∙ is in
    let requests_asked : (b : Bool) → c.asks_adversary.result ≡ b → asks_adversary claim ≡ b =
    λ b is. ap asks_adversary (sym c.claim_for-claim.ensures) ∙ sym c.asks_adversary.ensures ∙ is in
    let labeller : List ℕ = lines_if (codes "labeller") (asks_labeller claim) c.args.labeller.items in
    let adversary : List ℕ = lines_if (codes "adversary") (asks_adversary claim) c.args.adversary.items in
    let head_is = c.in_ok-finish.ensures ∙ c.in_ok-first_lines.ensures
    ∙ ap (first_two_lines proof_version_line) c.claim_for-claim.ensures in
    let two_is : flat_map f c.if-asks_labeller.parts.items ≡ flat_map f c.push.new.self.items ++ labeller =
    elim c.if-asks_labeller.branch [
      | then-asks_labeller+in_ok-add_section w ↦ rw w.parts-is (w.in_ok-add_section.ensures
          ∙ ap (λ l. flat_map f c.push.new.self.items ++ l) (lines_then (codes "labeller") (asks_labeller claim)
          c.args.labeller.items (answers_asked true w.if-asks_labeller.true)))
      | else-asks_labeller w ↦ rw w.parts-is (sym (append-nil (flat_map f c.push.new.self.items))
          ∙ ap (λ l. flat_map f c.push.new.self.items ++ l) (sym (no_lines_then (codes "labeller")
          (asks_labeller claim) c.args.labeller.items (answers_asked false w.if-asks_labeller.false))))
    ] in
    let three_is : flat_map f c.if-asks_adversary.parts.items
    ≡ flat_map f c.if-asks_labeller.parts.items ++ adversary =
    elim c.if-asks_adversary.branch [
      | then-asks_adversary+in_ok-add_section-2 w ↦ rw w.parts-is (w.in_ok-add_section-2.ensures
          ∙ ap (λ l. flat_map f c.if-asks_labeller.parts.items ++ l) (lines_then (codes "adversary")
          (asks_adversary claim) c.args.adversary.items (requests_asked true w.if-asks_adversary.true)))
      | else-asks_adversary w ↦ rw w.parts-is (sym (append-nil (flat_map f c.if-asks_labeller.parts.items))
          ∙ ap (λ l. flat_map f c.if-asks_labeller.parts.items ++ l) (sym (no_lines_then (codes "adversary")
          (asks_adversary claim) c.args.adversary.items (requests_asked false w.if-asks_adversary.false))))
    ] in
    let end_is = c.in_ok-finish-2.ensures ∙ c.in_ok-push_end.ensures
    ∙ ap (λ (l : List ℕ). l ++ end_line) (c.new-end.ensures ∙ c.new.ensures.bytes) in
    whole_text c.args.self.now c.requires.start c.args.side c.args.value c.requires.value c.requires.strategy
    c.args.labeller.items c.args.adversary.items _ c.requires.labeller c.requires.adversary
    (parts_written f c.new-parts.result.items c.push.new.self.items c.if-asks_labeller.parts.items
    c.if-asks_adversary.parts.items c.push-2.new.self.items c.in_ok-finish.field-0 c.in_ok-finish-2.field-0
    (first_two_lines proof_version_line claim) labeller adversary end_line c.new-parts.ensures.items
    c.in_ok-push.ensures.items head_is two_is three_is c.in_ok-push-2.ensures.items end_is)
