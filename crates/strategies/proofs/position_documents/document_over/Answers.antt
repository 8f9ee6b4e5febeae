use Rattle.std.proofs.Common.{◌≡◌, ◌+◌, ◌*◌, ◌<◌, ◌∙◌, true, refl, ap, sym, subst}
use Rattle.std.proofs.lemmas.Result.{err_from_is_err_and}
use Rattle.positions.specs.Claim.{claim_of}
use Rattle.proof_text.specs.Proof.{asks_adversary, asks_labeller}
use Rattle.strategies.specs.Inside.ClassSide.{class_adversary_side, class_labeller_side}
use Rattle.strategies.specs.Inside.NormalForm.{normal_by}
use Rattle.strategies.specs.Sides.{HasStrategy, claim_for}
use Rattle.strategies.proofs.AskedClassRows.{filled_if, if_asked, made_is}
use Rattle.strategies.proofs.LongDocuments.{adversary_unmade, labeller_unmade}
use Rattle.strategies.proofs.position_documents.document_over.Goals as goal
use Rattle.strategies.proofs.position_documents.document_over.Goals.{then-asks_labeller+in_ok-labeller}
use Rattle.strategies.proofs.position_documents.document_over.Goals.{else-asks_labeller}
use Rattle.strategies.proofs.position_documents.document_over.Goals.{then-asks_adversary+in_ok-adversary}
use Rattle.strategies.proofs.position_documents.document_over.Goals.{else-asks_adversary}

pub section_in_parts-requires-clause-normal : goal.section_in_parts-requires-clause-normal
section_in_parts-requires-clause-normal g c = λ κs lives. c.requires.normal

pub section_in_parts-requires-then-asks_adversary-clause-normal :
    goal.section_in_parts-requires-then-asks_adversary-clause-normal
section_in_parts-requires-then-asks_adversary-clause-normal g c = λ κs lives. c.requires.normal

pub section_in_parts-requires-clause-kind : goal.section_in_parts-requires-clause-kind
section_in_parts-requires-clause-kind g c = λ κs lives. (c.args.alike.now, refl)

pub section_in_parts-requires-then-asks_adversary-clause-kind :
    goal.section_in_parts-requires-then-asks_adversary-clause-kind
section_in_parts-requires-then-asks_adversary-clause-kind g c = λ κs lives. (c.args.alike.now, refl)

pub returns-in_err-labeller-clause-fault : goal.returns-in_err-labeller-clause-fault
returns-in_err-labeller-clause-fault g c =
    let board = c.args.moves.now in
    let group = c.args.alike.now in
    let form = c.requires.normal.form in
    let is_board = c.start_value-value.ensures.is_board in
    let pebbles : c.pebbles-pebbles.result ≡ board.pebbles =
    c.pebbles-pebbles.ensures.value ∙ ap (λ b. b.pebbles) c.board.ensures in
    let room = subst (λ p. c.args.bytes < (c.labeller_room-most.result + 1) * (13 + 4 * p)) pebbles
    c.labeller_room-most.ensures in
    let value = c.start_value-value.result in
    let has = c.start_value-value.ensures.value in
    let strategy : HasStrategy c.args.side value = c.requires.strategy value has in
    let asked : asks_labeller (claim_for c.args.side (claim_of value)) ≡ true =
    ap asks_labeller (sym c.claim_for-claim.ensures) ∙ sym c.asks_labeller.ensures ∙ c.if-asks_labeller.true in
    let fault = c.in_err-labeller.field-0.0 in
    let made = labeller_unmade board (normal_by board group) form is_board c.args.side value c.args.bytes
    c.labeller_room-most.result has strategy asked room fault c.in_err-labeller.ensures.fault in
    let p = err_from_is_err_and c.from_residual.result c.from_residual.ensures.1 in
    rw (p.1, p.2) made

pub returns-in_err-adversary-clause-fault : goal.returns-in_err-adversary-clause-fault
returns-in_err-adversary-clause-fault g c =
    let board = c.args.moves.now in
    let group = c.args.alike.now in
    let form = c.requires.normal.form in
    let is_board = c.start_value-value.ensures.is_board in
    let pebbles : c.pebbles-pebbles.result ≡ board.pebbles =
    c.pebbles-pebbles.ensures.value ∙ ap (λ b. b.pebbles) c.board.ensures in
    let room = subst (λ p. c.args.bytes < (c.adversary_room-most.result + 1) * (13 + 2 * p)) pebbles
    c.adversary_room-most.ensures in
    let value = c.start_value-value.result in
    let has = c.start_value-value.ensures.value in
    let strategy : HasStrategy c.args.side value = c.requires.strategy value has in
    let asked : asks_adversary (claim_for c.args.side (claim_of value)) ≡ true =
    ap asks_adversary (sym c.claim_for-claim.ensures) ∙ sym c.asks_adversary.ensures ∙ c.if-asks_adversary.true in
    let fault = c.in_err-adversary.field-0.0 in
    let made = adversary_unmade board (normal_by board group) form is_board c.args.side value c.args.bytes
    c.adversary_room-most.result has strategy asked room fault c.in_err-adversary.ensures.fault in
    let p = err_from_is_err_and c.from_residual-in_err-adversary.result c.from_residual-in_err-adversary.ensures.1 in
    rw (p.1, p.2) made

pub returns-clause-document : goal.returns-clause-document
returns-clause-document g c =
    let board = c.args.moves.now in
    let value = c.start_value-value.result in
    let has = c.start_value-value.ensures.value in
    let claim = claim_for c.args.side (claim_of value) in
    let normal = normal_by board c.args.alike.now in
    let answers = class_labeller_side board normal value in
    let requests = class_adversary_side board normal value in
    let labeller = if_asked board answers c.asks_labeller.result (asks_labeller claim) c.if-asks_labeller.labeller.items
    (c.asks_labeller.ensures ∙ ap asks_labeller c.claim_for-claim.ensures)
    (elim c.if-asks_labeller.branch [
      | then-asks_labeller+in_ok-labeller w ↦
          rw (w.if-asks_labeller.true, w.labeller-is) w.in_ok-labeller.ensures.ok
      | else-asks_labeller w ↦ rw (w.if-asks_labeller.false, w.labeller-is) w.new-labeller.ensures.items
    ]) in
    let adversary = if_asked board requests c.asks_adversary.result (asks_adversary claim)
    c.if-asks_adversary.adversary.items (c.asks_adversary.ensures ∙ ap asks_adversary c.claim_for-claim.ensures)
    (elim c.if-asks_adversary.branch [
      | then-asks_adversary+in_ok-adversary w ↦
          rw (w.if-asks_adversary.true, w.adversary-is) w.in_ok-adversary.ensures.ok
      | else-asks_adversary w ↦ rw (w.if-asks_adversary.false, w.adversary-is) w.new-adversary.ensures.items
    ]) in
    rw c.claim_for-claim.ensures (made_is board normal c.requires.normal.form c.start_value-value.ensures.is_board.start
    c.args.side value has (c.requires.strategy value has) c.if-asks_labeller.labeller.items
    c.if-asks_adversary.adversary.items labeller adversary)

pub returns-clause-padded : goal.returns-clause-padded
returns-clause-padded g c =
    let board = c.args.moves.now in
    let value = c.start_value-value.result in
    let claim = claim_for c.args.side (claim_of value) in
    let normal = normal_by board c.args.alike.now in
    let answers = class_labeller_side board normal value in
    let requests = class_adversary_side board normal value in
    let labeller = if_asked board answers c.asks_labeller.result (asks_labeller claim) c.if-asks_labeller.labeller.items
    (c.asks_labeller.ensures ∙ ap asks_labeller c.claim_for-claim.ensures)
    (elim c.if-asks_labeller.branch [
      | then-asks_labeller+in_ok-labeller w ↦
          rw (w.if-asks_labeller.true, w.labeller-is) w.in_ok-labeller.ensures.ok
      | else-asks_labeller w ↦ rw (w.if-asks_labeller.false, w.labeller-is) w.new-labeller.ensures.items
    ]) in
    let adversary = if_asked board requests c.asks_adversary.result (asks_adversary claim)
    c.if-asks_adversary.adversary.items (c.asks_adversary.ensures ∙ ap asks_adversary c.claim_for-claim.ensures)
    (elim c.if-asks_adversary.branch [
      | then-asks_adversary+in_ok-adversary w ↦
          rw (w.if-asks_adversary.true, w.adversary-is) w.in_ok-adversary.ensures.ok
      | else-asks_adversary w ↦ rw (w.if-asks_adversary.false, w.adversary-is) w.new-adversary.ensures.items
    ]) in
    record {
      places = filled_if board (class_labeller_side board normal value) _ _ c.if-asks_labeller.labeller.items
          (λ row filled. filled.0) labeller;
      answers = filled_if board (class_labeller_side board normal value) _ _ c.if-asks_labeller.labeller.items
          (λ row filled. filled.1) labeller;
      asked = filled_if board (class_adversary_side board normal value) _ _ c.if-asks_adversary.adversary.items
          (λ row filled. filled) adversary;
    }
