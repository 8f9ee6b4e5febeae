use Rattle.std.proofs.lemmas.Result.{IfErr-weaker}
use Rattle.strategies.proofs.ClassesMade.{all_ok, class_form_made, class_rules_made}
use Rattle.strategies.proofs.LongDocuments.{class_unmade}
use Rattle.strategies.proofs.NormalForms.{by_none}
use Rattle.strategies.proofs.class_documents.document_by_classes_in_parts.Goals as goal

pub document_over-requires-clause-normal : goal.document_over-requires-clause-normal
document_over-requires-clause-normal g c = λ κs lives.
    rw (c.by_classes-alike.ensures, c.board.ensures) (by_none c.args.moves.now)

pub returns-clause-document : goal.returns-clause-document
returns-clause-document g c =
    rw (c.by_classes-alike.ensures) at c.document_over.ensures.document

pub returns-clause-form : goal.returns-clause-form
returns-clause-form g c =
    let board = c.args.moves.now in
    all_ok c.document_over.result
    (λ made is padded is_board.
    class_form_made board c.args.side c.requires.strategy made.proof is is_board.start padded)
    (rw (c.by_classes-alike.ensures) at c.document_over.ensures.document)
    c.document_over.ensures.padded c.document_over.ensures.is_board

pub returns-clause-rules : goal.returns-clause-rules
returns-clause-rules g c =
    let board = c.args.moves.now in
    all_ok c.document_over.result
    (λ made is padded is_board. class_rules_made board c.args.side c.requires.strategy made.proof is is_board.start)
    (rw (c.by_classes-alike.ensures) at c.document_over.ensures.document)
    c.document_over.ensures.padded c.document_over.ensures.is_board

pub returns-clause-fault : goal.returns-clause-fault
returns-clause-fault g c =
    IfErr-weaker c.document_over.result _ _
    (class_unmade c.args.side c.args.moves.now c.args.bytes)
    (rw (c.by_classes-alike.ensures) at c.document_over.ensures.fault)
