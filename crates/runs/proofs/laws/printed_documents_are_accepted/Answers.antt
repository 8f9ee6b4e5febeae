use Rattle.runs.proofs.AcceptedDocuments.{accepts, accepts_text, no_fault_of_board, no_fault_of_document, runs_agree}
use Rattle.runs.proofs.laws.printed_documents_are_accepted.Goals as goal

pub returns-clause-verdict : goal.returns-clause-verdict
returns-clause-verdict c = accepts

pub returns-clause-text : goal.returns-clause-text
returns-clause-text c =
    λ text written value board verdict line solution small checked. accepts_text text written value solution board small
    verdict line checked

pub returns-clause-faultless_board : goal.returns-clause-faultless_board
returns-clause-faultless_board c = no_fault_of_board

pub returns-clause-faultless_document : goal.returns-clause-faultless_document
returns-clause-faultless_document c =
    λ text written value board fault solution small wrong. no_fault_of_document text written value solution board small
    fault wrong

pub returns-clause-runs : goal.returns-clause-runs
returns-clause-runs c = runs_agree
