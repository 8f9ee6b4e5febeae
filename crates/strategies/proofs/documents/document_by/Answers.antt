use Rattle.std.proofs.Common.{rules}
use Rattle.proof_text.specs.Proof.{plain_proof}
use Rattle.strategies.specs.Document.{IsDocumentOf}
use Rattle.strategies.specs.Inside.Side.{AreAdversaryRows}
use Rattle.strategies.proofs.AskedRows.{asked_rows}
use Rattle.strategies.proofs.DocumentForm.{is_formed}
use Rattle.strategies.proofs.KeptRules.{breaks_no_rule}
use Rattle.strategies.proofs.ShownClaims.{shows_claim}
use Rattle.strategies.proofs.documents.document_by.Goals as goal

pub returns : goal.returns
returns g c =
    let board = c.args.moves.now in
    let value = c.start_value-value.result in
    let is_start = c.start_value-value.ensures.is_board.start in
    let labeller = rw c.in_ok-ranked.ensures.value at c.in_ok-labeller.ensures in
    let adversary : AreAdversaryRows board value c.match-value.adversary.items = search rules in
    let is : IsDocumentOf board (plain_proof board (record {
      claim = c.from.result;
      labeller = c.in_ok-labeller.labeller;
      adversary = c.match-value.adversary;
    })) = record {
      value = value;
      has_value = c.start_value-value.ensures.value;
      claim = c.from.ensures;
      labeller = labeller.exactly;
      adversary = asked_rows board value c.match-value.adversary.items adversary;
    } in
    record {
      document = is;
      form = record {
        is_proof = is_formed board _ is_start c.in_ok-ranked.ensures.few is;
        padded = labeller.filled;
      };
      rules = breaks_no_rule board _ is_start is;
      shows = shows_claim board _ is_start is;
    }
