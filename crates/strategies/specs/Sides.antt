-- Documents with the rows of one side alone.
use Rattle.std.specs.Prelude.{[], Option, Some, None}
use Rattle.positions.specs.declared.claim.Claim.{Claim}
use Rattle.positions.specs.declared.claim.Claim.TheVariants.{Exactly, AtLeast, AtMost, Forever}
use Rattle.positions.specs.declared.side.Side.{Side}
use Rattle.positions.specs.declared.side.Side.TheVariants.{Labeller, Adversary}
use Rattle.positions.specs.declared.value.Value.{Value}
use Rattle.positions.specs.declared.value.Value.TheVariants as values
use Rattle.proof_text.specs.Proof.{PlainProof}

-- the part of the claim that the rows of the side show
abbrev pub part_of : Side → Claim → Claim
part_of Labeller (Exactly number) = AtLeast number
part_of Labeller (AtLeast number) = AtLeast number
part_of Labeller (AtMost number) = AtMost number
part_of Labeller Forever = Forever
part_of Adversary (Exactly number) = AtMost number
part_of Adversary (AtLeast number) = AtLeast number
part_of Adversary (AtMost number) = AtMost number
part_of Adversary Forever = Forever

-- the claim of a document for the side alone, or for both
abbrev pub claim_for : Option Side → Claim → Claim
claim_for None claim = claim
claim_for (Some side) claim = part_of side claim

-- the document with the rows of the side alone and the part of its claim that they show, or whole
abbrev pub document_for : Option Side → PlainProof → PlainProof
document_for None document = document
document_for (Some Labeller) document = record {
  claim = part_of Labeller document.claim;
  labeller = document.labeller;
  adversary = [];
}
document_for (Some Adversary) document = record {
  claim = part_of Adversary document.claim;
  labeller = [];
  adversary = document.adversary;
}

-- the side, or both as far as documents have their rows, has a strategy on a start of the value:
-- an adversary has none if requests are answered for ever
abbrev pub HasStrategy : Option Side → Value → Type 0
HasStrategy None value = Unit {0}
HasStrategy (Some Labeller) value = Unit {0}
HasStrategy (Some Adversary) (values.Finite number) = Unit {0}
HasStrategy (Some Adversary) values.Forever = ⊥
