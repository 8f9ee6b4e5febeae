-- Small boards with their documents.
use Rattle.std.specs.Prelude.{[], ◌∷◌}
use Rattle.board_text.specs.PlainBoard.{PlainBoard}
use Rattle.positions.specs.declared.claim.Claim.TheVariants.{Exactly, Forever}
use Rattle.positions.specs.declared.turns.Turns.TheVariants.{Count, Always}
use Rattle.proof_text.specs.Proof.{PlainProof}

-- two pebbles on label 0, and label 1, which dominates it
abbrev pub small_board : PlainBoard
small_board = record { labels = 2; pebbles = 2; start = 0 ∷ 0 ∷ []; pairs = (1, 0) ∷ [] }

-- the first request is answered with label 1, after which the other pebble has no legal label
abbrev pub small_document : PlainProof
small_document = record {
  claim = Exactly 1;
  labeller = record { at = 0 ∷ 0 ∷ []; turns = Count 1; answers = 1 ∷ 1 ∷ [] } ∷ [];
  adversary =
      record { at = 0 ∷ 0 ∷ []; left = 1; request = 0 } ∷ record {
        at = 1 ∷ 0 ∷ [];
        left = 0;
        request = 1;
      } ∷ [];
}

-- a lone pebble on the only label
abbrev pub lone_board : PlainBoard
lone_board = record { labels = 1; pebbles = 1; start = 0 ∷ []; pairs = [] }

-- the pebble stays where it is, for ever
abbrev pub lone_document : PlainProof
lone_document = record {
  claim = Forever;
  labeller = record { at = 0 ∷ []; turns = Always; answers = 0 ∷ [] } ∷ [];
  adversary = [];
}
