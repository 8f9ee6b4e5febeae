-- The versions of the format of strategy documents: by configurations, by classes, and up to
-- symmetries.
use Rattle.std.specs.Prelude.{◌≡◌, ℕ, ◌+◌, true, false, List, [], ◌++◌, length, codes}
use Rattle.board_text.specs.PlainBoard.{PlainBoard}
use Rattle.positions.specs.declared.claim.Claim.{Claim}
use Rattle.positions.specs.declared.space.TheConstants.{MAX_CONFIGURATIONS}
use Rattle.positions.specs.Ranks.{rank_of}
use Rattle.positions.specs.Table.{AnswerRow, RequestRow}
use Rattle.proof_text.specs.declared.class_proof.TheConstants.{MAX_CLASS_ROWS}
use Rattle.proof_text.specs.declared.symmetry_proof.TheConstants.{MAX_MAPS}
use Rattle.proof_text.specs.Arranged.{arranged, document_number}
use Rattle.proof_text.specs.ClassProof.{IsClassRequestRow}
use Rattle.proof_text.specs.Images.{IsMap}
use Rattle.proof_text.specs.Proof.{IsAnswerRow, IsRequestRow, asks_labeller, asks_adversary}
use Rattle.proof_text.specs.ProofText.{proof_version_line, class_version_line, answer_line}
use Rattle.proof_text.specs.ProofText.{request_line, class_request_line, first_two_lines}
use Rattle.proof_text.specs.ProofText.{symmetry_version_line, map_line, maps_text}
use Rattle.proof_text.specs.RowForm.{RowForm}

-- what stands before the sections of a document, beside its claim
pub record Head : Type 0 where
  -- the first line
  pub line : List ℕ
  -- the text after the claim
  pub after_claim : List ℕ
  -- the number of the line after it
  pub next : ℕ

-- nothing stands between the claim and the sections
abbrev pub head_of : List ℕ → Head
head_of line = record { line = line; after_claim = []; next = 3 }

-- a text with this head and claim
abbrev pub with_head : Head → Claim → List ℕ → List ℕ
with_head head claim rest = first_two_lines head.line claim ++ (head.after_claim ++ rest)

-- what stands before the sections of a document, and how the rows of each side stand in one with a
-- claim
pub record Version (X Y : Type 0) : Type 1 where
  pub head : Head
  pub answers : Claim → RowForm X
  pub requests : Claim → RowForm Y

-- the labeller's rows in a document by configurations: they ascend in rank
abbrev pub answers_by_configurations : PlainBoard → Claim → RowForm AnswerRow
answers_by_configurations board claim = record {
  word = codes "labeller";
  asked = asks_labeller claim;
  most = MAX_CONFIGURATIONS;
  IsRow = IsAnswerRow board claim;
  at = λ row. row.at;
  AreInOrder = λ places. Unit {0};
  number = rank_of board;
  strict = true;
  line = answer_line board;
}

-- the adversary's rows in a document by configurations
abbrev pub requests_by_configurations : PlainBoard → Claim → RowForm RequestRow
requests_by_configurations board claim = record {
  word = codes "adversary";
  asked = asks_adversary claim;
  most = MAX_CONFIGURATIONS;
  IsRow = IsRequestRow board;
  at = λ row. row.at;
  AreInOrder = λ places. Unit {0};
  number = rank_of board;
  strict = true;
  line = request_line board;
}

-- documents by configurations, `proof 1`
abbrev pub by_configurations : PlainBoard → Version AnswerRow RequestRow
by_configurations board = record {
  head = head_of proof_version_line;
  answers = answers_by_configurations board;
  requests = requests_by_configurations board;
}

-- the labeller's rows in a document by classes: their places are arranged
abbrev pub answers_by_classes : PlainBoard → Claim → RowForm AnswerRow
answers_by_classes board claim = record {
  word = codes "labeller";
  asked = asks_labeller claim;
  most = MAX_CLASS_ROWS;
  IsRow = IsAnswerRow board claim;
  at = λ row. row.at;
  AreInOrder = λ places. arranged board.labels places ≡ places;
  number = document_number board.labels;
  strict = true;
  line = answer_line board;
}

-- the adversary's rows in a document by classes
abbrev pub requests_by_classes : PlainBoard → Claim → RowForm RequestRow
requests_by_classes board claim = record {
  word = codes "adversary";
  asked = asks_adversary claim;
  most = MAX_CLASS_ROWS;
  IsRow = IsClassRequestRow board;
  at = λ row. row.at;
  AreInOrder = λ places. arranged board.labels places ≡ places;
  number = document_number board.labels;
  strict = true;
  line = class_request_line board;
}

-- documents by classes, `proof 2`
abbrev pub by_classes : PlainBoard → Version AnswerRow RequestRow
by_classes board = record {
  head = head_of class_version_line;
  answers = answers_by_classes board;
  requests = requests_by_classes board;
}

-- the maps of a document up to symmetries, in any order
abbrev pub maps_form : PlainBoard → RowForm (List ℕ)
maps_form board = record {
  word = codes "symmetries";
  asked = true;
  most = MAX_MAPS;
  IsRow = IsMap board.labels;
  at = λ images. images;
  AreInOrder = λ images. Unit {0};
  number = λ images. 0;
  strict = false;
  line = map_line board.labels;
}

-- documents up to symmetries with these maps, `proof 3`
abbrev pub by_symmetries : PlainBoard → List (List ℕ) → Version AnswerRow RequestRow
by_symmetries board maps = record {
  head = record {
    line = symmetry_version_line;
    after_claim = maps_text board.labels maps;
    next = 4 + length maps;
  };
  answers = answers_by_classes board;
  requests = requests_by_classes board;
}
