-- On the residues modulo seven each request of three pebbles on labels has an answer.
use Rattle.std.proofs.Common.{◌≡◌, ◌<◌, [], ◌∷◌, length, get_or, ◌∙◌, arith}
use Rattle.std.proofs.lemmas.List.{length-set}
use Rattle.std.proofs.lemmas.List.Elements.{All-set, All-contains}
use Rattle.board_text.specs.PlainBoard.{PlainBoard, Dominates}
use Rattle.nested_cycles.specs.NestedGame.{other_words}
use Rattle.nested_cycles.proofs.Cited.{fewer_others, in_others, others_are_labels}
use Rattle.domains.specs.Circles.{IsCircle}
use Rattle.domains.specs.Dominated.{IsHeld}
use Rattle.domains.specs.Kept.{IsKept}
use Rattle.domains.proofs.Circles.{residues_dominated}

pub held_kept : (board : PlainBoard) → IsCircle 7 (1 ∷ 2 ∷ 4 ∷ []) board → board.pebbles ≡ 3
    → IsKept (IsHeld board) board
held_kept board circle three configuration held pebble below =
    let inside : pebble < length configuration = omega (arith, held.0, below) in
    let others = other_words pebble configuration in
    let fewer = fewer_others configuration pebble inside in
    let found = residues_dominated board circle others (omega (arith, fewer, held.0, three))
    (others_are_labels board.labels configuration pebble held.1) in (
      found.0,
      record {
        is_label = found.1;
        dominates = λ other other_below differs low. All-contains (λ n. Dominates board found.0 n) others
            (get_or configuration other 0) found.2
            (in_others configuration pebble other (omega (arith, held.0, other_below)) differs);
      },
      (
        length-set configuration pebble found.0 ∙ held.0,
        All-set (λ place. place < board.labels) configuration pebble found.0 found.1 held.1,
      ),
    )
