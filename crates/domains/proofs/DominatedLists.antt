-- Boards from whose every start a labeller lasts for ever.
use Rattle.std.proofs.Common.{◌≡◌, ℕ, suc, ◌<◌, List, ◌∷◌, length, sym, ◌∙◌, ap, arith}
use Rattle.std.specs.Prelude.{All}
use Rattle.std.specs.List.{remove}
use Rattle.std.proofs.lemmas.List.Edits.{length-remove}
use Rattle.std.proofs.lemmas.List.Elements.{All-contains_itself, All-get_or, All-from_get_or, All-cons}
use Rattle.classes.proofs.Cited.{all-remove}
use Rattle.board_text.specs.PlainBoard.{PlainBoard, Dominates}
use Rattle.positions.specs.Game.{LabellerTree}
use Rattle.domains.specs.Families.{IsClosedFamily}
use Rattle.domains.specs.Dominated.{AreDominated, IsHeld}
use Rattle.domains.proofs.ClosedFamilies.{covered_last}

-- all lists of this many labels
abbrev IsList : PlainBoard → ℕ → List ℕ → Type 0
IsList board count labels = (length labels ≡ count) × All (λ label. label < board.labels) labels

lists_closed : (board : PlainBoard) (count : ℕ) → AreDominated board count
    → IsClosedFamily board count (IsList board count)
lists_closed board count dominated = record {
  long = λ labels is. is.0;
  answered = λ labels is.
      let answer = dominated labels is.0 is.1 in (
        answer.0,
        answer.1,
        answer.2,
        λ index below. (
          omega (arith, length-remove labels index (omega (arith, below, is.0)), is.0),
          All-cons (λ label. label < board.labels) answer.0 (remove labels index) answer.1
              (all-remove (λ label. label < board.labels) labels index is.1),
        ),
      );
}

pub dominated_last : (board : PlainBoard) (count depth : ℕ) (configuration : List ℕ) → board.pebbles ≡ suc count
    → AreDominated board count
    → IsHeld board configuration → LabellerTree board depth configuration
dominated_last board count depth configuration more dominated held =
    covered_last board count (IsList board count) more (lists_closed board count dominated) configuration
    (record {
      long = held.0;
      each = λ pebble below. (
        remove configuration pebble,
        (
          omega (arith, length-remove configuration pebble (omega (arith, below, held.0)), held.0, more),
          all-remove (λ place. place < board.labels) configuration pebble held.1,
        ),
        All-contains_itself (remove configuration pebble),
      );
    })
    depth

pub lasting_dominated : (board : PlainBoard) (count : ℕ) → board.pebbles ≡ suc count → 0 < board.labels
    → ((configuration : List ℕ) → IsHeld board configuration → LabellerTree board 1 configuration)
    → AreDominated board count
lasting_dominated board count more some lasts = λ labels long all.
    let configuration = 0 ∷ labels in
    let tree = lasts configuration (
      ap suc long
          ∙ sym more,
      All-cons (λ place. place < board.labels) 0 labels some all,
    ) 0 (omega (arith, more)) in (
      tree.0,
      tree.1.is_label,
      All-from_get_or (λ other. Dominates board tree.0 other) labels 0
          (λ place inside. tree.1.dominates (suc place) (omega (arith, inside, long, more))
          (λ one. omega (arith, one))
          (All-get_or (λ label. label < board.labels) labels place 0 inside all)),
    )
