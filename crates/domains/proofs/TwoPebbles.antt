-- Two pebbles on labels of which each is beaten by one of them.
use Rattle.std.proofs.Common.{◌≡◌, ℕ, zero, suc, ◌<◌, List, length, get_or, sym, ◌∙◌, subst, arith, inl, inr}
use Rattle.std.specs.Prelude.{All, Contains}
use Rattle.std.proofs.lemmas.Bool.{cases_eq}
use Rattle.std.proofs.lemmas.List.{length-set}
use Rattle.std.proofs.lemmas.List.Elements.{All-set, All-contains, All-get_or}
use Rattle.board_text.specs.PlainBoard.{PlainBoard, Dominates}
use Rattle.positions.specs.Game.{LabellerTree, moved}
use Rattle.domains.specs.Cycles.{HaveDominators}
use Rattle.domains.proofs.Heights.{another}

pub beaten_last : (board : PlainBoard) (labels : List ℕ) (depth : ℕ) (configuration : List ℕ)
    → HaveDominators board labels
    → board.pebbles ≡ 2
    → length configuration ≡ 2 → All (Contains labels) configuration → LabellerTree board depth configuration
beaten_last board labels zero configuration beaten two long all = tt
beaten_last board labels (suc depth) configuration beaten two long all =
    λ pebble below.
    let rest = another 2 pebble (omega arith) in
    let held = get_or configuration rest.0 0 in
    let found = beaten.each held (All-get_or (Contains labels) configuration rest.0 0
    (omega (arith, long, rest.1)) all) in (
      found.0,
      record {
        is_label = All-contains (λ label. label < board.labels) labels found.0 beaten.are_labels found.1;
        dominates = λ other other_below differs low.
            elim (cases_eq other rest.0) [
              | inl same ↦ subst (λ n. Dominates board found.0 (get_or configuration n 0)) (sym same) found.2
              | inr other_differs ↦ let no : ⊥ = omega
                  (arith, two, other_below, below, rest.1, differs, other_differs, rest.2) in absurd no
            ];
      },
      beaten_last board labels depth (moved configuration pebble found.0) beaten two
          (length-set configuration pebble found.0 ∙ long)
          (All-set (Contains labels) configuration pebble found.0 found.1 all),
    )
