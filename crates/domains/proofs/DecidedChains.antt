-- Whether a domain lasts for ever from a chain is decided.
use Rattle.std.proofs.Common.{ℕ, suc, ◌+◌, ◌<◌, ◌⊎◌, List, [], ◌∷◌, length, get_or, ◌∙◌, arith, inl, inr}
use Rattle.std.proofs.lemmas.Bool.{cases_lt, cases_eq}
use Rattle.std.proofs.lemmas.List.Elements.{All-from_get_or, All-head, All-tail}
use Rattle.board_text.specs.PlainBoard.{PlainBoard, Dominates}
use Rattle.positions.proofs.Cited.{beats_or_not, each_or_some, not_both_trees}
use Rattle.chains.specs.Chains.{AreChained}
use Rattle.domains.proofs.LastingChains.{LastingChain, chained_more, chained_none, none_and, none_long}
use Rattle.domains.proofs.LastingMoves.{lasts_or_ends}

abbrev pub IsDecided : Type 0 → Type 0
IsDecided P = P ⊎ (P → ⊥)

chained_or_not : (board : PlainBoard) (chain : List ℕ) → IsDecided (AreChained board chain)
chained_or_not board [] = inl (chained_none board)
chained_or_not board (label ∷ chain) =
    elim (cases_lt label board.labels) [
      | inr high ↦ inr (λ is.
          let low : label < board.labels = All-head (λ n. n < board.labels) label chain is.are_labels in
          omega (arith, low, high))
      | inl low ↦ elim (chained_or_not board chain) [
        | inr not ↦ inr (λ is. not (record {
          are_labels = All-tail (λ n. n < board.labels) label chain is.are_labels;
          beat = λ i j d below inside. is.beat (suc i) (suc j) d (omega (arith, below)) (omega (arith, inside));
        }))
        | inl rest ↦
            elim (each_or_some (λ k. Dominates board label (get_or chain k 0))
            (λ k. Dominates board label (get_or chain k 0) → ⊥) (length chain)
            (λ k below. beats_or_not board label (get_or chain k 0))) [
              | inl all ↦ inl (chained_more board label chain low
                  (All-from_get_or (λ other. Dominates board label other) chain 0 all) rest)
              | inr some ↦ inr (λ is. some.2 (is.beat 0 (suc some.0) 0 (omega arith) (omega (arith, some.1))))
            ]
      ]
    ]

pub lasting_or_not : (board : PlainBoard) (few : ℕ) (chain : List ℕ) → IsDecided (LastingChain board few chain)
lasting_or_not board few chain =
    elim (cases_eq (few + length chain) board.pebbles) [
      | inr not ↦ inr (λ is. not is.long)
      | inl long ↦ elim (chained_or_not board chain) [
        | inr not ↦ inr (λ is. not is.chained)
        | inl chained ↦ elim (lasts_or_ends board (none_and board few chain) (none_long board few chain ∙ long)) [
          | inl lasts ↦ inl (record { long = long; chained = chained; lasts = lasts })
          | inr ends ↦ inr (λ is. not_both_trees board ends.0 (none_and board few chain) (is.lasts ends.0) ends.1)
        ]
      ]
    ]
