-- Lines that are exactly `end`.
use Rattle.std.proofs.Common.{◌≡◌, ℕ, ◌+◌, ◌<◌, ◌≤◌, List, length, take, drop, ap, arith, length-take, length-drop, inl}
use Rattle.std.proofs.Common.{inr, ◌∙◌, sym}
use Rattle.runs.specs.Joined.{IsEndLine, IsBoardLength}

-- such a line is within the input
pub end_line_within : (input : List ℕ) (at : ℕ) → IsEndLine input at → at + 4 ≤ length input
end_line_within input at is =
    let four : length (take 4 (drop at input)) ≡ 4 = ap length is.1 in
    omega (arith, four, length-take 4 (drop at input), length-drop at input)

-- the length of the board's text is one number at most
pub one_length : (input : List ℕ) (m n : ℕ) → IsBoardLength input m → IsBoardLength input n → m ≡ n
one_length input m n p q = elim p as (λ _. m ≡ n) [
  | inl a ↦ elim q as (λ _. m ≡ n) [
    | inl b ↦
        let late : ¬ (a.0 < b.0) = λ l. b.1 a.0 l a.2 in
        let early : ¬ (b.0 < a.0) = λ l. a.1 b.0 l b.2 in
        omega (arith, late, early, a.3, b.3)
    | inr b ↦ absurd (b.0 a.0 (omega (arith, end_line_within input a.0 a.2)) a.2)
  ]
  | inr a ↦ elim q as (λ _. m ≡ n) [
    | inl b ↦ absurd (a.0 b.0 (omega (arith, end_line_within input b.0 b.2)) b.2)
    | inr b ↦ a.1 ∙ sym b.1
  ]
]
