-- The words before the first round.
use Rattle.std.proofs.Common.{◌≡◌, ℕ, ◌<◌, inl, inr, Bool, cond, replicate, sym, ap, ◌∙◌, List, length, slice_index}
use Rattle.std.proofs.lemmas.List.{get_or-replicate, length-replicate}
use Rattle.graphs.specs.Graph.{PlainGraph, IsGraph, is_answered, lasts}
use Rattle.graphs.specs.Stuck.{AreStuckZeroed}
use Rattle.solver.specs.Inside.Tables.{IsCounted, AreFirstWords}
use Rattle.gap_values.specs.declared.closing.TheConstants.{OPEN}
use Rattle.graphs.proofs.Cited.{true_or_false, true_not_false, next-closed, next-fails}

-- all words are open at first
opened : (count x : ℕ) → x < count → slice_index (replicate count OPEN) x ≡ OPEN
opened count x low = get_or-replicate count x OPEN 0 low

-- the words of stuck configurations were zeroed, and the others are open
pub first-words : (a : PlainGraph) (counts old new : List ℕ) → IsGraph a → IsCounted a (lasts a 0) counts
    → old ≡ replicate a.configurations OPEN → AreStuckZeroed a counts a.configurations old new → AreFirstWords a new
first-words a counts old new is t all_open z = record {
  words_length = z.same_length ∙ ap length all_open ∙ length-replicate a.configurations OPEN;
  each = λ x i. elim (true_or_false (is_answered a (lasts a 0) x)) [
    | inl going ↦ elim (z.others x) [
      | inl same ↦ same ∙ ap (λ l. slice_index l x) all_open ∙ opened a.configurations x i
          ∙ sym (ap (λ (c : Bool). cond c OPEN 0) going)
      | inr zero ↦ absurd (
          let stop = zero.1 in
          true_not_false (is_answered a (lasts a 0) x) going
          (next-closed a (lasts a 0) x stop.gap stop.place stop.below stop.inside stop.member
          (sym (t.counted stop.gap stop.below) ∙ stop.none)))
    ]
    | inr stuck ↦
        let found = next-fails a (lasts a 0) x stuck in
        z.zeroed x i (record {
          gap = found.0;
          below = found.1;
          none = t.counted found.0 found.1 ∙ found.3;
          place = found.2.0;
          inside = found.2.1;
          member = found.2.2;
        }) ∙ sym (ap (λ (c : Bool). cond c OPEN 0) stuck)
  ];
}
