-- The tables of a graph are filled.
use Rattle.std.proofs.Common.{◌≡◌, ℕ, ◌+◌, ◌<◌, ◌≤◌, inl, inr, arith, sym, ap, ◌∙◌, subst, List}
use Rattle.std.proofs.Common.{length, slice_index, slice_set, get_or-set_other, get_or-set_same}
use Rattle.std.proofs.Math.ListN.{length-set}
use Rattle.std.proofs.lemmas.Bool.{cases_lt}
use Rattle.graphs.specs.Graph.{PlainGraph, IsGraph}
use Rattle.graphs.specs.Answers.{IsAnswerIn, AreMembers}
use Rattle.graphs.specs.Inside.Filling.{IsGapNoted, AreStruck}
use Rattle.graphs.proofs.LastingRanks.{same_or_not}

-- one member more is written at its place
pub member-more : (a : PlainGraph) (gap place member : ℕ) (members : List ℕ) → place < length members
    → member ≡ a.member gap place → AreMembers a gap place members
    → AreMembers a gap (place + 1) (slice_set members place member)
member-more a gap place member members low is before = λ v less. elim (cases_lt v place) [
  | inl earlier ↦ get_or-set_other members place v member 0 (λ same. omega arith) ∙ before v earlier
  | inr last ↦
      let here : v ≡ place = omega arith in
      ap (slice_index (slice_set members place member)) here ∙ get_or-set_same members place member 0 low ∙ is
      ∙ ap (a.member gap) (sym here)
]

-- the places up to the next answer, and those after the last one, have nothing to note
pub noted-to : (a : PlainGraph) (gap low high : ℕ) (old now : List ℕ) → IsGapNoted a gap low old now
    → ((v : ℕ) → low ≤ v → v < high → IsAnswerIn a gap v → ⊥) → IsGapNoted a gap high old now
noted-to a gap low high old now n none = record {
  same_length = n.same_length;
  noted = λ v below is. elim (cases_lt v low) [
    | inl less ↦ n.noted v less is
    | inr most ↦ absurd (none v most below is)
  ];
  others = n.others;
}

-- the gap is noted at an answer
pub noted-more : (a : PlainGraph) (gap label rank : ℕ) (old now : List ℕ) → rank ≡ a.member gap label
    → IsAnswerIn a gap label
    → rank < length now → IsGapNoted a gap label old now → IsGapNoted a gap (label + 1) old (slice_set now rank gap)
noted-more a gap label rank old now is answer low n = record {
  same_length = length-set now rank gap ∙ n.same_length;
  noted = λ v less here. elim (same_or_not (a.member gap v) rank) [
    | inl same ↦ ap (slice_index (slice_set now rank gap)) same ∙ get_or-set_same now rank gap 0 low
    | inr other ↦ get_or-set_other now rank (a.member gap v) gap 0 other ∙ elim (cases_lt v label) [
      | inl before ↦ n.noted v before here
      | inr last ↦ absurd (other (ap (a.member gap) (let same : v ≡ label = omega arith in same) ∙ sym is))
    ]
  ];
  others = λ x. elim (same_or_not x rank) [
    | inl here ↦ inr (
      ap (slice_index (slice_set now rank gap)) here ∙ get_or-set_same now rank gap 0 low,
      ap a.struck (here ∙ is) ∙ answer.struck,
    )
    | inr other ↦
        let same = get_or-set_other now rank x gap 0 other in
        elim (n.others x) [ inl kept ↦ inl (same ∙ kept) | inr there ↦ inr (same ∙ there.0, there.1) ]
  ];
}

pub struck-more : (a : PlainGraph) → (gap : ℕ) (old now : List ℕ) → IsGapNoted a gap a.places old now
    → AreStruck a gap old
    → AreStruck a (gap + 1) now
struck-more a gap old now n s = record {
  size = n.same_length ∙ s.size;
  settled = λ g v low is. elim (cases_lt g gap) [
    | inl before ↦ elim (n.others (a.member g v)) [
      | inl kept ↦ kept ∙ s.settled g v before is
      | inr there ↦ there.0 ∙ sym there.1 ∙ is.struck
    ]
    | inr last ↦
        let here : g ≡ gap = omega arith in
        ap (λ h. slice_index now (a.member h v)) here ∙ n.noted v is.is_place (subst (λ h. IsAnswerIn a h v) here is)
        ∙ sym here
  ];
  sound = λ x i. elim (n.others x) [
    | inr there ↦ inr (there.0 ∙ sym there.1)
    | inl kept ↦ elim (s.sound x i) [ inl none ↦ inl (kept ∙ none) | inr same ↦ inr (kept ∙ same) ]
  ];
}

pub struck-all : (a : PlainGraph) → IsGraph a → (struck : List ℕ) → AreStruck a a.gaps struck
    → (x : ℕ) → x < a.configurations → slice_index struck x ≡ a.struck x
struck-all a is struck s x i = elim (cases_lt (a.struck x) a.gaps) [
  | inl low ↦
      let w = is.struck_in x i low in
      ap (slice_index struck) (sym w.2) ∙ s.settled (a.struck x) w.0 low
      (record { is_place = w.1; struck = ap a.struck w.2 })
  | inr high ↦
      let none : a.struck x ≡ a.gaps = (let most = is.struck_most x i in omega arith) in
      elim (s.sound x i) [ inl gone ↦ gone ∙ sym none | inr same ↦ same ]
]
