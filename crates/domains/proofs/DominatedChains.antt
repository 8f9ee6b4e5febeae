-- A domain in which each short chain is dominated lasts for ever, and so does one in which each short list is.
use Rattle.std.proofs.Common.{◌≡◌, ℕ, zero, suc, ◌+◌, ◌-◌, ◌<◌, ◌≤◌, List, [], ◌∷◌, ◌++◌, length, replicate}
use Rattle.std.proofs.Common.{◌∙◌, Contains, sym, subst, arith, inl, inr}
use Rattle.std.specs.List.{remove}
use Rattle.std.proofs.lemmas.Bool.{cases_lt}
use Rattle.std.proofs.lemmas.List.{get_or-replicate, get_or_past, length-append, length-replicate}
use Rattle.std.proofs.lemmas.List.Edits.{length-remove}
use Rattle.std.proofs.lemmas.List.Elements.{All-append, All-contains, All-replicate, All-weaker, Contains-append_left}
use Rattle.classes.proofs.Cited.{all-remove}
use Rattle.nested_cycles.proofs.Cited.{contains_here, contains_later, each_of}
use Rattle.board_text.specs.PlainBoard.{PlainBoard, Dominates}
use Rattle.positions.specs.Game.{LabellerTree}
use Rattle.chains.specs.Chains.{AreChained, AreChainsDominated}
use Rattle.domains.specs.Families.{IsClosedFamily, IsCovered}
use Rattle.domains.specs.Dominated.{AreDominated}
use Rattle.domains.proofs.ClosedFamilies.{covered_last}
use Rattle.domains.proofs.LastingChains.{chained_more, chained_none, chained_one, chained_without}
use Rattle.domains.proofs.OtherPlaces.{all_others}
use Rattle.domains.proofs.Withdrawals.{freed_lasts}

-- chains of at most this many labels
abbrev pub IsShort : PlainBoard → ℕ → List ℕ → Type 0
IsShort board count chain = (length chain ≤ count) × AreChained board chain

module _ (board : PlainBoard) (count : ℕ) (more : board.pebbles ≡ suc count)
    (dominated : AreChainsDominated board count) where
  -- chains of just this many
  pub record IsFull (chain : List ℕ) : Type 0 where
    pub long : length chain ≡ count
    pub chained : AreChained board chain

  pub full_closed : IsClosedFamily board count IsFull
  full_closed = record {
    long = λ chain full. full.long;
    answered = λ chain full.
        let answer = dominated chain (omega (arith, full.long)) full.chained in (
          answer.0,
          answer.1,
          answer.2,
          λ index below.
              let inside : index < length chain = omega (arith, below, full.long) in
              let fewer = length-remove chain index inside in record {
                long = omega (arith, fewer, full.long);
                chained = chained_more board answer.0 (remove chain index) answer.1
                    (all-remove (λ other. Dominates board answer.0 other) chain index answer.2)
                    (chained_without board chain index inside full.chained);
              },
        );
  }

  -- a short chain is part of a full one
  pub filled : (steps : ℕ) (chain : List ℕ) → steps + length chain ≡ count → AreChained board chain
      → (longer : List ℕ) × IsFull longer × ((label : ℕ) → Contains chain label → Contains longer label)
  filled zero chain long chained =
      (chain, record { long = omega (arith, long); chained = chained }, λ label has. has)
  filled (suc steps) chain long chained =
      let answer = dominated chain (omega (arith, long)) chained in
      let rest = filled steps (answer.0 ∷ chain) (omega (arith, long))
      (chained_more board answer.0 chain answer.1 answer.2 chained) in
      (rest.0, rest.1, λ label has. rest.2 label (contains_later answer.0 chain label has))

  pub short_covered_last : (c : List ℕ) → IsCovered board (IsShort board count) c
      → (depth : ℕ) → LabellerTree board depth c
  short_covered_last c covered =
      covered_last board count IsFull more full_closed c (record {
        long = covered.long;
        each = λ pebble below.
            let short = covered.each pebble below in
            let full = filled (count - length short.0) short.0 (omega (arith, short.1.0)) short.1.1 in (
              full.0,
              full.1,
              All-weaker (Contains short.0) (Contains full.0) full.2 (remove c pebble) short.2,
            );
      })

  labels_last : (label : ℕ) → label < board.labels
      → (depth : ℕ) → LabellerTree board depth (replicate board.pebbles label)
  labels_last label low =
      let all = replicate board.pebbles label in
      let long : length all ≡ board.pebbles = length-replicate {A = ℕ} board.pebbles label in
      short_covered_last all (record {
        long = long;
        each = λ pebble below. elim (cases_lt 0 count) [
          | inl some ↦ (
            label ∷ [],
            (omega (arith, some), chained_one board label low),
            all_others (Contains (label ∷ [])) all pebble (omega (arith, long, below)) (λ other inside differs.
                subst (Contains (label ∷ []))
                (sym (get_or-replicate board.pebbles other label 0 (omega (arith, inside, long))))
                (contains_here label [])),
          )
          | inr none ↦ (
            [],
            (omega arith, chained_none board),
            all_others (Contains []) all pebble (omega (arith, long, below)) (λ other inside differs.
                let no : ⊥ = differs (omega (arith, none, more, inside, long, below)) in absurd no),
          )
        ];
      })

  -- from no label too
  pub dominated_chains_last : (label : ℕ) → (depth : ℕ) → LabellerTree board depth (replicate board.pebbles label)
  dominated_chains_last label depth =
      elim (cases_lt label board.labels) [
        | inl low ↦ labels_last label low depth
        | inr none ↦
            let some = dominated [] (omega arith) (chained_none board) in
            let all = replicate board.pebbles label in
            freed_lasts board depth (replicate board.pebbles some.0) all (record {
              same_length = length-replicate {A = ℕ} board.pebbles label
                  ∙ sym (length-replicate {A = ℕ} board.pebbles some.0);
              each = λ place. elim (cases_lt place board.pebbles) [
                | inl below ↦ inr (subst (λ n. board.labels ≤ n)
                    (sym (get_or-replicate board.pebbles place label 0 below)) none)
                | inr past ↦ inl (get_or_past all place 0
                    (let long = length-replicate {A = ℕ} board.pebbles label in omega (arith, past, long))
                    ∙ sym (get_or_past (replicate board.pebbles some.0) place 0
                    (let long = length-replicate {A = ℕ} board.pebbles some.0 in omega (arith, past, long))))
              ];
            }) (labels_last some.0 some.1 depth)
      ]

-- where each list is dominated, so is each chain
pub chains_of_dominated : (board : PlainBoard) (count : ℕ) → 0 < board.labels → AreDominated board count
    → AreChainsDominated board count
chains_of_dominated board count some dominated chain short chained =
    let rest = replicate (count - length chain) 0 in
    let found = dominated (chain ++ rest)
    (omega (arith, length-append chain rest, length-replicate {A = ℕ} (count - length chain) 0, short))
    (All-append (λ label. label < board.labels) chain rest chained.are_labels
    (All-replicate (λ label. label < board.labels) (count - length chain) 0 some)) in (
      found.0,
      found.1,
      each_of (λ other. Dominates board found.0 other) chain (λ other has.
          All-contains (λ n. Dominates board found.0 n) (chain ++ rest) other found.2
          (Contains-append_left chain rest other has)),
    )
