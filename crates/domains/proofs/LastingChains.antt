-- What lasts for ever has chains from which it does, with one pebble on no label.
use Rattle.std.proofs.Common.{◌≡◌, ℕ, zero, suc, ◌+◌, ◌-◌, ◌<◌, ◌≤◌, ◌⊎◌, List, [], ◌∷◌, ◌++◌, length, get_or}
use Rattle.std.proofs.Common.{set, replicate, All, Contains, refl, sym, ◌∙◌, ap, subst, arith, inl, inr}
use Rattle.std.specs.List.{remove}
use Rattle.std.proofs.lemmas.Bool.{cases_lt}
use Rattle.std.proofs.lemmas.List.{get_or-append_right, get_or_append_left, get_or_default, get_or_past}
use Rattle.std.proofs.lemmas.List.{get_or-replicate, length-append, length-replicate}
use Rattle.std.proofs.lemmas.List.Edits.{length-remove, remove-append_right}
use Rattle.std.proofs.lemmas.List.Elements.{All-cons, All-from_get_or, All-nil, All-tail}
use Rattle.std.proofs.lemmas.List.Kept.{AllPairs-cons}
use Rattle.std.proofs.lemmas.List.Quantifiers.{all_pairs_remove}
use Rattle.std.proofs.lemmas.List.Sorted.{IsPermutation-remove}
use Rattle.classes.proofs.Cited.{all-remove}
use Rattle.board_text.specs.PlainBoard.{PlainBoard, Dominates}
use Rattle.positions.specs.Game.{LabellerTree}
use Rattle.positions.specs.Value.{HasValue}
use Rattle.positions.specs.declared.value.Value.TheVariants.{Forever}
use Rattle.chains.specs.Chains.{AreChained}
use Rattle.domains.specs.Families.{IsClosedFamily}
use Rattle.domains.specs.Withdrawal.{IsFreed}
use Rattle.domains.proofs.Exchanges.{permuted_lasts}
use Rattle.domains.proofs.LastingMoves.{lasting_answer}
use Rattle.domains.proofs.Withdrawals.{freed_lasts}

-- ---- chains

pub chained_none : (board : PlainBoard) → AreChained board []
chained_none board = record {
  are_labels = All-nil (λ label. label < board.labels);
  beat = λ i j d low inside. absurd (omega (arith, inside));
}

pub chained_more : (board : PlainBoard) (label : ℕ) (chain : List ℕ) → label < board.labels
    → All (λ other. Dominates board label other) chain → AreChained board chain → AreChained board (label ∷ chain)
chained_more board label chain low above chained = record {
  are_labels = All-cons (λ n. n < board.labels) label chain low chained.are_labels;
  beat = AllPairs-cons (Dominates board) label chain above chained.beat;
}

pub chained_one : (board : PlainBoard) (label : ℕ) → label < board.labels → AreChained board (label ∷ [])
chained_one board label low =
    chained_more board label [] low (All-nil (λ other. Dominates board label other)) (chained_none board)

pub chained_without : (board : PlainBoard) (chain : List ℕ) (index : ℕ) → index < length chain
    → AreChained board chain → AreChained board (remove chain index)
chained_without board chain index inside chained = record {
  are_labels = all-remove (λ n. n < board.labels) chain index chained.are_labels;
  beat = all_pairs_remove (Dominates board) chain index inside chained.beat;
}

pub chained_rest : (board : PlainBoard) (label : ℕ) (chain : List ℕ) → AreChained board (label ∷ chain)
    → AreChained board chain
chained_rest board label chain chained = record {
  are_labels = All-tail (λ n. n < board.labels) label chain chained.are_labels;
  beat = λ i j d below inside. chained.beat (suc i) (suc j) d (omega (arith, below)) (omega (arith, inside));
}

pub first_beats : (board : PlainBoard) (label other : ℕ) (chain : List ℕ) → AreChained board (label ∷ chain)
    → Contains chain other → Dominates board label other
first_beats board label other chain chained has =
    subst (Dominates board label) has.2 (chained.beat 0 (suc has.0) other (omega arith) (omega (arith, has.1)))

-- the oldest label of a chain, and the others
pub oldest_of : (label : ℕ) (chain : List ℕ) → (newer : List ℕ) × (oldest : ℕ) × (label ∷ chain ≡ newer ++ oldest ∷ [])
oldest_of label [] = ([], label, refl)
oldest_of label (next ∷ chain) =
    let rest = oldest_of next chain in
    (label ∷ rest.0, rest.1, ap (λ xs. label ∷ xs) rest.2)

-- ---- the last of the first places is set

put_last : (xs : List ℕ) (few none label : ℕ)
    → set (replicate (suc few) none ++ xs) few label ≡ replicate few none ++ label ∷ xs
put_last xs zero none label = refl
put_last xs (suc few) none label = ap (λ ys. none ∷ ys) (put_last xs few none label)

module _ (board : PlainBoard) where
  -- so many pebbles hold no label, and the others the labels of a chain
  abbrev pub none_and : ℕ → List ℕ → List ℕ
  none_and few chain = replicate few board.labels ++ chain

  -- it lasts for ever with so many pebbles on no label
  pub record LastingChain (few : ℕ) (chain : List ℕ) : Type 0 where
    pub long : few + length chain ≡ board.pebbles
    pub chained : AreChained board chain
    pub lasts : HasValue board (none_and few chain) Forever

  pub none_long : (few : ℕ) (chain : List ℕ) → length (none_and few chain) ≡ few + length chain
  none_long few chain =
      let none : length (replicate few board.labels) ≡ few = length-replicate {A = ℕ} few board.labels in
      omega (arith, length-append (replicate few board.labels) chain, none)

  in_chain : (few : ℕ) (chain : List ℕ) (index : ℕ) → get_or (none_and few chain) (few + index) 0 ≡ get_or chain index 0
  in_chain few chain index =
      let same : few + index - few ≡ index = omega arith in
      get_or-append_right (replicate few board.labels) chain few (few + index) 0
      (length-replicate {A = ℕ} few board.labels) (omega arith)
      ∙ ap (λ n. get_or chain n 0) same

  -- one more pebble gets a label
  pub chain_answered : (few : ℕ) (chain : List ℕ) → LastingChain (suc few) chain
      → (label : ℕ) × (label < board.labels) × All (λ other. Dominates board label other) chain
      × LastingChain few (label ∷ chain)
  chain_answered few chain is =
      let c = none_and (suc few) chain in
      let long : length c ≡ board.pebbles = none_long (suc few) chain ∙ is.long in
      let answer = lasting_answer board c few long (omega (arith, is.long)) is.lasts in
      let above : All (λ other. Dominates board answer.0 other) chain
      = All-from_get_or (λ other. Dominates board answer.0 other) chain 0 (λ index inside.
      let at = in_chain (suc few) chain index in
      subst (Dominates board answer.0) at
      (answer.1.dominates (suc few + index) (omega (arith, is.long, inside)) (λ same. omega (arith, same))
      (subst (λ n. n < board.labels) (sym at) (is.chained.are_labels index 0 inside)))) in (
        answer.0,
        answer.1.is_label,
        above,
        record {
          long = let put : suc few + length chain ≡ board.pebbles = is.long in omega (arith, put);
          chained = chained_more board answer.0 chain answer.1.is_label above is.chained;
          lasts = subst (λ d. HasValue board d Forever) (put_last chain few board.labels answer.0) answer.2;
        },
      )

  -- the first pebble gives up its label
  first_freed : (label : ℕ) (c : List ℕ) → IsFreed board (label ∷ c) (board.labels ∷ c)
  first_freed label c = record {
    same_length = refl;
    each = freed;
  }
    where
      freed : (pebble : ℕ) → (get_or (board.labels ∷ c) pebble 0 ≡ get_or (label ∷ c) pebble 0)
          ⊎ (board.labels ≤ get_or (board.labels ∷ c) pebble 0)
      freed zero = inr (omega arith)
      freed (suc pebble) = inl refl

  -- a pebble of the chain gives up its label
  pub chain_without : (few : ℕ) (chain : List ℕ) (index : ℕ) → index < length chain → LastingChain few chain
      → LastingChain (suc few) (remove chain index)
  chain_without few chain index inside is =
      let c = none_and few chain in
      let at : ℕ = few + index in
      let long = none_long few chain in
      let label = get_or c at 0 in
      let fewer = length-remove chain index inside in
      let back : at - few ≡ index = omega arith in
      let rest : remove c at ≡ none_and few (remove chain index)
      = remove-append_right (replicate few board.labels) chain few at (length-replicate {A = ℕ} few board.labels)
      (omega arith) ∙ ap (λ n. none_and few (remove chain n)) back in record {
        long = omega (arith, is.long, fewer);
        chained = chained_without board chain index inside is.chained;
        lasts = λ depth. subst (λ d. LabellerTree board depth (board.labels ∷ d)) rest
            (freed_lasts board depth (label ∷ remove c at) (board.labels ∷ remove c at)
            (first_freed label (remove c at))
            (permuted_lasts board c (label ∷ remove c at) (long ∙ is.long)
            (IsPermutation-remove c at label (omega (arith, inside, long))
            (get_or_default c at 0 label (omega (arith, inside, long)))) depth (is.lasts depth)));
      }

  pub lasting_closed : (count : ℕ) → board.pebbles ≡ suc count → IsClosedFamily board count (LastingChain 1)
  lasting_closed count more = record {
    long = λ chain is. omega (arith, is.long, more);
    answered = λ chain is.
        let answer = chain_answered 0 chain is in (
          answer.0,
          answer.1,
          answer.2,
          λ index below. chain_without 0 (answer.0 ∷ chain) (suc index) (omega (arith, below, is.long, more)) answer.3,
        );
  }

  -- ---- there are some

  -- more labels before those of a chain
  pub grown : (few : ℕ) (chain oldest : List ℕ) → LastingChain (suc few) (chain ++ oldest)
      → (longer : List ℕ) × LastingChain 1 (longer ++ oldest)
  grown zero chain oldest is = (chain, is)
  grown (suc few) chain oldest is =
      let answer = chain_answered (suc few) (chain ++ oldest) is in
      grown few (answer.0 ∷ chain) oldest answer.3

  -- all labels but those of the chain are given up
  pub lasting_freed : (c : List ℕ) (few : ℕ) (chain : List ℕ) → length c ≡ board.pebbles
      → few + length chain ≡ board.pebbles → AreChained board chain
      → ((index : ℕ) → index < length chain → get_or chain index 0 ≡ get_or c (few + index) 0)
      → HasValue board c Forever → LastingChain few chain
  lasting_freed c few chain long all chained each lasts = record {
    long = all;
    chained = chained;
    lasts = λ depth. freed_lasts board depth c (none_and few chain) (record {
      same_length = none_long few chain ∙ (all ∙ sym long);
      each = λ place. elim (cases_lt place few) [
        | inl low ↦ inr (subst (λ n. board.labels ≤ n)
            (sym (get_or_append_left (replicate few board.labels) chain 0 place
            (let none = length-replicate {A = ℕ} few board.labels in omega (arith, low, none))
            ∙ get_or-replicate few place board.labels 0 low))
            (omega arith))
        | inr high ↦
            let index : ℕ = place - few in
            let is : few + index ≡ place = omega (arith, high) in
            let there : get_or (none_and few chain) place 0 ≡ get_or chain index 0
            = ap (λ n. get_or (none_and few chain) n 0) (sym is) ∙ in_chain few chain index in
            elim (cases_lt index (length chain)) [
              | inl inside ↦ inl (there ∙ (each index inside ∙ ap (λ n. get_or c n 0) is))
              | inr past ↦ inl (there ∙ (get_or_past chain index 0 past
                  ∙ sym (get_or_past c place 0 (omega (arith, past, is, all, long)))))
            ]
      ];
    }) (lasts depth);
  }

  pub unheld : (c : List ℕ) → length c ≡ board.pebbles → HasValue board c Forever → LastingChain board.pebbles []
  unheld c long lasts =
      lasting_freed c board.pebbles [] long (omega arith) (chained_none board)
      (λ index inside. absurd (omega (arith, inside))) lasts

  pub some_chain : (c : List ℕ) (count : ℕ) → board.pebbles ≡ suc count → length c ≡ board.pebbles
      → HasValue board c Forever → (chain : List ℕ) × LastingChain 1 chain
  some_chain c count more long lasts =
      let found = grown count [] [] (subst (λ n. LastingChain n []) more (unheld c long lasts)) in
      (found.0 ++ [], found.1)

  -- a label from which all last for ever is the oldest of such a chain
  pub chain_above : (label count : ℕ) → board.pebbles ≡ suc (suc count) → label < board.labels
      → HasValue board (replicate board.pebbles label) Forever
      → (newer : List ℕ) × LastingChain 1 (newer ++ label ∷ [])
  chain_above label count more low lasts =
      let all = replicate board.pebbles label in
      grown count [] (label ∷ [])
      (lasting_freed all (suc count) (label ∷ []) (length-replicate {A = ℕ} board.pebbles label)
      (omega (arith, more)) (chained_one board label low)
      (λ index inside.
      let is : 0 ≡ index = omega (arith, inside) in
      subst (λ n. get_or (label ∷ []) n 0 ≡ get_or all (suc count + n) 0) is
      (sym (get_or-replicate board.pebbles (suc count + 0) label 0 (omega (arith, more)))))
      lasts)
