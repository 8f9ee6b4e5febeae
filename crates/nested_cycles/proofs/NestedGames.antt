-- Games on nested boards: the words of the other pebbles, and the words after a request.
use Rattle.std.proofs.Common.{◌≡◌, ◌≢◌, ℕ, zero, suc, ◌+◌, ◌-◌, ◌<◌, List, [], ◌∷◌, ◌++◌, length, map, take, drop, set}
use Rattle.std.proofs.Common.{get_or, slice_index, replicate, All, Contains, refl, ap, ◌∙◌, subst, arith, add-one, inl}
use Rattle.std.proofs.Common.{inr}
use Rattle.std.proofs.Math.Seq.{split_at}
use Rattle.std.proofs.Math.Nat.{one-le-pow}
use Rattle.std.proofs.lemmas.Bool.{cases_lt}
use Rattle.std.proofs.lemmas.List.{length-take, length-take-le, length-append, length-drop, length-set}
use Rattle.std.proofs.lemmas.List.{length-replicate, get_or-take, get_or-drop, set_split, map-append, take_rest}
use Rattle.std.proofs.lemmas.List.Elements.{All-map, All-replicate, All-append, All-take, All-drop, All-set}
use Rattle.std.proofs.lemmas.List.Elements.{All-contains, Contains-get_or, Contains-append_left, Contains-append_right}
use Rattle.board_text.specs.Ranges.{InRange}
use Rattle.nested_cycles.specs.Words.{word_of}
use Rattle.nested_cycles.specs.Domination.{labels_of, NestedDominates}
use Rattle.nested_cycles.specs.GoodWords.{AreGood, label_words, NestedGood}
use Rattle.nested_cycles.specs.NestedGame.{plain_game, IsGood, other_words}
use Rattle.nested_cycles.specs.declared.game.TheConstants.{MAX_LEVELS}
use Rattle.nested_cycles.proofs.GoodReplies.{good_without}

-- ---- the words of the others

pub parts : (words : List ℕ) (pebble : ℕ) → pebble < length words
    → words ≡ take pebble words ++ get_or words pebble 0 ∷ drop (pebble + 1) words
parts words pebble inside = rw add-one (split_at words pebble 0 inside)

pub parts_after : (words : List ℕ) (pebble reply : ℕ) → pebble < length words
    → set words pebble reply ≡ take pebble words ++ reply ∷ drop (pebble + 1) words
parts_after words pebble reply inside = rw add-one (set_split words pebble reply inside)

pub fewer_others : (words : List ℕ) (pebble : ℕ) → pebble < length words
    → suc (length (other_words pebble words)) ≡ length words
fewer_others words pebble inside =
    omega (
      arith,
      length-append (take pebble words) (drop (pebble + 1) words),
      length-take-le pebble words (omega arith),
      length-drop (pebble + 1) words,
    )

pub in_others : (words : List ℕ) (pebble other : ℕ) → other < length words → other ≢ pebble
    → Contains (other_words pebble words) (get_or words other 0)
in_others words pebble other inside differ =
    elim (cases_lt other pebble) [
      | inl before ↦
          let there : other < length (take pebble words) = omega (arith, length-take pebble words) in
          Contains-append_left (take pebble words) (drop (pebble + 1) words) (get_or words other 0)
          (subst (Contains (take pebble words)) (get_or-take pebble words other 0 before)
          (Contains-get_or (take pebble words) other 0 there))
      | inr behind ↦
          let index : ℕ = other - (pebble + 1) in
          let there : index < length (drop (pebble + 1) words) = omega (arith, length-drop (pebble + 1) words) in
          let same : get_or (drop (pebble + 1) words) index 0 ≡ get_or words other 0 =
          get_or-drop (pebble + 1) words index 0 ∙ ap (λ (n : ℕ). get_or words n 0) (omega arith) in
          Contains-append_right (take pebble words) (drop (pebble + 1) words) (get_or words other 0)
          (subst (Contains (drop (pebble + 1) words)) same (Contains-get_or (drop (pebble + 1) words) index 0 there))
    ]

-- ---- good words

pub others_are_good : (levels : ℕ) (words : List ℕ) (pebble : ℕ) → pebble < length words → NestedGood levels words
    → NestedGood levels (other_words pebble words)
others_are_good levels words pebble inside good =
    let word = λ (n : ℕ). word_of (levels - 1) n in
    let split : label_words levels words ≡ map word (take pebble words)
    ++ word (get_or words pebble 0) ∷ map word (drop (pebble + 1) words) =
    ap (map word) (parts words pebble inside)
    ∙ map-append word (take pebble words) (get_or words pebble 0 ∷ drop (pebble + 1) words) in
    rw (map-append word (take pebble words) (drop (pebble + 1) words))
    (good_without (levels - 1) (map word (take pebble words)) (map word (drop (pebble + 1) words))
    (word (get_or words pebble 0)) (subst (AreGood (levels - 1)) split good))

pub others_are_labels : (bound : ℕ) (words : List ℕ) (pebble : ℕ) → All (λ n. n < bound) words
    → All (λ n. n < bound) (other_words pebble words)
others_are_labels bound words pebble labels =
    All-append (λ n. n < bound) (take pebble words) (drop (pebble + 1) words)
    (All-take (λ n. n < bound) pebble words labels) (All-drop (λ n. n < bound) (pebble + 1) words labels)

-- copies of one word are good
pub same_words_are_good : (count number pebbles : ℕ)
    → AreGood count (map (λ n. word_of count n) (replicate pebbles number))
same_words_are_good zero number pebbles = tt
same_words_are_good (suc count) number pebbles =
    let digit : ℕ = slice_index (word_of (suc count) number) 0 in
    inr (inl (
      digit,
      All-map (λ first. first ≡ digit) (λ word. slice_index word 0)
          (map (λ n. word_of (suc count) n) (replicate pebbles number))
          (All-map (λ word. slice_index word 0 ≡ digit) (λ n. word_of (suc count) n) (replicate pebbles number)
          (All-replicate (λ n. slice_index (word_of (suc count) n) 0 ≡ digit) pebbles number refl)),
    ))

-- ---- games

pub start_is_good : (levels : ℕ) (words : List ℕ) → InRange 1 MAX_LEVELS levels → words ≡ replicate levels 0
    → IsGood (plain_game levels words)
start_is_good levels words level is = record {
  level = level;
  each_pebble = rw is (length-replicate levels 0);
  labels = rw is (All-replicate (λ n. n < labels_of levels) levels 0 (one-le-pow (levels - 1) 3 (omega arith)));
  good = rw is (same_words_are_good (levels - 1) 0 levels);
}

pub request_keeps : (levels : ℕ) (words others : List ℕ) (pebble reply : ℕ) → IsGood (plain_game levels words)
    → pebble < levels → others ≡ other_words pebble words → reply < labels_of levels
    → ((before after : List ℕ) → others ≡ before ++ after → NestedGood levels (before ++ reply ∷ after))
    → IsGood (plain_game levels (set words pebble reply))
request_keeps levels words others pebble reply is inside others_are label good = record {
  level = is.level;
  each_pebble = length-set words pebble reply ∙ is.each_pebble;
  labels = All-set (λ n. n < labels_of levels) words pebble reply label is.labels;
  good = rw (parts_after words pebble reply (omega (arith, is.each_pebble)))
      (good (take pebble words) (drop (pebble + 1) words) others_are);
}

pub request_dominates : (levels : ℕ) (words others : List ℕ) (pebble reply : ℕ) → length words ≡ levels
    → others ≡ other_words pebble words → All (λ other. NestedDominates levels reply other) others
    → (other : ℕ) → other < levels → other ≢ pebble → NestedDominates levels reply (get_or words other 0)
request_dominates levels words others pebble reply long others_are each other inside differ =
    All-contains (λ n. NestedDominates levels reply n) others (get_or words other 0) each
    (rw others_are (in_others words pebble other (omega arith) differ))

-- the words before a place and those after it, put together, are the other words
pub others_are : (place : ℕ) (words first second none more all whole : List ℕ) → none ≡ [] → first ≡ words
    → more ≡ none ++ take place first → second ≡ words
    → all ≡ more ++ take (length second - (place + 1)) (drop (place + 1) second) → whole ≡ all
    → whole ≡ other_words place words
others_are place words first second none more all whole is_none is_first is_more is_second is_all is_whole =
    is_whole ∙ is_all ∙ rw (is_more, is_none, is_first, is_second)
    (ap (λ ws. take place words ++ ws) (take_rest words (place + 1)))
