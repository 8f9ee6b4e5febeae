-- Labeller's trees on nested boards.
use Rattle.std.proofs.Common.{◌≡◌, ◌⊎◌, ℕ, zero, suc, ◌+◌, ◌-◌, ◌*◌, ◌/◌, ◌%◌, ◌<◌, ◌≤◌, List, [], ◌∷◌, ◌++◌, length}
use Rattle.std.proofs.Common.{take, drop, get_or, replicate, refl, sym, ◌∙◌, subst, arith, inl, inr}
use Rattle.std.proofs.Math.Nat.{one-le-pow}
use Rattle.std.proofs.lemmas.Bool.{cases_eq}
use Rattle.std.proofs.lemmas.List.{length-set, length-replicate}
use Rattle.std.proofs.lemmas.List.Elements.{All-set, All-replicate, All-contains}
use Rattle.board_text.specs.PlainBoard.{PlainBoard, plain_board, AreLabels}
use Rattle.positions.specs.Game.{Legal, LabellerTree, moved}
use Rattle.nested_cycles.specs.Words.{word_number}
use Rattle.nested_cycles.specs.Domination.{labels_of, label_word, NestedDominates}
use Rattle.nested_cycles.specs.Inside.Pairs.{AreNestedPairs}
use Rattle.nested_cycles.specs.NestedBoard.{IsNestedBoard}
use Rattle.nested_cycles.specs.GoodWords.{NestedGood, label_words}
use Rattle.nested_cycles.specs.Reply.{IsReply, NestedReply}
use Rattle.nested_cycles.specs.NestedGame.{other_words}
use Rattle.nested_cycles.proofs.Cited.{number_of_word, word_of-number_of, one_of_two_labels, each_other, pair_at}
use Rattle.nested_cycles.proofs.Cited.{pairs_none, next_pair, no_pair, beats_exactly, good_have_reply, reply_beats}
use Rattle.nested_cycles.proofs.Cited.{good_with, parts_after, fewer_others, others_are_good, others_are_labels}
use Rattle.nested_cycles.proofs.Cited.{in_others, same_words_are_good}
use Rattle.player.specs.NestedPlay.{IsNestedPlay, IsGoodConfiguration}
use Rattle.player.specs.Transcript.{Standing, Going, Over, PersonClimbs, IsResponse, AreResponses, IsPlayed}

-- ---- a reply to good words

-- a label that answers a request whose other pebbles are on these labels
pub record HasLabel (levels : ℕ) (others : List ℕ) : Type 0 where
  pub label : ℕ
  pub is_label : label < labels_of levels
  pub reply : NestedReply levels others label

pub has_label : (levels : ℕ) (others : List ℕ) → NestedGood levels others → HasLabel levels others
has_label levels others good =
    let found = good_have_reply (levels - 1) (label_words levels others) good in
    record {
      label = word_number found.0;
      is_label = number_of_word (levels - 1) found.0 found.2;
      reply = subst (λ word. IsReply (levels - 1) (label_words levels others) word)
          (sym (word_of-number_of (levels - 1) found.0 found.2)) found.1;
    }

-- ---- trees

few_others : (levels : ℕ) (board : PlainBoard) (configuration : List ℕ) (pebble : ℕ) → IsNestedPlay levels board
    → IsGoodConfiguration levels board configuration → pebble < board.pebbles
    → length (other_words pebble configuration) < levels
few_others levels board configuration pebble nested good inside =
    let long = good.are_labels.0 in
    let fewer = fewer_others configuration pebble (omega arith) in
    let most = nested.pebbles in
    omega arith

pub is_legal : (levels : ℕ) (board : PlainBoard) (configuration : List ℕ) (pebble label : ℕ) → IsNestedPlay levels board
    → IsGoodConfiguration levels board configuration → pebble < board.pebbles
    → label < labels_of levels → NestedReply levels (other_words pebble configuration) label
    → Legal board configuration pebble label
is_legal levels board configuration pebble label nested good inside low reply =
    let beats = reply_beats levels (other_words pebble configuration) label
    (few_others levels board configuration pebble nested good inside)
    (others_are_labels (labels_of levels) configuration pebble good.are_labels.1) reply in
    record {
      is_label = rw nested.labels low;
      dominates = λ other other_inside differ is_label.
          let there : other < length configuration = omega (arith, good.are_labels.0) in
          (nested.beats label (get_or configuration other 0) (rw nested.labels low, is_label)).1
          (All-contains (λ n. NestedDominates levels label n) (other_words pebble configuration)
          (get_or configuration other 0) beats (in_others configuration pebble other there differ));
    }

pub after_request : (levels : ℕ) (board : PlainBoard) (configuration : List ℕ) (pebble label : ℕ)
    → IsNestedPlay levels board → IsGoodConfiguration levels board configuration → pebble < board.pebbles
    → label < labels_of levels → NestedReply levels (other_words pebble configuration) label
    → IsGoodConfiguration levels board (moved configuration pebble label)
after_request levels board configuration pebble label nested good inside low reply = record {
  are_labels = (
    length-set configuration pebble label ∙ good.are_labels.0,
    All-set (λ n. n < labels_of levels) configuration pebble label low good.are_labels.1,
  );
  good = rw (parts_after configuration pebble label (omega (arith, good.are_labels.0)))
      (good_with levels (other_words pebble configuration) label
      (few_others levels board configuration pebble nested good inside) reply (take pebble configuration)
      (drop (pebble + 1) configuration) refl);
}

pub lasts : (levels : ℕ) (board : PlainBoard) (depth : ℕ) (configuration : List ℕ) → IsNestedPlay levels board
    → IsGoodConfiguration levels board configuration → LabellerTree board depth configuration
lasts levels board zero configuration nested good = tt
lasts levels board (suc depth) configuration nested good =
    λ pebble inside.
    let others_good = others_are_good levels configuration pebble (omega (arith, good.are_labels.0)) good.good in
    let found = has_label levels (other_words pebble configuration) others_good in (
      found.label,
      is_legal levels board configuration pebble found.label nested good inside found.is_label found.reply,
      lasts levels board depth (moved configuration pebble found.label) nested
          (after_request levels board configuration pebble found.label nested good inside found.is_label found.reply),
    )

-- ---- boards

pub zeros_are_good : (levels : ℕ) (board : PlainBoard) (pebbles : ℕ) → board.pebbles ≡ pebbles
    → IsGoodConfiguration levels board (replicate pebbles 0)
zeros_are_good levels board pebbles same = record {
  are_labels = (
    length-replicate pebbles 0 ∙ sym same,
    All-replicate (λ n. n < labels_of levels) pebbles 0 (one-le-pow (levels - 1) 3 (omega arith)),
  );
  good = same_words_are_good (levels - 1) 0 pebbles;
}

pub start_of_zeros : (levels : ℕ) (board : PlainBoard) (pebbles : ℕ) → board.pebbles ≡ pebbles
    → board.start ≡ replicate pebbles 0 → IsGoodConfiguration levels board board.start
start_of_zeros levels board pebbles same start =
    subst (IsGoodConfiguration levels board) (sym start) (zeros_are_good levels board pebbles same)

pub built_board : (levels pebbles : ℕ) (board : PlainBoard) → pebbles ≤ levels → IsNestedBoard levels pebbles board
    → IsNestedPlay levels board
built_board levels pebbles board few is =
    record { labels = is.labels; pebbles = omega (arith, is.pebbles); beats = is.beats }

-- ---- plays

-- the words of a play that goes on are good
abbrev StandsWell : ℕ → PlainBoard → Standing → Type 0
StandsWell levels board (Going at requests) = IsGoodConfiguration levels board at
StandsWell levels board (Over end) = Unit {0}

module _ (levels : ℕ) (board : PlainBoard) (nested : IsNestedPlay levels board) (each : board.pebbles ≡ levels) where
  stands_on : (from : Standing) (line said : List ℕ) (to : Standing)
      → IsResponse (PersonClimbs levels) from line said to → StandsWell levels board from → StandsWell levels board to
  stands_on (Over end) line said to brings well = subst (StandsWell levels board) (sym brings.1) tt
  stands_on (Going at requests) line said to (inl (pebble, inside, spelled, (label, low, reply, text, goes))) well =
      subst (StandsWell levels board) (sym goes)
      (after_request levels board at pebble label nested well (rw each inside) low reply)
  stands_on (Going at requests) line said to (inr (inl (spelled, text, over))) well =
      subst (StandsWell levels board) (sym over) tt
  stands_on (Going at requests) line said to (inr (inr (other, text, goes))) well =
      subst (StandsWell levels board) (sym goes) well

  stands_in_turn : (from : Standing) (lines : List (List ℕ)) (text : List ℕ) (to : Standing)
      → AreResponses (PersonClimbs levels) from lines text to → StandsWell levels board from
      → StandsWell levels board to
  stands_in_turn from [] text to brought well = subst (StandsWell levels board) brought.1 well
  stands_in_turn from (line ∷ lines) text to brought well =
      stands_in_turn brought.2 lines brought.1 to brought.4 (stands_on from line brought.0 brought.2 brought.3 well)

  pub plays_stand_well : (lines : List (List ℕ)) (text at : List ℕ) (requests : ℕ)
      → IsPlayed (PersonClimbs levels) lines text (Going at requests) → IsGoodConfiguration levels board at
  plays_stand_well lines text at requests played =
      stands_in_turn played.first lines played.more (Going at requests) played.brings
      (subst (StandsWell levels board) (sym played.opens.1) (zeros_are_good levels board levels each))

-- ---- each level has its pairs

-- x dominates y, or not
pub beats_or_not : (levels x y : ℕ) → AreLabels (labels_of levels) (x, y)
    → NestedDominates levels x y ⊎ (NestedDominates levels x y → ⊥)
beats_or_not levels x y are =
    elim (cases_eq x y) [
      | inl same ↦ inr (λ beats. let itself : NestedDominates levels y y =
          subst (λ (n : ℕ). NestedDominates levels n y) same beats in
          each_other (label_word levels y) (label_word levels y) itself itself)
      | inr differ ↦ elim (one_of_two_labels (levels - 1) x y are.0 are.1 differ) [
        | inl one ↦ inl one
        | inr two ↦ inr (λ beats. each_other (label_word levels x) (label_word levels y) beats two)
      ]
    ]

-- the pairs of the first places
abbrev pub HasPairs : ℕ → ℕ → Type 0
HasPairs levels places = (pairs : List (ℕ × ℕ)) × AreNestedPairs levels places pairs

pub has_pairs : (levels places : ℕ) → places ≤ labels_of levels * labels_of levels → HasPairs levels places
has_pairs levels zero few = ([], pairs_none levels)
has_pairs levels (suc place) few =
    let before = has_pairs levels place (omega arith) in
    let at = pair_at (labels_of levels) place (omega arith) in
    let x : ℕ = place / labels_of levels in
    let y : ℕ = place % labels_of levels in
    let next : place + 1 ≡ suc place = omega arith in
    elim (beats_or_not levels x y at.are) [
      | inl beats ↦ (
        before.0 ++ (x, y) ∷ [],
        subst (λ (n : ℕ). AreNestedPairs levels n (before.0 ++ (x, y) ∷ [])) next
            (next_pair levels (labels_of levels) place x y before.0 (before.0 ++ (x, y) ∷ []) refl
            (omega arith) refl refl before.1 beats refl),
      )
      | inr not ↦ (
        before.0,
        subst (λ (n : ℕ). AreNestedPairs levels n before.0) next
            (no_pair levels (labels_of levels) place x y before.0 before.0 refl
            (omega arith) refl refl before.1 not refl),
      )
    ]

-- the nested board of a level, as plain data
abbrev pub HasBoard : ℕ → ℕ → Type 0
HasBoard levels pebbles = (board : PlainBoard) × IsNestedPlay levels board × (board.pebbles ≡ pebbles)
    × IsGoodConfiguration levels board board.start

pub has_board : (levels pebbles : ℕ) → pebbles ≤ levels → HasBoard levels pebbles
has_board levels pebbles few =
    let pairs = has_pairs levels (labels_of levels * labels_of levels) (omega arith) in
    let board : PlainBoard = plain_board (labels_of levels) pebbles (replicate pebbles 0) pairs.0 in (
      board,
      record { labels = refl; pebbles = few; beats = beats_exactly levels pairs.0 pairs.1 },
      refl,
      start_of_zeros levels board pebbles refl refl,
    )
