-- A finite value is less than the number of gaps, since each smaller number is the value at which another gap is asked.
use Rattle.std.proofs.Common.{◌≡◌, ◌≢◌, ℕ, zero, suc, ◌+◌, ◌-◌, ◌<◌, ◌≤◌, List, [], ◌∷◌, ◌++◌, length, get_or, refl}
use Rattle.std.proofs.Common.{sym, ◌∙◌, subst, inl, inr, arith}
use Rattle.std.specs.List.{All, AllPairs, Contains, remove}
use Rattle.std.proofs.lemmas.List.{length_push, length-set}
use Rattle.std.proofs.lemmas.List.Edits.{length-remove}
use Rattle.std.proofs.lemmas.List.Elements.{Contains-get_or, Contains-push_cases}
use Rattle.std.proofs.lemmas.List.Quantifiers.{all_pairs_push}
use Rattle.board_text.specs.PlainBoard.{PlainBoard, IsConfiguration, places}
use Rattle.positions.specs.declared.value.Value.TheVariants.{Finite}
use Rattle.positions.specs.Game.{Legal, LabellerTree, AdversaryTree, moved}
use Rattle.positions.specs.Gaps.{AnswersGap}
use Rattle.positions.specs.Laws.{Occurs}
use Rattle.positions.specs.Value.{HasValue}
use Rattle.positions.proofs.Cited.{smaller_occurs, not_both_trees, lasts_at_most}
use Rattle.classes.specs.Classes.{IsClass}
use Rattle.classes.specs.ClassGaps.{gap_at}
use Rattle.classes.specs.Numbers.{number_by_greatest, ways}
use Rattle.classes.proofs.Cited.{is-below, AreLike, labeller-like, legal-answers, class_of-own, length-class_of}
use Rattle.classes.proofs.Cited.{falls-class_of, all-class_of, of-all-class_of, of-all-put}
use Rattle.strategies.proofs.AddedRanks.{few_apart}
use Rattle.strategies.proofs.LikePebbles.{moved-alike, same-number}

-- ---- no more values than numbers, if no number belongs to two values

module _ (Belongs : ℕ → ℕ → Type 0)
    (once : (low high number : ℕ) → low < high → Belongs low number → Belongs high number → ⊥) where
  -- as many numbers as values below the bound, each of which belongs to such a value
  record AreOfValues (bound : ℕ) (numbers : List ℕ) : Type 0 where
    long : length numbers ≡ bound
    each : (number : ℕ) → Contains numbers number → (value : ℕ) × (value < bound) × Belongs value number
    apart : AllPairs (λ first second. first ≢ second) numbers

  numbers_of : (bound : ℕ) → ((value : ℕ) → value < bound → (number : ℕ) × Belongs value number)
      → (numbers : List ℕ) × AreOfValues bound numbers
  numbers_of zero some = (
    [],
    record {
      long = refl;
      each = λ number among. absurd (omega (arith, among.1));
      apart = λ i j d less inside. absurd (omega (arith, inside));
    },
  )
  numbers_of (suc bound) some =
      let before = numbers_of bound (λ value below. some value (omega (arith, below))) in
      let last = some bound (omega arith) in
      let numbers : List ℕ = before.0 in (
        numbers ++ last.0 ∷ [],
        record {
          long = (let more : length (numbers ++ last.0 ∷ []) ≡ length numbers + 1 = length_push numbers last.0 in
              omega (arith, more, before.1.long));
          each = λ other among. elim (Contains-push_cases numbers last.0 other among) [
            | inl old ↦
                let is = before.1.each other old in
                let below : is.0 < bound = is.1 in
                (is.0, omega (arith, below), is.2)
            | inr same ↦ (bound, omega arith, subst (Belongs bound) same last.1)
          ];
          apart = all_pairs_push (λ first second. first ≢ second) numbers last.0 before.1.apart (λ k d inside same.
              let is = before.1.each (get_or numbers k d) (Contains-get_or numbers k d inside) in
              once is.0 bound last.0 is.1 (subst (Belongs is.0) same is.2) last.1);
        },
      )

  few_of_values : (bound limit : ℕ) → ((value : ℕ) → value < bound → (number : ℕ) × Belongs value number)
      → ((value number : ℕ) → Belongs value number → number < limit) → bound ≤ limit
  few_of_values bound limit some below =
      let all = numbers_of bound some in
      let few : length all.0 ≤ limit = few_apart all.0 limit all.1.apart (λ number among.
      let is = all.1.each number among in below is.0 number is.2) in
      omega (arith, few, all.1.long)

-- ---- the gap that is asked at a value

-- a labeller answers this number of requests from the configuration, and no more if the pebble is asked first
record IsAskedAt (board : PlainBoard) (value : ℕ) (configuration : List ℕ) (pebble : ℕ) : Type 0 where
  is : IsConfiguration board configuration
  is_pebble : pebble < board.pebbles
  lasts : LabellerTree board value configuration
  ends : (label : ℕ) → Legal board configuration pebble label
      → AdversaryTree board value (moved configuration pebble label)

-- a gap that is asked at one value isn't asked at a greater one
not_later : (board : PlainBoard) (low high : ℕ) (one : List ℕ) (pebble : ℕ) (other : List ℕ) (partner : ℕ)
    → IsAskedAt board low one pebble → IsAskedAt board high other partner
    → gap_at one pebble ≡ gap_at other partner → low < high → ⊥
not_later board low zero one pebble other partner asked later same less = omega (arith, less)
not_later board low (suc high) one pebble other partner asked later same less =
    let answer = later.lasts partner later.is_pebble in
    let label : ℕ = answer.0 in
    let legal : Legal board one pebble label =
    (legal-answers board one pebble label asked.is.each_pebble asked.is_pebble).1
    (subst (λ gap. AnswersGap board gap label) (sym same)
    ((legal-answers board other partner label later.is.each_pebble later.is_pebble).0 answer.1)) in
    let like : AreLike board (moved other partner label) (moved one pebble label) = record {
      one_size = length-set other partner label ∙ later.is.each_pebble;
      other_size = length-set one pebble label ∙ asked.is.each_pebble;
      same = moved-alike other one partner pebble label (omega (arith, later.is.each_pebble, later.is_pebble))
          (omega (arith, asked.is.each_pebble, asked.is_pebble)) (sym same);
    } in
    let lasts : LabellerTree board high (moved one pebble label) =
    labeller-like board high (moved other partner label) (moved one pebble label) like answer.2 in
    not_both_trees board low (moved one pebble label)
    (lasts_at_most board (moved one pebble label) low high (omega (arith, less)) lasts) (asked.ends label legal)

gap-is : (board : PlainBoard) (configuration : List ℕ) (pebble : ℕ) → IsConfiguration board configuration
    → pebble < board.pebbles → IsClass (places board) (board.pebbles - 1) (gap_at configuration pebble)
gap-is board configuration pebble is inside =
    let IsPlace : ℕ → Type 0 = λ place. place < places board in
    let others : List ℕ = remove configuration pebble in
    let low : pebble < length configuration = omega (arith, is.each_pebble, inside) in
    let fewer : length others + 1 ≡ length configuration = length-remove configuration pebble low in
    let all : All IsPlace (gap_at configuration pebble) =
    (of-all-put IsPlace (get_or configuration pebble 0) (gap_at configuration pebble)
    (subst (All IsPlace) (class_of-own configuration pebble low)
    (all-class_of IsPlace configuration is.each_place))).1 in
    record {
      size = length-class_of others ∙ omega (arith, fewer, is.each_pebble);
      falls = falls-class_of (places board) others (of-all-class_of IsPlace others all);
    }

-- the number of a gap that is asked at the value
record IsGapAskedAt (board : PlainBoard) (value number : ℕ) : Type 0 where
  configuration : List ℕ
  pebble : ℕ
  asked : IsAskedAt board value configuration pebble
  number_is : number_by_greatest (gap_at configuration pebble) ≡ number

module _ (board : PlainBoard) where
  -- each value has such a gap
  asked_gap : (value : ℕ) → Occurs board value → (number : ℕ) × IsGapAskedAt board value number
  asked_gap value (configuration, is, has) =
      let request = has.1 in (
        number_by_greatest (gap_at configuration request.0),
        record {
          configuration = configuration;
          pebble = request.0;
          asked = record { is = is; is_pebble = request.1; lasts = has.0; ends = request.2 };
          number_is = refl;
        },
      )

  gap-of : (value number : ℕ) (gap : IsGapAskedAt board value number)
      → IsClass (places board) (board.pebbles - 1) (gap_at gap.configuration gap.pebble)
  gap-of value number gap = gap-is board gap.configuration gap.pebble gap.asked.is gap.asked.is_pebble

  gap_below : (value number : ℕ) → IsGapAskedAt board value number → number < ways (board.pebbles - 1) (places board)
  gap_below value number gap =
      let below = is-below (places board) (board.pebbles - 1) (gap_at gap.configuration gap.pebble)
      (gap-of value number gap) in
      omega (arith, below, gap.number_is)

  asked_once : (low high number : ℕ) → low < high → IsGapAskedAt board low number → IsGapAskedAt board high number → ⊥
  asked_once low high number less gap later =
      not_later board low high gap.configuration gap.pebble later.configuration later.pebble gap.asked later.asked
      (same-number (places board) (board.pebbles - 1) (gap_at gap.configuration gap.pebble)
      (gap_at later.configuration later.pebble) (gap-of low number gap) (gap-of high number later)
      (gap.number_is ∙ sym later.number_is)) less

  pub few_values : (configuration : List ℕ) (number : ℕ) → IsConfiguration board configuration
      → HasValue board configuration (Finite number) → number < ways (board.pebbles - 1) (places board)
  few_values configuration number is has =
      let few = few_of_values (IsGapAskedAt board) asked_once (suc number) (ways (board.pebbles - 1) (places board))
      (λ value below.
      asked_gap value (smaller_occurs board value number (omega (arith, below)) (configuration, is, has)))
      gap_below in
      omega (arith, few)
