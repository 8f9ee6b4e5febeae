-- The normal places that steps lead to, from one to another.
use Rattle.std.proofs.Common.{◌≡◌, ℕ, ◌+◌, ◌<◌, ◌≤◌, inl, inr, List, [], ◌∷◌, ◌++◌, length, Some, None, slice_get}
use Rattle.std.proofs.Common.{slice_index, refl, sym, ap, ◌∙◌, subst, arith}
use Rattle.std.specs.List.{Contains}
use Rattle.std.proofs.lemmas.Bool.{cases_lt}
use Rattle.std.proofs.lemmas.List.{get_or_append_left, get_or_default}
use Rattle.std.proofs.lemmas.Option.{slice_get_within, get_or_from_slice_get, slice_get-get_or}
use Rattle.board_text.specs.PlainBoard.{PlainBoard, IsConfiguration}
use Rattle.positions.specs.Game.{moved}
use Rattle.positions.proofs.Cited.{moved_is_configuration}
use Rattle.proof_text.specs.Positions.{Positions}
use Rattle.strategies.specs.DocumentMoves.{IsAnswerable, IsAnswerMove, IsRequestMove, LeadsOver}
use Rattle.strategies.specs.Inside.Numbering.{Numbering, AreAll, IsNumbering}
use Rattle.strategies.specs.Inside.ReachedOver.{number_over, AnswerLeadsOver, RequestLeadsOver, IsReachedOver}
use Rattle.strategies.proofs.AddedRanks.{IsWithAll}
use Rattle.strategies.specs.Inside.NumberedPositions.{ArePositions}
use Rattle.strategies.proofs.ReachedByMoves.{one_more, moves_stay}

-- ---- a list of numbers that is worked off

-- P holds of all numbers in the list, and the numbers to which those before the place lead are in it
pub record IsSpread (P : ℕ → Type 0) (Leads : ℕ → ℕ → Type 0) (place : ℕ) (numbers : List ℕ) : Type 0 where
  pub sound : (number : ℕ) → Contains numbers number → P number
  pub spread : (at to : ℕ) → at < place → Leads (slice_index numbers at) to → Contains numbers to

pub get_there : (xs : List ℕ) (place x : ℕ) → slice_get xs place ≡ Some x → Contains xs x
get_there xs place x there = (place, slice_get_within xs place x there, get_or_from_slice_get xs place x x there)

-- a place without a number is past the end
past_end : (xs : List ℕ) (place : ℕ) → slice_get xs place ≡ None → length xs ≤ place
past_end xs place end = elim (cases_lt place (length xs)) [
  | inl inside ↦ let there : slice_get xs place ≡ Some (slice_index xs place) = slice_get-get_or xs place 0 inside in
      absurd cc
  | inr past ↦ past
]

module _ (P : ℕ → Type 0) (Leads : ℕ → ℕ → Type 0) where
  pub spread_step : (place number : ℕ) (numbers more : List ℕ) → IsSpread P Leads place numbers
      → slice_get numbers place ≡ Some number → IsWithAll numbers (Leads number) more
      → ((to : ℕ) → P number → Leads number to → P to) → IsSpread P Leads (place + 1) more
  spread_step place number numbers more spread here added keeps = record {
    sound = λ to among. elim ((added.each to).0 among) [
      | inl old ↦ spread.sound to old
      | inr leads ↦ keeps to (spread.sound number (get_there numbers place number here)) leads
    ];
    spread = λ at to before leads.
        let inside = slice_get_within numbers place number here in
        let stays : slice_index more at ≡ slice_index numbers at =
        ap (λ (xs : List ℕ). slice_index xs at) added.behind.1
        ∙ get_or_append_left numbers added.behind.0 0 at (omega (arith, inside)) in
        let leads_too : Leads (slice_index numbers at) to = subst (λ (from : ℕ). Leads from to) stays leads in
        (added.each to).1 (elim (cases_lt at place) [
          | inl early ↦ inl (spread.spread at to early leads_too)
          | inr late ↦
              let last : at ≡ place = omega arith in
              let same : slice_index numbers at ≡ number =
              ap (slice_index numbers) last ∙ get_or_from_slice_get numbers place number 0 here in
              inr (subst (λ (from : ℕ). Leads from to) same leads_too)
        ]);
  }

  -- at the end all numbers to which numbers of the list lead are in it
  pub spread_all : (place : ℕ) (numbers : List ℕ) → IsSpread P Leads place numbers → slice_get numbers place ≡ None
      → (from to : ℕ) → Contains numbers from → Leads from to → Contains numbers to
  spread_all place numbers spread end from to (at, inside, same) leads =
      let there : slice_index numbers at ≡ from = get_or_default numbers at 0 from inside ∙ same in
      spread.spread at to (omega (arith, inside, past_end numbers place end))
      (subst (λ (f : ℕ). Leads f to) (sym there) leads)

-- ---- the places that moves of one kind lead to

-- `Leads` says that a move of the kind, and to normal places with the property, leads from places to others
pub record AreMoves (board : PlainBoard) (positions : Positions) (numbering : Numbering)
    (IsMove : List ℕ → ℕ → ℕ → Type 0)
    (Holds : List ℕ → Type 0) (Leads : ℕ → ℕ → Type 0) : Type 0 where
  pub is_label : (c : List ℕ) (pebble label : ℕ) → IsMove c pebble label → label < board.labels
  pub before : (c : List ℕ) (pebble label : ℕ) → IsMove c pebble label → Holds c
  pub leads : (number pebble label : ℕ) → IsMove (numbering.places number) pebble label
      → Holds (positions.normal (moved (numbering.places number) pebble label))
      → Leads number (number_over positions numbering (moved (numbering.places number) pebble label))
  pub move : (number to : ℕ) → Holds (numbering.places number) → Leads number to
      → (pebble label : ℕ) × IsMove (numbering.places number) pebble label
      × (to ≡ number_over positions numbering (moved (numbering.places number) pebble label))
      × Holds (positions.normal (moved (numbering.places number) pebble label))

pub answer_moves : (board : PlainBoard) (positions : Positions) (numbering : Numbering)
    → AreMoves board positions numbering (IsAnswerMove board) (IsAnswerable board)
    (AnswerLeadsOver positions numbering board)
answer_moves board positions numbering = record {
  is_label = λ c pebble label move. move.best.0.legal.is_label;
  before = λ c pebble label move. move.answerable;
  leads = λ number pebble label move some.
      (pebble, record { is_pebble = move.is_pebble; label = label; best = move.best; to_is = refl; some = some });
  move = λ number to some (pebble, step). (
    pebble,
    step.label,
    record { is_pebble = step.is_pebble; answerable = some; best = step.best },
    step.to_is,
    step.some,
  );
}

pub request_moves : (board : PlainBoard) (positions : Positions) (numbering : Numbering)
    → AreMoves board positions numbering (IsRequestMove board) (λ c. Unit {0})
    (RequestLeadsOver positions numbering board)
request_moves board positions numbering = record {
  is_label = λ c pebble label move. move.legal.is_label;
  before = λ c pebble label move. tt;
  leads = λ number pebble label move some.
      (label, record { pebble = pebble; best = move.best; legal = move.legal; to_is = refl });
  move = λ number to some (label, step).
      (step.pebble, label, record { best = step.best; legal = step.legal }, step.to_is, tt);
}

module _ (board : PlainBoard) (positions : Positions) (numbering : Numbering) (IsMove : List ℕ → ℕ → ℕ → Type 0)
    (Holds : List ℕ → Type 0) (Leads : ℕ → ℕ → Type 0) where
  abbrev pub IsFound : ℕ → Type 0
  IsFound number = numbering.IsNumber number × IsReachedOver positions numbering board IsMove Holds number

  pub record IsSpreadBy (place : ℕ) (numbers : List ℕ) : Type 0 where
    pub on : IsSpread IsFound Leads place numbers
    pub start : Holds (positions.normal board.start) → Contains numbers (number_over positions numbering board.start)

module _ (board : PlainBoard) (positions : Positions) (are_positions : ArePositions board positions)
    (numbering : Numbering) (are_numbers : IsNumbering board numbering) (IsMove : List ℕ → ℕ → ℕ → Type 0)
    (Holds : List ℕ → Type 0) (Leads : ℕ → ℕ → Type 0)
    (is : IsConfiguration board board.start) where
  abbrev start : List ℕ
  start = positions.normal board.start

  -- the number of the start's normal places, if they have the property
  abbrev pub IsStart : ℕ → Type 0
  IsStart number = Holds start × (number ≡ number_over positions numbering board.start)

  pub spread_begins : (numbers : List ℕ) → IsWithAll [] IsStart numbers → IsSpreadBy board positions numbering IsMove
      Holds Leads
      0 numbers
  spread_begins numbers begun = record {
    on = record {
      sound = λ number among. elim ((begun.each number).0 among) [
        | inl none ↦ absurd (let inside : none.0 < 0 = none.1 in omega arith)
        | inr starts ↦
            let here : numbering.places number ≡ start =
            ap numbering.places starts.1 ∙ are_numbers.places_are start (are_positions.is board.start is) in (
              subst numbering.IsNumber (sym starts.1) (are_numbers.number_is start (are_positions.is board.start is)),
              record { moves = []; reached = sym here; holds = subst Holds (sym here) starts.0 },
            )
      ];
      spread = λ at to before leads. absurd (omega arith);
    };
    start = λ holds. (begun.each (number_over positions numbering board.start)).1 (inr (holds, refl));
  }

  module _ (are : AreMoves board positions numbering IsMove Holds Leads) where
    pub keeps : (to number : ℕ) → IsFound board positions numbering IsMove Holds Leads number → Leads number to
        → IsFound board positions numbering IsMove Holds Leads to
    keeps to number found leads =
        let c : List ℕ = numbering.places number in
        let (pebble, label, move, to_is, holds) = are.move number to found.1.holds leads in
        let next : List ℕ = moved c pebble label in
        let is_next : IsConfiguration board next =
        moved_is_configuration board c pebble label (are.is_label c pebble label move)
        (are_numbers.is number found.0) in
        let here : numbering.places to ≡ positions.normal next =
        ap numbering.places to_is ∙ are_numbers.places_are (positions.normal next) (are_positions.is next is_next) in (
          subst numbering.IsNumber (sym to_is)
              (are_numbers.number_is (positions.normal next) (are_positions.is next is_next)),
          record {
            moves = found.1.moves ++ (pebble, label) ∷ [];
            reached = subst (LeadsOver positions IsMove start (found.1.moves ++ (pebble, label) ∷ []))
                (sym here)
                (one_more positions IsMove start found.1.moves c pebble label found.1.reached move);
            holds = subst Holds (sym here) holds;
          },
        )

    pub spread_more : (place number : ℕ) (numbers more : List ℕ) → IsSpreadBy board positions numbering IsMove Holds
        Leads place
        numbers
        → slice_get numbers place ≡ Some number
        → IsWithAll numbers (Leads number) more → IsSpreadBy board positions numbering IsMove Holds Leads (place + 1)
        more
    spread_more place number numbers more spread here added = record {
      on = spread_step (IsFound board positions numbering IsMove Holds Leads) Leads place number numbers more spread.on
          here added
          (λ to. keeps to number);
      start = λ holds. (added.each (number_over positions numbering board.start)).1 (inl (spread.start holds));
    }

    pub spread_ends : (place : ℕ) (numbers : List ℕ) → IsSpreadBy board positions numbering IsMove Holds Leads place
        numbers
        → slice_get numbers place ≡ None
        → AreAll numbering (IsReachedOver positions numbering board IsMove Holds) (Contains numbers)
    spread_ends place numbers spread end number = (
      spread.on.sound number,
      λ found. subst (Contains numbers) (are_numbers.again number found.0) (all found.1).1,
    )
      where
        P : List ℕ → Type 0
        P c = IsConfiguration board c × Contains numbers (numbering.number c)

        step : (c : List ℕ) (pebble label : ℕ) → P c → IsMove c pebble label
            → Holds (positions.normal (moved c pebble label)) → P (positions.normal (moved c pebble label))
        step c pebble label there move holds =
            let from : ℕ = numbering.number c in
            let same : c ≡ numbering.places from = sym (are_numbers.places_are c there.0) in
            let next : List ℕ = moved c pebble label in
            let is_next : IsConfiguration board next =
            moved_is_configuration board c pebble label (are.is_label c pebble label move) there.0 in
            let leads : Leads from (number_over positions numbering next) =
            subst (λ (d : List ℕ). Leads from (number_over positions numbering (moved d pebble label))) (sym same)
            (are.leads from pebble label (subst (λ (d : List ℕ). IsMove d pebble label) same move)
            (subst (λ (d : List ℕ). Holds (positions.normal (moved d pebble label))) same holds)) in (
              are_positions.is next is_next,
              spread_all (IsFound board positions numbering IsMove Holds Leads) Leads place numbers spread.on end from
                  (number_over positions numbering next) there.1 leads,
            )

        all : IsReachedOver positions numbering board IsMove Holds number → P (numbering.places number)
        all reached = moves_stay positions IsMove Holds P are.before step start reached.moves
            (numbering.places number)
            (λ holds. (are_positions.is board.start is, spread.start holds))
            reached.reached reached.holds
