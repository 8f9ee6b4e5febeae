-- The positions that steps lead to, from one to another, until no step is left to take.
use Rattle.std.proofs.Common.{◌≡◌, ℕ, inl, inr, List, [], ◌∷◌, ◌++◌, refl, sym, ap, ◌∙◌, subst, get_or}
use Rattle.std.proofs.lemmas.Bool.{cases_eq}
use Rattle.board_text.specs.PlainBoard.{IsConfiguration}
use Rattle.positions.specs.Game.{moved}
use Rattle.positions.proofs.Cited.{moved_is_configuration}
use Rattle.strategies.specs.DocumentMoves.{LeadsOver}
use Rattle.strategies.specs.Inside.NumberedPositions.{AreMoves, AreNumberedPositions, IsReachedOn, NumberedPositions}
use Rattle.strategies.specs.Inside.NumberedPositions.{SideMoves, answer_moves, position_number, request_moves, IsSideOf}
use Rattle.strategies.specs.Inside.Numbering.{AreAll}
use Rattle.strategies.specs.Inside.Reached.{HasTooMany}
use Rattle.strategies.specs.Inside.Reached.{AreReachedWith, IsTakenFrom, NoneIsLeft, NothingIsReached, ReachedBy}
use Rattle.strategies.specs.Inside.Sections.{HasNoSection}
use Rattle.strategies.specs.Inside.Side.{Side, AreReached}
use Rattle.strategies.specs.declared.unmade.Unmade.{Unmade}
use Rattle.strategies.specs.declared.unmade.Unmade.TheVariants.{Memory, TooLong}
use Rattle.strategies.proofs.AddedNumbers.{reached_known, reached_one}
use Rattle.strategies.proofs.ReachedByMoves.{one_more, moves_stay}

pub answers_move : (over : NumberedPositions) → AreMoves over (answer_moves over)
answers_move over = record {
  is_label = λ c pebble label move. move.best.0.legal.is_label;
  before = λ c pebble label move. move.answerable;
  leads = λ c pebble label move some.
      (pebble, record { is_pebble = move.is_pebble; label = label; best = move.best; to_is = refl; some = some });
  move = λ c to some (pebble, step). (
    pebble,
    step.label,
    record { is_pebble = step.is_pebble; answerable = some; best = step.best },
    step.to_is,
    step.some,
  );
}

pub requests_move : (over : NumberedPositions) → AreMoves over (request_moves over)
requests_move over = record {
  is_label = λ c pebble label move. move.legal.is_label;
  before = λ c pebble label move. tt;
  leads = λ c pebble label move some.
      (label, record { pebble = pebble; best = move.best; legal = move.legal; to_is = refl });
  move = λ c to some (label, step).
      (step.pebble, label, record { best = step.best; legal = step.legal }, step.to_is, tt);
}

module _ (over : NumberedPositions) (moves : SideMoves) where
  abbrev start : List ℕ
  start = over.positions.normal over.board.start

  abbrev pub IsFound : ℕ → Type 0
  IsFound number = over.numbering.IsNumber number × IsReachedOn over moves number

  -- all reached numbers are found, and those to which numbers lead from which steps were taken are reached
  pub record IsSpread (set : ReachedBy) : Type 0 where
    pub sound : (number : ℕ) → set.Among number → IsFound number
    pub known : (number : ℕ) → set.IsLeft number → set.Among number
    pub done : (from to : ℕ) → set.Among from → ¬ set.IsLeft from → moves.Leads (over.numbering.places from) to
        → set.Among to
    pub start_is : moves.Holds start → set.Among (position_number over over.board.start)

  module _ (is : AreNumberedPositions over) where
    start_there : IsConfiguration over.board start
    start_there = is.positions.is over.board.start is.board.start

    -- the number of the start's position is added, if it has the property
    pub spread_begins : (before after : ReachedBy) → NothingIsReached before
        → AreReachedWith before (λ number. moves.Holds start × (number ≡ position_number over over.board.start)) after
        → IsSpread after
    spread_begins before after none with = record {
      sound = λ number among. elim ((with.each number).0 among) [
        | inl old ↦ absurd ((none number).0 old)
        | inr starts ↦
            let here : over.numbering.places number ≡ start =
            ap over.numbering.places starts.1 ∙ is.numbers.places_are start start_there in (
              subst over.numbering.IsNumber (sym starts.1) (is.numbers.number_is start start_there),
              record { moves = []; reached = sym here; holds = subst moves.Holds (sym here) starts.0 },
            )
      ];
      known = λ number is_left. elim (with.only number is_left) [
        | inl old ↦ absurd ((none number).1 old)
        | inr new ↦ new.1
      ];
      done = λ from to among not_left leads. elim (with.fresh from among) [
        | inl old ↦ absurd ((none from).0 old)
        | inr new ↦ absurd (not_left new)
      ];
      start_is = λ holds. (with.each (position_number over over.board.start)).1 (inr (holds, refl));
    }

    module _ (are : AreMoves over moves) where
      keeps : (to number : ℕ) → IsFound number → moves.Leads (over.numbering.places number) to → IsFound to
      keeps to number found leads =
          let c : List ℕ = over.numbering.places number in
          let (pebble, label, move, to_is, holds) = are.move c to found.1.holds leads in
          let next : List ℕ = moved c pebble label in
          let is_next : IsConfiguration over.board next =
          moved_is_configuration over.board c pebble label (are.is_label c pebble label move)
          (is.numbers.is number found.0) in
          let here : over.numbering.places to ≡ over.positions.normal next =
          ap over.numbering.places to_is
          ∙ is.numbers.places_are (over.positions.normal next) (is.positions.is next is_next) in (
            subst over.numbering.IsNumber (sym to_is)
                (is.numbers.number_is (over.positions.normal next) (is.positions.is next is_next)),
            record {
              moves = found.1.moves ++ (pebble, label) ∷ [];
              reached = subst (LeadsOver over.positions moves.IsMove start (found.1.moves ++ (pebble, label) ∷ []))
                  (sym here)
                  (one_more over.positions moves.IsMove start found.1.moves c pebble label found.1.reached move);
              holds = subst moves.Holds (sym here) holds;
            },
          )

      -- steps were taken from one number more
      pub spread_more : (set taken after : ReachedBy) (number : ℕ) → IsSpread set → IsTakenFrom set number taken
          → AreReachedWith taken (moves.Leads (over.numbering.places number)) after → IsSpread after
      spread_more set taken after number spread takes with =
          let there : set.Among number = spread.known number takes.was_left in
          record {
            sound = λ to among. elim ((with.each to).0 among) [
              | inl old ↦ spread.sound to ((takes.same to).0 old)
              | inr leads ↦ keeps to number (spread.sound number there) leads
            ];
            known = λ to is_left. elim (with.only to is_left) [
              | inl earlier ↦
                  (with.each to).1 (inl ((takes.same to).1 (spread.known to ((takes.left to).0 earlier).0)))
              | inr new ↦ new.1
            ];
            done = λ from to among not_left leads. elim (with.fresh from among) [
              | inr new ↦ absurd (not_left new)
              | inl old ↦ (with.each to).1 (elim (cases_eq from number) [
                | inl same ↦ inr (subst (λ (f : ℕ). moves.Leads (over.numbering.places f) to) same leads)
                | inr differ ↦ inl ((takes.same to).1 (spread.done from to ((takes.same from).0 old)
                    (λ is_left. not_left (with.kept from ((takes.left from).1 (is_left, differ)))) leads))
              ])
            ];
            start_is = λ holds. (with.each (position_number over over.board.start)).1
                (inl ((takes.same (position_number over over.board.start)).1 (spread.start_is holds)));
          }

      pub spread_ends : (set : ReachedBy) → IsSpread set → NoneIsLeft set
          → AreAll over.numbering (IsReachedOn over moves) set.Among
      spread_ends set spread none number = (
        spread.sound number,
        λ found. subst set.Among (is.numbers.again number found.0) (all found.1).1,
      )
        where
          P : List ℕ → Type 0
          P c = IsConfiguration over.board c × set.Among (over.numbering.number c)

          step : (c : List ℕ) (pebble label : ℕ) → P c → moves.IsMove c pebble label
              → moves.Holds (over.positions.normal (moved c pebble label))
              → P (over.positions.normal (moved c pebble label))
          step c pebble label there move holds =
              let from : ℕ = over.numbering.number c in
              let same : c ≡ over.numbering.places from = sym (is.numbers.places_are c there.0) in
              let next : List ℕ = moved c pebble label in
              let is_next : IsConfiguration over.board next =
              moved_is_configuration over.board c pebble label (are.is_label c pebble label move) there.0 in
              let leads : moves.Leads (over.numbering.places from) (position_number over next) =
              subst (λ (d : List ℕ). moves.Leads d (position_number over next)) same
              (are.leads c pebble label move holds) in (
                is.positions.is next is_next,
                spread.done from (position_number over next) there.1 (none from) leads,
              )

          all : IsReachedOn over moves number → P (over.numbering.places number)
          all reached = moves_stay over.positions moves.IsMove moves.Holds P are.before step start reached.moves
              (over.numbering.places number)
              (λ holds. (start_there, spread.start_is holds))
              reached.reached reached.holds

module _ {R : Type 0} (over : NumberedPositions) (moves : SideMoves) (side : Side R) (is_side : IsSideOf over moves
    side)
  where
    -- exactly the positions at which a row may stand are reached
    pub side_is_reached : (Among : ℕ → Type 0) → AreAll over.numbering (IsReachedOn over moves) Among
        → AreReached over.numbering over.board side Among
    side_is_reached Among all = record {
      each = λ number. (
        λ among. (((all number).0 among).0, (is_side.reached number).0 ((all number).0 among).1),
        λ may. (all number).1 (may.0, (is_side.reached number).1 may.1),
      );
      rows = is_side.rows;
    }

    pub no_section : (set : ReachedBy) (most : ℕ) (fault : Unmade) → IsSpread over moves set
        → HasTooMany set most fault → HasNoSection over.numbering side most fault
    no_section set most TooLong spread many = (
      many.0,
      many.1,
      λ k d inside.
          let found = spread.sound (get_or many.0 k d) (many.2 k d inside) in
          (found.0, (is_side.reached (get_or many.0 k d)).0 found.1),
      many.3,
    )
    no_section set most Memory spread many = tt

module _ (over : NumberedPositions) (moves : SideMoves) (is : AreNumberedPositions over) (number : ℕ)
    (held : List ℕ) (number_is : number ≡ position_number over over.board.start)
    (held_is : held ≡ over.numbering.places number) where
  -- at the number of the start are its normal places
  start_held : held ≡ over.positions.normal over.board.start
  start_held = held_is ∙ ap over.numbering.places number_is
      ∙ is.numbers.places_are (over.positions.normal over.board.start) (is.positions.is over.board.start is.board.start)

  pub start_added : (before after : ReachedBy) → moves.Holds held
      → AreReachedWith before (λ other. other ≡ number) after
      → AreReachedWith before
      (λ other. moves.Holds (over.positions.normal over.board.start) × (other ≡ position_number over over.board.start))
      after
  start_added before after holds with =
      reached_one before after
      (λ other. moves.Holds (over.positions.normal over.board.start) × (other ≡ position_number over over.board.start))
      number with (subst moves.Holds start_held holds, number_is)
      (λ other starts. starts.1 ∙ sym number_is)

  pub start_not_added : (before : ReachedBy) → ¬ moves.Holds held
      → AreReachedWith before
      (λ other. moves.Holds (over.positions.normal over.board.start) × (other ≡ position_number over over.board.start))
      before
  start_not_added before not =
      reached_known before
      (λ other. moves.Holds (over.positions.normal over.board.start) × (other ≡ position_number over over.board.start))
      (λ other starts. absurd (not (subst moves.Holds (sym start_held) starts.0)))

-- the start's position has a number
pub start_is : (over : NumberedPositions) → AreNumberedPositions over
    → over.numbering.IsNumber (position_number over over.board.start)
start_is over is = is.numbers.number_is (over.positions.normal over.board.start)
    (is.positions.is over.board.start is.board.start)
