-- The moves from a configuration by the places of its pebbles.
use Rattle.std.proofs.Common.{◌≡◌, ◌≢◌, ℕ, ◌+◌, ◌-◌, ◌*◌, ◌<◌, ◌≤◌, ◌↔◌, true, List, get_or, sym, ap, ◌∙◌, subst}
use Rattle.std.proofs.Common.{below_more, arith}
use Rattle.board_text.specs.PlainBoard.{PlainBoard, Dominates, DominatesPlace, places}
use Rattle.board_text.specs.Domination.{has_bit}
use Rattle.board_text.specs.declared.board.TheConstants.{MAX_LABELS, MAX_PEBBLES}
use Rattle.positions.specs.Game.{Legal, moved}
use Rattle.positions.specs.Gaps.{IsDominator}
use Rattle.positions.specs.Position.{Position, position_at}
use Rattle.positions.specs.Inside.Position.{HasPlaces}
use Rattle.positions.specs.Ranks.{configurations, rank_of, configuration_at}
use Rattle.positions.specs.Inside.Weights.{weight_of}
use Rattle.positions.proofs.Configurations.{moved_is_configuration}
use Rattle.positions.proofs.NumberParts.{Parts, parts_at}
use Rattle.positions.proofs.Ranks.{rank_below, rank_of-configuration_at, configuration_at_is}

-- the label beats the labels of all pebbles below a bound, but for one of them
abbrev pub DominatesOthersBelow : PlainBoard → List ℕ → ℕ → ℕ → ℕ → Type 0
DominatesOthersBelow board held pebble bound label =
    (other : ℕ) → other < bound → other ≢ pebble → DominatesPlace board label (get_or held other 0)

-- the bits are those of such labels
abbrev pub AreDominating : PlainBoard → List ℕ → ℕ → ℕ → List ℕ → Type 0
AreDominating board held pebble bound words =
    (label : ℕ) → label < MAX_LABELS → (has_bit words label ≡ true)
    ↔ ((label < board.labels) × DominatesOthersBelow board held pebble bound label)

-- a further pebble holds a label
pub beating_more : (board : PlainBoard) (held words row new : List ℕ) (pebble bound : ℕ) → bound ≢ pebble
    → get_or held bound 0 < board.labels
    → ((x : ℕ) → x < MAX_LABELS → (has_bit row x ≡ true) ↔ Dominates board x (get_or held bound 0))
    → ((x : ℕ) → x < MAX_LABELS → (has_bit new x ≡ true) ↔ ((has_bit words x ≡ true) × (has_bit row x ≡ true)))
    → AreDominating board held pebble bound words → AreDominating board held pebble (bound + 1) new
beating_more board held words row new pebble bound differs is_label beaten both are label small = (
  λ set.
      let each = (both label small).0 set in
      let before = (are label small).0 each.0 in (
        before.0,
        below_more (λ k. k ≢ pebble → DominatesPlace board label (get_or held k 0)) bound before.1
            (λ _ _. (beaten label small).0 each.1),
      ),
  λ is. (both label small).1 (
    (are label small).1 (is.0, λ other low. is.1 other (omega arith)),
    (beaten label small).1 (is.1 bound (omega arith) differs is_label),
  ),
)

-- a further pebble is the one that moves, or holds no label
pub beating_same : (board : PlainBoard) (held words : List ℕ) (pebble bound : ℕ)
    → (bound ≢ pebble → board.labels ≤ get_or held bound 0)
    → AreDominating board held pebble bound words → AreDominating board held pebble (bound + 1) words
beating_same board held words pebble bound blank are label small = (
  λ set.
      let before = (are label small).0 set in (
        before.0,
        below_more (λ k. k ≢ pebble → DominatesPlace board label (get_or held k 0)) bound before.1
            (λ differs low. let high = blank differs in absurd (omega arith)),
      ),
  λ is. (are label small).1 (is.0, λ other low. is.1 other (omega arith)),
)

-- once all pebbles were seen, the bits are those of the legal labels
pub legal_by_places : (board : PlainBoard) (held words : List ℕ) (pebble bound : ℕ) → bound ≡ board.pebbles
    → AreDominating board held pebble bound words → (label : ℕ) → label < MAX_LABELS
    → (has_bit words label ≡ true) ↔ Legal board held pebble label
legal_by_places board held words pebble bound end are label small = (
  λ set.
      let is = (are label small).0 set in
      record { is_label = is.0; dominates = λ other inside differs. is.1 other (omega (arith, inside, end)) differs },
  λ legal. (are label small).1
      (legal.is_label, λ other low differs. legal.dominates other (omega (arith, low, end)) differs),
)

module _ (position : Position) (board space : PlainBoard) (rank : ℕ) (held : List ℕ)
    {words : List ℕ} (is : position_at board rank ≡ position) (has : HasPlaces board space rank held words) where
  -- a label is legal exactly if it beats the labels of all other pebbles
  pub legal_is : (pebble label : ℕ)
      → ((label < board.labels) × DominatesOthersBelow board held pebble board.pebbles label)
      ↔ Legal position.board position.configuration pebble label
  legal_is pebble label = subst (λ p. ((label < board.labels)
      × DominatesOthersBelow board held pebble board.pebbles label)
      ↔ Legal p.board p.configuration pebble label) is (
        λ beats. record {
          is_label = beats.0;
          dominates = λ other inside differs. subst (DominatesPlace board label) (has.each other inside)
              (beats.1 other inside differs);
        },
        λ legal. (
          legal.is_label,
          λ other inside differs. subst (DominatesPlace board label) (sym (has.each other inside))
              (legal.dominates other inside differs),
        ),
      )

  -- a pebble dominates exactly if its own label is legal for it
  pub dominator_is : (pebble : ℕ) → pebble < position.board.pebbles
      → Legal position.board position.configuration pebble (get_or held pebble 0)
      ↔ IsDominator position.board position.configuration pebble
  dominator_is pebble inside =
      let there : pebble < board.pebbles = subst (λ p. pebble < p.board.pebbles) (sym is) inside in
      let same : get_or held pebble 0 ≡ get_or position.configuration pebble 0 =
      subst (λ p. get_or held pebble 0 ≡ get_or p.configuration pebble 0) is (has.each pebble there) in (
        λ legal. let moved_to = subst (Legal position.board position.configuration pebble) same legal in
            record { is_pebble = inside; has_label = moved_to.is_label; dominates = moved_to.dominates },
        λ dominator. subst (Legal position.board position.configuration pebble) (sym same)
            (record { is_label = dominator.has_label; dominates = dominator.dominates }),
      )

  pub few_pebbles : (pebble : ℕ) → pebble < position.board.pebbles → pebble < 6
  few_pebbles pebble inside =
      let there : pebble < board.pebbles = subst (λ p. pebble < p.board.pebbles) (sym is) inside in
      let most : board.pebbles ≤ MAX_PEBBLES = has.is_board.pebbles.1 in
      omega arith

  -- the rank of a move to a label: the rank without the pebble's place, and the label times the weight
  pub record IsLine (pebble weight : ℕ) : Type 0 where
    pub held_below : get_or held pebble 0 * weight ≤ rank
    pub ranks : (label : ℕ) → label < position.board.labels
        → rank - get_or held pebble 0 * weight + label * weight
        ≡ rank_of position.board (moved position.configuration pebble label)
    pub below : (label : ℕ) → label < position.board.labels
        → rank - get_or held pebble 0 * weight + label * weight < configurations position.board

  pub line : (pebble weight : ℕ) → pebble < position.board.pebbles → weight ≡ weight_of space pebble
      → IsLine pebble weight
  line pebble weight inside weighs =
      let there : pebble < board.pebbles = subst (λ p. pebble < p.board.pebbles) (sym is) inside in
      let configuration : List ℕ = configuration_at board rank in
      let is_one = configuration_at_is board rank has.is_rank in
      let same_weight : weight_of board pebble ≡ weight = sym (weighs ∙ ap (λ b. weight_of b pebble) has.same_board) in
      let parts = subst (λ w. Parts (places board) configuration pebble w) same_weight
      (parts_at (places board) configuration pebble board.pebbles is_one.each_place is_one.each_pebble there) in
      let whole : rank ≡ (parts.before * places board + get_or configuration pebble 0) * weight + parts.behind =
      sym (rank_of-configuration_at board rank has.is_rank) ∙ parts.whole in
      let product : get_or held pebble 0 * weight ≡ get_or configuration pebble 0 * weight =
      ap (λ n. n * weight) (has.each pebble there) in
      let ranks : (label : ℕ) → rank - get_or held pebble 0 * weight + label * weight
      ≡ rank_of board (moved configuration pebble label) =
      λ label. (let changed : rank_of board (moved configuration pebble label)
      ≡ (parts.before * places board + label) * weight + parts.behind = parts.changed label in omega arith) in
      record {
        held_below = omega arith;
        ranks = λ label low. subst (λ p. rank - get_or held pebble 0 * weight + label * weight
            ≡ rank_of p.board (moved p.configuration pebble label)) is (ranks label);
        below = λ label low.
            subst (λ p. rank - get_or held pebble 0 * weight + label * weight < configurations p.board) is
            (subst (λ n. n < configurations board) (sym (ranks label))
            (rank_below board (moved configuration pebble label)
            (moved_is_configuration board configuration pebble label
            (subst (λ p. label < p.board.labels) (sym is) low) is_one)));
      }
