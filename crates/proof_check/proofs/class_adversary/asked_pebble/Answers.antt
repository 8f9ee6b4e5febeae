use Rattle.std.proofs.Common.{rules, ◌≡◌, ◌≢◌, ◌<◌, ◌≤◌, ◌==◌, ℕ, List, length, take, slice_index, sym, ap, ◌∙◌, arith}
use Rattle.std.proofs.Common.{eq-eqb, ne_eqb}
use Rattle.std.specs.List.{Contains, position_or_len}
use Rattle.std.proofs.lemmas.List.{length-take, get_or-take, get_or_default}
use Rattle.std.proofs.lemmas.List.Sums.{position_or_len_is}
use Rattle.proof_check.proofs.class_adversary.asked_pebble.Goals as goal

-- the first place that is asked, among those of the board's pebbles
first_asked : (places : List ℕ) (pebbles ask pebble : ℕ) → pebble < pebbles → pebbles ≤ length places
    → ((earlier : ℕ) → earlier < pebble → slice_index places earlier ≢ ask) → slice_index places pebble ≡ ask
    → pebble ≡ position_or_len (λ place. place == ask) (take pebbles places)
first_asked places pebbles ask pebble low long none here =
    sym (position_or_len_is (λ place. place == ask) (take pebbles places) pebble 0
    (omega (arith, length-take pebbles places, low, long))
    (λ k before. ap (λ n. n == ask) (get_or-take pebbles places k 0 (omega (arith, before, low)))
    ∙ ne_eqb (slice_index places k) ask (none k before))
    (λ _. ap (λ n. n == ask) (get_or-take pebbles places pebble 0 low) ∙ eq-eqb (slice_index places pebble) ask here))

-- a place that no pebble is on is not asked
not_asked : (places : List ℕ) (pebbles ask : ℕ) → Contains (take pebbles places) ask
    → ((earlier : ℕ) → earlier < pebbles → slice_index places earlier ≢ ask) → ⊥
not_asked places pebbles ask (index, inside, is) none =
    let low : index < pebbles = omega (arith, length-take pebbles places, inside) in
    none index low (sym (get_or-take pebbles places index 0 low)
    ∙ get_or_default (take pebbles places) index 0 ask inside ∙ is)

pub returns-then-row-pebble-clause-asked : goal.returns-then-row-pebble-clause-asked
returns-then-row-pebble-clause-asked c =
    let six : length c.args.row.now.at ≡ 6 = search rules in
    first_asked c.args.row.now.at c.args.board.now.pebbles c.args.row.now.ask c.loop-pebble.pebble
    (omega (arith, c.loop-pebble-test.true, c.pebbles-pebble-end.ensures.value)) (omega
    (arith, six, c.pebbles-pebble-end.ensures.is_board.pebbles.1)) c.loop-pebble.invariant
    c.if-row-pebble.true

pub returns-clause-asked : goal.returns-clause-asked
returns-clause-asked c =
    absurd (not_asked c.args.row.now.at c.args.board.now.pebbles c.args.row.now.ask c.requires
    (λ earlier low. c.loop-pebble.invariant earlier
    (omega (arith, low, c.loop-pebble-test.false, c.pebbles-pebble-end.ensures.value))))
