use Rattle.std.proofs.Common.{drop, ◌≡◌, ℕ, suc, ◌<◌, ◌+◌, List, [], ◌∷◌, ◌++◌, length, refl, sym, ap, ◌∙◌, subst}
use Rattle.std.proofs.Common.{arith}
use Rattle.index_lists.proofs.Cited.{cond_same, cond_other}
use Rattle.retro_core.specs.Round.{first_of}
use Rattle.claim_round.specs.Shared.{Key}
use Rattle.claim_round.proofs.FirstEntries.{claims_next}
use Rattle.claim_round.proofs.TableSteps.{claim_allowed}
use Rattle.claim_round.proofs.Seats.{claimed_seat}
use Rattle.claim_round.proofs.round.SharedRound.claim.Goals as goal

pub compare_exchange-found-requires : goal.compare_exchange-found-requires
compare_exchange-found-requires g c =
    let k : Key = c.self.inside.table.shared.key in
    let r = c.self.invariant in
    let next = claims_next _ k _ _ _ c.seat.inside _ _ c.gaps.result c.in-Some.config _ c.self.view_is c.seat.view_is r
    c.seat.invariant c.requires.mine c.requires.owed
    c.in-Some.ensures.items c.graph.ensures c.gaps.ensures in
    let n = c.from-next.ensures in
    let number = c.round_number.ensures.value in
    let round = ap (λ (q : Key). q.solving.rounds) r.key_is in
    let suc_is : c.from-next.result + 1 ≡ suc k.solving.rounds = omega arith in
    (next.of.0, next.inside, claim_allowed k _ _ _ _ _ r.sound.below next.of.2 next.some_owed next.here suc_is)

pub invariant_of-seat : goal.invariant_of-seat
invariant_of-seat g c =
    let e = c.compare_exchange-found.ensures.2 in
    let items = c.in-Some.ensures.items in
    claimed_seat c.seat.inside _ c.compare_exchange-found.result e.0 c.seat.invariant
    (subst (λ p. 0 < length p.view.has.owed) (sym c.seat.view_is) c.requires.owed)
    e.2 e.3 refl (ap (drop 1) (sym items)) c.in-Some.ensures.capacity
    (c.push_reserved.ensures.items ∙ ap (λ (xs : List ℕ). c.seat.inside.won.items ++ first_of xs ∷ []) (sym items)
    ∙ sym (cond_same _ _ _ _ c.if-found-eq-OPEN.true)) c.push_reserved.ensures.capacity refl

pub invariant_of-seat-else-found-eq-OPEN : goal.invariant_of-seat-else-found-eq-OPEN
invariant_of-seat-else-found-eq-OPEN g c =
    let e = c.compare_exchange-found.ensures.2 in
    let items = c.in-Some.ensures.items in
    claimed_seat c.seat.inside _ c.compare_exchange-found.result e.0 c.seat.invariant
    (subst (λ p. 0 < length p.view.has.owed) (sym c.seat.view_is) c.requires.owed)
    e.2 e.3 refl (ap (drop 1) (sym items)) c.in-Some.ensures.capacity
    (sym (cond_other _ _ _ _ c.if-found-eq-OPEN.false)) refl refl
