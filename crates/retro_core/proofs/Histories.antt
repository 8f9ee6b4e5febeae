-- Each lost claim and each closed gap of a history has a step as its cause.
use Rattle.std.proofs.Common.{◌≡◌, ◌≢◌, ◌⊎◌, ℕ, zero, suc, ◌+◌, ◌-◌, ◌<◌, ◌≤◌, ◌==◌, Bool, true, false, cond, List, []}
use Rattle.std.proofs.Common.{◌∷◌, ◌++◌, length, set, refl, sym, ap, ◌∙◌, inl, inr, subst, arith, Option, Some, None}
use Rattle.std.proofs.Common.{slice_get, get_or, slice_index, get_or-set_other}
use Rattle.std.proofs.lemmas.Option.{none-some, same_Some}
use Rattle.index_lists.specs.Lists.{times}
use Rattle.index_lists.proofs.Cited.{cond_same, cond_other, times-append, times-here, times-later}
use Rattle.solver.specs.Solving.{Solving, IsSolving}
use Rattle.retro_core.specs.Round.{PlainSeat, Round, spent_seat, seat_at, all_won, IsLawful, IsOpening, first_of}
use Rattle.retro_core.specs.Round.{seat_struck, seat_tried, first_is_open, seat_kept, seat_new, seat_joined}
use Rattle.retro_core.specs.declared.step.Step.{Step}
use Rattle.retro_core.specs.declared.step.Step.TheVariants as steps
use Rattle.retro_core.specs.declared.step.Seen.{Seen}
use Rattle.retro_core.specs.declared.step.Seen.TheVariants as seen
use Rattle.retro_core.specs.Stepping.{Does, LeadTo}
use Rattle.retro_core.specs.History.{answer_in_history, IsClosedAt}
use Rattle.graphs.proofs.Cited.{same_or_not}
use Rattle.retro_core.proofs.SeatSums.{total-set, total-cut, total-glue, times-together}
use Rattle.retro_core.proofs.RoundLaws.{seat-there}
use Rattle.retro_core.proofs.RoundSteps.{stepped, try-lawful}

-- ---- configurations that were won before

-- a seat with an entry in one of its lists is one of the list
seat-with : (list : PlainSeat → List ℕ) → list spent_seat ≡ [] → (seats : List PlainSeat) (id : ℕ)
    → 0 < length (list (get_or seats id spent_seat)) → slice_get seats id ≡ Some (get_or seats id spent_seat)
seat-with list none [] id some = absurd (let gone = ap length none in omega arith)
seat-with list none (v ∷ seats) zero some = refl
seat-with list none (v ∷ seats) (suc id) some = seat-with list none seats id some

-- the number of times that a configuration is won, before a step and after it, agrees with the step's answer
pub record IsWonBy (answer : Seen) (c before after : ℕ) : Type 0 where
  pub keeps : before ≤ after
  pub told : answer ≡ seen.Tried c true → 0 < after
  pub from : 0 < after → (0 < before) ⊎ (answer ≡ seen.Tried c true)

-- a step that isn't a won claim leaves the won lists
won-none : (answer : Seen) (c before after : ℕ) → (answer ≡ seen.Tried c true → ⊥) → after ≡ before
    → IsWonBy answer c before after
won-none answer c before after other same =
    record { keeps = omega arith; told = λ e. absurd (other e); from = λ some. inl (omega arith) }

-- a claim puts the configuration into a won list exactly if it says that it won
won-try : (config : ℕ) (won : Bool) (v : PlainSeat) (opened : Bool) (c before after : ℕ) → config ≡ first_of v.owed
    → won ≡ opened
    → after + times c v.won ≡ before + times c (seat_tried opened v).won
    → IsWonBy (seen.Tried config won) c before after
won-try config won v false c before after first open_is moved = record {
  keeps = omega arith;
  told = λ e. absurd (false_true (sym open_is ∙ tried-won _ _ _ _ e));
  from = λ some. inl (omega arith);
}
  where
    false_true : false ≡ true → ⊥
    false_true e = cc

    tried-won : (config c : ℕ) (won is_won : Bool) → seen.Tried config won ≡ seen.Tried c is_won → won ≡ is_won
    tried-won config c won is_won e = cc
won-try config won v true c before after first open_is moved =
    let grown = times-append c v.won (first_of v.owed ∷ []) in
    record {
      keeps = omega arith;
      told = λ e. (let one = times-here (first_of v.owed) c [] (sym first ∙ tried-config _ _ _ _ e) in omega arith);
      from = λ some. elim (same_or_not (first_of v.owed) c) [
        | inl e ↦ inr (λ j. seen.Tried ((first ∙ e) j) (open_is j))
        | inr ne ↦ inl (let none = times-later (first_of v.owed) c [] ne in omega arith)
      ];
    }
  where
    tried-config : (config c : ℕ) (won is_won : Bool) → seen.Tried config won ≡ seen.Tried c is_won → config ≡ c
    tried-config config c won is_won e = cc

pub won-step : (before : Round) (step : Step) (answer : Seen) (after : Round) → Does before step answer after → (c : ℕ)
    → IsWonBy answer c (times c (all_won before)) (times c (all_won after))
won-step before (steps.Strike id) (seen.Struck config closed) after does c =
    let seats : List PlainSeat = before.seats in
    let v : PlainSeat = seat_at before id in
    let w : PlainSeat = seat_struck before.solving does.gap (slice_index before.counts does.gap) v in
    let moved = total-set (λ (u : PlainSeat). times c u.won) seats id v w
    (seat-with (λ u. u.todo) refl seats id does.some_todo) in
    let is = ap (λ r. times c (all_won r)) does.after_is in
    let old = times-together c (λ u. u.won) seats in
    let new = times-together c (λ u. u.won) (set seats id w) in
    won-none (seen.Struck config closed) c (times c (all_won before)) (times c (all_won after))
    (not-struck config c closed) (omega arith)
  where
    not-struck : (config c : ℕ) (closed : Option ℕ) → seen.Struck config closed ≡ seen.Tried c true → ⊥
    not-struck config c closed e = cc
won-step before (steps.Try id) (seen.Tried config won) after does c =
    let seats : List PlainSeat = before.seats in
    let v : PlainSeat = seat_at before id in
    let w : PlainSeat = seat_tried (first_is_open before id) v in
    let moved = total-set (λ (u : PlainSeat). times c u.won) seats id v w
    (seat-with (λ u. u.owed) refl seats id does.some_owed) in
    let is = ap (λ r. times c (all_won r)) does.after_is in
    let old = times-together c (λ u. u.won) seats in
    let new = times-together c (λ u. u.won) (set seats id w) in
    won-try config won v (first_is_open before id) c (times c (all_won before))
    (times c (all_won after)) does.first does.won_is (omega arith)
won-step before (steps.Split id) (seen.Parted new_seat) after does c =
    let seats : List PlainSeat = before.seats in
    let v : PlainSeat = seat_at before id in
    let wide = does.wide in
    let cut = total-cut (λ (u : PlainSeat). times c u.won) seats id v (seat_kept v) (seat_new v)
    (seat-there seats id (omega arith)) (omega arith) in
    let is = ap (λ r. times c (all_won r)) does.after_is in
    let old = times-together c (λ u. u.won) seats in
    let new = times-together c (λ u. u.won) (set seats id (seat_kept v) ++ seat_new v ∷ []) in
    won-none (seen.Parted new_seat) c (times c (all_won before)) (times c (all_won after)) (not-parted-tried new_seat c)
    (omega arith)
  where
    not-parted-tried : (new_seat c : ℕ) → seen.Parted new_seat ≡ seen.Tried c true → ⊥
    not-parted-tried new_seat c e = cc
won-step before (steps.Join into from) seen.Joined after does c =
    let seats : List PlainSeat = before.seats in
    let v : PlainSeat = seat_at before into in
    let u : PlainSeat = seat_at before from in
    let sum = times-append c v.won u.won in
    let glue = total-glue (λ (w : PlainSeat). times c w.won) seats into from v u (seat_joined v u) spent_seat
    (seat-there seats into does.has_into) (seat-there seats from does.has_from) does.differ (omega arith) in
    let is = ap (λ r. times c (all_won r)) does.after_is in
    let old = times-together c (λ w. w.won) seats in
    let new = times-together c (λ w. w.won) (set (set seats into (seat_joined v u)) from spent_seat) in
    won-none seen.Joined c (times c (all_won before)) (times c (all_won after)) (not-joined-tried c) (omega arith)
  where
    not-joined-tried : (c : ℕ) → seen.Joined ≡ seen.Tried c true → ⊥
    not-joined-tried c e = cc
won-step before (steps.Strike seat) (seen.Tried config won) after does c = absurd does
won-step before (steps.Strike seat) (seen.Parted new_seat) after does c = absurd does
won-step before (steps.Strike seat) seen.Joined after does c = absurd does
won-step before (steps.Try seat) (seen.Struck config closed) after does c = absurd does
won-step before (steps.Try seat) (seen.Parted new_seat) after does c = absurd does
won-step before (steps.Try seat) seen.Joined after does c = absurd does
won-step before (steps.Split seat) (seen.Struck config closed) after does c = absurd does
won-step before (steps.Split seat) (seen.Tried config won) after does c = absurd does
won-step before (steps.Split seat) seen.Joined after does c = absurd does
won-step before (steps.Join into from) (seen.Struck config closed) after does c = absurd does
won-step before (steps.Join into from) (seen.Tried config won) after does c = absurd does
won-step before (steps.Join into from) (seen.Parted new_seat) after does c = absurd does

-- a claim is lost only if the configuration is in a won list
lost-now : (before : Round) (step : Step) (c : ℕ) (after : Round) → IsSolving before.solving → IsLawful before
    → Does before step (seen.Tried c false) after → 0 < times c (all_won before)
lost-now before (steps.Try id) c after sol law does =
    subst (λ x. 0 < times x (all_won before)) (sym does.first)
    ((try-lawful before sol law id does.some_owed).not_won (sym does.won_is))
lost-now before (steps.Strike id) c after sol law does = absurd does
lost-now before (steps.Split id) c after sol law does = absurd does
lost-now before (steps.Join into from) c after sol law does = absurd does

-- a claim won the configuration, at an earlier place
abbrev pub IsWonBefore : List (Step × Seen) → ℕ → ℕ → Type 0
IsWonBefore made place c = (earlier : ℕ) × (earlier < place) × (answer_in_history made earlier ≡ Some
    (seen.Tried c true))

pub lost-after : (first : Round) (made : List (Step × Seen)) (last : Round) → IsSolving first.solving → IsLawful first
    → LeadTo first made last
    → (place c : ℕ) → answer_in_history made place ≡ Some (seen.Tried c false) → (0 < times c (all_won first))
    ⊎ IsWonBefore made place c
lost-after first [] last sol law lead place c at = absurd (none-some _ at)
lost-after first (one ∷ more) last sol law lead zero c at =
    inl (lost-now first one.0 c lead.0 sol law (subst (λ a. Does first one.0 a lead.0) (same_Some _ _ at) lead.1))
lost-after first (one ∷ more) last sol law lead (suc place) c at =
    let between : Round = lead.0 in
    let done = stepped first one.0 one.1 between sol law lead.1 in
    elim (lost-after between more last (subst IsSolving (sym done.1) sol) done.0 lead.2 place c at) [
      | inl won ↦ elim ((won-step first one.0 one.1 between lead.1 c).from won) [
        | inl before ↦ inl before
        | inr e ↦ inr (0, omega arith, ap Some e)
      ]
      | inr found ↦ inr (suc found.0, (let low = found.1 in omega arith), found.2)
    ]

-- the same from an opening, when no configuration is won
pub lost-opened : (s : Solving) (width : ℕ) (first : Round) (made : List (Step × Seen)) (last : Round) → IsSolving s
    → IsOpening s width first → LeadTo first made last
    → (place c : ℕ) → answer_in_history made place ≡ Some (seen.Tried c false) → IsWonBefore made place c
lost-opened s width first made last sol opens lead place c at =
    let from : first.solving ≡ s = ap (λ r. r.solving) opens.is in
    elim (lost-after first made last (subst IsSolving (sym from) sol) opens.lawful lead place c at) [
      | inl won ↦ absurd (let none : times c (all_won first) ≡ 0 = ap (λ r. times c (all_won r)) opens.is in
          omega arith)
      | inr found ↦ found
    ]

-- a won configuration stays won
pub won-stays : (first : Round) (made : List (Step × Seen)) (last : Round) → LeadTo first made last → (c : ℕ)
    → times c (all_won first) ≤ times c (all_won last)
won-stays first [] last same c = let e = ap (λ r. times c (all_won r)) same in omega arith
won-stays first (one ∷ more) last lead c =
    let here = (won-step first one.0 one.1 lead.0 lead.1 c).keeps in
    let rest = won-stays lead.0 more last lead.2 c in
    omega arith

-- a configuration that an answer says is won is in a won list at the end
pub won-told : (first : Round) (made : List (Step × Seen)) (last : Round) → LeadTo first made last → (place c : ℕ)
    → answer_in_history made place ≡ Some (seen.Tried c true) → 0 < times c (all_won last)
won-told first [] last lead place c at = absurd (none-some _ at)
won-told first (one ∷ more) last lead zero c at =
    let here = (won-step first one.0 one.1 lead.0 lead.1 c).told (same_Some _ _ at) in
    let rest = won-stays lead.0 more last lead.2 c in
    omega arith
won-told first (one ∷ more) last lead (suc place) c at = won-told lead.0 more last lead.2 place c at

-- ---- gaps that are closed

-- the answer says that the gap was closed
abbrev pub Closes : Seen → ℕ → Type 0
Closes answer gap = (config : ℕ) × (answer ≡ seen.Struck config (Some gap))

-- the counts of a gap before a step and after it agree with the step's answer
record IsCounted (answer : Seen) (gap before after : ℕ) : Type 0 where
  down : after ≤ before
  closes : Closes answer gap → (before ≡ 1) × (after ≡ 0)
  gone : 0 < before → after ≡ 0 → Closes answer gap

less-one : (xs : List ℕ) (i : ℕ) → get_or (set xs i (get_or xs i 0 - 1)) i 0 ≡ get_or xs i 0 - 1
less-one [] i = refl
less-one (x ∷ xs) zero = refl
less-one (x ∷ xs) (suc i) = less-one xs i

same-gap : (config c : ℕ) (closed closed' : Option ℕ) → seen.Struck config closed ≡ seen.Struck c closed'
    → closed ≡ closed'
same-gap config c closed closed' e = cc

counted-strike : (config gap n : ℕ) (closed : Option ℕ) (g after : ℕ) → closed ≡ cond (n == 1) (Some gap) None
    → (before : ℕ) → (g ≡ gap → (before ≡ n) × (after ≡ n - 1)) → (g ≢ gap → after ≡ before)
    → IsCounted (seen.Struck config closed) g before after
counted-strike config gap n closed g after closed_is before here elsewhere = elim (same_or_not g gap) [
  | inl e ↦ (
      let at = here e in
      record {
        down = (let b = at.0 in let a = at.1 in omega arith);
        closes = λ told. elim (same_or_not n 1) [
          | inl one ↦ (at.0 ∙ one, at.1 ∙ ap (λ m. m - 1) one)
          | inr other ↦ absurd (none-some _
              (sym (cond_other n 1 (Some gap) None other) ∙ sym closed_is ∙ same-gap _ _ _ _ told.1))
        ];
        gone = λ some none. (
          config,
          ap (seen.Struck config)
              (closed_is ∙ cond_same n 1 (Some gap) None (let b = at.0 in let a = at.1 in omega arith)
              ∙ ap Some (sym e)),
        );
      })
  | inr ne ↦ (
      let same = elsewhere ne in
      record {
        down = omega arith;
        closes = λ told. elim (same_or_not n 1) [
          | inl one ↦
              absurd (ne (sym (same_Some _ _
              (sym (cond_same n 1 (Some gap) None one) ∙ sym closed_is ∙ same-gap _ _ _ _ told.1))))
          | inr other ↦ absurd (none-some _
              (sym (cond_other n 1 (Some gap) None other) ∙ sym closed_is ∙ same-gap _ _ _ _ told.1))
        ];
        gone = λ some none. absurd (omega arith);
      })
]

counted-else : (answer : Seen) → ((config : ℕ) (closed : Option ℕ) → answer ≡ seen.Struck config closed → ⊥)
    → (g before after : ℕ) → after ≡ before → IsCounted answer g before after
counted-else answer other g before after same = record {
  down = omega arith;
  closes = λ told. absurd (other told.0 (Some g) told.1);
  gone = λ some none. absurd (omega arith);
}

not-tried : (config : ℕ) (won : Bool) (c : ℕ) (closed : Option ℕ) → seen.Tried config won ≡ seen.Struck c closed → ⊥
not-tried config won c closed e = cc

not-parted : (new_seat c : ℕ) (closed : Option ℕ) → seen.Parted new_seat ≡ seen.Struck c closed → ⊥
not-parted new_seat c closed e = cc

not-joined : (c : ℕ) (closed : Option ℕ) → seen.Joined ≡ seen.Struck c closed → ⊥
not-joined c closed e = cc

counted : (before : Round) (step : Step) (answer : Seen) (after : Round) → Does before step answer after → (g : ℕ)
    → IsCounted answer g (slice_index before.counts g) (slice_index after.counts g)
counted before (steps.Strike id) (seen.Struck config closed) after does g =
    let gap : ℕ = does.gap in
    let n : ℕ = slice_index before.counts gap in
    let is : slice_index after.counts g ≡ slice_index (set before.counts gap (n - 1)) g =
    ap (λ r. slice_index r.counts g) does.after_is in
    counted-strike config gap n closed g (slice_index after.counts g) does.closed_is (slice_index before.counts g)
    (λ e. (
      ap (slice_index before.counts) e,
      is ∙ ap (slice_index (set before.counts gap (n - 1))) e ∙ less-one before.counts gap,
    ))
    (λ ne. is ∙ get_or-set_other before.counts gap g (n - 1) 0 ne)
counted before (steps.Try id) (seen.Tried config won) after does g =
    counted-else (seen.Tried config won) (not-tried config won) g _ _ (ap (λ r. slice_index r.counts g) does.after_is)
counted before (steps.Split id) (seen.Parted new_seat) after does g =
    counted-else (seen.Parted new_seat) (not-parted new_seat) g _ _ (ap (λ r. slice_index r.counts g) does.after_is)
counted before (steps.Join into from) seen.Joined after does g =
    counted-else seen.Joined not-joined g _ _ (ap (λ r. slice_index r.counts g) does.after_is)
counted before (steps.Strike seat) (seen.Tried config won) after does g = absurd does
counted before (steps.Strike seat) (seen.Parted new_seat) after does g = absurd does
counted before (steps.Strike seat) seen.Joined after does g = absurd does
counted before (steps.Try seat) (seen.Struck config closed) after does g = absurd does
counted before (steps.Try seat) (seen.Parted new_seat) after does g = absurd does
counted before (steps.Try seat) seen.Joined after does g = absurd does
counted before (steps.Split seat) (seen.Struck config closed) after does g = absurd does
counted before (steps.Split seat) (seen.Tried config won) after does g = absurd does
counted before (steps.Split seat) seen.Joined after does g = absurd does
counted before (steps.Join into from) (seen.Struck config closed) after does g = absurd does
counted before (steps.Join into from) (seen.Tried config won) after does g = absurd does
counted before (steps.Join into from) (seen.Parted new_seat) after does g = absurd does

counts-fall : (first : Round) (made : List (Step × Seen)) (last : Round) → LeadTo first made last → (g : ℕ)
    → slice_index last.counts g ≤ slice_index first.counts g
counts-fall first [] last same g = let e = ap (λ r. slice_index r.counts g) same in omega arith
counts-fall first (one ∷ more) last lead g =
    let here = (counted first one.0 one.1 lead.0 lead.1 g).down in
    let rest = counts-fall lead.0 more last lead.2 g in
    omega arith

closes-first : (one : Step × Seen) (g c : ℕ) → Some one.1 ≡ Some (seen.Struck c (Some g)) → Closes one.1 g
closes-first one g c at = (c, same_Some _ _ at)

-- a gap that an answer says is closed had a count, and has none at the end
pub closed-gone : (first : Round) (made : List (Step × Seen)) (last : Round) → LeadTo first made last → (g place : ℕ)
    → IsClosedAt made g place
    → (0 < slice_index first.counts g) × (slice_index last.counts g ≡ 0)
closed-gone first [] last lead g place at = absurd (none-some _ at.1)
closed-gone first (one ∷ more) last lead g zero at =
    let done = (counted first one.0 one.1 lead.0 lead.1 g).closes (closes-first one g at.0 at.1) in
    let b = done.0 in
    let a = done.1 in
    let rest = counts-fall lead.0 more last lead.2 g in
    (omega arith, omega arith)
closed-gone first (one ∷ more) last lead g (suc place) at =
    let down = (counted first one.0 one.1 lead.0 lead.1 g).down in
    let rest = closed-gone lead.0 more last lead.2 g place at in
    let some = rest.0 in
    (omega arith, rest.1)

-- at most one answer says that a gap is closed
pub closed-once : (first : Round) (made : List (Step × Seen)) (last : Round) → LeadTo first made last
    → (g one_place other_place : ℕ) → IsClosedAt made g one_place → IsClosedAt made g other_place
    → one_place ≡ other_place
closed-once first [] last lead g p q at there = absurd (none-some _ at.1)
closed-once first (one ∷ more) last lead g zero zero at there = refl
closed-once first (one ∷ more) last lead g zero (suc q) at there = absurd (
    let a = ((counted first one.0 one.1 lead.0 lead.1 g).closes (closes-first one g at.0 at.1)).1 in
    let b = (closed-gone lead.0 more last lead.2 g q there).0 in
    omega arith)
closed-once first (one ∷ more) last lead g (suc p) zero at there = absurd (
    let a = ((counted first one.0 one.1 lead.0 lead.1 g).closes (closes-first one g there.0 there.1)).1 in
    let b = (closed-gone lead.0 more last lead.2 g p at).0 in
    omega arith)
closed-once first (one ∷ more) last lead g (suc p) (suc q) at there =
    ap suc (closed-once lead.0 more last lead.2 g p q at there)

-- if a gap had a count and has none at the end, some answer says that it is closed
pub closed-always : (first : Round) (made : List (Step × Seen)) (last : Round) → LeadTo first made last → (g : ℕ)
    → 0 < slice_index first.counts g → slice_index last.counts g ≡ 0
    → (place : ℕ) × IsClosedAt made g place
closed-always first [] last same g some none = absurd (let e = ap (λ r. slice_index r.counts g) same in omega arith)
closed-always first (one ∷ more) last lead g some none = elim (same_or_not (slice_index lead.0.counts g) 0) [
  | inl gone ↦ (let told = (counted first one.0 one.1 lead.0 lead.1 g).gone some gone in (0, (told.0, ap Some told.1)))
  | inr left ↦ (let rest = closed-always lead.0 more last lead.2 g (omega arith) none in (suc rest.0, rest.1))
]

-- ---- one step more

-- steps that lead to a round, and one step from that round
pub lead-more : (first : Round) (made : List (Step × Seen)) (last : Round) (step : Step) (answer : Seen) (after : Round)
    → LeadTo first made last → Does last step answer after
    → LeadTo first (made ++ (step, answer) ∷ []) after
lead-more first [] last step answer after same does =
    (after, subst (λ r. Does r step answer after) (sym same) does, refl)
lead-more first (one ∷ more) last step answer after lead does =
    (lead.0, lead.1, lead-more lead.0 more last step answer after lead.2 does)

-- the answers before the last step stay
pub answer-before : (made : List (Step × Seen)) (one : Step × Seen) (place : ℕ) (answer : Seen)
    → answer_in_history made place ≡ Some answer → answer_in_history (made ++ one ∷ []) place ≡ Some answer
answer-before [] one place answer at = absurd (none-some _ at)
answer-before (first ∷ made) one zero answer at = at
answer-before (first ∷ made) one (suc place) answer at = answer-before made one place answer at

-- the answer of the last step is the last
pub answer-last : (made : List (Step × Seen)) (one : Step × Seen)
    → answer_in_history (made ++ one ∷ []) (length made) ≡ Some one.1
answer-last [] one = refl
answer-last (first ∷ made) one = answer-last made one
