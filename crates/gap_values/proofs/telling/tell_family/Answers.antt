use Rattle.std.proofs.Common.{◌≡◌, ◌+◌, ◌-◌, ◌<◌, ◌≤◌, ◌⊎◌, ◌↔◌, ℕ, List, length, suc, sym, ap, subst, arith, rules}
use Rattle.board_text.specs.PlainBoard.{places}
use Rattle.classes.specs.Classes.{put, IsClass}
use Rattle.classes.specs.Numbers.{ways, number_by_greatest}
use Rattle.gap_values.specs.Inside.Sets.{AreSetsOf}
use Rattle.gap_values.specs.Inside.Words.{IsClosedUpTo}
use Rattle.classes.proofs.Cited.{member-below, member-class, member-few, member-number}
use Rattle.gap_values.proofs.TellingSteps.{closed-more, closed-no_more, sets-gap, sets-same}
use Rattle.gap_values.proofs.telling.tell_family.Given.{Over}
use Rattle.gap_values.proofs.telling.tell_family.Goals as goal
use Rattle.gap_values.proofs.telling.tell_family.Goals.{In-loop-least, then-words-family, else-words-family}

one : (g : Over) (c : In-loop-least g) → suc (c.args.board.now.pebbles - 2) ≡ c.args.board.now.pebbles - 1
one g c = let some = c.requires.some in omega arith

few : (g : Over) (c : In-loop-least g) → c.args.family.now.start + c.loop-least.least ≤ 288136807515649
few g c =
    member-few c.args.board.now (c.args.board.now.pebbles - 2) c.args.family.now
    c.requires.family c.loop-least.least c.loop-least-test.true (omega (arith, one g c))

low : (g : Over) (c : In-loop-least g) → c.args.family.now.start + c.loop-least.least < length c.args.words.now
low g c =
    let below = member-below c.args.board.now (c.args.board.now.pebbles - 2)
    c.args.family.now c.requires.family c.loop-least.least c.loop-least-test.true in
    let same = ap (λ n. ways n (places c.args.board.now)) (one g c) in
    omega (arith, below, same, c.requires.words)

pub overflow_add-family : goal.overflow_add-family
overflow_add-family g c = let most = few g (goal.at.overflow_add-family g c).In-loop-least in search (rules, most)

pub offset_bounds-words-family : goal.offset_bounds-words-family
offset_bounds-words-family g c =
    let most = few g (goal.at.offset_bounds-words-family g c).In-loop-least in search (rules, most)

pub bounds-words-family : goal.bounds-words-family
bounds-words-family g c = low g (goal.at.bounds-words-family g c).In-loop-least

pub loop-least-init : goal.loop-least-init
loop-least-init g c =
    let none : c.args.family.now.start ≡ c.args.family.now.start + 0 = omega arith in
    subst (λ n. AreSetsOf c.args.board.now (IsClosedUpTo c.args.words.now c.args.bound n) c.args.sets.now) none
    c.requires.sets

pub tell_gap-requires : goal.tell_gap-requires
tell_gap-requires g c = (
  omega arith,
  (
    c.requires.fits,
    (
      c.requires.some,
      (
        c.requires.family,
        (
          c.loop-least-test.true,
          c.loop-least.invariant.many,
        ),
      ),
    ),
  ),
)

pub loop-least-preserved : goal.loop-least-preserved
loop-least-preserved g c =
    let at = (goal.at.loop-least-preserved g c).In-loop-least in
    let b = c.args.board.now in
    let f = c.args.family.now in
    let words : List ℕ = c.args.words.now in
    let bound : ℕ = c.args.bound in
    let end : ℕ = f.start + c.loop-least.least in
    let next : end + 1 ≡ f.start + (c.loop-least.least + 1) = omega arith in
    elim c.if-words-family.branch [
      | then-words-family w ↦ rw w.sets-is (
          let gap = put c.loop-least.least f.held in
          let gap_is : IsClass (places b) (b.pebbles - 1) gap =
          subst (λ n. IsClass (places b) n gap) (one g at)
          (member-class b (b.pebbles - 2) f c.requires.family c.loop-least.least c.loop-least-test.true) in
          let number : number_by_greatest gap ≡ end =
          member-number b (b.pebbles - 2) f c.requires.family c.loop-least.least c.loop-least-test.true in
          subst (λ n. AreSetsOf b (IsClosedUpTo words bound n) w.tell_gap.new.sets) next
          (sets-same b c.requires.family.is_board c.requires.some
          (λ n. IsClosedUpTo words bound end n ⊎ (n ≡ number_by_greatest gap))
          (IsClosedUpTo words bound (end + 1)) w.tell_gap.new.sets
          (λ n n_low. subst (λ k. (IsClosedUpTo words bound end n ⊎ (n ≡ k)) ↔ IsClosedUpTo words bound (end + 1) n)
          (sym number) (closed-more words bound end n c.requires.bound w.if-words-family.true))
          (sets-gap b c.requires.family.is_board c.requires.some (IsClosedUpTo words bound end) (b.pebbles - 1) gap
          c.loop-least.sets w.tell_gap.new.sets gap_is (sym gap_is.size) c.loop-least.invariant w.tell_gap.ensures)))
      | else-words-family w ↦ rw w.sets-is (
          subst (λ n. AreSetsOf b (IsClosedUpTo words bound n) c.loop-least.sets) next
          (sets-same b c.requires.family.is_board c.requires.some (IsClosedUpTo words bound end)
          (IsClosedUpTo words bound (end + 1)) c.loop-least.sets
          (λ n n_low. closed-no_more words bound end n w.if-words-family.false) c.loop-least.invariant))
    ]

pub returns : goal.returns
returns g c =
    let all : c.loop-least.least ≡ c.args.family.now.size =
    omega (arith, c.loop-least.auto.least-end, c.loop-least-test.false) in
    subst (λ n. AreSetsOf c.args.board.now (IsClosedUpTo c.args.words.now c.args.bound (c.args.family.now.start + n))
    c.loop-least.sets) all c.loop-least.invariant
