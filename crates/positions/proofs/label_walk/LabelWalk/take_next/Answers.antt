use Rattle.std.proofs.Common.{◌≡◌, ℕ, ◌+◌, ◌-◌, ◌*◌, inl, inr, true, List, bit_and, set, sym, ap, subst, ◌∙◌, arith}
use Rattle.std.proofs.Common.{rules}
use Rattle.std.specs.Int.{w64, trailing_zeros}
use Rattle.std.proofs.lemmas.List.{set-get_or}
use Rattle.board_text.specs.Domination.{has_bit}
use Rattle.positions.specs.LabelWalk.{Walk, TakesSmallest}
use Rattle.positions.specs.Inside.LabelWalk.{IsAtWord}
use Rattle.positions.proofs.LabelWalks.{moves_on, none_behind, takes_lowest, still_come}
use Rattle.positions.proofs.label_walk.LabelWalk.take_next.Goals as goal
use Rattle.positions.proofs.label_walk.LabelWalk.take_next.Goals.{then-self-eq0-via-then-self-eq0}
use Rattle.positions.proofs.label_walk.LabelWalk.take_next.Goals.{then-self-eq0-via-else-self-eq0+then-self-eq-ROW_WORDS}

pub loop-self-init : goal.loop-self-init
loop-self-init c = record { same = c.self.view_is; come = c.self.invariant; fits = search rules }

pub returns-then-self-eq0 : goal.returns-then-self-eq0
returns-then-self-eq0 c label small bit =
    let s = c.loop-self.self-inside in
    let empty = c.loop-self-test.true in
    let come : IsAtWord s.words s.number 0 s.later =
    subst (λ (w : ℕ). IsAtWord s.words s.number w s.later) empty c.loop-self.invariant.come in
    let left : set s.words s.number 0 ≡ c.args.self.now.left =
    ap (λ (w : ℕ). set s.words s.number w) (sym empty) ∙ ap (λ (w : Walk). w.left) c.loop-self.invariant.same in
    none_behind s.words s.number s.later come
    (elim c.then-self-eq0.branch [
      | then-self-eq0-via-then-self-eq0 w ↦ inl w.if-self-eq0.true
      | then-self-eq0-via-else-self-eq0+then-self-eq-ROW_WORDS w ↦ inr w.if-self-eq-ROW_WORDS.true
    ]) label small (subst (λ (ws : List ℕ). has_bit ws label ≡ true) (sym left) bit)

pub loop-self-smaller : goal.loop-self-smaller
loop-self-smaller c =
    let inside = c.loop-self.invariant.come.inside in omega (arith, inside, c.if-self-eq-ROW_WORDS.false)

pub loop-self-preserved : goal.loop-self-preserved
loop-self-preserved c =
    let s = c.loop-self.self-inside in
    let empty = c.loop-self-test.true in
    let come : IsAtWord s.words s.number 0 s.later =
    subst (λ (w : ℕ). IsAtWord s.words s.number w s.later) empty c.loop-self.invariant.come in
    let inside = come.inside in
    record {
      same =
          ap (λ (ws : List ℕ). record { left = ws; from = s.from })
          (set-get_or (set s.words s.number 0) (s.number + 1) 0
          ∙ ap (λ (w : ℕ). set s.words s.number w) (sym empty)) ∙ c.loop-self.invariant.same;
      come = moves_on s.words s.number s.later (omega (arith, inside, c.if-self-eq-ROW_WORDS.false)) come;
      fits = search rules;
    }

pub invariant_of-self-2 : goal.invariant_of-self-2
invariant_of-self-2 c =
    let s = c.loop-self.self-inside in
    still_come s.words s.number s.word s.later s.from
    (omega (arith, c.loop-self-test.false)) c.loop-self.invariant.fits c.loop-self.invariant.come

pub returns : goal.returns
returns c =
    let s = c.loop-self.self-inside in
    subst (λ (w : Walk). TakesSmallest w
    (record {
      left = set s.words s.number (bit_and s.word (s.word - 1));
      from = 64 * s.number + trailing_zeros w64 s.word + 1;
    })
    (64 * s.number + trailing_zeros w64 s.word)) c.loop-self.invariant.same
    (takes_lowest s.words s.number s.word s.later s.from
    (omega (arith, c.loop-self-test.false)) c.loop-self.invariant.fits c.loop-self.invariant.come)
