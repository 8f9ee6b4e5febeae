use Rattle.std.proofs.Common.{◌≡◌, ◌≢◌, ◌∙◌, ◌+◌, ◌-◌, ◌*◌, ◌/◌, ◌≤◌, ◌++◌, ℕ, List, length, get_or, sym, ap, subst}
use Rattle.std.proofs.Common.{arith, rules, ◌↔◌, ◌⊎◌, Bool, IsTrue, inl, inr}
use Rattle.std.proofs.lemmas.List.{length-append, get_or_append_left, get_or-append-add}
use Rattle.board_text.specs.PlainBoard.{places}
use Rattle.classes.specs.Numbers.{ways}
use Rattle.classes.proofs.Cited.{ways-fit}
use Rattle.gap_values.specs.Inside.Closing.{IsPartClosed}
use Rattle.gap_values.specs.Inside.Sets.{AreFresh, IsOfRound}
use Rattle.gap_values.proofs.ClosingSteps.{passed-append}
use Rattle.gap_values.proofs.TableSteps.{round-append, some-append, tables-both}
use Rattle.gap_values.proofs.closing.+parts.Given.{Over}
use Rattle.gap_values.proofs.closing.+parts.Goals as goal
use Rattle.gap_values.proofs.closing.+parts.Goals.{Closing::close_in_parts-After-close_both-some_front}

-- none of the round is in a part of words in which there is none
fresh-left : (round : ℕ) (words front back : List ℕ) → words ≡ front ++ back → AreFresh round words
    → AreFresh round front
fresh-left round words front back whole fresh index inside is =
    fresh index (omega (arith, inside, ap length whole, length-append front back))
    (ap (λ (l : List ℕ). get_or l index 0) whole ∙ get_or_append_left front back 0 index inside ∙ is)

fresh-right : (round : ℕ) (words front back : List ℕ) → words ≡ front ++ back → AreFresh round words
    → AreFresh round back
fresh-right round words front back whole fresh index inside is =
    fresh (length front + index) (omega (arith, inside, ap length whole, length-append front back))
    (ap (λ (l : List ℕ). get_or l (length front + index) 0) whole ∙ get_or-append-add front back index 0 ∙ is)

pub Closing::close_in_parts-overflow_add-first : goal.Closing::close_in_parts-overflow_add-first
Closing::close_in_parts-overflow_add-first g t c =
    let b = c.args.self.now.board.now in
    let cut = c.split_at_mut-front in
    let most = ways-fit b (b.pebbles - 1) (places b) c.requires.closing.is_board (omega arith) (omega arith) in
    let whole : length c.args.part.now ≡ length cut.result.0.now + length cut.result.1.now =
    ap length cut.ensures.value ∙ length-append cut.result.0.now cut.result.1.now in
    let few : c.args.first + c.middle_of-middle.result ≤ 288136807515649 =
    omega (arith, most, whole, cut.ensures.front_len, c.requires.part.gaps) in
    search (rules, few)

pub Closing::close_in_parts-close_both-some_front-requires-after_bounds :
    goal.Closing::close_in_parts-close_both-some_front-requires-after_bounds
Closing::close_in_parts-close_both-some_front-requires-after_bounds g t c κs within =
    let round : ℕ = c.args.self.now.round in
    let cut = c.split_at_mut-front in
    let tables = c.split_at_mut-low in
    let whole : length c.args.part.now ≡ length cut.result.0.now + length cut.result.1.now =
    ap length cut.ensures.value ∙ length-append cut.result.0.now cut.result.1.now in
    let more : length c.args.told.now ≡ length tables.result.0.now + length tables.result.1.now =
    ap length tables.ensures.value ∙ length-append tables.result.0.now tables.result.1.now in
    let some : c.args.tables ≢ 1 = c.if-tables-eq1.false in
    let lists : ℕ = ways (c.args.self.now.board.now.pebbles - 2) (places c.args.self.now.board.now) in
    let fewer : ℕ = c.args.tables / 2 in
    let both : c.args.tables ≡ fewer + (c.args.tables - fewer) = omega arith in
    let low : length tables.result.0.now ≡ fewer * lists =
    tables.ensures.front_len ∙ ap (λ n. fewer * n) c.requires.closing.can.each_list in
    let high : length tables.result.1.now ≡ (c.args.tables - fewer) * lists =
    omega (arith, more, low, c.requires.part.many, ap (λ n. n * lists) both) in (
      search rules,
      (
        search rules,
        (
          c.requires.closing,
          (
            omega (arith, c.requires.tables, some),
            (
              omega (arith, c.requires.tables, some),
              (
                record {
                  gaps = omega (arith, whole, c.requires.part.gaps);
                  fresh = fresh-left round c.args.part.now cut.result.0.now cut.result.1.now cut.ensures.value
                      c.requires.part.fresh;
                  many = low;
                },
                record {
                  gaps = omega (arith, whole, c.requires.part.gaps, cut.ensures.front_len);
                  fresh = fresh-right round c.args.part.now cut.result.0.now cut.result.1.now cut.ensures.value
                      c.requires.part.fresh;
                  many = high;
                },
              ),
            ),
          ),
        ),
      ),
    )

-- both parts are the whole one
module _ (g : Over) (t : ℕ) (c : Closing::close_in_parts-After-close_both-some_front g t) where
  whole-closed : (some : Bool)
      → IsTrue some ↔ (IsTrue c.close_both-some_front.result.0 ⊎ IsTrue c.close_both-some_front.result.1)
      → IsPartClosed c.args.self.now.board.now c.args.self.now.sets.now c.args.self.now.round c.args.first
      c.args.tables c.args.part.now (c.close_both-some_front.new.front ++ c.close_both-some_front.new.back)
      (c.close_both-some_front.new.low ++ c.close_both-some_front.new.high) some
  whole-closed some says =
      let b = c.args.self.now.board.now in
      let sets = c.args.self.now.sets.now in
      let round : ℕ = c.args.self.now.round in
      let first : ℕ = c.args.first in
      let middle : ℕ = first + c.middle_of-middle.result in
      let cut = c.split_at_mut-front in
      let both = c.close_both-some_front in
      let front : List ℕ = both.new.front in
      let back : List ℕ = both.new.back in
      let early = both.ensures.front in
      let late = both.ensures.back in
      let next : middle ≡ first + length cut.result.0.now = ap (λ n. first + n) (sym cut.ensures.front_len) in
      let any = some-append round front back in
      subst (λ (l : List ℕ). IsPartClosed b sets round first c.args.tables l (front ++ back)
      (both.new.low ++ both.new.high) some) (sym cut.ensures.value) (record {
        passed = passed-append b sets round c.requires.closing.can.is_round first middle cut.result.0.now front
            cut.result.1.now back next early.passed late.passed;
        tell = tables-both b c.args.tables (c.args.tables / 2) (c.args.tables - c.args.tables / 2)
            (IsOfRound round first front) (IsOfRound round middle back) (IsOfRound round first (front ++ back))
            both.new.low both.new.high (omega arith) (round-append round first middle front back
            (next ∙ ap (λ n. first + n) (sym early.passed.same_length))) early.tell late.tell;
        some = (
          λ yes. any.0 (elim (says.0 yes) [
            | inl here ↦ inl (early.some.0 here)
            | inr there ↦ inr (late.some.0 there)
          ]),
          λ is. says.1 (elim (any.1 is) [
            | inl here ↦ inl (early.some.1 here)
            | inr there ↦ inr (late.some.1 there)
          ]),
        );
      })

pub Closing::close_in_parts-returns-then-some_front : goal.Closing::close_in_parts-returns-then-some_front
Closing::close_in_parts-returns-then-some_front g t c =
    whole-closed g t (goal.at.Closing::close_in_parts-returns-then-some_front g t c).After-close_both-some_front _
    (search rules)

pub Closing::close_in_parts-returns-else-some_front : goal.Closing::close_in_parts-returns-else-some_front
Closing::close_in_parts-returns-else-some_front g t c =
    whole-closed g t (goal.at.Closing::close_in_parts-returns-else-some_front g t c).After-close_both-some_front _
    (search rules)
