use Rattle.std.proofs.Common.{◌≡◌, [], ◌∷◌, ◌++◌, length, sym, ap, ◌∙◌, inl, rules, arith}
use Rattle.std.proofs.lemmas.Bool.{both_ways, eq-eqb}
use Rattle.board_text.proofs.PlaceLemmas.{hyphen_and_digits, number_spells}
use Rattle.board_text.proofs.line_reader.LineReader.place.Goals as goal
use Rattle.board_text.proofs.line_reader.LineReader.place.Goals.{else-labels-bound-via-then-labels-bound+else-is_some}
use Rattle.board_text.proofs.line_reader.LineReader.place.Goals.{else-labels-bound-via-else-labels-bound}

pub returns-then-not-is_empty : goal.returns-then-not-is_empty
returns-then-not-is_empty c =
    let hyphen : c.args.self.now ≡ (45 ∷ []) ++ c.take.new.self = search rules in
    let some : c.digits.result.now ≡ [] → ⊥ =
    λ none. both_ways c.is_empty.result c.if-not-is_empty.true
    (c.is_empty.ensures ∙ eq-eqb (length c.digits.result.now) 0 (ap length none)) in
    hyphen_and_digits c.args.labels c.args.bound c.args.self.now c.take.new.self c.digits.result.now c.digits.new.self
    hyphen c.digits.ensures.taken c.digits.ensures.digits some

pub returns : goal.returns
returns c =
    let same : c.else-labels-bound.self ≡ c.args.self.now = elim c.else-labels-bound.branch [
      | else-labels-bound-via-then-labels-bound+else-is_some w ↦
          (let kept : w.take.new.self ≡ c.args.self.now = search rules in w.self-is ∙ kept)
      | else-labels-bound-via-else-labels-bound w ↦ w.self-is
    ] in
    let found = c.in_ok-numeral.ensures in (
      found.0,
      inl found.1,
      sym same ∙ found.2,
      found.3,
      number_spells c.args.labels c.args.bound found.0 c.in_ok-numeral.field-0 c.below.result c.requires.0
          c.requires.1 (omega arith) found.1 found.4 c.below.ensures,
    )
