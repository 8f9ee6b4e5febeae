use Rattle.std.proofs.Common.{◌≡◌, ◌∷◌, inl, rules, refl, arith}
use Rattle.std.specs.Fmt.{decimal}
use Rattle.std.proofs.lemmas.Fmt.{decimal_is_IsNumeral}
use Rattle.board_text.proofs.PlaceLemmas.{number_spells}
use Rattle.board_text.proofs.line_reader.spaced_place.Goals as goal

pub returns-in-Some : goal.returns-in-Some
returns-in-Some c =
    let found = c.in-Some.ensures in
    let text = decimal c.in-Some.n in
    let is = (decimal_is_IsNumeral c.in-Some.n (omega (arith, found.0))).0 in
    let space : c.args.bytes.now ≡ 32 ∷ c.in_ok-first.rest.now = search rules in (
      c.in_ok-first.rest.now,
      space,
      (
        text,
        inl is,
        found.1,
        found.2,
        number_spells c.args.labels c.args.bound text _ c.below.result c.requires.0 c.requires.1 (omega arith) is
            (omega (arith, found.0), refl) c.below.ensures,
      ),
    )
