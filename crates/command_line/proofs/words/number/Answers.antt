use Rattle.std.proofs.Common.{◌∙◌, inl, inr, arith}
use Rattle.std.specs.Str.Parse.{ParsesUnsigned, ExplainsUnsignedError, HasUnsignedDigitsIfOk}
use Rattle.clap.proofs.WalkLemmas.{one_text-rows}
use Rattle.clap.specs.Words.{found_of}
use Rattle.command_line.proofs.ReadingLemmas.{given, missing, outside}
use Rattle.command_line.proofs.words.number.Goals as goal

pub returns-in-Some : goal.returns-in-Some
returns-in-Some c =
    let e = one_text-rows (found_of c.args.matches.now) c.args.id.now in (
      given (λ bs r. ParsesUnsigned 8 10 bs r × ExplainsUnsignedError 10 bs r
          × HasUnsignedDigitsIfOk bs r) 8 c.in-Some.n _ (λ u x g. g.0)
          (λ h. c.in-Some.ensures.none (e ∙ h)) (λ t h. c.in-Some.ensures.value t (e ∙ h)),
      omega (arith, c.if-n-ge1.true),
      omega (arith, c.if-n-most.true),
    )

pub returns-in_default : goal.returns-in_default
returns-in_default c =
    let e = one_text-rows (found_of c.args.matches.now) c.args.id.now in
    outside c.in-Some.n c.args.most _
    (given (λ bs r. ParsesUnsigned 8 10 bs r × ExplainsUnsignedError 10 bs r
    × HasUnsignedDigitsIfOk bs r) 8 c.in-Some.n _ (λ u x g. g.0)
    (λ h. c.in-Some.ensures.none (e ∙ h)) (λ t h. c.in-Some.ensures.value t (e ∙ h)))
    (inr (omega (arith, c.if-n-most.false)))

pub returns-in_default-2 : goal.returns-in_default-2
returns-in_default-2 c =
    let e = one_text-rows (found_of c.args.matches.now) c.args.id.now in
    outside c.in-Some.n c.args.most _
    (given (λ bs r. ParsesUnsigned 8 10 bs r × ExplainsUnsignedError 10 bs r
    × HasUnsignedDigitsIfOk bs r) 8 c.in-Some.n _ (λ u x g. g.0)
    (λ h. c.in-Some.ensures.none (e ∙ h)) (λ t h. c.in-Some.ensures.value t (e ∙ h)))
    (inl (omega (arith, c.if-n-ge1.false)))

pub returns-in_default-3 : goal.returns-in_default-3
returns-in_default-3 c =
    let e = one_text-rows (found_of c.args.matches.now) c.args.id.now in
    missing (λ bs r. ParsesUnsigned 8 10 bs r × ExplainsUnsignedError 10 bs r
    × HasUnsignedDigitsIfOk bs r) 8 c.args.most _ (λ u x g. g.0)
    (omega (arith, c.ranges.most.fits)) (λ t h. c.in_default.ensures.value t (e ∙ h))
