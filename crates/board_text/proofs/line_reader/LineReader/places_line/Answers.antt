use Rattle.std.proofs.Common.{ℕ, ◌+◌, List, ◌∷◌, map, All, arith, sym, subst}
use Rattle.board_text.specs.PlaceForms.{place_word, SpellsPlace}
use Rattle.board_text.proofs.PlaceLemmas.{words_are_texts, words_spell, places_line_places, places_line_end}
use Rattle.board_text.proofs.line_reader.LineReader.places_line.Goals as goal

pub returns-in_err-places : goal.returns-in_err-places
returns-in_err-places c =
    rw c.from_residual-in_err-places.ensures (λ ns more are e.
    c.in_err-places.ensures (map (place_word c.args.labels) ns) (10 ∷ more)
    (words_are_texts _ c.args.labels (c.args.labels + 1) ns (omega arith) are) (λ h. omega (arith, h.0))
    (places_line_places c.args.labels c.args.word.now ns c.args.self.now c.take.new.self more
    c.in_ok-take.ensures.taken e))

pub returns-then-not-branch : goal.returns-then-not-branch
returns-then-not-branch c = λ ns more are e.
    let t = c.in_ok-places.ensures in
    let all = places_line_end _ c.args.labels c.args.word.now ns t.0 c.args.self.now c.take.new.self c.places.new.self
    more (omega arith) c.in_ok-take.ensures.taken t.2 t.1 t.3 are e in
    (rw c.if-not-branch.true at t.4)
    (subst (λ (ts : List (List ℕ)). All (SpellsPlace c.args.labels (c.args.labels + 1)) ts) (sym all.0)
    (words_spell _ c.args.labels (c.args.labels + 1) ns are))

pub returns-in_err-take-2 : goal.returns-in_err-take-2
returns-in_err-take-2 c =
    rw c.from_residual-in_err-take-2.ensures (λ ns more are e.
    let t = c.in_ok-places.ensures in
    c.in_err-take-2.ensures.taken more
    (places_line_end _ c.args.labels c.args.word.now ns t.0 c.args.self.now c.take.new.self c.places.new.self more
    (omega arith) c.in_ok-take.ensures.taken t.2 t.1 t.3 are e).1)
