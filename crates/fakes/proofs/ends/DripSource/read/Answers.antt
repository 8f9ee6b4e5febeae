use Rattle.std.proofs.Common.{rules, arith, ◌≡◌, ℕ, ◌-◌, ◌<◌, List, [], ◌∷◌, ◌++◌, length, take, drop, slice_index_or}
use Rattle.std.proofs.Common.{slice_set, ap, sym, take_all, suc}
use Rattle.fakes.proofs.ends.DripSource.read.Goals as goal

-- the first byte was given, and the others are left
one_given : (xs into : List ℕ) → 0 < length xs → 0 < length into
    → xs ≡ take 1 (slice_set into 0 (slice_index_or xs 0 0)) ++ take (length xs - 1) (drop 1 xs)
one_given [] into some room = absurd (omega (arith, some))
one_given (x ∷ xs) [] some room = absurd (omega (arith, room))
one_given (x ∷ xs) (y ∷ ys) some room = ap (λ l. x ∷ l) (sym (take_all (suc (length xs) - 1) xs (omega arith)))

pub returns-clause-bytes : goal.returns-clause-bytes
returns-clause-bytes c =
    let some : 0 < length c.args.self.now.rest.now = search rules in
    let room : 0 < length c.args.into.now = search rules in
    (one_given c.args.self.now.rest.now c.args.into.now some room, λ none _. absurd (omega (arith, none)))
