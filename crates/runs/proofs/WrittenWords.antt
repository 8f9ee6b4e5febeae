-- Words that are written one after the other.
use Rattle.std.proofs.Common.{◌≡◌, ℕ, List, ◌++◌, ap, ◌∙◌, append_assoc, Result, Ok, Err, OnOk, cond}
use Rattle.std.specs.Result.{is_ok}

-- words that are pushed after others, if the push succeeds
pub pushed : {E : Type 0} (result : Result (Unit {0}) E) (old middle new words more : List ℕ) → middle ≡ old ++ words
    → new ≡ cond (is_ok result) (middle ++ more) middle → OnOk result (new ≡ old ++ (words ++ more))
pushed (Ok u) old middle new words more first second =
    second ∙ ap (λ (m : List ℕ). m ++ more) first ∙ append_assoc old words more
pushed (Err e) old middle new words more first second = tt
