-- Texts of which a prefix was written.
use Rattle.std.proofs.Common.{List, [], ◌++◌, take, drop, sym, ap, ◌∙◌, ℕ, append-nil, append_assoc}
use Rattle.std.proofs.Common.{take-append-drop}
use Rattle.std.specs.Prelude.{Option, None, Some}
use Rattle.std.specs.Io.KnownBytes.{Appends}
use Rattle.board_text.specs.Streams.{AppendsPrefix}
use Rattle.board_text.proofs.Cited.{Appends-trans, between, front_taken}

-- a text and then a prefix of more make a prefix of both together
pub front_behind : (a b c : Option (List ℕ)) (front more : List ℕ) → Appends a b front
    → AppendsPrefix (between b c) more → AppendsPrefix (between a c) (front ++ more)
front_behind a b c front more written begun =
    let size = begun.0 in
    front_taken a c (front ++ more) (front ++ take size more) (drop size more)
    (ap (λ l. front ++ l) (sym (take-append-drop size more))
    ∙ sym (append_assoc front (take size more) (drop size more)))
    (Appends-trans a b c front (take size more) written begun.2)

-- no text
pub Appends-none : (a : Option (List ℕ)) → Appends a a []
Appends-none None = tt
Appends-none (Some x) = sym (append-nil x)
