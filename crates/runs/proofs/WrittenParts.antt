-- Texts in parts, written one after another.
use Rattle.std.proofs.Common.{◌≡◌, ℕ, ◌<◌, ◌+◌, List, [], ◌∷◌, ◌++◌, length, take, drop, get_or, sym, ap, ◌∙◌}
use Rattle.std.proofs.Common.{append_assoc, Option}
use Rattle.std.specs.List.{flat_map}
use Rattle.std.specs.Io.KnownBytes.{Appends}
use Rattle.std.proofs.lemmas.Grind.{take_at_read}
use Rattle.std.proofs.lemmas.List.{append-nil, take-append-drop}
use Rattle.std.proofs.lemmas.List.Concat.{flat_map-append, flat_map-cons}
use Rattle.board_text.specs.Streams.{AppendsPrefix}
use Rattle.board_text.proofs.Cited.{Appends-trans, between, front_taken}

regroup : (a b c d : List ℕ) → a ++ ((b ++ c) ++ d) ≡ (a ++ b) ++ (c ++ d)
regroup a b c d = simp append_assoc

-- a prefix of the next part is, after those before it, a prefix of the whole
pub prefix_on : (a b c : Option (List ℕ)) (all front part rest : List ℕ) → all ≡ front ++ (part ++ rest)
    → Appends a b front → AppendsPrefix (between b c) part → AppendsPrefix (between a c) all
prefix_on a b c all front part rest e taken (n, low, more) =
    front_taken a c all (front ++ take n part) (drop n part ++ rest)
    (e ∙ ap (λ l. front ++ (l ++ rest)) (sym (take-append-drop n part))
    ∙ regroup front (take n part) (drop n part) rest)
    (Appends-trans a b c front (take n part) taken more)

module _ {X : Type 0} (f : X → List ℕ) where
  -- one part more
  pub parts_more : (parts : List X) (index : ℕ) (d : X) → index < length parts
      → flat_map f (take (index + 1) parts) ≡ flat_map f (take index parts) ++ f (get_or parts index d)
  parts_more parts index d inside =
      ap (flat_map f) (take_at_read parts index d inside).1
      ∙ flat_map-append f (take index parts) (get_or parts index d ∷ [])
      ∙ ap (λ l. flat_map f (take index parts) ++ l)
      (flat_map-cons f (get_or parts index d) [] ∙ append-nil (f (get_or parts index d)))

  -- the parts before one, it, and those after it
  pub parts_around : (parts : List X) (index : ℕ) (d : X) → index < length parts → flat_map f parts
      ≡ flat_map f (take index parts) ++ (f (get_or parts index d) ++ flat_map f (drop (index + 1) parts))
  parts_around parts index d inside =
      ap (flat_map f) (sym (take-append-drop (index + 1) parts))
      ∙ flat_map-append f (take (index + 1) parts) (drop (index + 1) parts)
      ∙ ap (λ l. l ++ flat_map f (drop (index + 1) parts)) (parts_more parts index d inside)
      ∙ append_assoc (flat_map f (take index parts)) (f (get_or parts index d)) (flat_map f (drop (index + 1) parts))
