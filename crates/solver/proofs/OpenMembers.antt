-- The open members of a gap, from a place on.
use Rattle.std.proofs.Common.{◌≡◌, ◌≢◌, ℕ, suc, ◌+◌, ◌-◌, ◌<◌, ◌∙◌, sym, ap, arith, List, ◌∷◌, slice_index}
use Rattle.graphs.specs.Graph.{PlainGraph}
use Rattle.graphs.proofs.Cited.{same_is}
use Rattle.solver.specs.Inside.SourceWalk.{open_from}
use Rattle.solver.specs.Inside.Tables.{is_open, members_from}
use Rattle.gap_values.specs.declared.closing.TheConstants.{OPEN}
use Rattle.solver.proofs.ListedWords.{valued_word}
use Rattle.solver.proofs.Sources.{members-skip, members-take}

module _ (a : PlainGraph) (words : List ℕ) (gap place : ℕ) where
  -- there is a member, and those after it
  from-here : place < a.places → open_from a words gap place
      ≡ members_from a (is_open words) gap place (suc (a.places - (place + 1)))
  from-here low =
      let counted : a.places - place ≡ suc (a.places - (place + 1)) = omega arith in
      ap (members_from a (is_open words) gap place) counted

  -- a member that has a value is passed over
  pub walk-skip : (member : ℕ) → place < a.places → member ≡ a.member gap place → slice_index words member ≢ OPEN
      → open_from a words gap place ≡ open_from a words gap (place + 1)
  walk-skip member low here word =
      from-here low ∙ members-skip a (is_open words) gap place (a.places - (place + 1))
      (ap (is_open words) (sym here) ∙ valued_word words member word)

  pub walk-take : (member : ℕ) → place < a.places → member ≡ a.member gap place → slice_index words member ≡ OPEN
      → open_from a words gap place ≡ member ∷ open_from a words gap (place + 1)
  walk-take member low here word =
      from-here low ∙ members-take a (is_open words) gap place (a.places - (place + 1))
      (ap (is_open words) (sym here) ∙ same_is (slice_index words member) OPEN word)
      ∙ ap (λ x. x ∷ open_from a words gap (place + 1)) (sym here)
