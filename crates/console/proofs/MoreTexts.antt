-- Texts that are written one after the other are one text.
use Rattle.std.proofs.Common.{◌≡◌, ℕ, Bool, true, false, List, [], ◌∷◌, ◌++◌}
use Rattle.std.proofs.Common.{refl, sym, ap, subst, ◌∙◌, inl, inr, arith}
use Rattle.std.proofs.lemmas.List.{length-append, take-append-le}
use Rattle.std.specs.Prelude.{Option}
use Rattle.board_text.specs.Streams.{AppendsAll, AppendsPrefix, Bytes, bytes_of}
use Rattle.board_text.proofs.Cited.{Appends-trans, between}
use Rattle.console.specs.Showing.{HasNoControl, IsMore, IsTaken, shown}
use Rattle.console.proofs.ShownTexts.{shown_front}
use Rattle.console.proofs.Fronts.{Appends-none, front_behind}

wider : (taken : Bytes) (s t : List ℕ) → AppendsPrefix taken s → AppendsPrefix taken (s ++ t)
wider taken s t (n, low, part) =
    (n, omega (arith, low, length-append s t), subst (AppendsAll taken) (sym (take-append-le n s t low)) part)

nothing : (s t : List ℕ) → s ++ t ≡ [] → (s ≡ []) × (t ≡ [])
nothing [] t none = (refl, none)
nothing (x ∷ s) t none = cc

module _ {W : Type 0} (known : W → Option (List ℕ)) (failed : W → Bool) where
  -- from a writer that hadn't failed
  abbrev adds : W → W → List ℕ → Type 0
  adds before after text =
      IsTaken (bytes_of known before after) (failed after ≡ true) text × (text ≡ [] → after ≡ before)

  after_written : (a b c : W) (s t : List ℕ) (was : Bool) → failed b ≡ was → adds a b s → IsMore known failed b c
      t → adds a c (s ++ t)
  after_written a b c s t true is ((inl (sound, all)), kept) more = absurd (sound is)
  after_written a b c s t false is ((inl (sound, all)), kept) (same, more) =
      let next = more is in (
        elim next.0 [
          | inl done ↦ inl (done.0, Appends-trans (known a) (known b) (known c) s t all done.1)
          | inr cut ↦ inr (cut.0, front_behind (known a) (known b) (known c) s t all cut.1)
        ],
        (λ none. let parts = nothing s t none in next.1 parts.1 ∙ kept parts.0),
      )
  after_written a b c s t was is ((inr (broke, front)), kept) (same, more) =
      let rest : c ≡ b = same broke in (
        inr (
          ap failed rest ∙ broke,
          subst (λ (o : Option (List ℕ)). AppendsPrefix (between (known a) o) (s ++ t)) (sym (ap
              known rest)) (wider (bytes_of known a b) s t front),
        ),
        (λ none. rest ∙ kept (nothing s t none).0),
      )

  -- a text and then another
  pub then_more : (a b c : W) (s t : List ℕ) → IsMore known failed a b s → IsMore known failed b c t → IsMore known
      failed a c (s ++ t)
  then_more a b c s t (same, first) second = (
    (λ broke. let rest : b ≡ a = same broke in second.0 (ap failed rest ∙ broke) ∙ rest),
    (λ sound. after_written a b c s t (failed b) refl (first sound) second),
  )

  -- no text
  pub none_more : (a : W) → IsMore known failed a a []
  none_more a = (
    (λ broke. refl),
    (λ sound. (
      inl ((λ broke. let bad : true ≡ false = sym broke ∙ sound in cc), Appends-none (known a)),
      (λ none.
          refl),
    )),
  )

-- two texts for a person, one after the other
pub then_shown : {W : Type 0} (known : W → Option (List ℕ)) (failed : W → Bool) (a b c : W) (s t : List ℕ)
    → HasNoControl s → IsMore known failed a b s → IsMore known failed b c (shown t)
    → IsMore known failed a c (shown (s ++ t))
then_shown known failed a b c s t plain first second =
    subst (IsMore known failed a c) (sym (shown_front s t plain))
    (then_more known failed a b c s (shown t) first second)

-- a person is there, or not
pub if_there : (P : Bool → Type 0) (shows is_there : Bool) → shows ≡ is_there → P is_there → P shows
if_there P shows is_there is holds = subst P (sym is) holds
