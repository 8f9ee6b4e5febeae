-- Words of nested boards as texts.
use Rattle.std.proofs.Common.{◌≡◌, ℕ, suc, ◌/◌, ◌%◌, ◌^◌, List, [], ◌++◌, refl, ap, ◌∙◌, append_assoc}
use Rattle.std.specs.Prelude.{codes}
use Rattle.std.specs.Fmt.{decimal}
use Rattle.std.specs.List.{flat_map}
use Rattle.nested_cycles.specs.Words.{word_of}
use Rattle.player.specs.Transcript.{digits_text}

-- the digits of a word, one after the other
abbrev pub digits_of_word : ℕ → ℕ → List ℕ
digits_of_word count number = flat_map decimal (word_of count number)

pub no_digits : (count number : ℕ) → count ≡ 0 → digits_of_word count number ≡ []
unfolding word_of
no_digits count number none = rw none refl

pub first_digit : (count rest number size : ℕ) (old text new : List ℕ) → count ≡ suc rest → size ≡ 3 ^ rest
    → text ≡ old ++ decimal (number / size)
    → new ≡ text ++ digits_of_word rest (number % size) → new ≡ old ++ digits_of_word count number
unfolding word_of
first_digit count rest number size old text new some size_is first others =
    rw (some, ← size_is) (others ∙ ap (λ l. l ++ digits_of_word rest (number % size)) first
    ∙ append_assoc old (decimal (number / size)) (digits_of_word rest (number % size)))

pub dot_text : (count number : ℕ) → count ≡ 0 → digits_text (word_of count number) ≡ codes "."
unfolding word_of
dot_text count number none = rw none refl

pub some_text : (count rest number : ℕ) → count ≡ suc rest
    → digits_text (word_of count number) ≡ digits_of_word count number
unfolding word_of
some_text count rest number some = rw some refl
