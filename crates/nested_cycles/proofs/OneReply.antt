-- Words have one reply at most.
use Rattle.std.proofs.Common.{◌≡◌, ℕ, zero, suc, ◌<◌, ◌-◌, List, [], ◌∷◌, replicate, Contains, sym, ap, ◌∙◌, subst, inl}
use Rattle.std.proofs.Common.{inr}
use Rattle.std.proofs.lemmas.List.Elements.{All-contains}
use Rattle.nested_cycles.specs.Words.{word_number}
use Rattle.nested_cycles.specs.Domination.{labels_of, label_word}
use Rattle.nested_cycles.specs.GoodWords.{next_digit, first_digits, rests_in, AreInOneCopy, AreInTwoCopies, label_words}
use Rattle.nested_cycles.specs.Reply.{IsReply, NestedReply}
use Rattle.nested_cycles.proofs.WordNumbers.{number_of-word_of}
use Rattle.nested_cycles.proofs.CopyRests.{contains_none}
use Rattle.nested_cycles.proofs.GoodReplies.{some_first}
use Rattle.nested_cycles.proofs.WordLists.{same_copies, not_one}

-- if words are in two copies, there is a word
two_are_some : (digit : ℕ) (words : List (List ℕ)) → AreInTwoCopies digit (first_digits words) → words ≡ [] → ⊥
two_are_some digit words two none =
    contains_none digit (subst (λ ws. Contains (first_digits ws) digit) none two.some_here)

-- if all words are in one copy, there is only one such copy
same_copy : (digit other : ℕ) (words : List (List ℕ)) → (words ≡ [] → ⊥) → AreInOneCopy digit (first_digits words)
    → AreInOneCopy other (first_digits words) → digit ≡ other
same_copy digit other words some one second =
    All-contains (λ first. first ≡ other) (first_digits words) digit second (some_first words digit some one)

pub one_reply : (count : ℕ) (others : List (List ℕ)) (reply second : List ℕ) → IsReply count others reply
    → IsReply count others second → reply ≡ second
one_reply zero others reply second is is_second = is ∙ sym is_second
one_reply (suc count) others reply second (inl none) (inl none_too) = none.1 ∙ sym none_too.1
one_reply (suc count) others reply second (inl none) (inr (inl one)) = absurd (one.1 none.0)
one_reply (suc count) others reply second (inl none) (inr (inr two)) = absurd (two_are_some two.0 others two.2 none.0)
one_reply (suc count) others reply second (inr (inl one)) (inl none) = absurd (one.1 none.0)
one_reply (suc count) others reply second (inr (inl one)) (inr (inl one_too)) =
    one.3 ∙ ap (λ digit. next_digit digit ∷ replicate count 0) (same_copy one.0 one_too.0 others one.1 one.2 one_too.2)
    ∙ sym one_too.3
one_reply (suc count) others reply second (inr (inl one)) (inr (inr two)) =
    absurd (not_one two.0 one.0 (first_digits others) two.2 one.2)
one_reply (suc count) others reply second (inr (inr two)) (inl none) = absurd (two_are_some two.0 others two.2 none.0)
one_reply (suc count) others reply second (inr (inr two)) (inr (inl one)) =
    absurd (not_one two.0 one.0 (first_digits others) two.2 one.2)
one_reply (suc count) others reply second (inr (inr two)) (inr (inr two_too)) =
    let same : two.0 ≡ two_too.0 = same_copies two.0 two_too.0 (first_digits others) two.2 two_too.2 in
    let there : IsReply count (rests_in (next_digit two_too.0) others) two.1 =
    subst (λ digit. IsReply count (rests_in (next_digit digit) others) two.1) same two.4 in
    let rest : two.1 ≡ two_too.1 =
    one_reply count (rests_in (next_digit two_too.0) others) two.1 two_too.1 there two_too.4 in
    two.3 ∙ ap (λ digit. next_digit digit ∷ two.1) same ∙ ap (λ word. next_digit two_too.0 ∷ word) rest ∙ sym two_too.3

pub one_label : (levels : ℕ) (others : List ℕ) (reply second : ℕ) → reply < labels_of levels → second < labels_of levels
    → NestedReply levels others reply → NestedReply levels others second → reply ≡ second
one_label levels others reply second below below_second is is_second =
    sym (number_of-word_of (levels - 1) reply below)
    ∙ ap word_number (one_reply (levels - 1) (label_words levels others) (label_word levels reply)
    (label_word levels second) is is_second)
    ∙ number_of-word_of (levels - 1) second below_second
