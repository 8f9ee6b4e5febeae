-- Lines have one transcript.
use Rattle.std.proofs.Common.{◌≡◌, ℕ, suc, ◌≤◌, List, [], ◌∷◌, ◌++◌, inl, inr, sym, ap, ◌∙◌, subst, arith}
use Rattle.std.specs.Fmt.{decimal}
use Rattle.std.proofs.lemmas.Fmt.{decimal_injective}
use Rattle.board_text.specs.PlainBoard.{PlainBoard}
use Rattle.positions.specs.declared.value.Value.TheVariants.{Finite, Forever}
use Rattle.positions.specs.Game.{Legal, moved}
use Rattle.positions.proofs.Cited.{same_value}
use Rattle.nested_cycles.specs.NestedGame.{other_words}
use Rattle.nested_cycles.specs.declared.game.TheConstants.{MAX_LEVELS}
use Rattle.nested_cycles.proofs.Cited.{one_label}
use Rattle.strategies.proofs.Cited.{same_answer, same_request}
use Rattle.player.specs.Laws.{IsGame}
use Rattle.player.specs.Transcript.{Game, PersonAsks, PersonAnswers, PersonClimbs, Standing, Going, Over, RepliesToLine}
use Rattle.player.specs.Transcript.{Replies, NestedReplies, Asks, BeginsPlay, IsResponse, AreResponses, IsPlayed}
use Rattle.player.specs.Transcript.{IsTranscript, opening_lines, takes_line, at_line, ask_line, stuck_line}
use Rattle.player.specs.Transcript.{stopped_line, word_text, words_line}
use Rattle.player.specs.declared.end.PlayEnd.{PlayEnd}
use Rattle.player.specs.declared.end.PlayEnd.TheVariants.{Stopped}
use Rattle.player.proofs.RequestLines.{no_quit}

record AreSame (one_text other : List ℕ) (one_standing next : Standing) : Type 0 where
  pub said : one_text ≡ other
  pub to : one_standing ≡ next

end_of : (end other : PlayEnd) → Over end ≡ Over other → end ≡ other
end_of end other same = cc

not_over : (at : List ℕ) (requests : ℕ) (end : PlayEnd) → Going at requests ≡ Over end → ⊥
not_over at requests end same = cc

requests_of : (at other : List ℕ) (requests more : ℕ) → Going at requests ≡ Going other more → requests ≡ more
requests_of at other requests more same = cc

-- ---- one line has one response

same_replies : (board : PlainBoard) (at : List ℕ) (requests pebble : ℕ) (said other : List ℕ) (to next : Standing)
    → Replies board at requests pebble said to → Replies board at requests pebble other next
    → AreSame said other to next
same_replies board at requests pebble said other to next (inl one) (inl two) =
    let label : one.0 ≡ two.0 = same_answer board at pebble one.0 two.0 one.1 two.1 in
    record {
      said = one.2 ∙ ap (λ l. takes_line pebble (decimal l) ++ at_line board (moved at pebble l)) label ∙ sym two.2;
      to = one.3 ∙ ap (λ l. Going (moved at pebble l) (suc requests)) label ∙ sym two.3;
    }
same_replies board at requests pebble said other to next (inl one) (inr two) = absurd (two.0 one.0 one.1.0.legal)
same_replies board at requests pebble said other to next (inr one) (inl two) = absurd (one.0 two.0 two.1.0.legal)
same_replies board at requests pebble said other to next (inr one) (inr two) =
    record { said = one.1 ∙ sym two.1; to = one.2 ∙ sym two.2 }

same_request_asked : (board : PlainBoard) (at : List ℕ) (requests : ℕ) (said other : List ℕ) (to next : Standing)
    → Asks board at requests said to → Asks board at requests other next → AreSame said other to next
same_request_asked board at requests said other to next (pebble, best, inl one) (second, best_too, inl two) =
    let same : pebble ≡ second = same_request board at pebble second best best_too in
    record { said = one.1 ∙ ap ask_line same ∙ sym two.1; to = one.2 ∙ sym two.2 }
same_request_asked board at requests said other to next (pebble, best, inr one) (second, best_too, inr two) =
    let same : pebble ≡ second = same_request board at pebble second best best_too in
    record { said = one.1 ∙ ap (λ p. ask_line p ++ stuck_line p requests) same ∙ sym two.1; to = one.2 ∙ sym two.2 }
same_request_asked board at requests said other to next (pebble, best, inl one) (second, best_too, inr two) =
    let same : pebble ≡ second = same_request board at pebble second best best_too in
    absurd (two.0 one.0.0 (subst (λ p. Legal board at p one.0.0) same one.0.1))
same_request_asked board at requests said other to next (pebble, best, inr one) (second, best_too, inl two) =
    let same : second ≡ pebble = same_request board at second pebble best_too best in
    absurd (one.0 two.0.0 (subst (λ p. Legal board at p two.0.0) same two.0.1))

same_nested_replies : (levels : ℕ) (at : List ℕ) (requests pebble : ℕ) (said other : List ℕ) (to next : Standing)
    → NestedReplies levels at requests pebble said to → NestedReplies levels at requests pebble other next
    → AreSame said other to next
same_nested_replies levels at requests pebble said other to next one two =
    let label : one.0 ≡ two.0 = one_label levels (other_words pebble at) one.0 two.0 one.1 two.1 one.2 two.2 in
    record {
      said = one.3 ∙ ap (λ l. takes_line pebble (word_text levels l) ++ words_line levels (moved at pebble l)) label
          ∙ sym two.3;
      to = one.4 ∙ ap (λ l. Going (moved at pebble l) (suc requests)) label ∙ sym two.4;
    }

-- a line that names a pebble has one response if each request has one answer
module _ (pebbles : ℕ) (Answers : ℕ → List ℕ → Standing → Type 0) (at : List ℕ) (requests : ℕ)
    (few : pebbles ≤ MAX_LEVELS)
    (one_answer : (pebble : ℕ) (said other : List ℕ) (to next : Standing) → Answers pebble said to
    → Answers pebble other next → AreSame said other to next) where
  same_replies_to_line : (line said other : List ℕ) (to next : Standing)
      → RepliesToLine pebbles Answers (Going at requests) line said to
      → RepliesToLine pebbles Answers (Going at requests) line other next → AreSame said other to next
  same_replies_to_line line said other to next (inl one) (inl two) =
      let same : one.0 ≡ two.0 = decimal_injective one.0 two.0 (omega (arith, one.1, few)) (omega (arith, two.1, few))
      (sym one.2 ∙ two.2) in
      one_answer two.0 said other to next (subst (λ p. Answers p said to) same one.3) two.3
  same_replies_to_line line said other to next (inl one) (inr (inl two)) =
      absurd (no_quit one.0 (omega (arith, one.1, few)) (sym one.2 ∙ two.0))
  same_replies_to_line line said other to next (inl one) (inr (inr two)) = absurd (two.0.1 one.0 one.1 one.2)
  same_replies_to_line line said other to next (inr (inl one)) (inl two) =
      absurd (no_quit two.0 (omega (arith, two.1, few)) (sym two.2 ∙ one.0))
  same_replies_to_line line said other to next (inr (inl one)) (inr (inl two)) =
      record { said = one.1 ∙ sym two.1; to = one.2 ∙ sym two.2 }
  same_replies_to_line line said other to next (inr (inl one)) (inr (inr two)) = absurd (two.0.0 one.0)
  same_replies_to_line line said other to next (inr (inr one)) (inl two) = absurd (one.0.1 two.0 two.1 two.2)
  same_replies_to_line line said other to next (inr (inr one)) (inr (inl two)) = absurd (one.0.0 two.0)
  same_replies_to_line line said other to next (inr (inr one)) (inr (inr two)) =
      record { said = one.1 ∙ sym two.1; to = one.2 ∙ sym two.2 }

same_brought : (game : Game) (from : Standing) (line said other : List ℕ) (to next : Standing) → IsGame game
    → IsResponse game from line said to → IsResponse game from line other next → AreSame said other to next
same_brought (PersonAsks board) (Over end) line said other to next is one two =
    record { said = one.0 ∙ sym two.0; to = one.1 ∙ sym two.1 }
same_brought (PersonAnswers board) (Over end) line said other to next is one two =
    record { said = one.0 ∙ sym two.0; to = one.1 ∙ sym two.1 }
same_brought (PersonClimbs levels) (Over end) line said other to next is one two =
    record { said = one.0 ∙ sym two.0; to = one.1 ∙ sym two.1 }
same_brought (PersonAsks board) (Going at requests) line said other to next is one two =
    same_replies_to_line board.pebbles (Replies board at requests) at requests (omega (arith, is.pebbles.1))
    (same_replies board at requests) line said other to next one two
same_brought (PersonClimbs levels) (Going at requests) line said other to next is one two =
    same_replies_to_line levels (NestedReplies levels at requests) at requests is.1
    (same_nested_replies levels at requests) line said other to next one two
same_brought (PersonAnswers board) (Going at requests) line said other to next is
    (inl (pebble, label, asked, legal, asks, text)) (inl (second, place, called, allowed, calls, words)) =
    let labels : label ≡ place = decimal_injective label place (omega (arith, legal.1.is_label, is.labels.1))
    (omega (arith, allowed.1.is_label, is.labels.1)) (sym legal.2 ∙ allowed.2) in
    let pebbles : pebble ≡ second = same_request board at pebble second legal.0 allowed.0 in
    let there : moved at pebble label ≡ moved at second place =
    ap (λ p. moved at p label) pebbles ∙ ap (λ l. moved at second l) labels in
    let rest = same_request_asked board (moved at second place) (suc requests) asked called to next
    (subst (λ c. Asks board c (suc requests) asked to) there asks) calls in
    record {
      said = text ∙ ap (λ c. at_line board c ++ asked) there
          ∙ ap (λ l. at_line board (moved at second place) ++ l) rest.said ∙ sym words;
      to = rest.to;
    }
same_brought (PersonAnswers board) (Going at requests) line said other to next is
    (inl (pebble, label, asked, legal, asks, text)) (inr (inl two)) =
    absurd (no_quit label (omega (arith, legal.1.is_label, is.labels.1)) (sym legal.2 ∙ two.0))
same_brought (PersonAnswers board) (Going at requests) line said other to next is
    (inl (pebble, label, asked, legal, asks, text)) (inr (inr two)) = absurd (two.0.1 pebble label legal)
same_brought (PersonAnswers board) (Going at requests) line said other to next is (inr (inl one))
    (inl (second, place, called, allowed, calls, words)) =
    absurd (no_quit place (omega (arith, allowed.1.is_label, is.labels.1)) (sym allowed.2 ∙ one.0))
same_brought (PersonAnswers board) (Going at requests) line said other to next is (inr (inl one)) (inr (inl two)) =
    record { said = one.1 ∙ sym two.1; to = one.2 ∙ sym two.2 }
same_brought (PersonAnswers board) (Going at requests) line said other to next is (inr (inl one)) (inr (inr two)) =
    absurd (two.0.0 one.0)
same_brought (PersonAnswers board) (Going at requests) line said other to next is (inr (inr one))
    (inl (second, place, called, allowed, calls, words)) = absurd (one.0.1 second place allowed)
same_brought (PersonAnswers board) (Going at requests) line said other to next is (inr (inr one)) (inr (inl two)) =
    absurd (one.0.0 two.0)
same_brought (PersonAnswers board) (Going at requests) line said other to next is (inr (inr one)) (inr (inr two)) =
    record { said = one.1 ∙ sym two.1; to = one.2 ∙ sym two.2 }

-- ---- all lines have one text of responses

same_in_turn : (game : Game) (from : Standing) (lines : List (List ℕ)) (said other : List ℕ) (to next : Standing)
    → IsGame game
    → AreResponses game from lines said to → AreResponses game from lines other next → AreSame said other to next
same_in_turn game from [] said other to next is one two = record { said = one.0 ∙ sym two.0; to = sym one.1 ∙ two.1 }
same_in_turn game from (line ∷ lines) said other to next is one two =
    let first = same_brought game from line one.0 two.0 one.2 two.2 is one.3 two.3 in
    let rest = same_in_turn game two.2 lines one.1 two.1 to next is
    (subst (λ s. AreResponses game s lines one.1 to) first.to one.4) two.4 in
    record { said = one.5 ∙ ap (λ l. l ++ one.1) first.said ∙ ap (λ l. two.0 ++ l) rest.said ∙ sym two.5; to = rest.to }

same_opening : (game : Game) (said other : List ℕ) (to next : Standing) → BeginsPlay game said to
    → BeginsPlay game other next → AreSame said other to next
same_opening (PersonAsks board) said other to next one two =
    let value : one.0 ≡ two.0 = same_value board board.start one.0 two.0 one.1 two.1 in
    record { said = one.2 ∙ ap (λ v. opening_lines board v board.start) value ∙ sym two.2; to = one.3 ∙ sym two.3 }
same_opening (PersonClimbs levels) said other to next one two =
    record { said = one.0 ∙ sym two.0; to = one.1 ∙ sym two.1 }
same_opening (PersonAnswers board) said other to next (inl one) (inl two) =
    record { said = one.1 ∙ sym two.1; to = one.2 ∙ sym two.2 }
same_opening (PersonAnswers board) said other to next (inl one) (inr (number, asked, has, text, asks)) =
    let value : Forever ≡ Finite number = same_value board board.start Forever (Finite number) one.0 has in absurd cc
same_opening (PersonAnswers board) said other to next (inr (number, asked, has, text, asks)) (inl two) =
    let value : Forever ≡ Finite number = same_value board board.start Forever (Finite number) two.0 has in absurd cc
same_opening (PersonAnswers board) said other to next (inr (number, asked, has, text, asks))
    (inr (second, called, has_too, words, calls)) =
    let value : Finite number ≡ Finite second =
    same_value board board.start (Finite number) (Finite second) has has_too in
    let rest = same_request_asked board board.start 0 asked called to next asks calls in
    record {
      said = text ∙ ap (λ v. opening_lines board v board.start ++ asked) value
          ∙ ap (λ l. opening_lines board (Finite second) board.start ++ l) rest.said ∙ sym words;
      to = rest.to;
    }

same_play : (game : Game) (lines : List (List ℕ)) (said other : List ℕ) (to next : Standing) → IsGame game
    → IsPlayed game lines said to → IsPlayed game lines other next → AreSame said other to next
same_play game lines said other to next is one two =
    let first = same_opening game one.opening two.opening one.first two.first one.opens two.opens in
    let rest = same_in_turn game two.first lines one.more two.more to next is
    (subst (λ s. AreResponses game s lines one.more to) first.to one.brings) two.brings in
    record {
      said = one.text_is ∙ ap (λ l. l ++ one.more) first.said ∙ ap (λ l. two.opening ++ l) rest.said ∙ sym two.text_is;
      to = rest.to;
    }

pub one_transcript : (game : Game) (lines : List (List ℕ)) (first second : List ℕ) (end other : PlayEnd) → IsGame game
    → IsTranscript game lines first end → IsTranscript game lines second other → (first ≡ second) × (end ≡ other)
one_transcript game lines first second end other is (inl one) (inl two) =
    let same = same_play game lines first second (Over end) (Over other) is one two in
    (same.said, end_of end other same.to)
one_transcript game lines first second end other is (inl one) (inr two) =
    absurd (not_over two.0 two.2 end
    (sym (same_play game lines first two.1 (Over end) (Going two.0 two.2) is one two.3).to))
one_transcript game lines first second end other is (inr one) (inl two) =
    absurd (not_over one.0 one.2 other
    (same_play game lines one.1 second (Going one.0 one.2) (Over other) is one.3 two).to)
one_transcript game lines first second end other is (inr one) (inr two) =
    let same = same_play game lines one.1 two.1 (Going one.0 one.2) (Going two.0 two.2) is one.3 two.3 in
    let requests : one.2 ≡ two.2 = requests_of one.0 two.0 one.2 two.2 same.to in (
      one.4 ∙ ap (λ l. l ++ stopped_line one.2) same.said ∙ ap (λ n. two.1 ++ stopped_line n) requests ∙ sym two.4,
      one.5 ∙ ap Stopped requests ∙ sym two.5,
    )
