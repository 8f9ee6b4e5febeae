-- The answers of a labeller's rows that obey the rules.
use Rattle.std.proofs.Common.{◌≡◌, ℕ, zero, suc, ◌<◌, ◌≤◌, nat_eq, List, [], ◌∷◌, length, Some, slice_get, ap, ◌∙◌}
use Rattle.std.proofs.Common.{subst, arith, is_some}
use Rattle.std.specs.Option.{option_and_then}
use Rattle.std.specs.List.{All, Contains, find}
use Rattle.std.proofs.lemmas.List.Elements.{All-contains, All-head, All-tail}
use Rattle.board_text.specs.PlainBoard.{PlainBoard}
use Rattle.positions.specs.Game.{moved}
use Rattle.positions.specs.Table.{AnswerRow, AnswersLegally, IsListed}
use Rattle.positions.specs.declared.turns.Turns.TheVariants.{Count, Always}
use Rattle.proof_text.specs.Positions.{Positions}
use Rattle.proof_text.specs.Rules.{Serves, MeetsRequest, MeetsRequests, LabellerObeys, one_less}
use Rattle.symmetries.proofs.Cited.{serves_less}
use Rattle.proof_check.specs.PositionTables.{AnswersAllOver, AnswersOver, IsClosedOver}
use Rattle.proof_check.proofs.FirstRows.{AreApart, find-the, some_passes}
use lib.Pointwise.{pointwise, bytes_decides}

module _ (positions : Positions) (board : PlainBoard) (rows : List AnswerRow) (apart : AreApart (λ r. r.at) rows)
    (obeys : LabellerObeys positions board rows) where
  -- the first row of listed places is their row
  the_row : (row : AnswerRow) → Contains rows row → find (λ r. pointwise nat_eq r.at row.at) rows ≡ Some row
  the_row row is = find-the (λ r. r.at) rows row apart is

  -- the table gives the answer of the row for the places
  answers_by_row : (row : AnswerRow) (pebble : ℕ) → Contains rows row
      → (meets : MeetsRequest positions board rows row pebble)
      → AnswersLegally board rows row.at pebble meets.label
  answers_by_row row pebble is meets = record {
    answer = ap (λ o. option_and_then (λ r. slice_get r.answers pebble) o) (the_row row is) ∙ meets.answer;
    legal = meets.legal;
  }

  -- the places after the row's answer
  abbrev after : List ℕ → ℕ → ℕ → List ℕ
  after places pebble label = positions.normal (moved places pebble label)

  -- each request of a list that is no longer than the number is answered
  answers_each : (requests : List ℕ) (places : List ℕ) (number : ℕ) → length requests ≤ number
      → Serves rows places (Count number) → All (λ pebble. pebble < board.pebbles) requests
      → AnswersAllOver positions board rows places requests
  answers_each [] places number short serves pebbles = tt
  answers_each (pebble ∷ requests) places zero short serves pebbles = absurd (omega arith)
  answers_each (pebble ∷ requests) places (suc number) short serves pebbles =
      let listed = serves (omega arith) in
      let meets = All-contains (MeetsRequests positions board rows) rows listed.row obeys listed.among pebble
      (All-head (λ p. p < board.pebbles) pebble requests pebbles) in
      let here = answers_by_row listed.row pebble listed.among meets in
      let next = serves_less rows (after listed.row.at pebble meets.label) listed.row.turns number listed.enough
      meets.serves in
      let rest = answers_each requests (after listed.row.at pebble meets.label) number (omega arith) next
      (All-tail (λ p. p < board.pebbles) pebble requests pebbles) in
      subst (λ c. AnswersAllOver positions board rows c (pebble ∷ requests)) listed.at (meets.label, here, rest)

  pub answers_as_served : (places : List ℕ) (number : ℕ) → Serves rows places (Count number)
      → AnswersOver positions board rows number places
  answers_as_served places number serves =
      λ requests short pebbles. answers_each requests places number short serves pebbles

  -- listed places have a row
  row_of_listed : (places : List ℕ) → IsListed rows places → (row : AnswerRow) × Contains rows row × (row.at ≡ places)
  row_of_listed places listed =
      let there = some_passes (λ r. pointwise nat_eq r.at places) rows listed in
      (there.0, there.1, (bytes_decides there.0.at places).0 there.2)

  pub listed_by_row : (row : AnswerRow) → Contains rows row → IsListed rows row.at
  listed_by_row row is = ap is_some (the_row row is)

  -- rows for always answer with rows for always
  pub closed_by_rows : All (λ row. row.turns ≡ Always) rows → IsClosedOver positions board rows
  closed_by_rows always places listed pebble below =
      let here = row_of_listed places listed in
      let meets = All-contains (MeetsRequests positions board rows) rows here.0 obeys here.1 pebble below in
      let answer = answers_by_row here.0 pebble here.1 meets in
      let serves : Serves rows (after here.0.at pebble meets.label) Always =
      subst (λ t. Serves rows (after here.0.at pebble meets.label) (one_less t))
      (All-contains (λ row. row.turns ≡ Always) rows here.0 always here.1) meets.serves in
      let next = serves tt in
      let there : IsListed rows (after here.0.at pebble meets.label) =
      subst (IsListed rows) next.at (listed_by_row next.row next.among) in
      subst (λ c. (label : ℕ) × AnswersLegally board rows c pebble label × IsListed rows (after c pebble label))
      here.2 (meets.label, answer, there)
