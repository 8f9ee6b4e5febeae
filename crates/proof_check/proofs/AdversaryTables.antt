-- The strategy of an adversary's rows that obey the rules.
use Rattle.std.proofs.Common.{◌≡◌, ℕ, suc, ◌<◌, nat_eq, List, [], ◌∷◌, length, Some, sym, ap, ◌∙◌, subst, arith}
use Rattle.std.specs.List.{All, Contains, find}
use Rattle.std.proofs.lemmas.List.Elements.{All-contains}
use Rattle.board_text.specs.PlainBoard.{PlainBoard, IsConfiguration}
use Rattle.positions.specs.Game.{Legal, moved}
use Rattle.positions.specs.Table.{RequestRow}
use Rattle.proof_text.specs.Positions.{Positions}
use Rattle.proof_text.specs.Rules.{MeetsAnswers, AdversaryObeys, IsListedBelow}
use Rattle.proof_check.specs.PositionTables.{PlaysOver, RequestsOver, StopsOver}
use Rattle.proof_check.proofs.FirstRows.{AreApart, find-the}
use lib.Pointwise.{pointwise}

module _ (positions : Positions) (board : PlainBoard) (rows : List RequestRow) (apart : AreApart (λ r. r.at) rows)
    (places : All (λ (r : RequestRow). IsConfiguration board r.at) rows)
    (obeys : AdversaryObeys positions board rows) where
  -- the row is the one that the table has for its places
  find_row : (row : RequestRow) → Contains rows row → find (λ r. pointwise nat_eq r.at row.at) rows ≡ Some row
  find_row row is = find-the (λ r. r.at) rows row apart is

  found_at : (row : RequestRow) → Contains rows row → (from : List ℕ) → row.at ≡ from
      → find (λ r. pointwise nat_eq r.at from) rows ≡ Some row
  found_at row is from same = subst (λ c. find (λ r. pointwise nat_eq r.at c) rows ≡ Some row) same (find_row row is)

  asked_is : (row : RequestRow) → Contains rows row → positions.asked row < board.pebbles
  asked_is row is =
      let at = All-contains (λ (r : RequestRow). IsConfiguration board r.at) rows row places is in
      let obeyed = All-contains (MeetsAnswers positions board rows) rows row obeys is in
      omega (arith, at.each_pebble, obeyed.asks)

  -- the table requests the pebble that the row for the places asks
  request_by_row : (row : RequestRow) (is : Contains rows row) (from : List ℕ) → row.at ≡ from
      → RequestsOver positions board rows from (positions.asked row)
  request_by_row row is from same = record {
    row = row;
    is_row = found_at row is from same;
    asks = λ i. positions.asked row;
    is_pebble = asked_is row is;
  }

  same_Some_row : (one other : RequestRow) → Some one ≡ Some other → one ≡ other
  same_Some_row one other same = cc

  -- a play from a row has at most as many answers as its number says, and ends at a row
  stops_each : (labels : List ℕ) (from to : List ℕ) (bound : ℕ) → IsListedBelow rows from bound
      → PlaysOver positions board rows from labels to
      → ((pebble : ℕ) × RequestsOver positions board rows to pebble) × (length labels < bound)
  stops_each [] from to bound listed leads =
      let low : listed.row.left < bound = listed.below in
      ((positions.asked listed.row, request_by_row listed.row listed.among to (listed.at ∙ leads)), omega arith)
  stops_each (label ∷ labels) from to bound listed leads =
      let obeyed = All-contains (MeetsAnswers positions board rows) rows listed.row obeys listed.among in
      let own = found_at listed.row listed.among from listed.at in
      let row : leads.1.row ≡ listed.row = same_Some_row leads.1.row listed.row (sym leads.1.is_row ∙ own) in
      let same : leads.0 ≡ positions.asked listed.row = sym leads.1.asks ∙ ap positions.asked row in
      let legal : Legal board listed.row.at (positions.asked listed.row) label =
      subst (λ p. Legal board listed.row.at p label) same
      (subst (λ c. Legal board c leads.0 label) (sym listed.at) leads.2) in
      let next = obeyed.each label legal in
      let rest : PlaysOver positions board rows
      (positions.normal (moved listed.row.at (positions.asked listed.row) label)) labels to =
      subst (λ p. PlaysOver positions board rows (positions.normal (moved listed.row.at p label)) labels to) same
      (subst (λ c. PlaysOver positions board rows (positions.normal (moved c leads.0 label)) labels to) (sym listed.at)
      leads.3) in
      let ends = stops_each labels (positions.normal (moved listed.row.at (positions.asked listed.row) label)) to
      listed.row.left next rest in
      let fewer : length labels < listed.row.left = ends.1 in
      let low : listed.row.left < bound = listed.below in
      (ends.0, omega arith)

  pub stops_below : (from : List ℕ) (number : ℕ) → IsListedBelow rows from (suc number)
      → StopsOver positions board rows number from
  stops_below from number listed = λ labels to leads.
      let ends = stops_each labels from to (suc number) listed leads in
      let bound : length labels < suc number = ends.1 in
      (ends.0, omega arith)
