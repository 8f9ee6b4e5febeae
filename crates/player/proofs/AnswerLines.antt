-- The reply to the line of a person who answers.
use Rattle.std.proofs.Common.{◌≡◌, ◌≢◌, ℕ, suc, ◌+◌, ◌<◌, ◌≤◌, ◌⊎◌, ◌↔◌, Bool, true, false, not, List, ◌++◌, inl, inr}
use Rattle.std.proofs.Common.{refl, sym, ap, ◌∙◌, subst, arith, add-one, append_assoc}
use Rattle.std.specs.Prelude.{Option, None, Some, Result, Ok, Err, IfOk, IsSome}
use Rattle.std.specs.Option.{is_some}
use Rattle.std.specs.Fmt.{decimal}
use Rattle.std.proofs.lemmas.Fmt.{decimal_injective}
use Rattle.board_text.specs.Domination.{has_bit}
use Rattle.board_text.specs.PlainBoard.{PlainBoard}
use Rattle.board_text.specs.declared.board.TheConstants.{MAX_LABELS}
use Rattle.positions.specs.Counts.{IsSmallest}
use Rattle.positions.specs.Game.{Legal, moved}
use Rattle.positions.specs.Value.{HasValue}
use Rattle.positions.specs.declared.value.Value.{Value}
use Rattle.positions.specs.declared.value.Value.TheVariants.{Finite, Forever}
use Rattle.positions.proofs.Cited.{each_or_some, dominates_or_not, same_value}
use Rattle.strategies.specs.Best.{HasGreatestResult, HasSmallerValue, IsLess, IsBestRequest}
use Rattle.strategies.proofs.Cited.{best_request, same_request}
use Rattle.player.specs.Transcript.{Standing, Going, Over, PersonAnswers, BeginsPlay, Asks, AsksAfterLine}
use Rattle.player.specs.Transcript.{opening_lines, at_line, ask_line}
use Rattle.player.specs.Transcript.{stuck_line, no_strategy_line, no_answer_line, stopped_line}
use Rattle.player.specs.Inside.Steps.{IsResponseToMeaning, AddsText}
use Rattle.player.specs.Inside.PlayState.{PlayState, IsLegalAt, IsRequestAt, HasAsked, IsStandingAfter}
use Rattle.player.specs.declared.line_meaning.LineMeaning.TheVariants.{Number, Quit, Other}
use Rattle.player.specs.declared.end.PlayEnd.{PlayEnd}
use Rattle.player.specs.declared.end.PlayEnd.TheVariants.{Stuck, Stopped, NoStrategy}
use Rattle.player.specs.declared.labeller_side.Next.{Next}
use Rattle.player.specs.declared.labeller_side.Next.TheVariants as next
use Rattle.player.specs.declared.labeller_side.Request.{Request}
use Rattle.player.proofs.RequestLines.{no_quit}

none_if : (answer : Option ℕ) (is_none : Bool) → is_some answer ≡ not is_none → is_none ≡ true → answer ≡ None
none_if None is_none tells is = refl
none_if (Some label) is_none tells is = let same : true ≡ false = tells ∙ ap not is in absurd cc

some_if : (answer : Option ℕ) (is_none : Bool) → is_some answer ≡ not is_none → is_none ≡ false → answer ≢ None
some_if (Some label) is_none tells is = λ same. cc
some_if None is_none tells is = let same : false ≡ true = tells ∙ ap not is in absurd cc

-- ---- the request at a configuration

module _ (board : PlainBoard) (configuration : List ℕ) where
  -- after a best request the value is finite
  pub finite_after : (pebble label : ℕ) → IsBestRequest board configuration pebble
      → Legal board configuration pebble label
      → (number : ℕ) × HasValue board (moved configuration pebble label) (Finite number)
  finite_after pebble label best legal = finite (best.0.lowers label legal)
    where
      of_less : (smaller greater : Value) → IsLess smaller greater
          → HasValue board (moved configuration pebble label) smaller
          → (number : ℕ) × HasValue board (moved configuration pebble label) (Finite number)
      of_less (Finite number) greater less has = (number, has)
      of_less Forever greater less has = absurd less

      finite : HasSmallerValue board (moved configuration pebble label) configuration
          → (number : ℕ) × HasValue board (moved configuration pebble label) (Finite number)
      finite h = of_less h.smaller h.greater h.less h.of_first

  pub some_legal_or_none : (pebble : ℕ) → ((label : ℕ) × Legal board configuration pebble label)
      ⊎ ((label : ℕ) → Legal board configuration pebble label → ⊥)
  some_legal_or_none pebble =
      elim (each_or_some (λ label. Legal board configuration pebble label → ⊥)
      (λ label. Legal board configuration pebble label) board.labels (λ label inside.
      elim (dominates_or_not board configuration pebble label) [
        | inl dominates ↦ inr (record { is_label = inside; dominates = dominates })
        | inr not ↦ inl (λ legal. not legal.dominates)
      ])) [
        | inl none ↦ inr (λ label legal. none label legal.is_label legal)
        | inr some ↦ inl (some.0, some.2)
      ]

  -- the best request and the best answer to it are the request at the configuration
  pub request_is : (pebble : ℕ) (answer : Option ℕ) (is_stuck : Bool) → IsBestRequest board configuration pebble
      → IsSmallest (HasGreatestResult board configuration pebble) answer
      → (answer ≡ None) ↔ ((label : ℕ) → Legal board configuration pebble label → ⊥) → is_some answer ≡ not is_stuck
      → IsRequestAt board configuration (record { pebble = pebble; is_stuck = is_stuck })
  request_is pebble answer is_stuck best smallest none tells =
      record {
        best = best;
        stuck = λ is. none.0 (none_if answer is_stuck tells is);
        free = λ is. some answer smallest (some_if answer is_stuck tells is);
      }
    where
      some : (answer : Option ℕ) → IsSmallest (HasGreatestResult board configuration pebble) answer → answer ≢ None
          → (label : ℕ) × Legal board configuration pebble label
      some (Some label) smallest free = (label, smallest.0.legal)
      some None smallest free = absurd (free refl)

  -- a text that asks for the pebble asks for the request there
  pub asks_on : (request : Request) (requests : ℕ) (pebble : ℕ) (said : List ℕ)
      → IsRequestAt board configuration request → HasAsked request requests (next.Asks pebble) said
      → Asks board configuration requests said (Going configuration requests)
  asks_on request requests pebble said is asked = (request.pebble, is.best, inl (is.free asked.0, asked.2, refl))

  pub asks_last : (request : Request) (requests : ℕ) (end : PlayEnd) (said : List ℕ)
      → IsRequestAt board configuration request → HasAsked request requests (next.Ends end) said
      → Asks board configuration requests said (Over end)
  asks_last request requests end said is asked =
      (request.pebble, is.best, inr (is.stuck asked.0, asked.2, ap Over asked.1))

  -- a text that asks for the request, and the state of the play after it
  pub record HasRequest (requests : ℕ) : Type 0 where
    pub said : List ℕ
    pub to : Standing
    pub asks : Asks board configuration requests said to

  pub has_request : (number requests : ℕ) → HasValue board configuration (Finite number) → HasRequest requests
  has_request number requests has =
      let best = best_request board number configuration has in
      elim (some_legal_or_none best.0) [
        | inl some ↦ record {
          said = ask_line best.0;
          to = Going configuration requests;
          asks = (best.0, best.1, inl (some, refl, refl));
        }
        | inr none ↦ record {
          said = ask_line best.0 ++ stuck_line best.0 requests;
          to = Over (Stuck requests);
          asks = (best.0, best.1, inr (none, refl, refl));
        }
      ]

-- ---- at a seat

module _ (inside seat : PlayState) (same : inside ≡ seat) where
  pub legal_at : (asked label : ℕ) → IsBestRequest inside.board inside.at asked
      → Legal inside.board inside.at asked label → IsLegalAt seat label
  legal_at asked label best legal = subst (λ (s : PlayState). IsLegalAt s label) same (asked, best, legal)

  -- a legal label is legal for the pebble that is asked for
  pub legal_there : (asked label : ℕ) → IsBestRequest inside.board inside.at asked → IsLegalAt seat label
      → Legal inside.board inside.at asked label
  legal_there asked label best legal =
      let there : IsLegalAt inside label = subst (λ (s : PlayState). IsLegalAt s label) (sym same) legal in
      subst (λ p. Legal inside.board inside.at p label)
      (same_request inside.board inside.at there.0 asked there.1 best) there.2

  -- the bits of the labels that are legal
  pub legal_bits : (space : PlainBoard) (held : List ℕ) (asked : ℕ) (bits : List ℕ) → space ≡ inside.board
      → held ≡ inside.at → IsBestRequest inside.board inside.at asked
      → ((label : ℕ) → label < MAX_LABELS → (has_bit bits label ≡ true) ↔ Legal space held asked label)
      → (label : ℕ) → label < MAX_LABELS → (has_bit bits label ≡ true) ↔ IsLegalAt seat label
  legal_bits space held asked bits of_board of_places best each label low =
      let there : (has_bit bits label ≡ true) ↔ Legal inside.board inside.at asked label =
      subst (λ (b : PlainBoard). (has_bit bits label ≡ true) ↔ Legal b inside.at asked label) of_board
      (subst (λ (c : List ℕ). (has_bit bits label ≡ true) ↔ Legal space c asked label) of_places (each label low)) in (
        λ is. legal_at asked label best (there.0 is),
        λ at. there.1 (legal_there asked label best at),
      )

  -- the pebble was put on the label, and the text of the next request was written
  pub put_said : (space : PlainBoard) (asked label : ℕ) (after written old middle new said : List ℕ)
      (standing : Standing)
      → space ≡ inside.board → IsBestRequest inside.board inside.at asked → Legal inside.board inside.at asked label
      → after ≡ moved inside.at asked label → written ≡ after → middle ≡ old ++ at_line space written
      → new ≡ middle ++ said
      → Asks inside.board after (inside.requests + 1) said standing
      → AddsText old new (λ said. (line : List ℕ) → line ≡ decimal label
      → AsksAfterLine seat.board seat.at seat.requests line said standing)
  put_said space asked label after written old middle new said standing of_board best legal there same_places moved_line
      whole asks =
      let text : new ≡ old ++ (at_line space written ++ said) =
      whole ∙ ap (λ (l : List ℕ). l ++ said) moved_line ∙ append_assoc old (at_line space written) said in
      let next : Asks inside.board (moved inside.at asked label) (suc inside.requests) said standing =
      subst (λ (c : List ℕ). Asks inside.board c (suc inside.requests) said standing) there (rw add-one at asks) in
      subst (λ (s : PlayState). AddsText old new
      (λ said. (line : List ℕ) → line ≡ decimal label
      → AsksAfterLine s.board s.at s.requests line said standing)) same (
        at_line space written ++ said,
        text,
        λ line spelled. inl (
          asked,
          label,
          said,
          (best, legal, spelled),
          next,
          ap (λ (b : PlainBoard). at_line b written ++ said) of_board
              ∙ ap (λ (c : List ℕ). at_line inside.board c ++ said) (same_places ∙ there),
        ),
      )

-- ---- other lines

module _ (seat : PlayState) where
  pub stop_asked : IsResponseToMeaning (PersonAnswers seat.board) (Going seat.at seat.requests) Quit
      (stopped_line seat.requests) (Over (Stopped seat.requests))
  stop_asked line spells = inr (inl (spells, refl, refl))

  pub no_legal_number : (number : ℕ) → seat.board.labels ≤ MAX_LABELS
      → ((IsLegalAt seat number → ⊥) ⊎ (seat.board.labels ≤ number))
      → IsResponseToMeaning (PersonAnswers seat.board) (Going seat.at seat.requests) (Number number) no_answer_line
      (Going seat.at seat.requests)
  no_legal_number number few none line spells =
      inr (inr (
        (
          λ same. no_quit number spells.0 (sym spells.1 ∙ same),
          λ pebble label legal.
              let equal : number ≡ label = decimal_injective number label (omega (arith, spells.0))
              (omega (arith, legal.1.is_label, few)) (sym spells.1 ∙ legal.2) in
              elim none [
                | inl not ↦ not (subst (IsLegalAt seat) (sym equal) (pebble, legal.0, legal.1))
                | inr outside ↦ omega (arith, outside, equal, legal.1.is_label)
              ],
        ),
        refl,
        refl,
      ))

  pub no_label : (blank : Bool) → seat.board.labels ≤ MAX_LABELS
      → IsResponseToMeaning (PersonAnswers seat.board) (Going seat.at seat.requests) (Other blank) no_answer_line
      (Going seat.at seat.requests)
  no_label blank few line spells = inr
      (inr (
        (spells.0, λ pebble label legal. spells.1 label (omega (arith, legal.1.is_label, few)) legal.2),
        refl,
        refl,
      ))

-- a text with one property has each property that follows from it
pub says_all : {E : Type 0} (result : Result (Option PlayEnd) E) (old new : List ℕ)
    (P Q : Option PlayEnd → List ℕ → Type 0)
    → IfOk result (λ end. AddsText old new (P end))
    → ((end : Option PlayEnd) (said : List ℕ) → P end said → Q end said) → IfOk result (λ end. AddsText old new (Q end))
says_all (Ok end) old new P Q said all = (said.0, said.1, all end said.0 said.2)
says_all (Err fault) old new P Q said all = tt

-- ---- the opening

-- at a finite value there is a request
pub some_request : (board : PlainBoard) (configuration : List ℕ) (number : ℕ) (request : Option ℕ)
    → HasValue board configuration (Finite number)
    → (request ≡ None → HasValue board configuration Forever) → IsSome request
some_request board configuration number (Some pebble) has none = refl
some_request board configuration number None has none =
    let same : Finite number ≡ Forever = same_value board configuration (Finite number) Forever has (none refl) in
    absurd cc

-- from a finite value the opening has the first request
pub opens_with : (space board : PlainBoard) (number : ℕ) (following : Next) (request : Request)
    (old middle new : List ℕ)
    → space ≡ board → HasValue board board.start (Finite number) → IsRequestAt board board.start request
    → middle ≡ old ++ opening_lines space (Finite number) space.start
    → AddsText middle new (HasAsked request 0 following)
    → AddsText old new (λ said. (to : Standing) × BeginsPlay (PersonAnswers board) said to
    × IsStandingAfter board board.start 0 following to)
opens_with space board number following request old middle new of_board has is_request first asked =
    let opening : middle ≡ old ++ opening_lines board (Finite number) board.start =
    subst (λ (b : PlainBoard). middle ≡ old ++ opening_lines b (Finite number) b.start) of_board first in
    by following asked.2
    (asked.1 ∙ ap (λ (l : List ℕ). l ++ asked.0) opening
    ∙ append_assoc old (opening_lines board (Finite number) board.start) asked.0)
  where
    opened : (asked_text : List ℕ) (to : Standing) → Asks board board.start 0 asked_text to
        → BeginsPlay (PersonAnswers board) (opening_lines board (Finite number) board.start ++ asked_text) to
    opened asked_text to asks = inr (number, asked_text, has, refl, asks)

    by : (following : Next) → HasAsked request 0 following asked.0
        → new ≡ old ++ (opening_lines board (Finite number) board.start ++ asked.0)
        → AddsText old new (λ said. (to : Standing) × BeginsPlay (PersonAnswers board) said to
        × IsStandingAfter board board.start 0 following to)
    by (next.Asks pebble) h text = (
      opening_lines board (Finite number) board.start ++ asked.0,
      text,
      (
        Going board.start 0,
        opened asked.0 (Going board.start 0) (asks_on board board.start request 0 pebble asked.0 is_request h),
        (subst (IsBestRequest board board.start) (sym h.1) is_request.best, refl),
      ),
    )
    by (next.Ends end) h text = (
      opening_lines board (Finite number) board.start ++ asked.0,
      text,
      (Over end, opened asked.0 (Over end) (asks_last board board.start request 0 end asked.0 is_request h), refl),
    )

-- from a value of forever the opening says that there is no strategy
pub opens_without : (space board : PlainBoard) (old middle new : List ℕ) → space ≡ board
    → HasValue board board.start Forever
    → middle ≡ old ++ opening_lines space Forever space.start → new ≡ middle ++ no_strategy_line
    → AddsText old new (λ said. (to : Standing) × BeginsPlay (PersonAnswers board) said to
    × IsStandingAfter board board.start 0 (next.Ends NoStrategy) to)
opens_without space board old middle new of_board has first last = (
  opening_lines board Forever board.start ++ no_strategy_line,
  last ∙ ap (λ (l : List ℕ). l ++ no_strategy_line)
      (subst (λ (b : PlainBoard). middle ≡ old ++ opening_lines b Forever b.start) of_board first)
      ∙ append_assoc old (opening_lines board Forever board.start) no_strategy_line,
  (Over NoStrategy, inl (has, refl, refl), refl),
)

-- a text that opens the play, and the state of the play after it
pub record HasOpening (board : PlainBoard) : Type 0 where
  pub said : List ℕ
  pub to : Standing
  pub opens : BeginsPlay (PersonAnswers board) said to

pub has_opening : (board : PlainBoard) (value : Value) → HasValue board board.start value → HasOpening board
has_opening board Forever has =
    record {
      said = opening_lines board Forever board.start ++ no_strategy_line;
      to = Over NoStrategy;
      opens = inl (has, refl, refl);
    }
has_opening board (Finite number) has =
    let asked = has_request board board.start number 0 has in
    record {
      said = opening_lines board (Finite number) board.start ++ asked.said;
      to = asked.to;
      opens = inr (number, asked.said, has, refl, asked.asks);
    }
