use Rattle.std.proofs.Common.{refl, sym, arith}
use Rattle.board_text.proofs.Cited.{labels_and_places}
use Rattle.positions.proofs.Cited.{rank_of-configuration_at}
use Rattle.proof_text.specs.Inside.Rows.{adversary_reading}
use Rattle.proof_text.proofs.RowLemmas.{RequestTaken, ranked_request, request_label, request_number}
use Rattle.proof_text.proofs.RowLemmas.{request_pebble, request_taken, row_next, row_early}
use Rattle.proof_text.proofs.ranked_rows.AdversaryRowRowSpace.read.Goals as goal
use Rattle.proof_text.proofs.ranked_rows.AdversaryRowRowSpace.read.Goals.{In-Some}

-- the words of the row
words_of : (c : In-Some)
    → RequestTaken c.args.space.now c.in-Some.values c.request_words.new.at c.args.text.now c.request_words.new.text
words_of c =
    request_taken c.args.space.now c.pebbles-pebbles.ensures.value c.labels.ensures.value c.places.ensures.value
    c.in-Some.ensures

pub request_words-requires-clause-places : goal.request_words-requires-clause-places
request_words-requires-clause-places c =
    let both = labels_and_places c.args.space.now in (
      omega (arith, both.0, c.labels.ensures.value, c.places.ensures.value),
      omega (arith, both.1, c.labels.ensures.value, c.places.ensures.value),
    )

pub returns-then-not-values : goal.returns-then-not-values
returns-then-not-values c =
    request_label (words_of (goal.at.returns-then-not-values c).In-Some) c.if-not-values.true

pub returns-in_default-ask : goal.returns-in_default-ask
returns-in_default-ask c =
    request_pebble (words_of (goal.at.returns-in_default-ask c).In-Some) c.if-not-values.false c.in_default-ask.is

pub returns-in_default-left : goal.returns-in_default-left
returns-in_default-left c =
    request_number (words_of (goal.at.returns-in_default-left c).In-Some) c.if-not-values.false c.in-Some-ask.ask
    c.in-Some-ask.is c.in_default-left.is

pub returns-then-number-least : goal.returns-then-number-least
returns-then-number-least c =
    let taken = words_of (goal.at.returns-then-number-least c).In-Some in
    let rank = c.rank-rank.result in
    let read = ranked_request taken c.if-not-values.false c.in-Some-ask.ask c.in-Some-ask.is c.args._claim
    c.in-Some-left.left _ rank c.in-Some-left.is c.pebbles-pebbles.ensures.value
    c.rank-rank.ensures.rank in
    row_early (adversary_reading c.args.space.now c.args._claim) c.args.least.now read _ refl rank
    (sym (rank_of-configuration_at c.args.space.now rank c.rank-rank.ensures.below)) c.if-number-least.true

pub returns : goal.returns
returns c =
    let taken = words_of (goal.at.returns c).In-Some in
    let rank = c.rank-rank.result in
    let read = ranked_request taken c.if-not-values.false c.in-Some-ask.ask c.in-Some-ask.is c.args._claim
    c.in-Some-left.left _ rank c.in-Some-left.is c.pebbles-pebbles.ensures.value
    c.rank-rank.ensures.rank in
    row_next (adversary_reading c.args.space.now c.args._claim) c.args.least.now read _ refl rank
    (sym (rank_of-configuration_at c.args.space.now rank c.rank-rank.ensures.below)) refl tt
    (omega (arith, c.rank-rank.ensures.below, c.pebbles-pebbles.ensures.few)) c.if-number-least.false
