use Rattle.std.proofs.Common.{◌<◌, ◌∙◌, ◌+◌, ◌++◌, ◌∷◌, [], ap, arith, length, refl, subst, sym, take}
use Rattle.std.proofs.lemmas.List.{length_push}
use Rattle.board_text.specs.LineForms.{spaced_numbers}
use Rattle.board_text.specs.declared.board.TheConstants.{MAX_LABELS}
use Rattle.console.specs.Showing.{HasNoControl, IsMore, shown}
use Rattle.player.specs.Prompts.{count_words}
use Rattle.player.specs.declared.prompts.TheConstants.{MOST_LISTED}
use Rattle.player.specs.Inside.PlayState.{IsLegalAt}
use Rattle.player.proofs.ListedLabels.{all_listed, none_listed, none_more, one_more, plain_listed, told_listed}
use Rattle.console.proofs.Cited.{none_more as nothing_more, plain_both, then_more}
use Rattle.player.proofs.labeller_side.LabellerSide.tell_legal_labels.Goals as goal
use Rattle.player.proofs.labeller_side.LabellerSide.tell_legal_labels.Goals.{else-contains, then-contains}

pub loop-label-init : goal.loop-label-init
unfolding shown
loop-label-init g c = record {
  labels = [];
  listed = none_listed (IsLegalAt c.args.self.now);
  count = refl;
  few = omega arith;
  told = nothing_more g.E.Sink.contents g.E.Sink.has_failed c.args.errors.now;
  plain = refl;
}

pub contains-requires : goal.contains-requires
contains-requires g c = omega (
  arith,
  c.loop-label-test.true,
  c.labels-label-end.ensures.value,
  c.labels-label-end.ensures.is_board.labels.1,
)

pub loop-label-preserved : goal.loop-label-preserved
loop-label-preserved g c =
    let i = c.loop-label.invariant in
    let label = c.loop-label.label in
    let Has = IsLegalAt c.args.self.now in
    let low : label < MAX_LABELS = omega (
      arith,
      c.loop-label-test.true,
      c.labels-label-end.ensures.value,
      c.labels-label-end.ensures.is_board.labels.1,
    ) in
    let known = g.E.Sink.contents in
    let failed = g.E.Sink.has_failed in
    elim c.if-contains.branch [
      | then-contains w ↦ record {
        labels = i.labels ++ label ∷ [];
        listed = one_more Has label i.labels i.listed
            ((c.legal-legal.ensures label low).0 (sym c.contains.ensures ∙ w.if-contains.true));
        count = length_push i.labels label ∙ ap (λ n. n + 1) i.count ∙ sym w.count-is;
        few = omega (arith, i.few, w.count-is);
        told = subst (λ e. IsMore known failed c.args.errors.now e (spaced_numbers (take MOST_LISTED (i.labels ++ label
            ∷ [])))) (sym w.errors-is)
            (told_listed known failed c.args.errors.now c.loop-label.errors w.tell_label.new.errors i.labels
            c.loop-label.count label i.count i.told w.tell_label.ensures.words);
        plain = plain_listed i.labels c.loop-label.count label i.count i.plain w.tell_label.ensures.plain;
      }
      | else-contains w ↦ record {
        labels = i.labels;
        listed = none_more Has label i.labels i.listed
            (λ has. let legal = (c.legal-legal.ensures label low).1 has in cc);
        count = i.count ∙ sym w.count-is;
        few = omega (arith, i.few, w.count-is);
        told = subst (λ e. IsMore known failed c.args.errors.now e (spaced_numbers (take MOST_LISTED i.labels)))
            (sym w.errors-is) i.told;
        plain = i.plain;
      }
    ]

pub returns : goal.returns
unfolding shown
returns g c =
    let i = c.loop-label.invariant in
    let of_seat = c.board.ensures ∙ ap (λ s. s.board) c.self.view_is in
    let labels = spaced_numbers (take MOST_LISTED i.labels) in
    let known = g.E.Sink.contents in
    let failed = g.E.Sink.has_failed in
    let told = subst (λ n. IsMore known failed c.loop-label.errors c.tell_count.new.errors (count_words n))
    (sym i.count) c.tell_count.ensures.words in (
      i.labels,
      (
        i.listed.ascending,
        all_listed (IsLegalAt c.args.self.now) c.loop-label.label i.labels i.listed
            (λ x has. omega (
              arith,
              has.2.is_label,
              c.loop-label-test.false,
              c.labels-label-end.ensures.value,
              ap (λ b. b.labels) of_seat,
            )),
      ),
      then_more known failed c.args.errors.now c.loop-label.errors c.tell_count.new.errors labels
          (count_words (length i.labels)) i.told told,
      plain_both labels (count_words (length i.labels)) i.plain
          (subst (λ n. HasNoControl (count_words n)) (sym i.count) c.tell_count.ensures.plain),
    )
