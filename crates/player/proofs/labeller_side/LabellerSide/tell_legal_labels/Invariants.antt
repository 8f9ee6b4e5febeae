use Rattle.std.proofs.Common.{◌≡◌, ◌≤◌, ℕ, List, length, take}
use Rattle.board_text.specs.LineForms.{spaced_numbers}
use Rattle.player.specs.Inside.PlayState.{IsLegalAt}
use Rattle.console.specs.Showing.{HasNoControl, IsMore}
use Rattle.player.specs.declared.prompts.TheConstants.{MOST_LISTED}
use Rattle.player.proofs.ListedLabels.{AreListed}
use Rattle.player.proofs.labeller_side.LabellerSide.tell_legal_labels.Given as goal

abbrev pub invariant-loop-label : goal.invariant-loop-label
invariant-loop-label g l = record {
  labels : List ℕ;
  listed : AreListed (IsLegalAt l.self) l.label labels;
  count : length labels ≡ l.count;
  few : l.count ≤ l.label;
  told : IsMore g.E.Sink.contents g.E.Sink.has_failed l.fn.errors l.errors (spaced_numbers (take MOST_LISTED labels));
  plain : HasNoControl (spaced_numbers (take MOST_LISTED labels));
}
