use Rattle.std.proofs.Common.{List, ℕ, ◌++◌, ap, refl, ◌∙◌}
use Rattle.board_text.specs.BoardText.{version_line}
use Rattle.board_text.proofs.parsing.read_head.Goals as goal

pub returns-in_default-number_line-2 : goal.returns-in_default-number_line-2
returns-in_default-number_line-2 c =
    let version = c.in-Some in
    let labels = c.in-Some-number_line in
    rw c.at-in_default-number_line-2.ensures (
      refl,
      version.version,
      labels.labels,
      c.number_line-2.new.self,
      version.ensures.0,
      labels.ensures.0,
      version.ensures.1 ∙ ap (λ (t : List ℕ). version_line version.version ++ t) labels.ensures.1,
      c.in_default-number_line-2.ensures,
    )
