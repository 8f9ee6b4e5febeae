-- The lemmas that crates above cite, passed on from one place. Declares nothing.
pub use Rattle.console.proofs.Fronts.{Appends-none, front_behind}
pub use Rattle.console.proofs.MoreTexts.{if_there, none_more, then_more, then_shown}
pub use Rattle.console.proofs.ShownTexts.{plain_both, plain_if_shown}
pub use Rattle.console.proofs.ToldSteps.{none_told, nothing_told, told_lines, told_more}
