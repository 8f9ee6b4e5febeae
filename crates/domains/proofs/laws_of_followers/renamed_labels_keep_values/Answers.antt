use Rattle.domains.proofs.Embedded.{renamed_worth}
use Rattle.domains.proofs.laws_of_followers.renamed_labels_keep_values.Goals as goal

pub returns : goal.returns
returns c = λ board renamed to back configuration other renaming.
    renamed_worth board renamed to back renaming configuration other
