use Rattle.proof_check.proofs.PartedNumbers.{half}
use Rattle.proof_check.proofs.searched_numbers.part_of.Goals as goal

pub returns-clause-few : goal.returns-clause-few
returns-clause-few c = half c.args.number c.args.shift c.requires.0 c.ranges.number.fits
