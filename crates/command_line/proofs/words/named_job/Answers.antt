use Rattle.std.proofs.Common.{◌∙◌, ap, sym, refl, true≢false}
use Rattle.clap.specs.Walk.{texts}
use Rattle.command_line.specs.Inside.Reading.{is_read}
use Rattle.command_line.proofs.FaultsTaken.{faults_or_taken}
use Rattle.command_line.proofs.ShownKinds.{shown}
use Rattle.command_line.proofs.TakenWords.{taken}
use Rattle.command_line.proofs.words.named_job.Goals as goal

pub returns-in-Err-clause-takes : goal.returns-in-Err-clause-takes
returns-in-Err-clause-takes c = λ e.
    c.fault.ensures.memory (c.in-Err.ensures.passes (c.in_ok-command.ensures.takes (texts c.args.words.now) ∙ e))

pub returns-clause-takes : goal.returns-clause-takes
returns-clause-takes c = λ e.
    let found = c.in-Ok.ensures.ok.2 c.in_ok-command.ensures.simple in
    let read = found.1 ∙ c.in_ok-command.ensures.reads (texts c.args.words.now) in
    absurd (true≢false (sym (taken (texts c.args.words.now) e) ∙ (ap is_read (sym read) ∙ c.in-None.ensures.none refl)))

pub returns-in-Err-clause-shows : goal.returns-in-Err-clause-shows
returns-in-Err-clause-shows c =
    let words = texts c.args.words.now in
    let has = rw (c.in_ok-command.ensures.faults words) at (c.in-Err.ensures.kinds c.in_ok-command.ensures.free) in
    shown words _ c.fault.result c.fault.ensures.memory c.fault.ensures.shows has

-- clap takes words in which it finds no fault, and then there is a job
pub returns-clause-shows : goal.returns-clause-shows
returns-clause-shows c =
    let words = texts c.args.words.now in
    let none = rw (c.in_ok-command.ensures.faults words) at (c.in-Ok.ensures.kinds c.in_ok-command.ensures.free) in
    let found = c.in-Ok.ensures.ok.2 c.in_ok-command.ensures.simple in
    let read = found.1 ∙ c.in_ok-command.ensures.reads words in
    absurd
    (true≢false
    (sym (taken words ((faults_or_taken words).0 none)) ∙ (ap is_read (sym read) ∙ c.in-None.ensures.none refl)))
