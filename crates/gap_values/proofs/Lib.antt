pub mod Cited
mod ClosedBehind
mod ClosedGaps
mod ClosedParts
mod ClosingSteps
mod TellingSteps
mod Words
mod RoundSteps
mod TableSteps
mod ClassRounds
mod OpenCounts
pub mod BestAnswers
mod LeadingBelow
mod FirstGaps
mod Weighing
mod ClassCounts
mod UnclosedLabels
mod GapCounts
