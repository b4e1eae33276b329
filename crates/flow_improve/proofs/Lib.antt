mod EntrySteps
mod BoundSteps
