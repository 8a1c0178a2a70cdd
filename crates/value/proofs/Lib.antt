-- What is shown of the definitions of `value`.
-- The value by the neighbours that were found
pub mod Values
-- What a source says, and that a sample that is read lies in the lists
pub mod Answers
-- The answer without a time
pub mod UntimedLaws
-- The jump test by the x of the knots, from a place down
pub mod Jumps
-- The clip time on a segment that holds the time
pub mod ClipTimes
-- What is handed on of a window
pub mod WindowOf
-- The neighbours along a run of samples in one segment
pub mod RunsFrom
