-- Cells: why a value's changes can be found.
-- The place of the last time ≤ t: it is monotone, and stays while no time is passed
pub mod Places
-- The clip time: on a stretch that passes no knot it goes by one line, and rises or falls
pub mod Knots
-- The direct reading: it goes by the active start and the place of the sample, which rises or falls
pub mod Direct
-- A window's gathered times: while none is passed, the start, the knots and the neighbours stay
pub mod Window
-- The value on a stretch that passes no boundary: held from the lower neighbour, or direct
pub mod Stretches
-- The cell that says the value on such a stretch
pub mod Cells
-- The end of a stretch: the least boundary above t
pub mod Ends
-- Both zeros are one time for every question
pub mod Zeros
-- The value as a function of the key, and the end of a cell
pub mod Keys
-- What holds of every source that a value can have
pub mod Sources
-- The sample that was read stands in the lent lists, and is of one clip a window
pub mod Readings
-- A value is a number or none
pub mod Numbers
-- The track over keys, written out, is the value's, and the only one
pub mod Tracks
-- The neighbours as extremes, in any order, and the cell by them
pub mod Neighbours
-- The inverse time in a segment is finite and monotone in the sample
pub mod Inverse
-- The times of a window are finite
pub mod WindowTimes
-- "Stage sample times are finite, strictly ascending, every start among them."
pub mod StageTimes
-- The neighbours in the sorted list without equals: the value by them is the same
pub mod InOrder
-- Cells that are computed
pub mod Figures
-- A set and samples as plain lists
pub mod Lent
