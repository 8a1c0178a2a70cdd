-- What contracts cite.
-- The span of keys in one cell
pub mod Runs
-- The steps of a walk
pub mod Steps
-- The cell of a window without knots
pub mod Knotless
-- The changes of the value
pub mod Changes
