-- What contracts cite.
-- How far the inverse times of the segments reach
pub mod Latest
-- The inverse times of all segments by those near a time
pub mod Reaches
-- A window as it is handed on
pub mod Windowed
