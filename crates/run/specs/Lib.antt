-- What contracts cite.
-- A clip's samples read along a line
pub mod Readings
-- A run of samples passed in one segment
pub mod Runs
-- A walk that writes changes while there are slots
pub mod Walks
pub mod begin
