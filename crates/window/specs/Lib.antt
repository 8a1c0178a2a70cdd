-- What contracts cite.
-- The neighbours of a time among times in any order
pub mod Bounds
-- The inverse times of a clip's samples, segment by segment
pub mod Inverses
-- Where the inverse times between two knots lie
pub mod SoundSegments
-- A window's gathered times over the lent lists
pub mod Windows
-- A clip's part of the lent times, and what lists that are ready tell
pub mod Parts
pub mod search
pub mod nearest
