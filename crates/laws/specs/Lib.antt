-- The words of contracts on lists, sets, cells and tracks.
pub mod cell
pub mod set
pub mod list
pub mod track
-- What docs/VALUE-CLIPS.md claims of the definitions
pub mod Facts
