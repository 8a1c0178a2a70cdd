-- What contracts cite.
-- A cell and its end
pub mod CellAndEnd
-- The end of a cell by its key
pub mod EndKeys
-- The place of a walk
pub mod WindowPlaces
pub mod step
