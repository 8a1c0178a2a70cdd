-- What is shown of the definitions of `beside`.
-- The neighbours of a time by candidates
pub mod Nearest
-- The times of an ascending list on either side of a time
pub mod Beside
-- The samples of a segment on either side of a time
pub mod CrossingLaws
