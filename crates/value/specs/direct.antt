-- What contracts cite.
-- A clip's held reading over the lent lists, and the search for a missing value
pub mod Reads
-- The direct value case by case
pub mod Sources
