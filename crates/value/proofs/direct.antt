-- What is shown of the definitions of `direct`.
-- A clip's held reading over the lent lists, and the search for a missing value
pub mod ReadsLaws
-- The direct value case by case
pub mod Sources
