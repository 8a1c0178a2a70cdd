-- What contracts cite.
-- Where a run of samples begins
pub mod Begins
