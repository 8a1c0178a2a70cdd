-- What contracts cite.
-- Times in order, equals dropped, one after the other
pub mod Ordered
-- The window of a start with all samples of its clip
pub mod Whole
-- The stage sample times by the lists that decide them
pub mod Times
-- Where -0.0 comes from
pub mod MinusZero
-- The first of the times above another
pub mod First
-- Whether -0.0 is among the gathered times
pub mod Zeros
-- What is promised of lent output lists
pub mod Promises
-- The mark of a stage sample
pub mod Marks
