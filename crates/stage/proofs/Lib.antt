-- What is shown of the definitions of `stage`.
-- Times in order, equals dropped, one after the other
pub mod Ordered
-- The window of a start with all samples of its clip
pub mod Whole
-- The stage sample times by the lists that decide them
pub mod Times
-- Where -0.0 comes from
pub mod MinusZero
-- The first of the times above another
pub mod First
-- Whether -0.0 is among the gathered times
pub mod Zeros
-- The next stage sample time by the active window and what is behind it
pub mod Around
-- Accepted lists by the set and the samples that they are
pub mod Accepted
-- Entries written to the front of a lent list one after the other
pub mod Writing
-- The mark of a stage sample
pub mod Marks
-- The stage samples written out
pub mod Samples
