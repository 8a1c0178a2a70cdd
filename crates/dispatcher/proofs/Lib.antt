-- The claim about any list of calls, from the operations' promises.
pub mod WholeList
