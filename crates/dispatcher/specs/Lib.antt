-- The claim about any list of calls.
pub mod WholeList
