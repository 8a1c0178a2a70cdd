-- What a resolver's state stands for, what each operation promises, the one claim about any list of calls, that examinings leave no trace, and that a count suffices.
pub mod State
pub mod Promises
pub mod WholeList
pub mod Examinings
pub mod Counting
