-- The set that answers is the first in the order in force that qualifies; what demand 3 asks of a bake, from the bake's promise; a value is absent only if no set qualifies; no call is given 21, no question 20. The figures of several sets, computed from the definitions.
pub mod Answering
pub mod Due
pub mod AbsentOnly
mod DispatchFigures
pub mod DispatchNumbers
