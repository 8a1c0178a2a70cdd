-- What the proofs of src/ share.
pub mod Tests
pub mod FieldsOf
pub mod SignCleared
pub mod Fields
pub mod ClassArms
pub mod ClassFigures
pub mod TotalFigures
pub mod Fraction
pub mod Units
pub mod Ops
pub mod Rank
pub mod KeyLaws
pub mod TotalOrderLaws
pub mod NumbersInOrder
pub mod Exactly
pub mod LerpLaws
pub mod ClipNumbers
