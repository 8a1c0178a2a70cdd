-- Laws that belong to no one function.
pub mod PatternLaws
pub mod MagnitudeLaws
pub mod RoundingLaws
pub mod PutLaws
pub mod DigitLaws
pub mod BodyLaws
pub mod LengthLaws
pub mod NameLaws
