-- Laws that the functions' proofs cite.
pub mod TokenLaws
pub mod NumberLaws
pub mod StateLaws
pub mod StepLaws
pub mod ReadingLaws
