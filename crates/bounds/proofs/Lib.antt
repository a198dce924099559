pub mod RunLaws
pub mod PairLaws
pub mod CoverLaws
pub mod ShapeLaws
pub mod ElementLaws
