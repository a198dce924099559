pub mod HeightStack
pub mod SpanAnswer
