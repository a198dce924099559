pub mod ChapterLaws
pub mod SpanLaws
pub mod HeightStackLaws
