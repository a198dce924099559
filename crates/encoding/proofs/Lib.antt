pub mod ByteWritingLaws
pub mod DecimalLaws
pub mod WordByteLaws
