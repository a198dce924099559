pub mod Decimal
pub mod ByteWriting
pub mod Words
