pub mod InputReadingLaws
pub mod PrintedLaws
