pub mod Attained
pub mod KeptLaws
pub mod NeverTooHigh
pub mod OutputLength
pub mod ProgramLaws
pub mod SourceExample
pub mod ReportedAnswerLaws
pub mod ReportLaws
