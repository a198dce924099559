pub mod CopyLaws
pub mod MoveLaws
pub mod RefitLaws
