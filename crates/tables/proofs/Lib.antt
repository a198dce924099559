pub mod CheckLaws
pub mod TableScanLaws
