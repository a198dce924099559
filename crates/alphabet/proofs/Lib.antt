pub mod ConstantScanLaws
pub mod RankLaws
pub mod RankedLaws
