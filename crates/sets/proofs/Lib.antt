pub mod JoinLaws
pub mod CompareLaws
pub mod CellCountLaws
pub mod RowLaws
pub mod SizeLaws
pub mod StoredLaws
