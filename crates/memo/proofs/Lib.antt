pub mod KeyLaws
pub mod RepresentLaws
pub mod MemoLaws
pub mod NodeWritingLaws
