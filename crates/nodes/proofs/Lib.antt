pub mod LoopLaws
pub mod MarkedSets
pub mod MarkLaws
pub mod WorkableLaws
pub mod RootStackLaws
pub mod NodeLaws
pub mod NodeLoopLaws
