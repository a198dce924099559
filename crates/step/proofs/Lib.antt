pub mod SourceSetLaws
pub mod SymbolLaws
pub mod NodeStepLaws
