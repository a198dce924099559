pub mod StateLaws
pub mod KnownConstants
pub mod AcceptedRuleLaws
pub mod EmittedLaws
pub mod TablePartLaws
pub mod FaultLaws
