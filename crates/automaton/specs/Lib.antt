pub mod Transition
pub mod Numbering
pub mod Table
pub mod StateSet
pub mod Reached
