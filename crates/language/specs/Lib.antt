pub mod Expression
pub mod Membership
pub mod Reading
