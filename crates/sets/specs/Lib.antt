pub mod Size
pub mod Joined
pub mod Copyable
