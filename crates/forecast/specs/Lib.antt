pub mod ChangeIn
pub mod Room
pub mod Pile
pub mod Sum
pub mod Tree
pub mod Behind
