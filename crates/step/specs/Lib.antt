pub mod NodeSteppable
pub mod Node
