pub mod Nodes
pub mod Marking
