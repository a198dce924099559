pub mod Writing
pub mod Emission
