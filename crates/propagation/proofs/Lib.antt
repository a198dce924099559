pub mod PropagateNodeLaws
pub mod ProgressLaws
