pub mod UpdateLaws
