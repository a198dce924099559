pub mod Updating
