pub mod CompileAnswer
pub mod Compiling
