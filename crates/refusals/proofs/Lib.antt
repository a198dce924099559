pub mod CountRefusalLaws
pub mod JudgedLaws
