pub mod TotalsIn
pub mod Sum
pub mod Room
pub mod Place
pub mod Countable
pub mod Replaceable
pub mod Listed
