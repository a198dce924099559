pub mod Tail
pub mod ExchangeAnswer
