pub mod InputReading
