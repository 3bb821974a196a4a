pub mod CommandLine
pub mod Numbers
pub mod Given
pub mod OnWords
pub mod Faults
