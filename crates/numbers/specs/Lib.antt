pub mod Answers
pub mod Meaning
pub mod Reading
pub mod Telling
pub mod Writing
