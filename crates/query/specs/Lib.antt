pub mod Queries
pub mod Readings
pub mod Answering
pub mod Meaning
pub mod Represented
pub mod Certain
pub mod Laws
pub mod Worked
