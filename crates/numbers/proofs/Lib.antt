pub mod Faults
pub mod Meant
pub mod Returning
pub mod Saying
pub mod Sound
pub mod Turns
