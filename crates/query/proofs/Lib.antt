pub mod Certainty
mod Admitted
mod Asking
pub mod Exact
mod Outcomes
mod Moved
mod Reading
pub mod Stored
pub mod Widths
pub mod Written
mod Worked
