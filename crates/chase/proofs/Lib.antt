pub mod Finite
pub mod Variables
pub mod Positions
pub mod Skolem
pub mod Named
pub mod Fired
pub mod Merged
pub mod Counted
pub mod Limited
pub mod Raising
pub mod Gaps
pub mod Noted
pub mod Edges
mod Listing
pub mod Ended
pub mod Chasing
pub mod Halted
pub mod Least
mod Answered
pub mod Decided
mod Examples
pub mod Loading
mod Meant
pub mod Moved
pub mod Worked
