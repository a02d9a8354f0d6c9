pub mod Tested
pub mod Tgds
pub mod Pulled
pub mod Implying
pub mod TwoStages
pub mod Homomorphisms
pub mod Cores
pub mod Onto
pub mod Retracts
pub mod Reduced
mod Freezing
mod Judging
mod Asking
mod Removing
mod Reducing
mod Examples
pub mod Staged
pub mod StagedMoves
mod Mapped
mod Extended
mod Blocked
mod Thinned
mod Once
mod Written
mod Positions
mod Held
