pub mod Admitted
pub mod Below
pub mod Closing
pub mod Decidable
pub mod Homomorphisms
pub mod Kept
pub mod Maps
pub mod Members
pub mod Parts
pub mod Reading
pub mod Rows
pub mod Testing
pub mod Stored
pub mod Universal
mod Writing
