pub mod Costs
pub mod Lines
pub mod Parted
pub mod Spaces
