mod CellsMemory
pub mod Fronts
mod PlacesMemory
mod PlacesSharing
pub mod Alike
pub mod Decided
pub mod Lanes
pub mod Rooms
pub mod Windows
