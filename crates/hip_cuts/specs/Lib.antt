pub mod Cut
pub mod Laws
pub mod Lines
pub mod Piece
pub mod Walks
