mod Boundaries
mod Cased
mod Ranges
pub mod Texts
mod Utf16
mod Utf16Law
