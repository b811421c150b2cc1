pub mod Basics
pub mod Called
pub mod FilledSpaces
pub mod FirstNumbers
mod Firsts
pub mod Gathered
pub mod Groups
pub mod HeadOrder
pub mod Insertions
pub mod LeastTie
pub mod Numbered
pub mod Orders
pub mod Rising
pub mod Searches
pub mod Ties
