pub mod Desks
pub mod Lent
