pub mod Rota
pub mod Examples
