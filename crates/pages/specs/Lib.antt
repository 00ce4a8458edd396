pub mod Page
pub mod Damage
pub mod Building
pub mod Laws
