pub mod Copying
pub mod Lending
