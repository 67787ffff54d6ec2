pub mod General
pub mod Octets
pub mod Pipes
pub mod Sizes
pub mod Steps
pub mod Units
pub mod WorkedPipes
