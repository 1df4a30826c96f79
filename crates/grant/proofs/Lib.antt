pub mod Askers
