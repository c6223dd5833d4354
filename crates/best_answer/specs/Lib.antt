pub mod Aims
