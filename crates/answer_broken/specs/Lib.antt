pub mod Breach
