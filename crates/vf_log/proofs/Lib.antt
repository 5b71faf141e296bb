pub mod Continued
