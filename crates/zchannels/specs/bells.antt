pub mod Bells
