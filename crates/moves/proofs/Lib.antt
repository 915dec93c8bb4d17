pub mod Destinations
