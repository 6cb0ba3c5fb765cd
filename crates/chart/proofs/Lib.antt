pub mod Charting
