pub mod Overlay
