pub mod Automaton
pub mod Action
pub mod Frame
pub mod Words
